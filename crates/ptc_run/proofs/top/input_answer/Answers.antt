use Rattle.std.proofs.Common.{List, ℕ, subst}
use Rattle.ptc_run.specs.Due.{FileDue}
use Rattle.ptc_run.proofs.DueLemmas.{read_due, read_out, reported_end}
use Rattle.ptc_run.proofs.top.input_answer.Goals as goal

pub returns-in_ok-answer-in-Ok-clause-due : goal.returns-in_ok-answer-in-Ok-clause-due
returns-in_ok-answer-in-Ok-clause-due g c =
    let due = subst (λ (bs : List ℕ). FileDue bs c.in_ok-answer-in-Ok.answer.code c.in_ok-answer-in-Ok.answer.text) c.as_slice.ensures.value c.in_ok-answer-in-Ok.ensures.due in
    read_due (g.I.Source.left c.args.input.now) (g.I.Source.left c.read_to_limit.new.input) c.in-Ok.bytes.items
    c.in_ok-answer-in-Ok.answer.code c.in_ok-answer-in-Ok.answer.text c.in-Ok.ensures.bytes due

pub returns-in_ok-answer-in-Ok-clause-ended : goal.returns-in_ok-answer-in-Ok-clause-ended
returns-in_ok-answer-in-Ok-clause-ended g c = λ reported.
    let due = subst (λ (bs : List ℕ). FileDue bs c.in_ok-answer-in-Ok.answer.code c.in_ok-answer-in-Ok.answer.text) c.as_slice.ensures.value c.in_ok-answer-in-Ok.ensures.due in
    reported_end (g.I.Source.left c.args.input.now) (g.I.Source.left c.read_to_limit.new.input) c.in-Ok.bytes.items
    c.in_ok-answer-in-Ok.answer.code c.in_ok-answer-in-Ok.answer.text c.in-Ok.ensures.bytes due reported

pub returns-in_ok-answer-in-Ok-clause-read_out : goal.returns-in_ok-answer-in-Ok-clause-read_out
returns-in_ok-answer-in-Ok-clause-read_out g c =
    read_out (g.I.Source.left c.args.input.now) (g.I.Source.left c.read_to_limit.new.input) c.in-Ok.bytes.items c.in-Ok.ensures.bytes
