use Rattle.std.proofs.Common.{◌∙◌, option_map, ap, sym}
use Rattle.node_visits.specs.Cycles.{numbers_of}
use Rattle.node_parts.specs.Kept.{node_view}
use Rattle.node_visits.proofs.CycleLemmas.{waits_answer, waits_call, breaks_answer, breaks_call}
use Rattle.node_visits.proofs.visits.wait_or_break.Goals as goal

pub returns-in-None-clause-answer : goal.returns-in-None-clause-answer
returns-in-None-clause-answer c =
    waits_answer (node_view c.args.parts.now) c.args.owner c.args.by c.args.due.now c.requires.due c.requires.by (sym (ap (option_map numbers_of) c.in-None.is) ∙ c.in_ok-cycle_in.ensures)

pub returns-in-None-clause-ok : goal.returns-in-None-clause-ok
returns-in-None-clause-ok c =
    waits_call (node_view c.args.parts.now) c.args.owner c.args.by c.args.due.now c.requires.due c.requires.by (sym (ap (option_map numbers_of) c.in-None.is) ∙ c.in_ok-cycle_in.ensures)

pub returns-in-Some-clause-answer : goal.returns-in-Some-clause-answer
returns-in-Some-clause-answer c =
    breaks_answer (node_view c.args.parts.now) c.args.owner c.args.by c.victim_in-victim.result c.in-Some.cycle c.as_slice.result.now c.args.due.now c.requires.due c.requires.by
    (sym (ap (option_map numbers_of) c.in-Some.is) ∙ c.in_ok-cycle_in.ensures) c.as_slice.ensures c.victim_in-victim.ensures

pub returns-in-Some-clause-ok : goal.returns-in-Some-clause-ok
returns-in-Some-clause-ok c =
    breaks_call (node_view c.args.parts.now) (node_view c.rollback_parts.new.parts) c.args.owner c.args.by c.victim_in-victim.result c.in-Some.cycle c.as_slice.result.now c.args.due.now c.requires.due c.requires.by
    (sym (ap (option_map numbers_of) c.in-Some.is) ∙ c.in_ok-cycle_in.ensures) c.as_slice.ensures c.victim_in-victim.ensures c.rollback_parts.ensures.view
