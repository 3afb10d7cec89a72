use Rattle.std.proofs.Common.{Some, None}
use Rattle.file_text.specs.Said.{Said}
use Rattle.line_decisions.specs.Decides.{Decides}
use Rattle.file_text.specs.declared.places.Section.TheVariants.{EndLines}
use Rattle.file_state.specs.Keeps.{IsPlain}
use Rattle.line_takes.proofs.TakeLemmas.{end_only, refused, went_on}
use Rattle.line_takes.proofs.plain_lines.take_end.Goals as goal

pub returns-in-Some : goal.returns-in-Some
returns-in-Some c = λ before line items k l.
    refused EndLines before line items c.in-Some.fault l (λ said of gives. end_only (λ (s : Said). Decides EndLines before line s (Some c.in-Some.fault)) said of (c.in-Some.ensures before line k.marked))

pub returns-in-None : goal.returns-in-None
returns-in-None c = λ before line items k l.
    went_on EndLines before line items c.args.state.now c.take_plain.new.self k l
    (λ said of gives. record {
      decided = end_only (λ (s : Said). Decides EndLines before line s None) said of (c.in-None.ensures before line k.marked);
      leads = c.take_plain.ensures said (end_only IsPlain said of (tt)) of;
    })
