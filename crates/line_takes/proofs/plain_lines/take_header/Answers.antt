use Rattle.std.proofs.Common.{Some, None}
use Rattle.file_text.specs.Said.{Said}
use Rattle.line_decisions.specs.Decides.{Decides}
use Rattle.file_text.specs.declared.places.Section.TheVariants.{PtcLines}
use Rattle.file_state.specs.Keeps.{IsPlain}
use Rattle.line_takes.proofs.TakeLemmas.{header_only, refused, went_on}
use Rattle.line_takes.proofs.plain_lines.take_header.Goals as goal

pub returns-in-Some : goal.returns-in-Some
returns-in-Some c = λ before line items k l.
    refused PtcLines before line items c.in-Some.fault l (λ said of gives. header_only (λ (s : Said). Decides PtcLines before line s (Some c.in-Some.fault)) said of (λ v. c.in-Some.ensures before line v k.marked))

pub returns-in-None : goal.returns-in-None
returns-in-None c = λ before line items k l.
    went_on PtcLines before line items c.args.state.now c.take_plain.new.self k l
    (λ said of gives. record {
      decided = header_only (λ (s : Said). Decides PtcLines before line s None) said of (λ v. c.in-None.ensures before line v k.marked);
      leads = c.take_plain.ensures said (header_only IsPlain said of (λ v. tt)) of;
    })
