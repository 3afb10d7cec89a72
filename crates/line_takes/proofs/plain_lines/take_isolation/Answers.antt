use Rattle.std.proofs.Common.{◌∙◌, Some, None}
use Rattle.file_text.specs.Said.{Said}
use Rattle.line_decisions.specs.Decides.{Decides}
use Rattle.file_text.specs.declared.places.Section.TheVariants.{IsolationLines}
use Rattle.file_state.specs.Keeps.{IsPlain}
use Rattle.line_takes.proofs.TakeLemmas.{isolation_only, refused, went_on}
use Rattle.line_values.specs.Lines.{Gives}
use Rattle.line_takes.proofs.plain_lines.take_isolation.Goals as goal

pub returns-in-Some : goal.returns-in-Some
returns-in-Some c = λ before line k l.
    refused IsolationLines before line c.args.items.now c.in-Some.fault l (λ said of gives. isolation_only (λ (s : Said). Gives s c.args.items.now → Decides IsolationLines before line s (Some c.in-Some.fault)) said of
    (λ level g. c.in-Some.ensures before line level k.marked (c.is_repeatable.ensures ∙ g)) gives)

pub returns-in-None : goal.returns-in-None
returns-in-None c = λ before line k l.
    went_on IsolationLines before line c.args.items.now c.args.state.now c.take_plain.new.self k l
    (λ said of gives. record {
      decided = isolation_only (λ (s : Said). Gives s c.args.items.now → Decides IsolationLines before line s None) said of (λ level g. c.in-None.ensures before line level k.marked (c.is_repeatable.ensures ∙ g)) gives;
      leads = c.take_plain.ensures said (isolation_only IsPlain said of (λ level. tt)) of;
    })
