use Rattle.std.proofs.Common.{Some, None}
use Rattle.file_text.specs.Said.{Said}
use Rattle.line_decisions.specs.Decides.{Decides}
use Rattle.file_state.specs.Keeps.{LeadsTo}
use Rattle.file_text.specs.declared.places.Section.TheVariants.{SessionLines}
use Rattle.line_takes.proofs.TakeLemmas.{session_only, refused, went_on}
use Rattle.line_takes.proofs.script_lines.take_session.Goals as goal

pub returns-in-Some : goal.returns-in-Some
returns-in-Some c = λ before line items k l.
    refused SessionLines before line items c.in-Some.fault l (λ said of gives. session_only (λ (s : Said). Decides SessionLines before line s (Some c.in-Some.fault)) said of (λ session. c.in-Some.ensures before line session k.marked))

pub returns-in_ok-take_session-in-None : goal.returns-in_ok-take_session-in-None
returns-in_ok-take_session-in-None c = λ before line items k l.
    went_on SessionLines before line items c.args.state.now c.take_session.new.self k l
    (λ said of gives. record {
      decided = session_only (λ (s : Said). Decides SessionLines before line s None) said of (λ session. c.in-None.ensures before line session k.marked);
      leads = session_only (λ (s : Said). LeadsTo s c.args.state.now c.take_session.new.self) said of (λ session. c.in_ok-take_session-in-None.ensures session);
    })
