-- After each move of a session the statements of its node's log fit.
use Rattle.std.proofs.Common.{ℕ, Bool, true, false, cond, Option, None, Some}
use Rattle.std.specs.List.{slice_get}
use Rattle.ptc_statement.specs.declared.scripts.ScriptLine.{ScriptLine}
use Rattle.ptc_statement.specs.declared.scripts.ScriptStep.{ScriptStep}
use Rattle.ptc_statement.specs.declared.scripts.ScriptStep.TheVariants.{Begin, Commit, Rollback, Run}
use Rattle.node_model.specs.declared.parts.Part.TheVariants.{Client}
use Rattle.node_model.specs.declared.txns.Walk.{Walk}
use Rattle.node_model.specs.Node.{NodeView}
use Rattle.node_model.specs.Kept.{IsKept}
use Rattle.node_model.specs.Calls.{after_call, Begin as BeginCall, Start as StartCall, Visit as VisitCall}
use Rattle.node_parts.specs.Views.{walk_of}
use Rattle.session.specs.declared.stages.Stage.{Stage}
use Rattle.session.specs.declared.stages.Stage.TheVariants.{Between, Within, Alone}
use Rattle.session.specs.declared.stages.SessionTurn.TheVariants.{Victim}
use Rattle.session.specs.Sessions.{SessionView, rolled_back}
use Rattle.session.specs.Moves.{Moved, is_victim, visit_move, step_move, line_move, idle_move, begun_move}
use Rattle.applier.specs.Appliers.{LogFits}
use Rattle.turn_laws.specs.LogsFit.{HistoryFits, SessionsLogWhatFits}
use Rattle.turn_laws.proofs.LogLemmas.{same_fits, begin_same, opened_same, visit_same, commit_fits}

abbrev Fit : NodeView → Moved → Type 0
Fit node moved = LogFits node.schemas moved.node.history

visit_fits : (retries : ℕ) (session : SessionView) (node : NodeView) (line : Option ScriptLine) → HistoryFits node → Fit node (visit_move retries line session node)
visit_fits retries session node None fit = fit
visit_fits retries session node (Some line) fit =
    same_fits node.schemas node.history (after_call (VisitCall session.owner) node).history (visit_same session.owner node) fit

step_fits : (session : SessionView) (node : NodeView) (step : ScriptStep) → IsKept node → HistoryFits node → Fit node (step_move step session node)
step_fits session node Begin kept fit =
    same_fits node.schemas node.history (after_call (BeginCall session.owner Client) node).history (begin_same session.owner Client node) fit
step_fits session node Commit kept fit = commit_fits session.owner session.origin node kept fit
step_fits session node Rollback kept fit = fit
step_fits session node (Run statement) kept fit =
    same_fits node.schemas node.history (after_call (StartCall session.owner statement) (after_call (BeginCall session.owner Client) node)).history
    (opened_same session.owner Client statement node) fit

line_fits : (session : SessionView) (node : NodeView) (line : Option ScriptLine) → IsKept node → HistoryFits node → Fit node (line_move line session node)
line_fits session node None kept fit = fit
line_fits session node (Some line) kept fit = step_fits session node line.step kept fit

idle_fits : (session : SessionView) (node : NodeView) (stage : Stage) → IsKept node → HistoryFits node → Fit node (idle_move stage session node)
idle_fits session node Alone kept fit = commit_fits session.owner session.origin node kept fit
idle_fits session node Within kept fit = line_fits session node (slice_get session.script session.next) kept fit
idle_fits session node Between kept fit = line_fits session node (slice_get session.script session.next) kept fit

begun_fits : (retries : ℕ) (session : SessionView) (node : NodeView) (walk : Option Walk) → IsKept node → HistoryFits node → Fit node (begun_move retries walk session node)
begun_fits retries session node (Some walk) kept fit = visit_fits retries session node (slice_get session.script session.next) fit
begun_fits retries session node None kept fit = idle_fits session node session.stage kept fit

pub sessions_log : SessionsLogWhatFits
sessions_log retries session node kept fit = at (is_victim session node)
  where
    at : (b : Bool) → Fit node (cond b (record { turn = Victim; session = rolled_back retries session; node = node }) (begun_move retries (walk_of session.owner.0 node.txns) session node))
    at true = fit
    at false = begun_fits retries session node (walk_of session.owner.0 node.txns) kept fit
