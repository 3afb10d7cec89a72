-- The calls of each move of a session.
use Rattle.std.proofs.Common.{◌≡◌, ℕ, Bool, true, false, cond, Option, None, Some, refl}
use Rattle.std.specs.List.{slice_get}
use Rattle.ptc_statement.specs.declared.scripts.ScriptLine.{ScriptLine}
use Rattle.ptc_statement.specs.declared.scripts.ScriptStep.{ScriptStep}
use Rattle.ptc_statement.specs.declared.scripts.ScriptStep.TheVariants.{Begin, Commit, Rollback, Run}
use Rattle.node_model.specs.declared.parts.Part.TheVariants.{Client}
use Rattle.node_model.specs.declared.txns.Walk.{Walk}
use Rattle.node_model.specs.Node.{NodeView}
use Rattle.node_model.specs.Calls.{Begin as BeginCall, Start as StartCall, Visit as VisitCall, Commit as CommitCall, Rollback as RollbackCall}
use Rattle.node_parts.specs.Views.{walk_of}
use Rattle.session.specs.declared.stages.Stage.{Stage}
use Rattle.session.specs.declared.stages.Stage.TheVariants.{Between, Within, Alone}
use Rattle.session.specs.declared.stages.SessionTurn.TheVariants.{Victim}
use Rattle.session.specs.Sessions.{SessionView, rolled_back}
use Rattle.session.specs.Moves.{Moved, is_victim, visit_move, commit_move, step_move, line_move, idle_move, begun_move}
use Rattle.turn_laws.specs.TurnCalls.{LeadsBy, IsSessions, SessionsMakeCalls}
use Rattle.turn_laws.proofs.CallLemmas.{none_made, one_made, two_made}

abbrev Leads : SessionView → NodeView → Moved → Type 0
Leads session node moved = LeadsBy (IsSessions session) node moved.node

visit_leads : (retries : ℕ) (session : SessionView) (node : NodeView) (line : Option ScriptLine) → Leads session node (visit_move retries line session node)
visit_leads retries session node None = none_made (IsSessions session) node
visit_leads retries session node (Some line) = one_made (IsSessions session) (VisitCall session.owner) node refl

commit_leads : (session : SessionView) (node : NodeView) → Leads session node (commit_move session node)
commit_leads session node = one_made (IsSessions session) (CommitCall session.owner session.origin) node (refl, refl)

step_leads : (session : SessionView) (node : NodeView) (line : ScriptLine) (step : ScriptStep) → slice_get session.script session.next ≡ Some line → line.step ≡ step
    → Leads session node (step_move step session node)
step_leads session node line Begin found runs = one_made (IsSessions session) (BeginCall session.owner Client) node (refl, refl)
step_leads session node line Commit found runs = commit_leads session node
step_leads session node line Rollback found runs = one_made (IsSessions session) (RollbackCall session.owner) node refl
step_leads session node line (Run statement) found runs =
    two_made (IsSessions session) (BeginCall session.owner Client) (StartCall session.owner statement) node (refl, refl)
    (refl, record { place = session.next; line = line; found = found; runs = runs })

line_leads : (session : SessionView) (node : NodeView) (line : Option ScriptLine) → slice_get session.script session.next ≡ line → Leads session node (line_move line session node)
line_leads session node None found = none_made (IsSessions session) node
line_leads session node (Some line) found = step_leads session node line line.step found refl

idle_leads : (session : SessionView) (node : NodeView) (stage : Stage) → Leads session node (idle_move stage session node)
idle_leads session node Alone = commit_leads session node
idle_leads session node Within = line_leads session node (slice_get session.script session.next) refl
idle_leads session node Between = line_leads session node (slice_get session.script session.next) refl

begun_leads : (retries : ℕ) (session : SessionView) (node : NodeView) (walk : Option Walk) → Leads session node (begun_move retries walk session node)
begun_leads retries session node (Some walk) = visit_leads retries session node (slice_get session.script session.next)
begun_leads retries session node None = idle_leads session node session.stage

pub sessions_make_calls : SessionsMakeCalls
sessions_make_calls retries session node = at (is_victim session node)
  where
    at : (b : Bool) → Leads session node (cond b (record { turn = Victim; session = rolled_back retries session; node = node }) (begun_move retries (walk_of session.owner.0 node.txns) session node))
    at true = none_made (IsSessions session) node
    at false = begun_leads retries session node (walk_of session.owner.0 node.txns)
