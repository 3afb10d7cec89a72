-- What no move changes: a session's script, and the schemas of its node.
use Rattle.std.proofs.Common.{◌≡◌, ◌∙◌, ℕ, Bool, true, false, cond, Option, None, Some, refl, ap}
use Rattle.std.specs.Prelude.{nat_lt, ◌==◌}
use Rattle.std.specs.List.{slice_get}
use Rattle.ptc_statement.specs.declared.scripts.ScriptLine.{ScriptLine}
use Rattle.ptc_statement.specs.declared.scripts.ScriptStep.{ScriptStep}
use Rattle.ptc_statement.specs.declared.scripts.ScriptStep.TheVariants.{Begin, Commit, Rollback, Run}
use Rattle.node_model.specs.declared.parts.Part.TheVariants.{Client}
use Rattle.node_model.specs.declared.txns.Walk.{Walk}
use Rattle.node_model.specs.Node.{NodeView}
use Rattle.node_model.specs.Calls.{after_call, Begin as BeginCall, Start as StartCall, Visit as VisitCall, Commit as CommitCall}
use Rattle.node_model.proofs.CallLemmas.{same_schemas}
use Rattle.node_visits.specs.declared.visits.Visit.{Visit}
use Rattle.node_visits.specs.declared.visits.Visit.TheVariants.{Stepped, Done, Duplicate, Waits, Deadlock}
use Rattle.node_parts.specs.Views.{walk_of}
use Rattle.node_visits.specs.Answers.{visit_answer}
use Rattle.session.specs.declared.stages.Stage.{Stage}
use Rattle.session.specs.declared.stages.Stage.TheVariants.{Between, Within, Alone}
use Rattle.session.specs.declared.stages.SessionTurn.TheVariants.{Victim}
use Rattle.session.specs.Sessions.{SessionView, rolled_back, begun_again, abandoning, entered_alone}
use Rattle.session.specs.Moves.{Moved, is_victim, after_answer, visit_move, commit_move, step_move, line_move, idle_move, begun_move, next_move}

abbrev Stays : SessionView → NodeView → Moved → Type 0
Stays session node moved = (moved.session.script ≡ session.script) × (moved.node.schemas ≡ node.schemas)

rolled_stays : (retries : ℕ) (session : SessionView) → (rolled_back retries session).script ≡ session.script
rolled_stays retries session = at (nat_lt session.rollbacks retries)
  where
    at : (b : Bool) → (cond b (begun_again session) (abandoning session)).script ≡ session.script
    at true = refl
    at false = refl

answer_stays : (retries line : ℕ) (session : SessionView) (answer : Visit) → (after_answer retries answer line session).script ≡ session.script
answer_stays retries line session Stepped = refl
answer_stays retries line session Done = refl
answer_stays retries line session (Duplicate key) = refl
answer_stays retries line session (Waits by) = refl
answer_stays retries line session (Deadlock victim cycle) = at (victim.0 == session.owner.0)
  where
    at : (b : Bool) → (cond b (rolled_back retries session) session).script ≡ session.script
    at true = rolled_stays retries session
    at false = refl

visit_stays : (retries : ℕ) (session : SessionView) (node : NodeView) (line : Option ScriptLine) → Stays session node (visit_move retries line session node)
visit_stays retries session node None = (refl, refl)
visit_stays retries session node (Some line) =
    (answer_stays retries line.line session (visit_answer session.owner.0 node), same_schemas (VisitCall session.owner) node)

commit_stays : (session : SessionView) (node : NodeView) → Stays session node (commit_move session node)
commit_stays session node = (refl, same_schemas (CommitCall session.owner session.origin) node)

alone_stays : (session : SessionView) (stage : Stage) → (entered_alone stage session).script ≡ session.script
alone_stays session Between = refl
alone_stays session Within = refl
alone_stays session Alone = refl

step_stays : (session : SessionView) (node : NodeView) (step : ScriptStep) → Stays session node (step_move step session node)
step_stays session node Begin = (refl, same_schemas (BeginCall session.owner Client) node)
step_stays session node Commit = (refl, same_schemas (CommitCall session.owner session.origin) node)
step_stays session node Rollback = (refl, refl)
step_stays session node (Run statement) =
    let begun : NodeView = after_call (BeginCall session.owner Client) node in
    (alone_stays session session.stage, same_schemas (StartCall session.owner statement) begun ∙ same_schemas (BeginCall session.owner Client) node)

line_stays : (session : SessionView) (node : NodeView) (line : Option ScriptLine) → Stays session node (line_move line session node)
line_stays session node None = (refl, refl)
line_stays session node (Some line) = step_stays session node line.step

idle_stays : (session : SessionView) (node : NodeView) (stage : Stage) → Stays session node (idle_move stage session node)
idle_stays session node Alone = commit_stays session node
idle_stays session node Within = line_stays session node (slice_get session.script session.next)
idle_stays session node Between = line_stays session node (slice_get session.script session.next)

begun_stays : (retries : ℕ) (session : SessionView) (node : NodeView) (walk : Option Walk) → Stays session node (begun_move retries walk session node)
begun_stays retries session node (Some walk) = visit_stays retries session node (slice_get session.script session.next)
begun_stays retries session node None = idle_stays session node session.stage

pub next_stays : (retries : ℕ) (session : SessionView) (node : NodeView) → Stays session node (next_move retries session node)
next_stays retries session node = at (is_victim session node)
  where
    at : (b : Bool) → Stays session node (cond b (record { turn = Victim; session = rolled_back retries session; node = node }) (begun_move retries (walk_of session.owner.0 node.txns) session node))
    at true = (rolled_stays retries session, refl)
    at false = begun_stays retries session node (walk_of session.owner.0 node.txns)

pub script_stays : (retries : ℕ) (session : SessionView) (node : NodeView) (moved : Moved) → moved ≡ next_move retries session node → moved.session.script ≡ session.script
script_stays retries session node moved is = ap (λ (m : Moved). m.session.script) is ∙ (next_stays retries session node).0

pub schemas_stay : (retries : ℕ) (session : SessionView) (node : NodeView) (moved : Moved) → moved ≡ next_move retries session node → moved.node.schemas ≡ node.schemas
schemas_stay retries session node moved is = ap (λ (m : Moved). m.node.schemas) is ∙ (next_stays retries session node).1
