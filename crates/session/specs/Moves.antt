-- The next move of a session on its node.
use Rattle.std.specs.Prelude.{ℕ, ◌==◌, ◌&&◌, not, is_some, Bool, true, cond, Option, None, Some}
use Rattle.std.specs.List.{slice_get}
use Rattle.ptc_statement.specs.declared.scripts.ScriptLine.{ScriptLine}
use Rattle.ptc_statement.specs.declared.scripts.ScriptStep.{ScriptStep}
use Rattle.ptc_statement.specs.declared.scripts.ScriptStep.TheVariants.{Begin, Commit, Rollback, Run}
use Rattle.node_model.specs.declared.parts.Part.TheVariants.{Client}
use Rattle.node_model.specs.declared.txns.Walk.{Walk}
use Rattle.node_model.specs.Txns.{txn_of}
use Rattle.node_model.specs.Node.{NodeView}
use Rattle.node_model.specs.Calls.{after_call, Begin as BeginCall, Start as StartCall, Visit as VisitCall, Commit as CommitCall, Rollback as RollbackCall}
use Rattle.node_visits.specs.declared.visits.Visit.{Visit}
use Rattle.node_visits.specs.declared.visits.Visit.TheVariants.{Stepped, Done, Duplicate, Waits, Deadlock}
use Rattle.node_parts.specs.Views.{walk_of}
use Rattle.node_visits.specs.Answers.{visit_answer}
use Rattle.node_engine.specs.Commits.{commit_answer}
use Rattle.session.specs.declared.stages.Stage.{Stage}
use Rattle.session.specs.declared.stages.Stage.TheVariants.{Between, Within, Alone}
use Rattle.session.specs.declared.stages.SessionTurn.{SessionTurn}
use Rattle.session.specs.declared.stages.SessionTurn.TheVariants.{Began, Started, Visited, Committed, RolledBack, Victim, Finished}
use Rattle.session.specs.Sessions.{SessionView, is_open, advanced, with_refusal, entered, entered_alone, left, settled_all, forgotten, rolled_back}

-- what a session did, and what this left of it and of its node
pub record Moved : Type 0 where
  pub turn : SessionTurn
  pub session : SessionView
  pub node : NodeView

-- another's turn has rolled its transaction back
abbrev pub is_victim : SessionView → NodeView → Bool
is_victim session node = is_open session.stage && not (is_some (txn_of session.owner.0 node.txns))

-- what the answer of a visit makes of the session whose statement it was
abbrev pub after_answer : ℕ → Visit → ℕ → SessionView → SessionView
after_answer retries Stepped line session = session
after_answer retries Done line session = advanced session
after_answer retries (Duplicate key) line session = with_refusal line session
after_answer retries (Waits by) line session = session
after_answer retries (Deadlock victim cycle) line session = cond (victim.0 == session.owner.0) (rolled_back retries session) session

abbrev pub nothing_done : SessionView → NodeView → Moved
nothing_done session node = record { turn = Finished; session = session; node = node }

-- the statement in progress is that of the next line
abbrev pub visit_move : ℕ → Option ScriptLine → SessionView → NodeView → Moved
visit_move retries None session node = nothing_done session node
visit_move retries (Some line) session node = record {
  turn = Visited (visit_answer session.owner.0 node);
  session = after_answer retries (visit_answer session.owner.0 node) line.line session;
  node = after_call (VisitCall session.owner) node;
}

abbrev pub commit_move : SessionView → NodeView → Moved
commit_move session node = record {
  turn = Committed (commit_answer session.owner.0 session.origin node);
  session = settled_all (left session);
  node = after_call (CommitCall session.owner session.origin) node;
}

-- the next line is done, but for a statement, which is started. Scripts have neither BEGIN in a transaction nor
-- an end of none: these do nothing on the node
abbrev pub step_move : ScriptStep → SessionView → NodeView → Moved
step_move Begin session node = record {
  turn = Began;
  session = advanced (entered Within session);
  node = after_call (BeginCall session.owner Client) node;
}
step_move Commit session node = commit_move (advanced session) node
step_move Rollback session node = record {
  turn = RolledBack;
  session = left (forgotten (advanced session));
  node = after_call (RollbackCall session.owner) node;
}
step_move (Run statement) session node = record {
  turn = Started;
  session = record (entered_alone session.stage session) { in_progress = true };
  node = after_call (StartCall session.owner statement) (after_call (BeginCall session.owner Client) node);
}

abbrev pub line_move : Option ScriptLine → SessionView → NodeView → Moved
line_move None session node = nothing_done session node
line_move (Some line) session node = step_move line.step session node

-- a lone statement that is done or was refused is committed
abbrev pub idle_move : Stage → SessionView → NodeView → Moved
idle_move Alone session node = commit_move session node
idle_move Within session node = line_move (slice_get session.script session.next) session node
idle_move Between session node = line_move (slice_get session.script session.next) session node

abbrev pub begun_move : ℕ → Option Walk → SessionView → NodeView → Moved
begun_move retries (Some walk) session node = visit_move retries (slice_get session.script session.next) session node
begun_move retries None session node = idle_move session.stage session node

-- the next move of a session whose transactions are begun again so many times at most
abbrev pub next_move : ℕ → SessionView → NodeView → Moved
next_move retries session node =
    cond (is_victim session node) (record { turn = Victim; session = rolled_back retries session; node = node })
    (begun_move retries (walk_of session.owner.0 node.txns) session node)
