-- The next move of the checksum tool on its node.
use Rattle.std.specs.Prelude.{ℕ, ◌+◌, ◌==◌, is_some, Bool, true, false, cond, [], ◌∷◌, length, Option, None, Some}
use Rattle.ptc_statement.specs.declared.statements.Statement.TheVariants.{ClearChecks}
use Rattle.statement_log.specs.declared.entries.Entry.{Entry}
use Rattle.statement_log.specs.declared.origins.Origin.TheVariants.{Checksum}
use Rattle.checksum_table.specs.declared.check_rows.CheckRow.{CheckRow}
use Rattle.checksum_table.specs.Checks.{check_at}
use Rattle.history.specs.Replay.{fold}
use Rattle.node_model.specs.declared.parts.Part.TheVariants.{Client}
use Rattle.node_model.specs.declared.txns.Walk.{Walk}
use Rattle.node_model.specs.Txns.{txn_of}
use Rattle.node_model.specs.Node.{NodeView, with_entries}
use Rattle.node_model.specs.Calls.{after_call, Begin as BeginCall, Start as StartCall, Visit as VisitCall, Commit as CommitCall, Publish as PublishCall}
use Rattle.node_visits.specs.declared.visits.Visit.{Visit}
use Rattle.node_visits.specs.declared.visits.Visit.TheVariants.{Stepped, Done, Duplicate, Waits, Deadlock}
use Rattle.node_parts.specs.Views.{walk_of}
use Rattle.node_visits.specs.Answers.{visit_answer}
use Rattle.checksum_tool.specs.declared.phases.ToolPhase.{ToolPhase}
use Rattle.checksum_tool.specs.declared.phases.ToolPhase.TheVariants.{Clear, Choose, Walk as WalkPhase, Master, RetriesUsed, Finished}
use Rattle.checksum_tool.specs.declared.phases.ToolTurn.{ToolTurn}
use Rattle.checksum_tool.specs.declared.phases.ToolTurn.TheVariants.{Cleared, Chose, Visited, Committed, Mastered, Victim, RetriesUsed as StillUsed, Finished as StillFinished}
use Rattle.checksum_tool.specs.Tools.{ToolView, tool_owner, check_of, is_over, cleared_tool, chosen, walked, mastered_tool, rolled_back}

-- what the tool did, and what this left of it and of its node
pub record Moved : Type 0 where
  pub turn : ToolTurn
  pub tool : ToolView
  pub node : NodeView

abbrev pub nothing_done : ToolTurn → ToolView → NodeView → Moved
nothing_done turn tool node = record { turn = turn; tool = tool; node = node }

-- the position of the entry that is written next
abbrev pub next_position : NodeView → ℕ
next_position node = length node.history + 1

abbrev pub clear_entry : ℕ → Entry
clear_entry table = record { origin = Checksum; statements = ClearChecks table ∷ [] }

-- CLEARCHECKS of the table is logged at once, as an entry of its own
abbrev pub clear_move : ToolView → NodeView → Moved
clear_move tool node = record {
  turn = Cleared (next_position node);
  tool = cleared_tool tool;
  node = with_entries (clear_entry tool.table ∷ []) node;
}

abbrev pub choose_move : ToolView → NodeView → Moved
choose_move tool node = record {
  turn = Chose tool.table tool.chunk;
  tool = chosen tool;
  node = after_call (StartCall tool_owner (check_of tool)) (after_call (BeginCall tool_owner Client) node);
}

-- what the answer of a visit makes of the tool whose CHECKSUM it was
abbrev pub after_answer : Visit → ToolView → ToolView
after_answer Stepped tool = tool
after_answer Done tool = tool
after_answer (Duplicate key) tool = tool
after_answer (Waits by) tool = tool
after_answer (Deadlock victim cycle) tool = cond (victim.0 == tool_owner.0) (rolled_back tool) tool

abbrev pub visit_move : ToolView → NodeView → Moved
visit_move tool node = record {
  turn = Visited (visit_answer tool_owner.0 node);
  tool = after_answer (visit_answer tool_owner.0 node) tool;
  node = after_call (VisitCall tool_owner) node;
}

abbrev pub commit_move : ToolView → NodeView → Moved
commit_move tool node = record {
  turn = Committed (next_position node);
  tool = walked tool;
  node = after_call (CommitCall tool_owner Checksum) node;
}

-- another's visit has rolled the CHECKSUM back
abbrev pub victim_move : ToolView → NodeView → Moved
victim_move tool node = record { turn = Victim; tool = rolled_back tool; node = node }

-- a chunk whose check row is gone is chosen again
abbrev pub master_move : Option CheckRow → ToolView → NodeView → Moved
master_move None tool node = choose_move tool node
master_move (Some row) tool node = record {
  turn = Mastered (next_position node);
  tool = mastered_tool (next_position node) tool;
  node = after_call (PublishCall tool.table tool.chunk) node;
}

-- the move of the tool where it has no transaction
abbrev pub idle_move : ToolPhase → ToolView → NodeView → Moved
idle_move Clear tool node = clear_move tool node
idle_move Choose tool node = choose_move tool node
idle_move WalkPhase tool node = victim_move tool node
idle_move Master tool node = master_move (check_at tool.table tool.chunk (fold node.schemas node.start node.history).checks) tool node
idle_move (RetriesUsed rollbacks) tool node = nothing_done (StillUsed tool.chunk rollbacks) tool node
idle_move Finished tool node = nothing_done StillFinished tool node

-- a transaction whose CHECKSUM is done is committed
abbrev pub rested_move : Bool → ToolView → NodeView → Moved
rested_move true tool node = commit_move tool node
rested_move false tool node = idle_move tool.phase tool node

abbrev pub begun_move : Option Walk → ToolView → NodeView → Moved
begun_move (Some walk) tool node = visit_move tool node
begun_move None tool node = rested_move (is_some (txn_of tool_owner.0 node.txns)) tool node

-- the next move of the tool
abbrev pub next_move : ToolView → NodeView → Moved
next_move tool node =
    cond (is_over tool.phase) (idle_move tool.phase tool node) (begun_move (walk_of tool_owner.0 node.txns) tool node)
