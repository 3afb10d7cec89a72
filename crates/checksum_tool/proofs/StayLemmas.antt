-- What no move changes: how many tables the tool has, and the schemas of its node.
use Rattle.std.proofs.Common.{◌≡◌, ◌∙◌, ℕ, ◌+◌, ◌==◌, Bool, true, false, cond, Option, None, Some, refl, ap}
use Rattle.std.specs.Prelude.{is_some, nat_lt}
use Rattle.statement_log.specs.declared.origins.Origin.TheVariants.{Checksum}
use Rattle.checksum_table.specs.declared.check_rows.CheckRow.{CheckRow}
use Rattle.checksum_table.specs.Checks.{check_at}
use Rattle.history.specs.Replay.{fold}
use Rattle.node_model.specs.declared.parts.Part.TheVariants.{Client}
use Rattle.node_model.specs.declared.txns.Walk.{Walk}
use Rattle.node_model.specs.Txns.{txn_of}
use Rattle.node_model.specs.Node.{NodeView}
use Rattle.node_model.specs.Calls.{after_call, Begin as BeginCall, Start as StartCall, Visit as VisitCall, Commit as CommitCall, Publish as PublishCall}
use Rattle.node_model.proofs.CallLemmas.{same_schemas}
use Rattle.node_visits.specs.declared.visits.Visit.{Visit}
use Rattle.node_visits.specs.declared.visits.Visit.TheVariants.{Stepped, Done, Duplicate, Waits, Deadlock}
use Rattle.node_parts.specs.Views.{walk_of}
use Rattle.node_visits.specs.Answers.{visit_answer}
use Rattle.checksum_tool.specs.declared.phases.ToolPhase.{ToolPhase}
use Rattle.checksum_tool.specs.declared.phases.ToolPhase.TheVariants.{Clear, Choose, Walk as WalkPhase, Master, RetriesUsed, Finished}
use Rattle.checksum_tool.specs.Tools.{ToolView, tool_owner, check_of, is_over, is_high, at_next_chunk, at_next_table, at_end, behind_table, mastered_tool, begun_again, given_up, rolled_back}
use Rattle.checksum_tool.specs.Moves.{Moved, after_answer, choose_move, master_move, idle_move, rested_move, begun_move, next_position, next_move}

abbrev Stays : ToolView → NodeView → Moved → Type 0
Stays tool node moved = (moved.tool.tables ≡ tool.tables) × (moved.node.schemas ≡ node.schemas)

rolled_stays : (tool : ToolView) → (rolled_back tool).tables ≡ tool.tables
rolled_stays tool = at (nat_lt tool.rollbacks tool.retries)
  where
    at : (b : Bool) → (cond b (begun_again tool) (given_up tool)).tables ≡ tool.tables
    at true = refl
    at false = refl

answer_stays : (tool : ToolView) (answer : Visit) → (after_answer answer tool).tables ≡ tool.tables
answer_stays tool Stepped = refl
answer_stays tool Done = refl
answer_stays tool (Duplicate key) = refl
answer_stays tool (Waits by) = refl
answer_stays tool (Deadlock victim cycle) = at (victim.0 == tool_owner.0)
  where
    at : (b : Bool) → (cond b (rolled_back tool) tool).tables ≡ tool.tables
    at true = rolled_stays tool
    at false = refl

mastered_stays : (position : ℕ) (tool : ToolView) → (mastered_tool position tool).tables ≡ tool.tables
mastered_stays position tool = at (is_high tool.until)
  where
    behind : (b : Bool) → (cond b (at_next_table tool) (at_end position tool)).tables ≡ tool.tables
    behind true = refl
    behind false = refl

    at : (b : Bool) → (cond b (behind_table position tool) (at_next_chunk tool)).tables ≡ tool.tables
    at true = behind (nat_lt (tool.table + 1) tool.tables)
    at false = refl

choose_stays : (tool : ToolView) (node : NodeView) → Stays tool node (choose_move tool node)
choose_stays tool node =
    let begun : NodeView = after_call (BeginCall tool_owner Client) node in
    (refl, same_schemas (StartCall tool_owner (check_of tool)) begun ∙ same_schemas (BeginCall tool_owner Client) node)

master_stays : (tool : ToolView) (node : NodeView) (found : Option CheckRow) → Stays tool node (master_move found tool node)
master_stays tool node None = choose_stays tool node
master_stays tool node (Some row) = (mastered_stays (next_position node) tool, same_schemas (PublishCall tool.table tool.chunk) node)

idle_stays : (tool : ToolView) (node : NodeView) (phase : ToolPhase) → Stays tool node (idle_move phase tool node)
idle_stays tool node Clear = (refl, refl)
idle_stays tool node Choose = choose_stays tool node
idle_stays tool node WalkPhase = (rolled_stays tool, refl)
idle_stays tool node Master = master_stays tool node (check_at tool.table tool.chunk (fold node.schemas node.start node.history).checks)
idle_stays tool node (RetriesUsed rollbacks) = (refl, refl)
idle_stays tool node Finished = (refl, refl)

rested_stays : (tool : ToolView) (node : NodeView) (begun : Bool) → Stays tool node (rested_move begun tool node)
rested_stays tool node true = (refl, same_schemas (CommitCall tool_owner Checksum) node)
rested_stays tool node false = idle_stays tool node tool.phase

begun_stays : (tool : ToolView) (node : NodeView) (walk : Option Walk) → Stays tool node (begun_move walk tool node)
begun_stays tool node (Some walk) = (answer_stays tool (visit_answer tool_owner.0 node), same_schemas (VisitCall tool_owner) node)
begun_stays tool node None = rested_stays tool node (is_some (txn_of tool_owner.0 node.txns))

pub next_stays : (tool : ToolView) (node : NodeView) → Stays tool node (next_move tool node)
next_stays tool node = at (is_over tool.phase)
  where
    at : (b : Bool) → Stays tool node (cond b (idle_move tool.phase tool node) (begun_move (walk_of tool_owner.0 node.txns) tool node))
    at true = idle_stays tool node tool.phase
    at false = begun_stays tool node (walk_of tool_owner.0 node.txns)

pub tables_stay : (tool : ToolView) (node : NodeView) (moved : Moved) → moved ≡ next_move tool node → moved.tool.tables ≡ tool.tables
tables_stay tool node moved is = ap (λ (m : Moved). m.tool.tables) is ∙ (next_stays tool node).0

pub schemas_stay : (tool : ToolView) (node : NodeView) (moved : Moved) → moved ≡ next_move tool node → moved.node.schemas ≡ node.schemas
schemas_stay tool node moved is = ap (λ (m : Moved). m.node.schemas) is ∙ (next_stays tool node).1
