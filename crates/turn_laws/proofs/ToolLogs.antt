-- After each move of the checksum tool the statements of its node's log fit, and its table is one of the tables.
use Rattle.std.proofs.Common.{◌≡◌, ℕ, zero, suc, ◌+◌, ◌<◌, ◌==◌, Bool, true, false, cond, List, [], ◌∷◌, Option, None, Some, length, refl, subst, arith}
use Rattle.std.specs.Prelude.{is_some, nat_lt}
use Rattle.std.specs.List.{slice_get}
use Rattle.std.proofs.lemmas.Bool.Decides.{nat_tests}
use Rattle.row_types.specs.declared.table_schema.Schema.{Schema}
use Rattle.row_types.specs.declared.digests.Digest.{Digest}
use Rattle.row_types.specs.declared.digests.DigestKind.{DigestKind}
use Rattle.ptc_statement.specs.declared.statements.Statement.TheVariants.{SetMaster, ClearChecks}
use Rattle.ptc_statement.specs.Fits.{FitsSchemas}
use Rattle.statement_log.specs.declared.origins.Origin.TheVariants.{Checksum}
use Rattle.checksum_table.specs.declared.check_rows.CheckRow.{CheckRow}
use Rattle.checksum_table.specs.Checks.{check_at}
use Rattle.history.specs.Replay.{fold}
use Rattle.node_model.specs.declared.parts.Part.TheVariants.{Client}
use Rattle.node_model.specs.declared.txns.Walk.{Walk}
use Rattle.node_model.specs.Txns.{txn_of}
use Rattle.node_model.specs.Node.{NodeView}
use Rattle.node_model.specs.Kept.{IsKept}
use Rattle.node_model.specs.Calls.{after_call, published, Begin as BeginCall, Start as StartCall, Visit as VisitCall}
use Rattle.node_visits.specs.declared.visits.Visit.{Visit}
use Rattle.node_visits.specs.declared.visits.Visit.TheVariants.{Stepped, Done, Duplicate, Waits, Deadlock}
use Rattle.node_visits.specs.Answers.{visit_answer}
use Rattle.node_parts.specs.Views.{walk_of}
use Rattle.applier.specs.Appliers.{LogFits}
use Rattle.checksum_tool.specs.declared.phases.ToolPhase.{ToolPhase}
use Rattle.checksum_tool.specs.declared.phases.ToolPhase.TheVariants.{Clear, Choose, Walk as WalkPhase, Master, RetriesUsed, Finished}
use Rattle.checksum_tool.specs.Tools.{ToolView, tool_owner, check_of, is_over, is_high, at_next_chunk, at_next_table, at_end, behind_table, mastered_tool, begun_again, given_up, rolled_back}
use Rattle.checksum_tool.specs.Moves.{Moved, clear_entry, next_position, after_answer, choose_move, master_move, idle_move, rested_move, begun_move}
use Rattle.turn_laws.specs.LogsFit.{HistoryFits, ToolLogsWhatFits}
use Rattle.turn_laws.proofs.LogLemmas.{more_fits, same_fits, opened_same, visit_same, commit_fits}

abbrev InRange : ToolView → Type 0
InRange tool = tool.table < tool.tables

abbrev Fit : NodeView → Moved → Type 0
Fit node moved = LogFits node.schemas moved.node.history × InRange moved.tool

-- The tool's table.

rolled_range : (tool : ToolView) → InRange tool → InRange (rolled_back tool)
rolled_range tool within = at (nat_lt tool.rollbacks tool.retries)
  where
    at : (b : Bool) → InRange (cond b (begun_again tool) (given_up tool))
    at true = within
    at false = within

answer_range : (tool : ToolView) (answer : Visit) → InRange tool → InRange (after_answer answer tool)
answer_range tool Stepped within = within
answer_range tool Done within = within
answer_range tool (Duplicate key) within = within
answer_range tool (Waits by) within = within
answer_range tool (Deadlock victim cycle) within = at (victim.0 == tool_owner.0)
  where
    at : (b : Bool) → InRange (cond b (rolled_back tool) tool)
    at true = rolled_range tool within
    at false = within

less_of : (a b : ℕ) → nat_lt a b ≡ true → a < b
less_of a b e = grind (arith, nat_tests)

mastered_range : (position : ℕ) (tool : ToolView) → InRange tool → InRange (mastered_tool position tool)
mastered_range position tool within = at (is_high tool.until)
  where
    behind : (b : Bool) → nat_lt (tool.table + 1) tool.tables ≡ b → InRange (cond b (at_next_table tool) (at_end position tool))
    behind true e = less_of (tool.table + 1) tool.tables e
    behind false e = within

    at : (b : Bool) → InRange (cond b (behind_table position tool) (at_next_chunk tool))
    at true = behind (nat_lt (tool.table + 1) tool.tables) refl
    at false = within

-- Its statements.

record Found (schemas : List Schema) (table : ℕ) : Type 0 where
  schema : Schema
  found : slice_get schemas table ≡ Some schema

found_at : (schemas : List Schema) (table : ℕ) → table < length schemas → Found schemas table
found_at [] table within = absurd (omega (arith, within))
found_at (schema ∷ schemas) zero within = record { schema = schema; found = refl }
found_at (schema ∷ schemas) (suc table) within =
    let more : Found schemas table = found_at schemas table (omega (arith, within)) in
    record { schema = more.schema; found = more.found }

clear_fits : (schemas : List Schema) (table : ℕ) → table < length schemas → FitsSchemas schemas (ClearChecks table)
clear_fits schemas table within =
    let is : Found schemas table = found_at schemas table within in
    record { schema = is.schema; found = is.found; fits = tt }

master_fits : (schemas : List Schema) (table chunk : ℕ) (kind : DigestKind) (master : Digest) → table < length schemas → FitsSchemas schemas (SetMaster table chunk kind master)
master_fits schemas table chunk kind master within =
    let is : Found schemas table = found_at schemas table within in
    record { schema = is.schema; found = is.found; fits = tt }

-- Its moves.

choose_fits : (tool : ToolView) (node : NodeView) → InRange tool → HistoryFits node → Fit node (choose_move tool node)
choose_fits tool node within fit = (
  same_fits node.schemas node.history (after_call (StartCall tool_owner (check_of tool)) (after_call (BeginCall tool_owner Client) node)).history
      (opened_same tool_owner Client (check_of tool) node) fit,
  within,
)

published_fits : (tool : ToolView) (node : NodeView) (found : Option CheckRow) → tool.table < length node.schemas → HistoryFits node
    → LogFits node.schemas (published tool.table tool.chunk found node).history
published_fits tool node None there fit = fit
published_fits tool node (Some row) there fit =
    more_fits node.schemas node.history (record { origin = Checksum; statements = SetMaster tool.table tool.chunk row.kind row.this ∷ [] } ∷ []) fit
    ((master_fits node.schemas tool.table tool.chunk row.kind row.this there, tt), tt)

mastered_fits : (tool : ToolView) (node : NodeView) (found : Option CheckRow) → InRange tool → tool.table < length node.schemas → HistoryFits node → Fit node (master_move found tool node)
mastered_fits tool node None within there fit = choose_fits tool node within fit
mastered_fits tool node (Some row) within there fit =
    (published_fits tool node (check_at tool.table tool.chunk (fold node.schemas node.start node.history).checks) there fit, mastered_range (next_position node) tool within)

idle_fits : (tool : ToolView) (node : NodeView) (phase : ToolPhase) → InRange tool → tool.table < length node.schemas → HistoryFits node → Fit node (idle_move phase tool node)
idle_fits tool node Clear within there fit =
    (more_fits node.schemas node.history (clear_entry tool.table ∷ []) fit ((clear_fits node.schemas tool.table there, tt), tt), within)
idle_fits tool node Choose within there fit = choose_fits tool node within fit
idle_fits tool node WalkPhase within there fit = (fit, rolled_range tool within)
idle_fits tool node Master within there fit = mastered_fits tool node (check_at tool.table tool.chunk (fold node.schemas node.start node.history).checks) within there fit
idle_fits tool node (RetriesUsed rollbacks) within there fit = (fit, within)
idle_fits tool node Finished within there fit = (fit, within)

rested_fits : (tool : ToolView) (node : NodeView) (begun : Bool) → IsKept node → InRange tool → tool.table < length node.schemas → HistoryFits node → Fit node (rested_move begun tool node)
rested_fits tool node true kept within there fit = (commit_fits tool_owner Checksum node kept fit, within)
rested_fits tool node false kept within there fit = idle_fits tool node tool.phase within there fit

begun_fits : (tool : ToolView) (node : NodeView) (walk : Option Walk) → IsKept node → InRange tool → tool.table < length node.schemas → HistoryFits node → Fit node (begun_move walk tool node)
begun_fits tool node (Some walk) kept within there fit =
    (same_fits node.schemas node.history (after_call (VisitCall tool_owner) node).history (visit_same tool_owner node) fit, answer_range tool (visit_answer tool_owner.0 node) within)
begun_fits tool node None kept within there fit = rested_fits tool node (is_some (txn_of tool_owner.0 node.txns)) kept within there fit

pub tool_logs : ToolLogsWhatFits
tool_logs tool node kept among fit = at (is_over tool.phase)
  where
    there : tool.table < length node.schemas
    there = subst (λ (count : ℕ). tool.table < count) among.tables among.table

    at : (b : Bool) → Fit node (cond b (idle_move tool.phase tool node) (begun_move (walk_of tool_owner.0 node.txns) tool node))
    at true = idle_fits tool node tool.phase among.table there fit
    at false = begun_fits tool node (walk_of tool_owner.0 node.txns) kept among.table there fit
