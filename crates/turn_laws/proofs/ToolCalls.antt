-- The calls of each move of the checksum tool.
use Rattle.std.proofs.Common.{◌≡◌, ◌∙◌, inl, inr, Bool, true, false, cond, [], ◌∷◌, Option, None, Some, refl, ap, sym}
use Rattle.std.specs.Prelude.{is_some}
use Rattle.ptc_statement.specs.declared.statements.Statement.TheVariants.{ClearChecks}
use Rattle.statement_log.specs.declared.origins.Origin.TheVariants.{Checksum}
use Rattle.checksum_table.specs.declared.check_rows.CheckRow.{CheckRow}
use Rattle.checksum_table.specs.Checks.{check_at}
use Rattle.history.specs.Replay.{fold}
use Rattle.node_model.specs.declared.parts.Part.TheVariants.{Client}
use Rattle.node_model.specs.declared.txns.Walk.{Walk}
use Rattle.node_model.specs.declared.txns.Txn.{Txn}
use Rattle.node_model.specs.Txns.{txn_of}
use Rattle.node_model.specs.Node.{NodeView}
use Rattle.node_model.specs.Kept.{IsKept}
use Rattle.node_model.specs.Calls.{begun_if, Begin as BeginCall, Start as StartCall, Visit as VisitCall, Commit as CommitCall, Publish as PublishCall}
use Rattle.node_parts.specs.Views.{walk_of}
use Rattle.checksum_tool.specs.declared.phases.ToolPhase.{ToolPhase}
use Rattle.checksum_tool.specs.declared.phases.ToolPhase.TheVariants.{Clear, Choose, Walk as WalkPhase, Master, RetriesUsed, Finished}
use Rattle.checksum_tool.specs.Tools.{ToolView, tool_owner, check_of, is_over}
use Rattle.checksum_tool.specs.Clears.{logged_clear}
use Rattle.checksum_tool.specs.Moves.{Moved, clear_move, choose_move, master_move, idle_move, rested_move, begun_move}
use Rattle.checksum_tool.proofs.ClearLemmas.{cleared_at_once}
use Rattle.turn_laws.specs.TurnCalls.{LeadsBy, IsTools, ToolMakesCalls}
use Rattle.turn_laws.proofs.CallLemmas.{none_made, one_made, two_made}

abbrev Leads : ToolView → NodeView → Moved → Type 0
Leads tool node moved = LeadsBy (IsTools tool) node moved.node

-- CLEARCHECKS, logged at once, is what a transaction of its own leaves
clear_leads : (tool : ToolView) (node : NodeView) → IsKept node → txn_of tool_owner.0 node.txns ≡ None → Leads tool node (clear_move tool node)
clear_leads tool node kept free = record {
  calls = BeginCall tool_owner Client ∷ StartCall tool_owner (ClearChecks tool.table) ∷ VisitCall tool_owner ∷ CommitCall tool_owner Checksum ∷ [];
  are = ((refl, refl), ((refl, inl refl), (refl, ((refl, refl), tt))));
  leads = sym (cleared_at_once tool.table node kept free) ∙ ap (λ (o : Option Txn). logged_clear tool.table (begun_if o tool_owner Client node)) (sym free);
}

choose_leads : (tool : ToolView) (node : NodeView) → Leads tool node (choose_move tool node)
choose_leads tool node = two_made (IsTools tool) (BeginCall tool_owner Client) (StartCall tool_owner (check_of tool)) node (refl, refl) (refl, inr refl)

master_leads : (tool : ToolView) (node : NodeView) (found : Option CheckRow) → Leads tool node (master_move found tool node)
master_leads tool node None = choose_leads tool node
master_leads tool node (Some row) = one_made (IsTools tool) (PublishCall tool.table tool.chunk) node (refl, refl)

-- without a transaction
idle_leads : (tool : ToolView) (node : NodeView) (phase : ToolPhase) → IsKept node → txn_of tool_owner.0 node.txns ≡ None → Leads tool node (idle_move phase tool node)
idle_leads tool node Clear kept free = clear_leads tool node kept free
idle_leads tool node Choose kept free = choose_leads tool node
idle_leads tool node WalkPhase kept free = none_made (IsTools tool) node
idle_leads tool node Master kept free = master_leads tool node (check_at tool.table tool.chunk (fold node.schemas node.start node.history).checks)
idle_leads tool node (RetriesUsed rollbacks) kept free = none_made (IsTools tool) node
idle_leads tool node Finished kept free = none_made (IsTools tool) node

-- at its end
over_leads : (tool : ToolView) (node : NodeView) (phase : ToolPhase) → is_over phase ≡ true → Leads tool node (idle_move phase tool node)
over_leads tool node Clear over = absurd (let q : false ≡ true = over in cc)
over_leads tool node Choose over = absurd (let q : false ≡ true = over in cc)
over_leads tool node WalkPhase over = absurd (let q : false ≡ true = over in cc)
over_leads tool node Master over = absurd (let q : false ≡ true = over in cc)
over_leads tool node (RetriesUsed rollbacks) over = none_made (IsTools tool) node
over_leads tool node Finished over = none_made (IsTools tool) node

rested_leads : (tool : ToolView) (node : NodeView) (found : Option Txn) → IsKept node → txn_of tool_owner.0 node.txns ≡ found → Leads tool node (rested_move (is_some found) tool node)
rested_leads tool node None kept free = idle_leads tool node tool.phase kept free
rested_leads tool node (Some txn) kept found = one_made (IsTools tool) (CommitCall tool_owner Checksum) node (refl, refl)

begun_leads : (tool : ToolView) (node : NodeView) (walk : Option Walk) → IsKept node → Leads tool node (begun_move walk tool node)
begun_leads tool node (Some walk) kept = one_made (IsTools tool) (VisitCall tool_owner) node refl
begun_leads tool node None kept = rested_leads tool node (txn_of tool_owner.0 node.txns) kept refl

pub tool_makes_calls : ToolMakesCalls
tool_makes_calls tool node kept = at (is_over tool.phase) refl
  where
    at : (b : Bool) → is_over tool.phase ≡ b → Leads tool node (cond b (idle_move tool.phase tool node) (begun_move (walk_of tool_owner.0 node.txns) tool node))
    at true over = over_leads tool node tool.phase over
    at false over = begun_leads tool node (walk_of tool_owner.0 node.txns) kept
