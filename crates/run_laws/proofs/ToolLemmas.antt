-- The checksum tool, where its turn moves nothing, waits, has used its retries, or is finished.
use Rattle.std.proofs.Common.{◌≡◌, ◌∙◌, Bool, true, false, cond, Option, None, Some, refl, ap, sym}
use Rattle.std.specs.Prelude.{is_some}
use Rattle.checksum_table.specs.declared.check_rows.CheckRow.{CheckRow}
use Rattle.checksum_table.specs.Checks.{check_at}
use Rattle.history.specs.Replay.{fold}
use Rattle.node_model.specs.declared.txns.Walk.{Walk}
use Rattle.node_model.specs.Txns.{txn_of}
use Rattle.node_model.specs.Node.{NodeView}
use Rattle.node_visits.specs.Answers.{visit_answer}
use Rattle.node_parts.specs.Views.{walk_of}
use Rattle.checksum_tool.specs.declared.phases.ToolPhase.{ToolPhase}
use Rattle.checksum_tool.specs.declared.phases.ToolPhase.TheVariants.{Clear, Choose, Walk as WalkPhase, Master, RetriesUsed, Finished}
use Rattle.checksum_tool.specs.Tools.{ToolView, tool_owner, is_over}
use Rattle.checksum_tool.specs.Moves.{Moved, master_move, idle_move, rested_move, begun_move, next_move}
use Rattle.turn_notes.specs.declared.actors.Place.TheVariants.{Source}
use Rattle.turn_notes.specs.Notes.{tool_note, has_moved}
use Rattle.run_laws.proofs.SessionLemmas.{Says, no_move, waits}

abbrev SaysOf : ToolView → Moved → Type 0
SaysOf tool moved = Says (tool_note moved.turn) (tool.phase ≡ Finished)

master_moves : (found : Option CheckRow) (tool : ToolView) (node : NodeView) {P : Type 0} → has_moved (tool_note (master_move found tool node).turn) ≡ false → P
master_moves None tool node still = no_move still
master_moves (Some row) tool node still = no_move still

-- where it is not over it moves
idle_moves : (phase : ToolPhase) (tool : ToolView) (node : NodeView) {P : Type 0} → is_over phase ≡ false → has_moved (tool_note (idle_move phase tool node).turn) ≡ false → P
idle_moves Clear tool node going still = no_move still
idle_moves Choose tool node going still = no_move still
idle_moves WalkPhase tool node going still = no_move still
idle_moves Master tool node going still = master_moves (check_at tool.table tool.chunk (fold node.schemas node.start node.history).checks) tool node still
idle_moves (RetriesUsed rollbacks) tool node going still = no_move going
idle_moves Finished tool node going still = no_move going

over_says : (phase : ToolPhase) (tool : ToolView) (node : NodeView) → tool.phase ≡ phase → is_over phase ≡ true → SaysOf tool (idle_move phase tool node)
over_says Clear tool node is over = absurd (let q : false ≡ true = over in cc)
over_says Choose tool node is over = absurd (let q : false ≡ true = over in cc)
over_says WalkPhase tool node is over = absurd (let q : false ≡ true = over in cc)
over_says Master tool node is over = absurd (let q : false ≡ true = over in cc)
over_says (RetriesUsed rollbacks) tool node is over = (λ none. absurd (cc), λ reason some finished. (let q : RetriesUsed rollbacks ≡ Finished = sym is ∙ finished in absurd (cc)))
over_says Finished tool node is over = (λ none. is, λ reason some. absurd (cc))

not_over : (tool : ToolView) → is_over tool.phase ≡ false → tool.phase ≡ Finished → ⊥
not_over tool going finished = let q : true ≡ false = sym (ap is_over finished) ∙ going in absurd (cc)

rested_says : (tool : ToolView) (node : NodeView) (begun : Bool) → is_over tool.phase ≡ false → has_moved (tool_note (rested_move begun tool node).turn) ≡ false → SaysOf tool (rested_move begun tool node)
rested_says tool node true going still = no_move still
rested_says tool node false going still = idle_moves tool.phase tool node going still

begun_says : (tool : ToolView) (node : NodeView) (walk : Option Walk) → is_over tool.phase ≡ false → has_moved (tool_note (begun_move walk tool node).turn) ≡ false → SaysOf tool (begun_move walk tool node)
begun_says tool node (Some walk) going still = waits Source (visit_answer tool_owner.0 node) (tool.phase ≡ Finished) (not_over tool going) still
begun_says tool node None going still = rested_says tool node (is_some (txn_of tool_owner.0 node.txns)) going still

pub tool_says : (tool : ToolView) (node : NodeView) → has_moved (tool_note (next_move tool node).turn) ≡ false → Says (tool_note (next_move tool node).turn) (tool.phase ≡ Finished)
tool_says tool node = at (is_over tool.phase) refl
  where
    at : (b : Bool) → is_over tool.phase ≡ b → has_moved (tool_note (cond b (idle_move tool.phase tool node) (begun_move (walk_of tool_owner.0 node.txns) tool node)).turn) ≡ false
        → SaysOf tool (cond b (idle_move tool.phase tool node) (begun_move (walk_of tool_owner.0 node.txns) tool node))
    at true over still = over_says tool.phase tool node refl over
    at false going still = begun_says tool node (walk_of tool_owner.0 node.txns) going still
