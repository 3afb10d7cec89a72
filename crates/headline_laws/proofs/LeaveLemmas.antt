-- What turns leave of a node: its start, and who wrote the entries of its history.
use Rattle.std.proofs.Common.{◌≡◌, ◌∙◌, ℕ, Bool, true, false, cond, List, [], ◌∷◌, Option, None, Some, refl, sym, subst}
use Rattle.std.specs.Prelude.{is_some}
use Rattle.std.specs.List.{AllByRecursion}
use Rattle.ptc_statement.specs.declared.statements.Statement.{Statement}
use Rattle.ptc_statement.specs.declared.statements.Statement.TheVariants.{SetMaster}
use Rattle.ptc_statement.specs.Effect.{table_of}
use Rattle.statement_log.specs.declared.entries.Entry.{Entry}
use Rattle.statement_log.specs.declared.origins.Origin.{Origin}
use Rattle.statement_log.specs.declared.origins.Origin.TheVariants.{Checksum}
use Rattle.checksum_table.specs.declared.check_rows.CheckRow.{CheckRow}
use Rattle.checksum_table.specs.Checks.{check_at}
use Rattle.history.specs.Replay.{fold}
use Rattle.lock_table.specs.declared.wants.Owner.{Owner}
use Rattle.txn_walk.specs.declared.plans.Plan.{Plan}
use Rattle.node_model.specs.declared.parts.Part.{Part}
use Rattle.node_model.specs.declared.parts.Part.TheVariants.{Client}
use Rattle.node_model.specs.declared.txns.Walk.{Walk}
use Rattle.node_model.specs.declared.txns.Txn.{Txn}
use Rattle.node_model.specs.Txns.{txn_of}
use Rattle.node_model.specs.Node.{NodeView, plan_of, plan_excluder, is_written, written, logged}
use Rattle.node_model.specs.Waits.{cycle_of, after_wait, visited_unless}
use Rattle.node_model.specs.Calls.{Call, Begin, Start, Visit, Commit, Rollback, Publish, begun_if, started_idle, started_if, visited_if, visit_if, committed_idle, committed_if, published, after_call, after_calls}
use Rattle.node_parts.specs.Views.{walk_of}
use Rattle.turn_laws.proofs.LogLemmas.{begin_same, start_same, visit_same}
use Rattle.checksum_tool.specs.declared.phases.ToolPhase.{ToolPhase}
use Rattle.checksum_tool.specs.declared.phases.ToolPhase.TheVariants.{Clear, Choose, Walk as WalkPhase, Master, RetriesUsed, Finished}
use Rattle.checksum_tool.specs.Tools.{ToolView, tool_owner, check_of, is_over}
use Rattle.checksum_tool.specs.Moves.{Moved, clear_entry, choose_move, master_move, idle_move, rested_move, begun_move, next_move}
use Rattle.headline_laws.proofs.ListLemmas.{each_joined}

abbrev pub WroteBy : (Origin → Type 0) → List Entry → Type 0
WroteBy P log = AllByRecursion (λ (entry : Entry). P entry.origin) log

pub record Leaves (P : Origin → Type 0) (old new : NodeView) : Type 0 where
  pub start : new.start ≡ old.start
  pub wrote : WroteBy P old.history → WroteBy P new.history

silent : (P : Origin → Type 0) (old new : NodeView) → new.start ≡ old.start → new.history ≡ old.history → Leaves P old new
silent P old new start same = record { start = start; wrote = λ wrote. subst (WroteBy P) (sym same) wrote }

then_leaves : (P : Origin → Type 0) (old mid new : NodeView) → Leaves P old mid → Leaves P mid new → Leaves P old new
then_leaves P old mid new first second = record { start = second.start ∙ first.start; wrote = λ wrote. second.wrote (first.wrote wrote) }

-- Calls keep the start.

begin_start : (owner : Owner) (part : Part) (node : NodeView) → (after_call (Begin owner part) node).start ≡ node.start
begin_start owner part node = at (txn_of owner.0 node.txns)
  where
    at : (o : Option Txn) → (begun_if o owner part node).start ≡ node.start
    at None = refl
    at (Some txn) = refl

start_start : (owner : Owner) (statement : Statement) (node : NodeView) → (after_call (Start owner statement) node).start ≡ node.start
start_start owner statement node = at (txn_of owner.0 node.txns)
  where
    idle : (txn : Txn) (w : Option Walk) → (started_idle w txn statement node).start ≡ node.start
    idle txn None = refl
    idle txn (Some walk) = refl

    at : (o : Option Txn) → (started_if o statement node).start ≡ node.start
    at None = refl
    at (Some txn) = idle txn txn.current

visit_start : (owner : Owner) (node : NodeView) → (after_call (Visit owner) node).start ≡ node.start
visit_start owner node = at (txn_of owner.0 node.txns)
  where
    waits : (a : ℕ) (cycle : Option (List ℕ)) → (after_wait cycle a node).start ≡ node.start
    waits a None = refl
    waits a (Some cycle) = refl

    unless : (txn : Txn) (walk : Walk) (plan : Plan) (by : Option ℕ) → (visited_unless by txn walk plan node).start ≡ node.start
    unless txn walk plan None = refl
    unless txn walk plan (Some by) = waits txn.owner.0 (cycle_of node txn.owner.0)

    busy : (txn : Txn) (w : Option Walk) → (visited_if w txn node).start ≡ node.start
    busy txn None = refl
    busy txn (Some walk) = unless txn walk (plan_of node txn walk) (plan_excluder txn.owner (table_of walk.statement) (plan_of node txn walk) node.held)

    at : (o : Option Txn) → (visit_if o node).start ≡ node.start
    at None = refl
    at (Some txn) = busy txn txn.current

-- Who commits.

abbrev pub CommitsAs : (Origin → Type 0) → Call → Type 0
CommitsAs P (Begin owner part) = Unit {0}
CommitsAs P (Start owner statement) = Unit {0}
CommitsAs P (Visit owner) = Unit {0}
CommitsAs P (Commit owner origin) = P origin
CommitsAs P (Rollback owner) = Unit {0}
CommitsAs P (Publish table chunk) = P Checksum

written_by : (P : Origin → Type 0) (origin : Origin) (statements : List Statement) → P origin → WroteBy P (written origin statements)
written_by P origin statements is = at (is_written origin statements)
  where
    at : (b : Bool) → WroteBy P (cond {A = List Entry} b (record { origin = origin; statements = statements } ∷ []) [])
    at true = (is, tt)
    at false = tt

commit_leaves : (P : Origin → Type 0) (owner : Owner) (origin : Origin) (node : NodeView) → P origin → Leaves P node (after_call (Commit owner origin) node)
commit_leaves P owner origin node is = at (txn_of owner.0 node.txns)
  where
    idle : (txn : Txn) (walk : Option Walk) → Leaves P node (committed_idle walk txn origin node)
    idle txn None = record {
      start = refl;
      wrote = λ wrote. each_joined (λ (entry : Entry). P entry.origin) node.history (written origin (logged txn.done)) wrote (written_by P origin (logged txn.done) is);
    }
    idle txn (Some walk) = silent P node node refl refl

    at : (o : Option Txn) → Leaves P node (committed_if o origin node)
    at None = silent P node node refl refl
    at (Some txn) = idle txn txn.current

publish_leaves : (P : Origin → Type 0) (table chunk : ℕ) (node : NodeView) → P Checksum → Leaves P node (after_call (Publish table chunk) node)
publish_leaves P table chunk node is = at (check_at table chunk (fold node.schemas node.start node.history).checks)
  where
    at : (found : Option CheckRow) → Leaves P node (published table chunk found node)
    at None = silent P node node refl refl
    at (Some row) = record {
      start = refl;
      wrote = λ wrote. each_joined (λ (entry : Entry). P entry.origin) node.history (record { origin = Checksum; statements = SetMaster table chunk row.kind row.this ∷ [] } ∷ []) wrote (is, tt);
    }

call_leaves : (P : Origin → Type 0) (call : Call) (node : NodeView) → CommitsAs P call → Leaves P node (after_call call node)
call_leaves P (Begin owner part) node is = silent P node (after_call (Begin owner part) node) (begin_start owner part node) (begin_same owner part node)
call_leaves P (Start owner statement) node is = silent P node (after_call (Start owner statement) node) (start_start owner statement node) (start_same owner statement node)
call_leaves P (Visit owner) node is = silent P node (after_call (Visit owner) node) (visit_start owner node) (visit_same owner node)
call_leaves P (Commit owner origin) node is = commit_leaves P owner origin node is
call_leaves P (Rollback owner) node is = silent P node (after_call (Rollback owner) node) refl refl
call_leaves P (Publish table chunk) node is = publish_leaves P table chunk node is

pub calls_leave : (P : Origin → Type 0) (calls : List Call) (node : NodeView) → AllByRecursion (CommitsAs P) calls → Leaves P node (after_calls calls node)
calls_leave P [] node are = silent P node node refl refl
calls_leave P (call ∷ calls) node are =
    then_leaves P node (after_call call node) (after_calls calls (after_call call node)) (call_leaves P call node are.0) (calls_leave P calls (after_call call node) are.1)

-- The checksum tool's moves.

abbrev Leave : (Origin → Type 0) → NodeView → Moved → Type 0
Leave P node moved = Leaves P node moved.node

clear_leaves : (P : Origin → Type 0) (tool : ToolView) (node : NodeView) → P Checksum → Leave P node (idle_move Clear tool node)
clear_leaves P tool node is = record {
  start = refl;
  wrote = λ wrote. each_joined (λ (entry : Entry). P entry.origin) node.history (clear_entry tool.table ∷ []) wrote (is, tt);
}

choose_leaves : (P : Origin → Type 0) (tool : ToolView) (node : NodeView) → Leave P node (choose_move tool node)
choose_leaves P tool node = calls_leave P (Begin tool_owner Client ∷ Start tool_owner (check_of tool) ∷ []) node (tt, (tt, tt))

master_leaves : (P : Origin → Type 0) (tool : ToolView) (node : NodeView) → P Checksum → (found : Option CheckRow) → Leave P node (master_move found tool node)
master_leaves P tool node is None = choose_leaves P tool node
master_leaves P tool node is (Some row) = publish_leaves P tool.table tool.chunk node is

idle_leaves : (P : Origin → Type 0) (tool : ToolView) (node : NodeView) → P Checksum → (phase : ToolPhase) → Leave P node (idle_move phase tool node)
idle_leaves P tool node is Clear = clear_leaves P tool node is
idle_leaves P tool node is Choose = choose_leaves P tool node
idle_leaves P tool node is WalkPhase = silent P node node refl refl
idle_leaves P tool node is Master = master_leaves P tool node is (check_at tool.table tool.chunk (fold node.schemas node.start node.history).checks)
idle_leaves P tool node is (RetriesUsed rollbacks) = silent P node node refl refl
idle_leaves P tool node is Finished = silent P node node refl refl

rested_leaves : (P : Origin → Type 0) (tool : ToolView) (node : NodeView) → P Checksum → (begun : Bool) → Leave P node (rested_move begun tool node)
rested_leaves P tool node is true = commit_leaves P tool_owner Checksum node is
rested_leaves P tool node is false = idle_leaves P tool node is tool.phase

begun_leaves : (P : Origin → Type 0) (tool : ToolView) (node : NodeView) → P Checksum → (walk : Option Walk) → Leave P node (begun_move walk tool node)
begun_leaves P tool node is (Some walk) = call_leaves P (Visit tool_owner) node tt
begun_leaves P tool node is None = rested_leaves P tool node is (is_some (txn_of tool_owner.0 node.txns))

pub tool_leaves : (P : Origin → Type 0) (tool : ToolView) (node : NodeView) → P Checksum → Leave P node (next_move tool node)
tool_leaves P tool node is = at (is_over tool.phase)
  where
    at : (b : Bool) → Leave P node (cond b (idle_move tool.phase tool node) (begun_move (walk_of tool_owner.0 node.txns) tool node))
    at true = idle_leaves P tool node is tool.phase
    at false = begun_leaves P tool node is (walk_of tool_owner.0 node.txns)
