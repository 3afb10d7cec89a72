-- A node's log grows by entries of logged statements.
use Rattle.std.proofs.Common.{◌≡◌, ◌∙◌, ℕ, Bool, true, false, cond, List, [], ◌∷◌, ◌++◌, Option, None, Some, refl, ap, sym, append-nil}
use Rattle.std.specs.Prelude.{is_some}
use Rattle.std.specs.List.{AllByRecursion}
use Rattle.ptc_statement.specs.declared.statements.Statement.{Statement}
use Rattle.ptc_statement.specs.declared.statements.Statement.TheVariants.{SetMaster}
use Rattle.ptc_statement.specs.Effect.{is_logged}
use Rattle.statement_log.specs.declared.entries.Entry.{Entry}
use Rattle.statement_log.specs.declared.origins.Origin.{Origin}
use Rattle.statement_log.specs.declared.origins.Origin.TheVariants.{Checksum}
use Rattle.checksum_table.specs.declared.check_rows.CheckRow.{CheckRow}
use Rattle.checksum_table.specs.Checks.{check_at}
use Rattle.history.specs.Replay.{fold}
use Rattle.lock_table.specs.declared.wants.Owner.{Owner}
use Rattle.node_model.specs.declared.parts.Part.TheVariants.{Client}
use Rattle.node_model.specs.declared.txns.Walk.{Walk}
use Rattle.node_model.specs.declared.txns.Txn.{Txn}
use Rattle.node_model.specs.Txns.{txn_of}
use Rattle.node_model.specs.Node.{NodeView, is_written, written, logged}
use Rattle.node_model.specs.Calls.{Call, Begin, Start, Visit, Commit, Rollback, Publish, after_call, after_calls, committed_idle, committed_if, published}
use Rattle.node_parts.specs.Views.{walk_of}
use Rattle.checksum_tool.specs.declared.phases.ToolPhase.{ToolPhase}
use Rattle.checksum_tool.specs.declared.phases.ToolPhase.TheVariants.{Clear, Choose, Walk as WalkPhase, Master, RetriesUsed, Finished}
use Rattle.checksum_tool.specs.Tools.{ToolView, tool_owner, check_of, is_over}
use Rattle.checksum_tool.specs.Moves.{Moved, clear_entry, choose_move, master_move, idle_move, rested_move, begun_move, next_move}
use Rattle.applier_laws.specs.Follows.{AreLogged}
use Rattle.turn_laws.proofs.LogLemmas.{begin_same, start_same, visit_same, opened_same}
use Rattle.world_laws.proofs.ListLemmas.{each_joined}

pub record Grown (old new : List Entry) : Type 0 where
  pub more : List Entry
  pub are : AllByRecursion AreLogged more
  pub is : new ≡ old ++ more

same_grown : (old new : List Entry) → new ≡ old → Grown old new
same_grown old new same = record { more = []; are = tt; is = same ∙ sym (append-nil old) }

join_assoc : (xs ys zs : List Entry) → (xs ++ ys) ++ zs ≡ xs ++ (ys ++ zs)
join_assoc [] ys zs = refl
join_assoc (x ∷ xs) ys zs = ap (λ (more : List Entry). x ∷ more) (join_assoc xs ys zs)

then_grown : (old mid new : List Entry) → Grown old mid → Grown mid new → Grown old new
then_grown old mid new first second = record {
  more = first.more ++ second.more;
  are = each_joined AreLogged first.more second.more first.are second.are;
  is = second.is ∙ ap (λ (log : List Entry). log ++ second.more) first.is ∙ join_assoc old first.more second.more;
}

-- Calls.

logged_are : (statements : List Statement) → AllByRecursion (λ (statement : Statement). is_logged statement ≡ true) (logged statements)
logged_are [] = tt
logged_are (statement ∷ statements) = at (is_logged statement) refl (logged_are statements)
  where
    at : (b : Bool) → is_logged statement ≡ b → AllByRecursion (λ (s : Statement). is_logged s ≡ true) (logged statements)
        → AllByRecursion (λ (s : Statement). is_logged s ≡ true) (cond b (statement ∷ logged statements) (logged statements))
    at true e rest = (e, rest)
    at false e rest = rest

written_grown : (old : List Entry) (origin : Origin) (statements : List Statement) → Grown old (old ++ written origin (logged statements))
written_grown old origin statements = record { more = written origin (logged statements); are = at (is_written origin (logged statements)); is = refl }
  where
    at : (b : Bool) → AllByRecursion AreLogged (cond {A = List Entry} b (record { origin = origin; statements = logged statements } ∷ []) [])
    at true = (logged_are statements, tt)
    at false = tt

commit_grows : (owner : Owner) (origin : Origin) (node : NodeView) → Grown node.history (after_call (Commit owner origin) node).history
commit_grows owner origin node = at (txn_of owner.0 node.txns)
  where
    idle : (txn : Txn) (walk : Option Walk) → Grown node.history (committed_idle walk txn origin node).history
    idle txn None = written_grown node.history origin txn.done
    idle txn (Some walk) = same_grown node.history node.history refl

    at : (o : Option Txn) → Grown node.history (committed_if o origin node).history
    at None = same_grown node.history node.history refl
    at (Some txn) = idle txn txn.current

published_grown : (table chunk : ℕ) (node : NodeView) (found : Option CheckRow) → Grown node.history (published table chunk found node).history
published_grown table chunk node None = same_grown node.history node.history refl
published_grown table chunk node (Some row) = record {
  more = record { origin = Checksum; statements = SetMaster table chunk row.kind row.this ∷ [] } ∷ [];
  are = ((refl, tt), tt);
  is = refl;
}

call_grows : (call : Call) (node : NodeView) → Grown node.history (after_call call node).history
call_grows (Begin owner part) node = same_grown node.history (after_call (Begin owner part) node).history (begin_same owner part node)
call_grows (Start owner statement) node = same_grown node.history (after_call (Start owner statement) node).history (start_same owner statement node)
call_grows (Visit owner) node = same_grown node.history (after_call (Visit owner) node).history (visit_same owner node)
call_grows (Commit owner origin) node = commit_grows owner origin node
call_grows (Rollback owner) node = same_grown node.history node.history refl
call_grows (Publish table chunk) node = published_grown table chunk node (check_at table chunk (fold node.schemas node.start node.history).checks)

pub calls_grow : (calls : List Call) (node : NodeView) → Grown node.history (after_calls calls node).history
calls_grow [] node = same_grown node.history node.history refl
calls_grow (call ∷ calls) node =
    then_grown node.history (after_call call node).history (after_calls calls (after_call call node)).history (call_grows call node) (calls_grow calls (after_call call node))

-- The tool's moves.

abbrev Grows : NodeView → Moved → Type 0
Grows node moved = Grown node.history moved.node.history

choose_grows : (tool : ToolView) (node : NodeView) → Grows node (choose_move tool node)
choose_grows tool node = same_grown node.history (choose_move tool node).node.history (opened_same tool_owner Client (check_of tool) node)

master_grows : (tool : ToolView) (node : NodeView) (found : Option CheckRow) → Grows node (master_move found tool node)
master_grows tool node None = choose_grows tool node
master_grows tool node (Some row) = call_grows (Publish tool.table tool.chunk) node

idle_grows : (tool : ToolView) (node : NodeView) (phase : ToolPhase) → Grows node (idle_move phase tool node)
idle_grows tool node Clear = record { more = clear_entry tool.table ∷ []; are = ((refl, tt), tt); is = refl }
idle_grows tool node Choose = choose_grows tool node
idle_grows tool node WalkPhase = same_grown node.history node.history refl
idle_grows tool node Master = master_grows tool node (check_at tool.table tool.chunk (fold node.schemas node.start node.history).checks)
idle_grows tool node (RetriesUsed rollbacks) = same_grown node.history node.history refl
idle_grows tool node Finished = same_grown node.history node.history refl

rested_grows : (tool : ToolView) (node : NodeView) (begun : Bool) → Grows node (rested_move begun tool node)
rested_grows tool node true = commit_grows tool_owner Checksum node
rested_grows tool node false = idle_grows tool node tool.phase

begun_grows : (tool : ToolView) (node : NodeView) (walk : Option Walk) → Grows node (begun_move walk tool node)
begun_grows tool node (Some walk) = call_grows (Visit tool_owner) node
begun_grows tool node None = rested_grows tool node (is_some (txn_of tool_owner.0 node.txns))

pub tool_grows : (tool : ToolView) (node : NodeView) → Grows node (next_move tool node)
tool_grows tool node = at (is_over tool.phase)
  where
    at : (b : Bool) → Grows node (cond b (idle_move tool.phase tool node) (begun_move (walk_of tool_owner.0 node.txns) tool node))
    at true = idle_grows tool node tool.phase
    at false = begun_grows tool node (walk_of tool_owner.0 node.txns)
