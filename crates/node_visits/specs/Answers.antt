-- What a visit does and answers.
use Rattle.std.specs.Prelude.{ℕ, map, Bool, true, false, cond, List, Option, None, Some, option_map}
use Rattle.std.specs.List.{slice_get}
use Rattle.row_types.specs.declared.values.Value.{Value}
use Rattle.row_types.specs.declared.table_schema.Schema.{Schema}
use Rattle.row_types.specs.declared.lock_modes.LockMode.{LockMode}
use Rattle.row_types.specs.declared.lock_modes.LockMode.TheVariants.{Shared, Exclusive}
use Rattle.ptc_statement.specs.Effect.{table_of, effect}
use Rattle.lock_table.specs.declared.wants.Owner.{Owner}
use Rattle.txn_walk.specs.declared.plans.Plan.{Plan}
use Rattle.node_model.specs.declared.txns.Walk.{Walk}
use Rattle.node_model.specs.declared.txns.Txn.{Txn}
use Rattle.node_model.specs.Txns.{txn_of}
use Rattle.node_model.specs.Node.{NodeView, live_row, plan_of, plan_excluder, is_duplicate}
use Rattle.node_model.specs.Waits.{cycle_of, victim_of}
use Rattle.node_parts.specs.declared.notes.Change.{Change}
use Rattle.node_visits.specs.declared.visits.Visit.{Visit}
use Rattle.node_visits.specs.declared.visits.Visit.TheVariants.{Stepped, Done, Duplicate, Waits, Deadlock}

-- the key at which a statement is refused
abbrev pub duplicate_key : Bool → Option (List Value × LockMode) → Option (List Value)
duplicate_key false on_key = None
duplicate_key true None = None
duplicate_key true (Some lock) = Some lock.0

abbrev pub answer_of : Option (List Value) → Bool → Visit
answer_of (Some key) ends = Duplicate key
answer_of None ends = cond ends Done Stepped

abbrev pub owner_at : ℕ → Owner
owner_at number = record { 0 = number }

-- an owner that waits is told for whom, unless following waits comes back to it
abbrev pub answer_wait : Option (List ℕ) → ℕ → ℕ → NodeView → Visit
answer_wait None by owner node = Waits (owner_at by)
answer_wait (Some cycle) by owner node = Deadlock (owner_at (victim_of node.txns owner cycle)) (map owner_at cycle)

abbrev pub answer_by : Option ℕ → Txn → Walk → Plan → NodeView → Visit
answer_by (Some by) txn walk plan node = answer_wait (cycle_of node txn.owner.0) by txn.owner.0 node
answer_by None txn walk plan node = answer_of (duplicate_key (is_duplicate txn.part walk.statement plan) plan.on_key) plan.ends

abbrev pub answer_in : Option Walk → Txn → NodeView → Visit
answer_in None txn node = Done
answer_in (Some walk) txn node =
    answer_by (plan_excluder txn.owner (table_of walk.statement) (plan_of node txn walk) node.held) txn walk (plan_of node txn walk) node

abbrev pub answer_if : Option Txn → NodeView → Visit
answer_if None node = Done
answer_if (Some txn) node = answer_in txn.current txn node

-- the answer of a visit: whom the owner waits for, or the deadlock that this closes; else that its row is a
-- duplicate, or that its statement is done or has come a step further
abbrev pub visit_answer : ℕ → NodeView → Visit
visit_answer owner node = answer_if (txn_of owner node.txns) node

-- the change that a visit makes: at the key of an exclusive lock the statement does its effect
abbrev pub change_at : NodeView → Walk → List Value → Option Schema → Option Change
change_at node walk key schema =
    option_map (λ (s : Schema). record { table = table_of walk.statement; key = key; new = effect s walk.statement key (live_row node (table_of walk.statement) key) }) schema

abbrev pub change_under : NodeView → Walk → Option (List Value × LockMode) → Option Change
change_under node walk None = None
change_under node walk (Some (key, Shared)) = None
change_under node walk (Some (key, Exclusive)) = change_at node walk key (slice_get node.schemas (table_of walk.statement))
