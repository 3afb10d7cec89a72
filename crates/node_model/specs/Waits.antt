-- Who waits for whom, the cycle on which following waits comes back, and what a visit does then.
use Rattle.std.specs.Prelude.{ℕ, zero, suc, ◌≡◌, ◌≢◌, ◌==◌, Bool, false, cond, List, [], ◌∷◌, length, Option, None, Some, option_map}
use Rattle.ptc_statement.specs.Effect.{table_of}
use Rattle.node_model.specs.declared.txns.Walk.{Walk}
use Rattle.node_model.specs.declared.txns.Txn.{Txn}
use Rattle.node_model.specs.Txns.{txn_of}
use Rattle.txn_walk.specs.declared.plans.Plan.{Plan}
use Rattle.node_model.specs.Node.{NodeView, plan_of, plan_excluder, is_client, visited, ended}

abbrev pub wait_in : NodeView → Txn → Option Walk → Option ℕ
wait_in node txn None = None
wait_in node txn (Some walk) = plan_excluder txn.owner (table_of walk.statement) (plan_of node txn walk) node.held

abbrev pub wait_of : NodeView → Option Txn → Option ℕ
wait_of node None = None
wait_of node (Some txn) = wait_in node txn txn.current

-- the least excluder of what an owner's statement in progress wants next, as the node is now
abbrev pub next_wait : NodeView → ℕ → Option ℕ
next_wait node owner = wait_of node (txn_of owner node.txns)

abbrev pub way_on : ℕ → ℕ → Option ℕ → (ℕ → Option (List ℕ)) → Option (List ℕ)
way_on home owner None further = None
way_on home owner (Some next) further = cond (next == home) (Some (owner ∷ [])) (option_map (λ others. owner ∷ others) (further next))

-- the owners from one on, each waiting for the next and the last for the first of all; none where waiting
-- ends before, or is not back after so many steps
abbrev pub way_back : (ℕ → Option ℕ) → ℕ → ℕ → ℕ → Option (List ℕ)
way_back waits home zero owner = None
way_back waits home (suc steps) owner = way_on home owner (waits owner) (way_back waits home steps)

-- the cycle of an owner's waits: as many steps as there are open transactions pass every owner
abbrev pub cycle_of : NodeView → ℕ → Option (List ℕ)
cycle_of node owner = way_back (next_wait node) owner (length node.txns) owner

-- each owner waits for the next, which is not the first of all, and the last waits for that one
abbrev pub IsWayBack : (ℕ → Option ℕ) → ℕ → List ℕ → Type 0
IsWayBack waits home [] = ⊥
IsWayBack waits home (owner ∷ []) = waits owner ≡ Some home
IsWayBack waits home (owner ∷ next ∷ others) = (waits owner ≡ Some next) × (next ≢ home) × IsWayBack waits home (next ∷ others)

abbrev pub is_clients : Option Txn → Bool
is_clients None = false
is_clients (Some txn) = is_client txn.part

-- the first of these owners whose transaction is a client's, else another owner
abbrev pub first_client : List Txn → ℕ → List ℕ → ℕ
first_client txns other [] = other
first_client txns other (owner ∷ owners) = cond (is_clients (txn_of owner txns)) owner (first_client txns other owners)

-- whose transaction a deadlock ends: that of the owner whose visit closed the cycle or, where it applies an
-- entry, that of the first on the cycle that applies none; a cycle is listed from that owner on
abbrev pub victim_of : List Txn → ℕ → List ℕ → ℕ
victim_of txns owner cycle = first_client txns owner cycle

abbrev pub after_wait : Option (List ℕ) → ℕ → NodeView → NodeView
after_wait None owner node = node
after_wait (Some cycle) owner node = ended (victim_of node.txns owner cycle) node

-- a visit that another owner's holding excludes changes nothing, unless following waits comes back to its
-- owner: then the victim's transaction is gone
abbrev pub visited_unless : Option ℕ → Txn → Walk → Plan → NodeView → NodeView
visited_unless None txn walk plan node = visited txn walk plan node
visited_unless (Some by) txn walk plan node = after_wait (cycle_of node txn.owner.0) txn.owner.0 node

abbrev pub after_visit : Txn → Walk → NodeView → NodeView
after_visit txn walk node =
    visited_unless (plan_excluder txn.owner (table_of walk.statement) (plan_of node txn walk) node.held) txn walk (plan_of node txn walk) node
