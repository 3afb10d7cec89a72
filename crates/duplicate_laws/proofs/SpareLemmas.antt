-- What calls of others leave of an owner's transaction.
use Rattle.std.proofs.Common.{◌≡◌, ◌≢◌, ◌∙◌, ◌⊎◌, inl, inr, ℕ, ◌==◌, Bool, true, false, cond, List, [], ◌∷◌, ◌++◌, Option, None, Some, refl, ap, sym, subst}
use Rattle.std.specs.List.{AllByRecursion}
use Rattle.ptc_statement.specs.Effect.{table_of}
use Rattle.checksum_table.specs.declared.check_rows.CheckRow.{CheckRow}
use Rattle.checksum_table.specs.Checks.{check_at}
use Rattle.history.specs.Replay.{fold}
use Rattle.lock_table.specs.declared.wants.Owner.{Owner}
use Rattle.lock_table.proofs.HoldLemmas.{number_is, number_apart}
use Rattle.txn_walk.specs.declared.plans.Plan.{Plan}
use Rattle.node_model.specs.declared.txns.Walk.{Walk}
use Rattle.node_model.specs.declared.txns.Txn.{Txn}
use Rattle.node_model.specs.Txns.{txn_of, with_txn, without_txn}
use Rattle.node_model.specs.Node.{NodeView, ended, moved, start_of, plan_of, plan_excluder, is_duplicate}
use Rattle.node_model.specs.Waits.{cycle_of, victim_of, after_wait, visited_unless}
use Rattle.node_model.specs.Calls.{Call, Begin, Start, Visit, Commit, Rollback, Publish, after_call, after_calls, begun_if, started_if, started_idle, visit_if, visited_if, committed_if, committed_idle, published}
use Rattle.node_model.proofs.TxnLemmas.{txn_other, txn_left, txn_gone, txn_owner}
use Rattle.turn_laws.specs.TurnCalls.{LeadsBy}

-- the transaction is as it was, or gone
abbrev pub IsLeft : Option Txn → Option Txn → Type 0
IsLeft old new = (new ≡ old) ⊎ (new ≡ None)

abbrev pub Spares : ℕ → NodeView → NodeView → Type 0
Spares owner old new = IsLeft (txn_of owner old.txns) (txn_of owner new.txns)

-- a call of another owner; a visit may roll back any owner's transaction
abbrev pub IsOther : ℕ → Call → Type 0
IsOther owner (Begin other part) = other.0 ≢ owner
IsOther owner (Start other statement) = other.0 ≢ owner
IsOther owner (Visit other) = other.0 ≢ owner
IsOther owner (Commit other origin) = other.0 ≢ owner
IsOther owner (Rollback other) = Unit {0}
IsOther owner (Publish table chunk) = Unit {0}

pub then_spares : (owner : ℕ) (old mid new : NodeView) → Spares owner old mid → Spares owner mid new → Spares owner old new
then_spares owner old mid new (inl first) (inl second) = inl (second ∙ first)
then_spares owner old mid new (inr first) (inl second) = inr (second ∙ first)
then_spares owner old mid new first (inr second) = inr second

moved_owner : (txn : Txn) (walk : Walk) (plan : Plan) (refused ends : Bool)
    → (cond refused (record txn { current = None }) (cond ends (record txn { done = txn.done ++ walk.statement ∷ []; current = None }) (record txn { current = Some (record { statement = walk.statement; cursor = plan.after }) }))).owner ≡ txn.owner
moved_owner txn walk plan true ends = refl
moved_owner txn walk plan false true = refl
moved_owner txn walk plan false false = refl

pub own_moved : (txn : Txn) (walk : Walk) (plan : Plan) → (moved txn walk plan).owner ≡ txn.owner
own_moved txn walk plan = moved_owner txn walk plan (is_duplicate txn.part walk.statement plan) plan.ends

ended_spares : (owner other : ℕ) (node : NodeView) → Spares owner node (ended other node)
ended_spares owner other node = at (other == owner) refl
  where
    at : (b : Bool) → (other == owner) ≡ b → Spares owner node (ended other node)
    at true e = inr (ap (λ (o : ℕ). txn_of o (without_txn other node.txns)) (sym (number_is other owner e)) ∙ txn_gone other node.txns)
    at false e = inl (txn_left owner other node.txns (λ same. number_apart other owner e (sym same)))

-- a transaction of another owner changes
put_other : (owner other : ℕ) (txn : Txn) (txns : List Txn) → txn.owner.0 ≡ other → other ≢ owner → txn_of owner (with_txn txn txns) ≡ txn_of owner txns
put_other owner other txn txns own apart = txn_other owner txn txns (λ same. apart (sym own ∙ sym same))

wait_spares : (owner home : ℕ) (node : NodeView) (cycle : Option (List ℕ)) → Spares owner node (after_wait cycle home node)
wait_spares owner home node None = inl refl
wait_spares owner home node (Some cycle) = ended_spares owner (victim_of node.txns home cycle) node

pub call_spares : (owner : ℕ) (call : Call) (node : NodeView) → IsOther owner call → Spares owner node (after_call call node)
call_spares owner (Begin other part) node apart = at (txn_of other.0 node.txns)
  where
    at : (o : Option Txn) → Spares owner node (begun_if o other part node)
    at None = inl (put_other owner other.0 (record { owner = other; part = part; done = []; current = None }) node.txns refl apart)
    at (Some txn) = inl refl
call_spares owner (Start other statement) node apart = at (txn_of other.0 node.txns) refl
  where
    idle : (txn : Txn) → txn_of other.0 node.txns ≡ Some txn → (w : Option Walk) → Spares owner node (started_idle w txn statement node)
    idle txn e None =
        inl (put_other owner other.0 (record txn { current = Some (record { statement = statement; cursor = start_of node.schemas statement }) }) node.txns (txn_owner other.0 txn node.txns e) apart)
    idle txn e (Some walk) = inl refl

    at : (o : Option Txn) → txn_of other.0 node.txns ≡ o → Spares owner node (started_if o statement node)
    at None e = inl refl
    at (Some txn) e = idle txn e txn.current
call_spares owner (Visit other) node apart = at (txn_of other.0 node.txns) refl
  where
    unless : (txn : Txn) (walk : Walk) (plan : Plan) → txn_of other.0 node.txns ≡ Some txn → (by : Option ℕ) → Spares owner node (visited_unless by txn walk plan node)
    unless txn walk plan e None =
        inl (put_other owner other.0 (moved txn walk plan) node.txns (ap (λ (o : Owner). o.0) (own_moved txn walk plan) ∙ txn_owner other.0 txn node.txns e) apart)
    unless txn walk plan e (Some by) = wait_spares owner txn.owner.0 node (cycle_of node txn.owner.0)

    walking : (txn : Txn) → txn_of other.0 node.txns ≡ Some txn → (w : Option Walk) → Spares owner node (visited_if w txn node)
    walking txn e None = inl refl
    walking txn e (Some walk) = unless txn walk (plan_of node txn walk) e (plan_excluder txn.owner (table_of walk.statement) (plan_of node txn walk) node.held)

    at : (o : Option Txn) → txn_of other.0 node.txns ≡ o → Spares owner node (visit_if o node)
    at None e = inl refl
    at (Some txn) e = walking txn e txn.current
call_spares owner (Commit other origin) node apart = at (txn_of other.0 node.txns) refl
  where
    idle : (txn : Txn) → txn_of other.0 node.txns ≡ Some txn → (w : Option Walk) → Spares owner node (committed_idle w txn origin node)
    idle txn e None = inl (txn_left owner txn.owner.0 node.txns (λ same. apart (sym (txn_owner other.0 txn node.txns e) ∙ sym same)))
    idle txn e (Some walk) = inl refl

    at : (o : Option Txn) → txn_of other.0 node.txns ≡ o → Spares owner node (committed_if o origin node)
    at None e = inl refl
    at (Some txn) e = idle txn e txn.current
call_spares owner (Rollback other) node apart = ended_spares owner other.0 node
call_spares owner (Publish table chunk) node apart = at (check_at table chunk (fold node.schemas node.start node.history).checks)
  where
    at : (o : Option CheckRow) → Spares owner node (published table chunk o node)
    at None = inl refl
    at (Some row) = inl refl

calls_spare : (owner : ℕ) (P : Call → Type 0) (calls : List Call) (node : NodeView) → ((call : Call) → P call → IsOther owner call) → AllByRecursion P calls → Spares owner node (after_calls calls node)
calls_spare owner P [] node others are = inl refl
calls_spare owner P (call ∷ calls) node others are =
    then_spares owner node (after_call call node) (after_calls calls (after_call call node)) (call_spares owner call node (others call are.0))
    (calls_spare owner P calls (after_call call node) others are.1)

pub leads_spare : (owner : ℕ) (P : Call → Type 0) (old new : NodeView) → ((call : Call) → P call → IsOther owner call) → LeadsBy P old new → Spares owner old new
leads_spare owner P old new others made = subst (Spares owner old) (sym made.leads) (calls_spare owner P made.calls old others made.are)
