-- What a call on a node leaves of other owners' transactions, and whose statements those of others are.
use Rattle.std.proofs.Common.{◌≡◌, ◌≢◌, ◌∙◌, ◌⊎◌, inl, inr, ℕ, ◌+◌, ◌<◌, ◌≤◌, Bool, true, false, cond, filter, List, [], ◌∷◌, ◌++◌, Option, None, Some, refl, ap, sym, subst, arith}
use Rattle.std.specs.List.{AllByRecursion}
use Rattle.ptc_statement.specs.Fits.{IsClients}
use Rattle.lock_table.proofs.HoldLemmas.{same_or_apart}
use Rattle.txn_walk.specs.declared.plans.Plan.{Plan}
use Rattle.node_model.specs.declared.txns.Walk.{Walk}
use Rattle.node_model.specs.declared.txns.Txn.{Txn}
use Rattle.node_model.specs.Txns.{txn_of, with_txn, without_txn}
use Rattle.node_model.specs.Node.{moved, is_duplicate}
use Rattle.node_model.proofs.TxnLemmas.{txn_same, txn_other, txn_left, txn_gone}

pub some_txn : (a b : Txn) → Some a ≡ Some b → a ≡ b
some_txn a b e = cc

-- the transactions of all other owners are as they were, or gone
abbrev pub Passes : ℕ → List Txn → List Txn → Type 0
Passes mover old new = (a : ℕ) → a ≢ mover → (txn_of a new ≡ txn_of a old) ⊎ (txn_of a new ≡ None)

pub still_passes : (mover : ℕ) (txns : List Txn) → Passes mover txns txns
still_passes mover txns a apart = inl refl

pub put_passes : (mover : ℕ) (txn : Txn) (txns : List Txn) → txn.owner.0 ≡ mover → Passes mover txns (with_txn txn txns)
put_passes mover txn txns own a apart = inl (txn_other a txn txns (λ same. apart (same ∙ own)))

pub ended_each : (owner : ℕ) (txns : List Txn) (a : ℕ) → (txn_of a (without_txn owner txns) ≡ txn_of a txns) ⊎ (txn_of a (without_txn owner txns) ≡ None)
ended_each owner txns a = at (same_or_apart a owner)
  where
    at : (a ≡ owner) ⊎ (a ≢ owner) → (txn_of a (without_txn owner txns) ≡ txn_of a txns) ⊎ (txn_of a (without_txn owner txns) ≡ None)
    at (inl same) = inr (ap (λ (o : ℕ). txn_of o (without_txn owner txns)) same ∙ txn_gone owner txns)
    at (inr other) = inl (txn_left a owner txns other)

pub ended_passes : (mover owner : ℕ) (txns : List Txn) → Passes mover txns (without_txn owner txns)
ended_passes mover owner txns a apart = ended_each owner txns a

-- the mover's own transaction

pub put_own : (mover : ℕ) (txn : Txn) (txns : List Txn) → txn.owner.0 ≡ mover → txn_of mover (with_txn txn txns) ≡ Some txn
put_own mover txn txns own = ap (λ (o : ℕ). txn_of o (with_txn txn txns)) (sym own) ∙ txn_same txn txns

-- local sessions run clients' statements

abbrev pub WalkOfClients : Option Walk → Type 0
WalkOfClients None = Unit {0}
WalkOfClients (Some walk) = IsClients walk.statement

pub record OfClients (txn : Txn) : Type 0 where
  pub done : AllByRecursion IsClients txn.done
  pub current : WalkOfClients txn.current

-- an owner that is none of the workers
abbrev pub IsOutside : ℕ → ℕ → Type 0
IsOutside workers owner = (owner ≤ 200) ⊎ (200 + workers < owner)

abbrev pub OthersFit : ℕ → List Txn → Type 0
OthersFit workers txns = (a : ℕ) (txn : Txn) → IsOutside workers a → txn_of a txns ≡ Some txn → OfClients txn

-- a worker is not outside
pub worker_apart : (workers place owner : ℕ) → place < workers → IsOutside workers owner → owner ≢ 201 + place
worker_apart workers place owner within (inl low) same = absurd (omega (arith, within, low, same))
worker_apart workers place owner within (inr high) same = absurd (omega (arith, within, high, same))

-- where the mover's transaction fits
pub passed_fits : (workers mover : ℕ) (old new : List Txn) → OthersFit workers old → Passes mover old new → ((txn : Txn) → IsOutside workers mover → txn_of mover new ≡ Some txn → OfClients txn) → OthersFit workers new
passed_fits workers mover old new fits passes own a txn outside found = at (same_or_apart a mover)
  where
    or_gone : (txn_of a new ≡ txn_of a old) ⊎ (txn_of a new ≡ None) → OfClients txn
    or_gone (inl same) = fits a txn outside (sym same ∙ found)
    or_gone (inr gone) = absurd (let q : None ≡ Some txn = sym gone ∙ found in cc)

    at : (a ≡ mover) ⊎ (a ≢ mover) → OfClients txn
    at (inl same) = own txn (subst (IsOutside workers) same outside) (ap (λ (o : ℕ). txn_of o new) (sym same) ∙ found)
    at (inr apart) = or_gone (passes a apart)

pub all_more : {A : Type 0} (P : A → Type 0) (xs : List A) (x : A) → AllByRecursion P xs → P x → AllByRecursion P (xs ++ x ∷ [])
all_more P [] x all is = (is, tt)
all_more P (y ∷ xs) x all is = (all.0, all_more P xs x all.1 is)

pub all_filtered : {A : Type 0} (P : A → Type 0) (test : A → Bool) (xs : List A) → AllByRecursion P xs → AllByRecursion P (filter test xs)
all_filtered P test [] all = tt
all_filtered {A} P test (x ∷ xs) all = at (test x) (all_filtered P test xs all.1)
  where
    at : (b : Bool) → AllByRecursion P (filter test xs) → AllByRecursion P (cond b (x ∷ filter test xs) (filter test xs))
    at true more = (all.0, more)
    at false more = more

-- a visit's transaction, by whether the statement is refused or ends

abbrev pub moved_by : Bool → Bool → Txn → Walk → Plan → Txn
moved_by refused ends txn walk plan =
    cond refused (record txn { current = None })
    (cond ends (record txn { done = txn.done ++ walk.statement ∷ []; current = None })
    (record txn { current = Some (record { statement = walk.statement; cursor = plan.after }) }))

pub moved_owner : (txn : Txn) (walk : Walk) (plan : Plan) → (moved txn walk plan).owner.0 ≡ txn.owner.0
moved_owner txn walk plan = at (is_duplicate txn.part walk.statement plan) plan.ends
  where
    at : (refused ends : Bool) → (moved_by refused ends txn walk plan).owner.0 ≡ txn.owner.0
    at true ends = refl
    at false true = refl
    at false false = refl

pub moved_clients : (txn : Txn) (walk : Walk) (plan : Plan) → OfClients txn → IsClients walk.statement → OfClients (moved txn walk plan)
moved_clients txn walk plan of is = at (is_duplicate txn.part walk.statement plan) plan.ends
  where
    at : (refused ends : Bool) → OfClients (moved_by refused ends txn walk plan)
    at true ends = record { done = of.done; current = tt }
    at false true = record { done = all_more IsClients txn.done walk.statement of.done is; current = tt }
    at false false = record { done = of.done; current = is }
