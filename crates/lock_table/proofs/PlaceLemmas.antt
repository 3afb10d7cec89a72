-- Holdings by ascending owner: where an owner's end, and that they stay so.
use Rattle.std.proofs.Common.{◌≡◌, ◌∙◌, ℕ, zero, suc, ◌<◌, ◌≤◌, leb, leb-true, leb-false, Bool, true, false, not, cond, List, [], ◌∷◌, length, get_or, refl, ap, sym, arith}
use Rattle.std.specs.Prelude.{filter, ◌==◌}
use Rattle.std.specs.List.{insert, AllByRecursion}
use Rattle.std.specs.List.Sorted.{IsNonDecreasingBy}
use Rattle.std.proofs.lemmas.Bool.Decides.{nat_tests}
use Rattle.lock_table.specs.declared.wants.Holding.{Holding}
use Rattle.lock_table.specs.Locks.{with_holding, released, IsLock, AreLocks, IsUpToEach, IsByOwner}
use Rattle.lock_table.specs.Places.{IsEndOf}

owner_at : (owner : ℕ) (held : List Holding) (j : ℕ) (d : Holding) → IsUpToEach owner held → j < length held → owner ≤ (get_or held j d).owner.0
owner_at owner [] j d each within = absurd (omega arith)
owner_at owner (holding ∷ held) zero d each within = each.0
owner_at owner (holding ∷ held) (suc j) d each within = owner_at owner held j d each.1 (omega arith)

pub owners_rise : (held : List Holding) → IsByOwner held → IsNonDecreasingBy (λ (holding : Holding). holding.owner.0) held
owners_rise [] sorted i j d le within = absurd (omega arith)
owners_rise (holding ∷ held) sorted zero zero d le within = omega arith
owners_rise (holding ∷ held) sorted zero (suc j) d le within = owner_at holding.owner.0 held j d sorted.0 (omega arith)
owners_rise (holding ∷ held) sorted (suc i) zero d le within = absurd (omega arith)
owners_rise (holding ∷ held) sorted (suc i) (suc j) d le within = owners_rise held sorted.1 i j d (omega arith) (omega arith)

up_to_is : (m n : ℕ) → m ≤ n → leb m n ≡ true
up_to_is m n h = grind (arith, nat_tests)

past_is : (m n : ℕ) → n < m → leb m n ≡ false
past_is m n h = grind (arith, nat_tests)

-- a holding more goes in where its owner's end
pub put_at_end : (holding : Holding) (held : List Holding) (index : ℕ) → IsEndOf holding.owner.0 held index → insert held index holding ≡ with_holding holding held
put_at_end holding [] zero end = refl
put_at_end holding [] (suc index) end = let within = end.within in absurd (omega (arith, within))
put_at_end holding (other ∷ others) zero end =
    sym (ap (λ (b : Bool). cond b (other ∷ with_holding holding others) (holding ∷ other ∷ others)) (past_is other.owner.0 holding.owner.0 (end.behind 0 other (omega arith) (omega arith))))
put_at_end holding (other ∷ others) (suc index) end =
    ap (λ (rest : List Holding). other ∷ rest) (put_at_end holding others index (record {
      within = let within = end.within in omega (arith, within);
      before = λ k d h. end.before (suc k) d (omega arith);
      behind = λ k d h w. end.behind (suc k) d (omega arith) (omega arith);
    }))
    ∙ sym (ap (λ (b : Bool). cond b (other ∷ with_holding holding others) (holding ∷ other ∷ others)) (up_to_is other.owner.0 holding.owner.0 (end.before 0 other (omega arith))))

-- what holds of each, and of the one that is put in, holds of all
pub each_with : (P : Holding → Type 0) (holding : Holding) (held : List Holding) → P holding → AllByRecursion P held → AllByRecursion P (with_holding holding held)
each_with P holding [] here each = (here, tt)
each_with P holding (other ∷ others) here each = at (leb other.owner.0 holding.owner.0) (each_with P holding others here each.1)
  where
    at : (b : Bool) → AllByRecursion P (with_holding holding others) → AllByRecursion P (cond b (other ∷ with_holding holding others) (holding ∷ other ∷ others))
    at true more = (each.0, more)
    at false more = (here, each)

pub each_left : (P : Holding → Type 0) (owner : ℕ) (held : List Holding) → AllByRecursion P held → AllByRecursion P (released owner held)
each_left P owner [] each = tt
each_left P owner (holding ∷ held) each = at (holding.owner.0 == owner) (each_left P owner held each.1)
  where
    at : (b : Bool) → AllByRecursion P (released owner held) → AllByRecursion P (cond (not b) (holding ∷ released owner held) (released owner held))
    at true more = more
    at false more = (each.0, more)

up_from : (m n : ℕ) (held : List Holding) → m ≤ n → IsUpToEach n held → IsUpToEach m held
up_from m n [] h each = tt
up_from m n (holding ∷ held) h each = (let first = each.0 in omega (arith, h, first), up_from m n held h each.1)

pub with_by_owner : (holding : Holding) (held : List Holding) → IsByOwner held → IsByOwner (with_holding holding held)
with_by_owner holding [] sorted = (tt, tt)
with_by_owner holding (other ∷ others) sorted = at (leb other.owner.0 holding.owner.0) refl (with_by_owner holding others sorted.1)
  where
    at : (b : Bool) → leb other.owner.0 holding.owner.0 ≡ b → IsByOwner (with_holding holding others) → IsByOwner (cond b (other ∷ with_holding holding others) (holding ∷ other ∷ others))
    at true e more = (each_with (λ (h : Holding). other.owner.0 ≤ h.owner.0) holding others (leb-true other.owner.0 holding.owner.0 e) sorted.0, more)
    at false e more =
        let below = leb-false other.owner.0 holding.owner.0 e in
        ((omega (arith, below), up_from holding.owner.0 other.owner.0 others (omega (arith, below)) sorted.0), sorted)

pub left_by_owner : (owner : ℕ) (held : List Holding) → IsByOwner held → IsByOwner (released owner held)
left_by_owner owner [] sorted = tt
left_by_owner owner (holding ∷ held) sorted = at (holding.owner.0 == owner) (left_by_owner owner held sorted.1)
  where
    at : (b : Bool) → IsByOwner (released owner held) → IsByOwner (cond (not b) (holding ∷ released owner held) (released owner held))
    at true more = more
    at false more = (each_left (λ (h : Holding). holding.owner.0 ≤ h.owner.0) owner held sorted.0, more)
