-- What the least excluder is, and that locks which are taken while nobody excludes them go together.
use Rattle.std.proofs.Common.{◌≡◌, ◌≢◌, ◌⊎◌, ◌∙◌, inl, inr, ℕ, ◌≤◌, ◌&&◌, ◌||◌, ◌==◌, min, Bool, true, false, cond, List, [], ◌∷◌, Option, None, Some, refl, sym, ap, subst, arith}
use Rattle.std.specs.Prelude.{filter}
use Rattle.std.specs.Ordering.{is_eq, ordering_reverse}
use Rattle.std.specs.declared.cmp.Ordering.{Ordering}
use Rattle.std.specs.declared.cmp.Ordering.TheVariants.{Less, Equal, Greater}
use Rattle.row_types.specs.declared.values.Value.{Value}
use Rattle.row_types.specs.declared.lock_modes.LockMode.{LockMode}
use Rattle.row_types.specs.declared.lock_modes.LockMode.TheVariants.{Shared, Exclusive}
use Rattle.row_types.specs.Order.{key_cmp}
use Rattle.row_types.proofs.OrderLemmas.{keys_total}
use Rattle.lock_table.specs.declared.wants.Owner.{Owner}
use Rattle.lock_table.specs.declared.wants.Want.{Want}
use Rattle.lock_table.specs.declared.wants.Want.TheVariants.{OnKey, OnGap, InsertAt}
use Rattle.lock_table.specs.declared.wants.Holding.{Holding}
use Rattle.lock_table.specs.Locks.{is_same_key, is_exclusive, is_excluded_by, is_foreign, excludes, lesser_owner, least_owner, excluder, with_want, released, IsHolding, Holds, IsLock, AreLocks, AreCompatible}
use Rattle.lock_table.proofs.GapLemmas.{both_true}
use Rattle.lock_table.proofs.HoldLemmas.{number_is, number_apart, same_key_self, foreign_is, both_of, not_excluded, released_holds, holds_appended}

-- the owner that was found holds what excludes the want
record Excluding (owner table by : ℕ) (want : Want) (held : List Holding) : Type 0 where
  apart : by ≢ owner
  theirs : Want
  holds : Holds by table theirs held
  excludes_it : is_excluded_by want theirs ≡ true

deeper_excluding : (owner table by : ℕ) (want : Want) (holding : Holding) (held : List Holding) → Excluding owner table by want held → Excluding owner table by want (holding ∷ held)
deeper_excluding owner table by want holding held is = record { apart = is.apart; theirs = is.theirs; holds = inr is.holds; excludes_it = is.excludes_it }

excluding_here : (owner table by : ℕ) (want : Want) (holding : Holding) (held : List Holding) → excludes owner table want holding ≡ true → holding.owner.0 ≡ by → Excluding owner table by want (holding ∷ held)
excluding_here owner table by want holding held is same =
    let both = both_true (is_foreign owner table holding) (is_excluded_by want holding.want) is in
    let foreign = both_of (holding.owner.0 == owner) (holding.table == table) both.0 in
    record {
      apart = λ e. number_apart holding.owner.0 owner foreign.0 (same ∙ e);
      theirs = holding.want;
      holds = inl (same, number_is holding.table table foreign.1, refl);
      excludes_it = both.1;
    }

one_of_two : (m n by : ℕ) → Some (min m n) ≡ Some by → (m ≡ by) ⊎ (n ≡ by)
one_of_two m n by e = at (min m n) refl (some_is (min m n) by e)
  where
    some_is : (a b : ℕ) → Some a ≡ Some b → a ≡ b
    some_is a b f = cc

    at : (least : ℕ) → min m n ≡ least → least ≡ by → (m ≡ by) ⊎ (n ≡ by)
    at least is same = grind arith

lesser_is : (owner by : ℕ) (least : Option ℕ) → lesser_owner owner least ≡ Some by → (owner ≡ by) ⊎ (least ≡ Some by)
lesser_is owner by None e = inl (let same : owner ≡ by = cc in same)
lesser_is owner by (Some other) e = at (one_of_two owner other by e)
  where
    at : (owner ≡ by) ⊎ (other ≡ by) → (owner ≡ by) ⊎ (Some other ≡ Some by)
    at (inl same) = inl same
    at (inr same) = inr (ap Some same)

found : (owner table by : ℕ) (want : Want) (least : Option ℕ) (held : List Holding) → least_owner least (filter (excludes owner table want) held) ≡ Some by
    → (least ≡ Some by) ⊎ Excluding owner table by want held
found owner table by want least [] e = inl e
found owner table by want least (holding ∷ held) e = at (λ l f. found owner table by want l held f) (excludes owner table want holding) refl e
  where
    on : excludes owner table want holding ≡ true → (lesser_owner holding.owner.0 least ≡ Some by) ⊎ Excluding owner table by want held
        → (least ≡ Some by) ⊎ Excluding owner table by want (holding ∷ held)
    on is (inr deeper) = inr (deeper_excluding owner table by want holding held deeper)
    on is (inl lesser) = here (lesser_is holding.owner.0 by least lesser)
      where
        here : (holding.owner.0 ≡ by) ⊎ (least ≡ Some by) → (least ≡ Some by) ⊎ Excluding owner table by want (holding ∷ held)
        here (inl same) = inr (excluding_here owner table by want holding held is same)
        here (inr before) = inl before

    off : (least ≡ Some by) ⊎ Excluding owner table by want held → (least ≡ Some by) ⊎ Excluding owner table by want (holding ∷ held)
    off (inl before) = inl before
    off (inr deeper) = inr (deeper_excluding owner table by want holding held deeper)

    at : ((l : Option ℕ) → least_owner l (filter (excludes owner table want) held) ≡ Some by → (l ≡ Some by) ⊎ Excluding owner table by want held)
        → (b : Bool) → excludes owner table want holding ≡ b
        → least_owner least (cond b (holding ∷ filter (excludes owner table want) held) (filter (excludes owner table want) held)) ≡ Some by
        → (least ≡ Some by) ⊎ Excluding owner table by want (holding ∷ held)
    at more true is f = on is (more (lesser_owner holding.owner.0 least) f)
    at more false is f = off (more least f)

pub excluder_excludes : (owner table by : ℕ) (want : Want) (held : List Holding) → excluder owner table want held ≡ Some by
    → (by ≢ owner) × (theirs : Want) × Holds by table theirs held × (is_excluded_by want theirs ≡ true)
excluder_excludes owner table by want held e = at (found owner table by want None held e)
  where
    at : (None ≡ Some by) ⊎ Excluding owner table by want held → (by ≢ owner) × (theirs : Want) × Holds by table theirs held × (is_excluded_by want theirs ≡ true)
    at (inl none) = absurd (let q : None ≡ Some by = none in cc)
    at (inr is) = (is.apart, is.theirs, is.holds, is.excludes_it)

min_below : (a m by : ℕ) → by ≤ min a m → by ≤ m
min_below a m by h = grind arith

-- what is found is no greater than what was found before
up_to_found : (m by : ℕ) (held : List Holding) → least_owner (Some m) held ≡ Some by → by ≤ m
up_to_found m by [] e = let same : m ≡ by = cc in omega (arith, same)
up_to_found m by (holding ∷ held) e = min_below holding.owner.0 m by (up_to_found (min holding.owner.0 m) by held e)

min_first : (a m by : ℕ) → by ≤ min a m → by ≤ a
min_first a m by h = grind arith

up_to_here : (owner by : ℕ) (least : Option ℕ) (held : List Holding) → least_owner (lesser_owner owner least) held ≡ Some by → by ≤ owner
up_to_here owner by None held e = up_to_found owner by held e
up_to_here owner by (Some m) held e = min_first owner m by (up_to_found (min owner m) by held e)

least_of_each : (owner table by other : ℕ) (want theirs : Want) (least : Option ℕ) (held : List Holding) → least_owner least (filter (excludes owner table want) held) ≡ Some by
    → other ≢ owner → Holds other table theirs held → is_excluded_by want theirs ≡ true → by ≤ other
least_of_each owner table by other want theirs least [] e apart holds is = absurd holds
least_of_each owner table by other want theirs least (holding ∷ held) e apart holds is =
    at (λ l f h. least_of_each owner table by other want theirs l held f apart h is) (excludes owner table want holding) refl e holds
  where
    excluded_here : IsHolding other table theirs holding → excludes owner table want holding ≡ true
    excluded_here here = λ i. foreign_is owner other table theirs holding apart here i && (ap (is_excluded_by want) here.2 ∙ is) i

    at : ((l : Option ℕ) → least_owner l (filter (excludes owner table want) held) ≡ Some by → Holds other table theirs held → by ≤ other)
        → (b : Bool) → excludes owner table want holding ≡ b
        → least_owner least (cond b (holding ∷ filter (excludes owner table want) held) (filter (excludes owner table want) held)) ≡ Some by
        → IsHolding other table theirs holding ⊎ Holds other table theirs held → by ≤ other
    at more true test f (inl here) = subst (λ (o : ℕ). by ≤ o) here.0 (up_to_here holding.owner.0 by least (filter (excludes owner table want) held) f)
    at more true test f (inr deeper) = more (lesser_owner holding.owner.0 least) f deeper
    at more false test f (inl here) = absurd (let q : true ≡ false = sym (excluded_here here) ∙ test in cc)
    at more false test f (inr deeper) = more least f deeper

pub excluder_is_least : (owner table by other : ℕ) (want theirs : Want) (held : List Holding) → excluder owner table want held ≡ Some by
    → other ≢ owner → Holds other table theirs held → is_excluded_by want theirs ≡ true → by ≤ other
excluder_is_least owner table by other want theirs held e apart holds is = least_of_each owner table by other want theirs None held e apart holds is

-- locks that go together

pub held_is_lock : (owner table : ℕ) (want : Want) (held : List Holding) → AreLocks held → Holds owner table want held → IsLock want
held_is_lock owner table want [] are holds = absurd holds
held_is_lock owner table want (holding ∷ held) are (inl is) = subst IsLock is.2 are.0
held_is_lock owner table want (holding ∷ held) are (inr deeper) = held_is_lock owner table want held are.1 deeper

eq_turned : (o : Ordering) → is_eq (ordering_reverse o) ≡ is_eq o
eq_turned Less = refl
eq_turned Equal = refl
eq_turned Greater = refl

same_key_turned : (a b : List Value) → is_same_key b a ≡ is_same_key a b
same_key_turned a b = ap is_eq (keys_total.antisymm b a) ∙ eq_turned (key_cmp a b)

or_turned : (a b : Bool) → a || b ≡ b || a
or_turned true true = refl
or_turned true false = refl
or_turned false true = refl
or_turned false false = refl

turned : (ours theirs : Want) → IsLock ours → IsLock theirs → is_excluded_by ours theirs ≡ false → is_excluded_by theirs ours ≡ false
turned (OnKey key mode) (OnKey other other_mode) lock other_lock none =
    (λ i. same_key_turned key other i && or_turned (is_exclusive other_mode) (is_exclusive mode) i) ∙ none
turned (OnKey key mode) (OnGap span) lock other_lock none = refl
turned (OnKey key mode) (InsertAt other) lock other_lock none = absurd other_lock
turned (OnGap span) (OnKey other other_mode) lock other_lock none = refl
turned (OnGap span) (OnGap other) lock other_lock none = refl
turned (OnGap span) (InsertAt other) lock other_lock none = absurd other_lock
turned (InsertAt key) theirs lock other_lock none = absurd lock

pub taken_compatible : (owner : Owner) (table : ℕ) (want : Want) (held : List Holding) → AreLocks held → AreCompatible held → IsLock want → excluder owner.0 table want held ≡ None
    → AreCompatible (with_want owner table want held)
taken_compatible owner table want held locks compatible lock free a b number ours theirs apart ha hb =
    at (holds_appended a number ours held new ha) (holds_appended b number theirs held new hb)
  where
    new : Holding
    new = record { owner = owner; table = table; want = want }

    others : (c : ℕ) (wanted : Want) → c ≢ owner.0 → table ≡ number → Holds c number wanted held → is_excluded_by want wanted ≡ false
    others c wanted other same holds = not_excluded owner.0 c table want wanted held free other (subst (λ (t : ℕ). Holds c t wanted held) (sym same) holds)

    at : IsHolding a number ours new ⊎ Holds a number ours held → IsHolding b number theirs new ⊎ Holds b number theirs held → is_excluded_by ours theirs ≡ false
    at (inl here) (inl there) = absurd (apart (sym here.0 ∙ there.0))
    at (inl here) (inr deeper) = ap (λ (w : Want). is_excluded_by w theirs) (sym here.2) ∙ others b theirs (λ e. apart (sym here.0 ∙ sym e)) here.1 deeper
    at (inr deeper) (inl there) =
        ap (is_excluded_by ours) (sym there.2)
        ∙ turned want ours lock (held_is_lock a number ours held locks deeper) (others a ours (λ e. apart (e ∙ there.0)) there.1 deeper)
    at (inr deeper) (inr more) = compatible a b number ours theirs apart deeper more

pub released_compatible : (owner : ℕ) (held : List Holding) → AreCompatible held → AreCompatible (released owner held)
released_compatible owner held compatible a b table ours theirs apart ha hb =
    compatible a b table ours theirs apart (released_holds owner a table ours held ha).0 (released_holds owner b table theirs held hb).0

pub empty_compatible : AreCompatible []
empty_compatible a b table ours theirs apart ha hb = absurd ha

pub alone_on_key : (a b table : ℕ) (key : List Value) (mode : LockMode) (held : List Holding) → AreCompatible held → a ≢ b
    → Holds a table (OnKey key Exclusive) held → Holds b table (OnKey key mode) held → ⊥
alone_on_key a b table key mode held compatible apart ha hb =
    let f : is_same_key key key && true ≡ false = compatible a b table (OnKey key Exclusive) (OnKey key mode) apart ha hb in
    let q : true ≡ false = sym (λ i. same_key_self key i && true) ∙ f in cc
