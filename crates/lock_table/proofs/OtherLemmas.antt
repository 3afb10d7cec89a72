-- What the other owners' holdings say of all: an owner's own exclude nothing of its, and are no foreign keys.
use Rattle.std.proofs.Common.{◌≡◌, ◌∙◌, ℕ, zero, suc, ◌<◌, ◌≤◌, ◌==◌, ◌&&◌, min, Bool, true, false, not, cond, List, [], ◌∷◌, ◌++◌, Option, None, Some, length, take, drop, get_or, refl, ap, sym, subst, arith}
use Rattle.std.specs.Prelude.{filter}
use Rattle.std.specs.List.{AllByRecursion}
use Rattle.std.proofs.lemmas.List.{take-append-drop}
use Rattle.std.proofs.lemmas.List.Elements.{filter-append}
use Rattle.row_types.specs.declared.values.Value.{Value}
use Rattle.row_types.specs.declared.edges.Edge.{Edge}
use Rattle.lock_table.specs.declared.wants.Want.{Want}
use Rattle.lock_table.specs.declared.wants.Want.TheVariants.{OnKey, OnGap, InsertAt}
use Rattle.lock_table.specs.declared.wants.Holding.{Holding}
use Rattle.lock_table.specs.Stops.{least_key_past, greatest_key_before}
use Rattle.lock_table.specs.FoundKeys.{lesser_of, greater_of}
use Rattle.lock_table.specs.Locks.{is_foreign, is_excluded_by, excludes, lesser_owner, least_owner, excluder, with_locked_key, foreign_keys, IsUpToEach, IsByOwner}
use Rattle.lock_table.specs.Places.{IsStartOf, IsEndOf, AreOthers}
use Rattle.lock_table.proofs.HoldLemmas.{is_number}
use Rattle.lock_table.proofs.LeastLemmas.{least_joined, greatest_joined}

-- parts of holdings by ascending owner

each_front : (P : Holding → Type 0) (n : ℕ) (held : List Holding) → AllByRecursion P held → AllByRecursion P (take n held)
each_front P zero held each = tt
each_front P (suc n) [] each = tt
each_front P (suc n) (holding ∷ held) each = (each.0, each_front P n held each.1)

pub front_by_owner : (n : ℕ) (held : List Holding) → IsByOwner held → IsByOwner (take n held)
front_by_owner zero held sorted = tt
front_by_owner (suc n) [] sorted = tt
front_by_owner (suc n) (holding ∷ held) sorted = (each_front (λ (other : Holding). holding.owner.0 ≤ other.owner.0) n held sorted.0, front_by_owner n held sorted.1)

back_by_owner : (n : ℕ) (held : List Holding) → IsByOwner held → IsByOwner (drop n held)
back_by_owner zero held sorted = sorted
back_by_owner (suc n) [] sorted = tt
back_by_owner (suc n) (holding ∷ held) sorted = back_by_owner n held sorted.1

none_at : (P : Holding → Type 0) (n : ℕ) → AllByRecursion P (drop n [])
none_at P zero = tt
none_at P (suc n) = tt

same_owner : (a b : ℕ) → a ≤ b → b ≤ a → a ≡ b
same_owner a b below above = omega (arith, below, above)

owned : (owner : ℕ) (held : List Holding) (end start : ℕ) → ((k : ℕ) (d : Holding) → k < end → (get_or held k d).owner.0 ≤ owner)
    → ((k : ℕ) (d : Holding) → start ≤ k → k < length (take end held) → owner ≤ (get_or (take end held) k d).owner.0)
    → AllByRecursion (λ (holding : Holding). holding.owner.0 ≡ owner) (drop start (take end held))
owned owner held zero start before behind = none_at (λ (holding : Holding). holding.owner.0 ≡ owner) start
owned owner [] (suc end) start before behind = none_at (λ (holding : Holding). holding.owner.0 ≡ owner) start
owned owner (holding ∷ held) (suc end) zero before behind = (
  same_owner holding.owner.0 owner (before 0 holding (omega arith)) (behind 0 holding (omega arith) (omega arith)),
  owned owner held end zero (λ k d h. before (suc k) d (omega arith)) (λ k d h w. behind (suc k) d (omega arith) (omega arith)),
)
owned owner (holding ∷ held) (suc end) (suc start) before behind =
    owned owner held end start (λ k d h. before (suc k) d (omega arith)) (λ k d h w. behind (suc k) d (omega arith) (omega arith))

append_assoc : (xs ys zs : List Holding) → (xs ++ ys) ++ zs ≡ xs ++ (ys ++ zs)
append_assoc [] ys zs = refl
append_assoc (x ∷ xs) ys zs = ap (λ (rest : List Holding). x ∷ rest) (append_assoc xs ys zs)

pub others_are : (owner : ℕ) (held : List Holding) (end start : ℕ) → IsByOwner held → IsEndOf owner held end → IsStartOf owner (take end held) start
    → AreOthers owner held (take start (take end held)) (drop end held)
others_are owner held end start sorted is_end is_start = record {
  own = drop start (take end held);
  whole =
      sym (take-append-drop end held) ∙ ap (λ (front : List Holding). front ++ drop end held) (sym (take-append-drop start (take end held)))
      ∙ append_assoc (take start (take end held)) (drop start (take end held)) (drop end held);
  by_owner = sorted;
  lesser_by_owner = front_by_owner start (take end held) (front_by_owner end held sorted);
  greater_by_owner = back_by_owner end held sorted;
  owned = owned owner held end start is_end.before is_start.behind;
}

-- the least excluder

not_itself : (b : Bool) → b ≡ true → (other : Bool) → not b && other ≡ false
not_itself b is other = ap (λ (c : Bool). not c && other) is

own_excludes_none : (owner table : ℕ) (want : Want) (own : List Holding) → AllByRecursion (λ (holding : Holding). holding.owner.0 ≡ owner) own → filter (excludes owner table want) own ≡ []
own_excludes_none owner table want [] each = refl
own_excludes_none owner table want (holding ∷ own) each =
    ap (λ (b : Bool). cond (b && is_excluded_by want holding.want) (holding ∷ filter (excludes owner table want) own) (filter (excludes owner table want) own))
    (not_itself (holding.owner.0 == owner) (is_number holding.owner.0 owner each.0) (holding.table == table))
    ∙ own_excludes_none owner table want own each.1

excluding_others : (owner table : ℕ) (want : Want) (held lesser greater : List Holding) → AreOthers owner held lesser greater
    → filter (excludes owner table want) held ≡ filter (excludes owner table want) lesser ++ filter (excludes owner table want) greater
excluding_others owner table want held lesser greater are =
    ap (filter (excludes owner table want)) are.whole
    ∙ filter-append (excludes owner table want) lesser (are.own ++ greater)
    ∙ ap (λ (rest : List Holding). filter (excludes owner table want) lesser ++ rest)
    (filter-append (excludes owner table want) are.own greater
    ∙ ap (λ (rest : List Holding). rest ++ filter (excludes owner table want) greater) (own_excludes_none owner table want are.own are.owned))

each_passing : (P : Holding → Type 0) (test : Holding → Bool) (held : List Holding) → AllByRecursion P held → AllByRecursion P (filter test held)
each_passing P test [] each = tt
each_passing P test (holding ∷ held) each = at (test holding) (each_passing P test held each.1)
  where
    at : (b : Bool) → AllByRecursion P (filter test held) → AllByRecursion P (cond b (holding ∷ filter test held) (filter test held))
    at true more = (each.0, more)
    at false more = more

passing_by_owner : (test : Holding → Bool) (held : List Holding) → IsByOwner held → IsByOwner (filter test held)
passing_by_owner test [] sorted = tt
passing_by_owner test (holding ∷ held) sorted = at (test holding) (passing_by_owner test held sorted.1)
  where
    at : (b : Bool) → IsByOwner (filter test held) → IsByOwner (cond b (holding ∷ filter test held) (filter test held))
    at true more = (each_passing (λ (other : Holding). holding.owner.0 ≤ other.owner.0) test held sorted.0, more)
    at false more = more

least_of_two : (m n : ℕ) → m ≤ n → min n m ≡ m
least_of_two m n h = grind arith

-- where no owner is less than the one found, this is the least
least_stays : (owner : ℕ) (held : List Holding) → IsUpToEach owner held → least_owner (Some owner) held ≡ Some owner
least_stays owner [] each = refl
least_stays owner (holding ∷ held) each =
    ap (λ (m : ℕ). least_owner (Some m) held) (least_of_two owner holding.owner.0 each.0) ∙ least_stays owner held each.1

-- of holdings by ascending owner the first one's is the least
least_is_first : (held more : List Holding) (by : ℕ) → IsByOwner (held ++ more) → least_owner None held ≡ Some by → least_owner None (held ++ more) ≡ Some by
least_is_first [] more by sorted is = cc
least_is_first (holding ∷ held) more by sorted is =
    least_stays holding.owner.0 (held ++ more) sorted.0 ∙ sym (least_stays holding.owner.0 held (each_of_front held sorted.0)) ∙ is
  where
    each_of_front : (xs : List Holding) → IsUpToEach holding.owner.0 (xs ++ more) → IsUpToEach holding.owner.0 xs
    each_of_front [] each = tt
    each_of_front (x ∷ xs) each = (each.0, each_of_front xs each.1)

none_first : (held more : List Holding) → least_owner None held ≡ None → least_owner None (held ++ more) ≡ least_owner None more
none_first [] more none = refl
none_first (holding ∷ held) more none = absurd (still (Some holding.owner.0) held (λ e. let q : Some holding.owner.0 ≡ None = e in cc) none)
  where
    still : (least : Option ℕ) (xs : List Holding) → (least ≡ None → ⊥) → least_owner least xs ≡ None → ⊥
    still least [] some e = some e
    still least (x ∷ xs) some e = still (lesser_owner x.owner.0 least) xs (found x.owner.0 least) e
      where
        found : (owner : ℕ) (o : Option ℕ) → lesser_owner owner o ≡ None → ⊥
        found owner None f = cc
        found owner (Some other) f = cc

pub excluder_first : (owner table : ℕ) (want : Want) (held lesser greater : List Holding) (by : ℕ) → AreOthers owner held lesser greater
    → excluder owner table want lesser ≡ Some by → excluder owner table want held ≡ Some by
excluder_first owner table want held lesser greater by are is =
    ap (least_owner None) (excluding_others owner table want held lesser greater are)
    ∙ least_is_first (filter (excludes owner table want) lesser) (filter (excludes owner table want) greater) by
    (subst IsByOwner (excluding_others owner table want held lesser greater are) (passing_by_owner (excludes owner table want) held are.by_owner)) is

pub excluder_behind : (owner table : ℕ) (want : Want) (held lesser greater : List Holding) → AreOthers owner held lesser greater
    → excluder owner table want lesser ≡ None → excluder owner table want held ≡ excluder owner table want greater
excluder_behind owner table want held lesser greater are none =
    ap (least_owner None) (excluding_others owner table want held lesser greater are)
    ∙ none_first (filter (excludes owner table want) lesser) (filter (excludes owner table want) greater) none

-- for the loop: the first holding that excludes the want has the least owner
pub first_excludes : (owner table : ℕ) (want : Want) (holding : Holding) (held : List Holding) → IsByOwner (holding ∷ held) → excludes owner table want holding ≡ true
    → excluder owner table want (holding ∷ held) ≡ Some holding.owner.0
first_excludes owner table want holding held sorted is =
    ap (λ (b : Bool). least_owner None (cond b (holding ∷ filter (excludes owner table want) held) (filter (excludes owner table want) held))) is
    ∙ least_stays holding.owner.0 (filter (excludes owner table want) held) (each_passing (λ (other : Holding). holding.owner.0 ≤ other.owner.0) (excludes owner table want) held sorted.0)

-- foreign keys

keys_put : (want : Want) (keys more : List (List Value)) → with_locked_key want (keys ++ more) ≡ with_locked_key want keys ++ more
keys_put (OnKey key mode) keys more = refl
keys_put (OnGap span) keys more = refl
keys_put (InsertAt key) keys more = refl

keys_joined : (owner table : ℕ) (xs ys : List Holding) → foreign_keys owner table (xs ++ ys) ≡ foreign_keys owner table xs ++ foreign_keys owner table ys
keys_joined owner table [] ys = refl
keys_joined owner table (x ∷ xs) ys = at (is_foreign owner table x) (keys_joined owner table xs ys)
  where
    at : (b : Bool) → foreign_keys owner table (xs ++ ys) ≡ foreign_keys owner table xs ++ foreign_keys owner table ys
        → cond b (with_locked_key x.want (foreign_keys owner table (xs ++ ys))) (foreign_keys owner table (xs ++ ys))
        ≡ cond b (with_locked_key x.want (foreign_keys owner table xs)) (foreign_keys owner table xs) ++ foreign_keys owner table ys
    at true more = ap (with_locked_key x.want) more ∙ keys_put x.want (foreign_keys owner table xs) (foreign_keys owner table ys)
    at false more = more

own_keys_none : (owner table : ℕ) (own : List Holding) → AllByRecursion (λ (holding : Holding). holding.owner.0 ≡ owner) own → foreign_keys owner table own ≡ []
own_keys_none owner table [] each = refl
own_keys_none owner table (holding ∷ own) each =
    ap (λ (b : Bool). cond b (with_locked_key holding.want (foreign_keys owner table own)) (foreign_keys owner table own))
    (not_itself (holding.owner.0 == owner) (is_number holding.owner.0 owner each.0) (holding.table == table))
    ∙ own_keys_none owner table own each.1

keys_of_others : (owner table : ℕ) (held lesser greater : List Holding) → AreOthers owner held lesser greater
    → foreign_keys owner table held ≡ foreign_keys owner table lesser ++ foreign_keys owner table greater
keys_of_others owner table held lesser greater are =
    ap (foreign_keys owner table) are.whole
    ∙ keys_joined owner table lesser (are.own ++ greater)
    ∙ ap (λ (rest : List (List Value)). foreign_keys owner table lesser ++ rest)
    (keys_joined owner table are.own greater ∙ ap (λ (rest : List (List Value)). rest ++ foreign_keys owner table greater) (own_keys_none owner table are.own are.owned))

pub next_of_others : (owner table : ℕ) (edge : Edge) (held lesser greater : List Holding) → AreOthers owner held lesser greater
    → least_key_past edge (foreign_keys owner table held)
    ≡ lesser_of (least_key_past edge (foreign_keys owner table lesser)) (least_key_past edge (foreign_keys owner table greater))
next_of_others owner table edge held lesser greater are =
    ap (least_key_past edge) (keys_of_others owner table held lesser greater are) ∙ least_joined edge (foreign_keys owner table lesser) (foreign_keys owner table greater)

pub prev_of_others : (owner table : ℕ) (edge : Edge) (held lesser greater : List Holding) → AreOthers owner held lesser greater
    → greatest_key_before edge (foreign_keys owner table held)
    ≡ greater_of (greatest_key_before edge (foreign_keys owner table lesser)) (greatest_key_before edge (foreign_keys owner table greater))
prev_of_others owner table edge held lesser greater are =
    ap (greatest_key_before edge) (keys_of_others owner table held lesser greater are) ∙ greatest_joined edge (foreign_keys owner table lesser) (foreign_keys owner table greater)
