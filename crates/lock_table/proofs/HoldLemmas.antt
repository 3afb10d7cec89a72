-- Who holds what: exclusion, other owners' keys, release.
use Rattle.std.proofs.Common.{◌≡◌, ◌≢◌, ◌⊎◌, inl, inr, ℕ, List, [], ◌∷◌, ◌&&◌, ◌||◌, ◌==◌, leb, Bool, true, false, not, cond, Option, None, Some, refl, sym, ap, subst, ◌∙◌}
use Rattle.std.specs.Prelude.{filter}
use Rattle.std.proofs.lemmas.Bool.Decides.{Decides-eqb}
use Rattle.std.specs.Ordering.{is_eq}
use Rattle.std.specs.declared.cmp.Ordering.{Ordering}
use Rattle.std.specs.declared.cmp.Ordering.TheVariants.{Less, Equal, Greater}
use Rattle.row_types.specs.declared.values.Value.{Value}
use Rattle.row_types.specs.declared.lock_modes.LockMode.{LockMode}
use Rattle.row_types.specs.declared.lock_modes.LockMode.TheVariants.{Shared, Exclusive}
use Rattle.row_types.specs.declared.edges.Span.{Span}
use Rattle.row_types.specs.Order.{key_cmp, has}
use Rattle.row_types.proofs.OrderLemmas.{keys_exact, key_ties}
use Rattle.lock_table.proofs.GapLemmas.{both_true}
use Rattle.lock_table.specs.declared.wants.Want.{Want}
use Rattle.lock_table.specs.declared.wants.Want.TheVariants.{OnKey, OnGap, InsertAt}
use Rattle.lock_table.specs.declared.wants.Holding.{Holding}
use Rattle.lock_table.specs.Stops.{IsAmong}
use Rattle.lock_table.specs.Locks.{is_same_key, is_exclusive, is_excluded_by, is_foreign, excludes, lesser_owner, least_owner, excluder, with_locked_key, foreign_keys, locked_keys, with_holding, released, is_alone_on, exclusive_owner, IsHolding, Holds}

pub same_key_is : (a b : List Value) → is_same_key a b ≡ true → a ≡ b
same_key_is a b h = keys_exact a b (tie (key_cmp a b) h)
  where
    tie : (o : Ordering) → is_eq o ≡ true → o ≡ Equal
    tie Less e = cc
    tie Equal e = refl
    tie Greater e = cc

pub same_key_self : (a : List Value) → is_same_key a a ≡ true
same_key_self a = ap is_eq (key_ties a)

pub is_number : (a b : ℕ) → a ≡ b → (a == b) ≡ true
is_number a b same = (Decides-eqb a b).1 same

pub number_is : (a b : ℕ) → (a == b) ≡ true → a ≡ b
number_is a b e = (Decides-eqb a b).0 e

pub other_number : (a b : ℕ) → a ≢ b → (a == b) ≡ false
other_number a b apart = at (a == b) refl
  where
    at : (t : Bool) → (a == b) ≡ t → t ≡ false
    at true e = absurd (apart (number_is a b e))
    at false e = refl

pub number_apart : (a b : ℕ) → (a == b) ≡ false → a ≢ b
number_apart a b e same = let q : true ≡ false = sym (is_number a b same) ∙ e in cc

pub same_or_apart : (a b : ℕ) → (a ≡ b) ⊎ (a ≢ b)
same_or_apart a b = at (a == b) refl
  where
    at : (t : Bool) → (a == b) ≡ t → (a ≡ b) ⊎ (a ≢ b)
    at true e = inl (number_is a b e)
    at false e = inr (number_apart a b e)

-- another owner's holding on the table is foreign
pub foreign_is : (owner other table : ℕ) (want : Want) (holding : Holding) → other ≢ owner → IsHolding other table want holding → is_foreign owner table holding ≡ true
foreign_is owner other table want holding apart is =
    (λ i. not (other_number holding.owner.0 owner (λ e. apart (sym is.0 ∙ e)) i) && is_number holding.table table is.1 i)

-- where nobody excludes a want, what another owner holds does not
lesser_is_one : (owner : ℕ) (least : Option ℕ) → lesser_owner owner least ≡ None → ⊥
lesser_is_one owner None e = cc
lesser_is_one owner (Some other) e = cc

no_owner : (least : Option ℕ) (held : List Holding) → least_owner least held ≡ None → (least ≡ None) × (held ≡ [])
no_owner least [] e = (e, refl)
no_owner least (holding ∷ held) e = absurd (lesser_is_one holding.owner.0 least (no_owner (lesser_owner holding.owner.0 least) held e).0)

none_excludes : (owner other table : ℕ) (want theirs : Want) (held : List Holding) → filter (excludes owner table want) held ≡ []
    → other ≢ owner → Holds other table theirs held → is_excluded_by want theirs ≡ false
none_excludes owner other table want theirs [] none apart holds = absurd holds
none_excludes owner other table want theirs (holding ∷ held) none apart holds = at (excludes owner table want holding) refl none holds (λ rest h. none_excludes owner other table want theirs held rest apart h)
  where
    at : (b : Bool) → excludes owner table want holding ≡ b → cond b (holding ∷ filter (excludes owner table want) held) (filter (excludes owner table want) held) ≡ []
        → IsHolding other table theirs holding ⊎ Holds other table theirs held
        → (filter (excludes owner table want) held ≡ [] → Holds other table theirs held → is_excluded_by want theirs ≡ false) → is_excluded_by want theirs ≡ false
    at true e rest h more = absurd (let q : holding ∷ filter (excludes owner table want) held ≡ [] = rest in cc)
    at false e rest (inl is) more = ap (is_excluded_by want) (sym is.2) ∙ sym (ap (λ (b : Bool). b && is_excluded_by want holding.want) (foreign_is owner other table theirs holding apart is)) ∙ e
    at false e rest (inr h) more = more rest h

pub not_excluded : (owner other table : ℕ) (want theirs : Want) (held : List Holding) → excluder owner table want held ≡ None
    → other ≢ owner → Holds other table theirs held → is_excluded_by want theirs ≡ false
not_excluded owner other table want theirs held none apart holds =
    none_excludes owner other table want theirs held (no_owner None (filter (excludes owner table want) held) none).1 apart holds

pub shut_key : (a b table : ℕ) (key : List Value) (mode other : LockMode) (held : List Holding) → excluder a table (OnKey key mode) held ≡ None → b ≢ a
    → is_exclusive mode || is_exclusive other ≡ true → Holds b table (OnKey key other) held → ⊥
shut_key a b table key mode other held none apart strong holds =
    let f : is_same_key key key && (is_exclusive mode || is_exclusive other) ≡ false = not_excluded a b table (OnKey key mode) (OnKey key other) held none apart holds in
    let g : is_same_key key key && (is_exclusive mode || is_exclusive other) ≡ true = λ i. same_key_self key i && strong i in
    let q : true ≡ false = sym g ∙ f in cc

pub shut_insert_key : (a b table : ℕ) (key : List Value) (other : LockMode) (held : List Holding) → excluder a table (InsertAt key) held ≡ None → b ≢ a
    → Holds b table (OnKey key other) held → ⊥
shut_insert_key a b table key other held none apart holds =
    let f : is_same_key key key ≡ false = not_excluded a b table (InsertAt key) (OnKey key other) held none apart holds in
    let q : true ≡ false = sym (same_key_self key) ∙ f in cc

pub shut_insert_gap : (a b table : ℕ) (key : List Value) (span : Span) (held : List Holding) → excluder a table (InsertAt key) held ≡ None → b ≢ a
    → has span key ≡ true → Holds b table (OnGap span) held → ⊥
shut_insert_gap a b table key span held none apart over holds =
    let f : has span key ≡ false = not_excluded a b table (InsertAt key) (OnGap span) held none apart holds in
    let q : true ≡ false = sym over ∙ f in cc

-- keys that are locked

more_locked : (want : Want) (key : List Value) (keys : List (List Value)) → IsAmong key keys → IsAmong key (with_locked_key want keys)
more_locked (OnKey other mode) key keys there = inr there
more_locked (OnGap span) key keys there = there
more_locked (InsertAt other) key keys there = there

pub foreign_among : (owner other table : ℕ) (key : List Value) (mode : LockMode) (held : List Holding) → other ≢ owner → Holds other table (OnKey key mode) held
    → IsAmong key (foreign_keys owner table held)
foreign_among owner other table key mode [] apart holds = absurd holds
foreign_among owner other table key mode (holding ∷ held) apart (inl is) =
    subst (IsAmong key) (sym (ap (λ (b : Bool). cond b (with_locked_key holding.want (foreign_keys owner table held)) (foreign_keys owner table held)) (foreign_is owner other table (OnKey key mode) holding apart is)))
    (subst (λ (want : Want). IsAmong key (with_locked_key want (foreign_keys owner table held))) (sym is.2) (inl refl))
foreign_among owner other table key mode (holding ∷ held) apart (inr more) =
    at (is_foreign owner table holding) (foreign_among owner other table key mode held apart more)
  where
    at : (b : Bool) → IsAmong key (foreign_keys owner table held) → IsAmong key (cond b (with_locked_key holding.want (foreign_keys owner table held)) (foreign_keys owner table held))
    at true there = more_locked holding.want key (foreign_keys owner table held) there
    at false there = there

pub locked_among : (owner table : ℕ) (key : List Value) (mode : LockMode) (held : List Holding) → Holds owner table (OnKey key mode) held → IsAmong key (locked_keys table held)
locked_among owner table key mode [] holds = absurd holds
locked_among owner table key mode (holding ∷ held) (inl is) =
    subst (IsAmong key) (sym (ap (λ (b : Bool). cond b (with_locked_key holding.want (locked_keys table held)) (locked_keys table held)) (is_number holding.table table is.1)))
    (subst (λ (want : Want). IsAmong key (with_locked_key want (locked_keys table held))) (sym is.2) (inl refl))
locked_among owner table key mode (holding ∷ held) (inr more) =
    at (holding.table == table) (locked_among owner table key mode held more)
  where
    at : (b : Bool) → IsAmong key (locked_keys table held) → IsAmong key (cond b (with_locked_key holding.want (locked_keys table held)) (locked_keys table held))
    at true there = more_locked holding.want key (locked_keys table held) there
    at false there = there

-- another owner has a lock on the key
pub record LockedByOther (owner table : ℕ) (key : List Value) (held : List Holding) : Type 0 where
  pub other : ℕ
  pub mode : LockMode
  pub apart : other ≢ owner
  pub holds : Holds other table (OnKey key mode) held

by_deeper : (owner table : ℕ) (key : List Value) (holding : Holding) (held : List Holding) → LockedByOther owner table key held → LockedByOther owner table key (holding ∷ held)
by_deeper owner table key holding held by = record { other = by.other; mode = by.mode; apart = by.apart; holds = inr by.holds }

by_here : (owner table : ℕ) (key : List Value) (holding : Holding) (held : List Holding) (want : Want) → holding.want ≡ want → holding.owner.0 ≢ owner → holding.table ≡ table
    → (IsAmong key (foreign_keys owner table held) → LockedByOther owner table key held) → IsAmong key (with_locked_key want (foreign_keys owner table held)) → LockedByOther owner table key (holding ∷ held)
by_here owner table key holding held (OnKey other mode) is apart on more (inl same) = record {
  other = holding.owner.0;
  mode = mode;
  apart = apart;
  holds = inl (refl, on, is ∙ ap (λ (k : List Value). OnKey k mode) same);
}
by_here owner table key holding held (OnKey other mode) is apart on more (inr there) = by_deeper owner table key holding held (more there)
by_here owner table key holding held (OnGap span) is apart on more there = by_deeper owner table key holding held (more there)
by_here owner table key holding held (InsertAt other) is apart on more there = by_deeper owner table key holding held (more there)

pub both_of : (p q : Bool) → not p && q ≡ true → (p ≡ false) × (q ≡ true)
both_of true q e = cc
both_of false true e = (refl, refl)
both_of false false e = cc

pub foreign_is_held : (owner table : ℕ) (key : List Value) (held : List Holding) → IsAmong key (foreign_keys owner table held) → LockedByOther owner table key held
foreign_is_held owner table key [] there = absurd there
foreign_is_held owner table key (holding ∷ held) there = at (λ t. foreign_is_held owner table key held t) (is_foreign owner table holding) refl there
  where
    at : (IsAmong key (foreign_keys owner table held) → LockedByOther owner table key held) → (b : Bool) → is_foreign owner table holding ≡ b
        → IsAmong key (cond b (with_locked_key holding.want (foreign_keys owner table held)) (foreign_keys owner table held)) → LockedByOther owner table key (holding ∷ held)
    at more true is t =
        let both = both_of (holding.owner.0 == owner) (holding.table == table) is in
        by_here owner table key holding held holding.want refl (number_apart holding.owner.0 owner both.0) (number_is holding.table table both.1) more t
    at more false is t = by_deeper owner table key holding held (more t)

-- release

deeper_released : (owner other table : ℕ) (want : Want) (holding : Holding) (held : List Holding) → Holds other table want held × (other ≢ owner)
    → Holds other table want (holding ∷ held) × (other ≢ owner)
deeper_released owner other table want holding held both = (inr both.0, both.1)

pub released_holds : (owner other table : ℕ) (want : Want) (held : List Holding) → Holds other table want (released owner held) → Holds other table want held × (other ≢ owner)
released_holds owner other table want [] holds = absurd holds
released_holds owner other table want (holding ∷ held) holds = at (λ h. released_holds owner other table want held h) (holding.owner.0 == owner) refl holds
  where
    at : (Holds other table want (released owner held) → Holds other table want held × (other ≢ owner)) → (b : Bool) → (holding.owner.0 == owner) ≡ b
        → Holds other table want (cond (not b) (holding ∷ released owner held) (released owner held)) → Holds other table want (holding ∷ held) × (other ≢ owner)
    at more true is h = deeper_released owner other table want holding held (more h)
    at more false is (inl here) = (inl here, λ same. number_apart holding.owner.0 owner is (here.0 ∙ same))
    at more false is (inr h) = deeper_released owner other table want holding held (more h)

pub still_holds : (owner other table : ℕ) (want : Want) (held : List Holding) → other ≢ owner → Holds other table want held → Holds other table want (released owner held)
still_holds owner other table want [] apart holds = absurd holds
still_holds owner other table want (holding ∷ held) apart (inl is) =
    subst (Holds other table want) (sym (ap (λ (b : Bool). cond (not b) (holding ∷ released owner held) (released owner held)) (other_number holding.owner.0 owner (λ e. apart (sym is.0 ∙ e))))) (inl is)
still_holds owner other table want (holding ∷ held) apart (inr more) = at (holding.owner.0 == owner) (still_holds owner other table want held apart more)
  where
    at : (b : Bool) → Holds other table want (released owner held) → Holds other table want (cond (not b) (holding ∷ released owner held) (released owner held))
    at true h = h
    at false h = inr h

-- the exclusive owner of a key

alone_want : (key : List Value) (want : Want) → is_alone_on key want ≡ true → want ≡ OnKey key Exclusive
alone_want key (OnKey other Shared) is = let both = both_true (is_same_key key other) false is in let q : false ≡ true = both.1 in cc
alone_want key (OnKey other Exclusive) is = let both = both_true (is_same_key key other) true is in ap (λ (k : List Value). OnKey k Exclusive) (sym (same_key_is key other both.0))
alone_want key (OnGap span) is = cc
alone_want key (InsertAt other) is = cc

is_alone_itself : (key : List Value) (want : Want) → want ≡ OnKey key Exclusive → is_alone_on key want ≡ true
is_alone_itself key want is = ap (is_alone_on key) is ∙ (λ i. same_key_self key i && true)

some_number : (a b : ℕ) → Some a ≡ Some b → a ≡ b
some_number a b e = cc

pub exclusive_found : (a table : ℕ) (key : List Value) (held : List Holding) → exclusive_owner table key held ≡ Some a → Holds a table (OnKey key Exclusive) held
exclusive_found a table key [] found = cc
exclusive_found a table key (holding ∷ held) found = at (λ f. exclusive_found a table key held f) ((holding.table == table) && is_alone_on key holding.want) refl found
  where
    at : (exclusive_owner table key held ≡ Some a → Holds a table (OnKey key Exclusive) held) → (b : Bool) → ((holding.table == table) && is_alone_on key holding.want) ≡ b
        → cond b (Some holding.owner.0) (exclusive_owner table key held) ≡ Some a → Holds a table (OnKey key Exclusive) (holding ∷ held)
    at more true is f =
        let both = both_true (holding.table == table) (is_alone_on key holding.want) is in
        inl (some_number holding.owner.0 a f, number_is holding.table table both.0, alone_want key holding.want both.1)
    at more false is f = inr (more f)

pub exclusive_none : (a table : ℕ) (key : List Value) (held : List Holding) → exclusive_owner table key held ≡ None → Holds a table (OnKey key Exclusive) held → ⊥
exclusive_none a table key [] none holds = absurd holds
exclusive_none a table key (holding ∷ held) none (inl is) =
    let here : ((holding.table == table) && is_alone_on key holding.want) ≡ true = λ i. is_number holding.table table is.1 i && is_alone_itself key holding.want is.2 i in
    let q : Some holding.owner.0 ≡ None = sym (ap (λ (b : Bool). cond b (Some holding.owner.0) (exclusive_owner table key held)) here) ∙ none in cc
exclusive_none a table key (holding ∷ held) none (inr more) = at ((holding.table == table) && is_alone_on key holding.want) none (λ n. exclusive_none a table key held n more)
  where
    at : (b : Bool) → cond b (Some holding.owner.0) (exclusive_owner table key held) ≡ None → (exclusive_owner table key held ≡ None → ⊥) → ⊥
    at true n rest = cc
    at false n rest = rest n

-- who has a key exclusively is the one that is found, where nobody else has it
pub exclusive_is : (a table : ℕ) (key : List Value) (held : List Holding) → ((b : ℕ) → b ≢ a → Holds b table (OnKey key Exclusive) held → ⊥)
    → Holds a table (OnKey key Exclusive) held → exclusive_owner table key held ≡ Some a
exclusive_is a table key held alone holds = at (exclusive_owner table key held) refl
  where
    at : (o : Option ℕ) → exclusive_owner table key held ≡ o → o ≡ Some a
    at None e = absurd (exclusive_none a table key held e holds)
    at (Some b) e = one (same_or_apart b a)
      where
        one : (b ≡ a) ⊎ (b ≢ a) → Some b ≡ Some a
        one (inl same) = ap Some same
        one (inr apart) = absurd (alone b apart (exclusive_found b table key held e))

-- a holding more, at its place

pub holds_front : (owner table : ℕ) (want : Want) (held : List Holding) (more : Holding) → Holds owner table want held → Holds owner table want (with_holding more held)
holds_front owner table want [] more h = absurd h
holds_front owner table want (other ∷ others) more h = at (leb other.owner.0 more.owner.0) h (λ rest. holds_front owner table want others more rest)
  where
    deeper : IsHolding owner table want other ⊎ Holds owner table want others → (Holds owner table want others → Holds owner table want (with_holding more others))
        → Holds owner table want (other ∷ with_holding more others)
    deeper (inl is) rest = inl is
    deeper (inr held) rest = inr (rest held)

    at : (b : Bool) → IsHolding owner table want other ⊎ Holds owner table want others → (Holds owner table want others → Holds owner table want (with_holding more others))
        → Holds owner table want (cond b (other ∷ with_holding more others) (more ∷ other ∷ others))
    at true held rest = deeper held rest
    at false held rest = inr held

pub holds_last : (owner table : ℕ) (want : Want) (held : List Holding) (more : Holding) → IsHolding owner table want more → Holds owner table want (with_holding more held)
holds_last owner table want [] more is = inl is
holds_last owner table want (other ∷ others) more is = at (leb other.owner.0 more.owner.0) (holds_last owner table want others more is)
  where
    at : (b : Bool) → Holds owner table want (with_holding more others) → Holds owner table want (cond b (other ∷ with_holding more others) (more ∷ other ∷ others))
    at true rest = inr rest
    at false rest = inl is

deeper_appended : (owner table : ℕ) (want : Want) (other more : Holding) (held : List Holding) → IsHolding owner table want more ⊎ Holds owner table want held
    → IsHolding owner table want more ⊎ Holds owner table want (other ∷ held)
deeper_appended owner table want other more held (inl is) = inl is
deeper_appended owner table want other more held (inr h) = inr (inr h)

pub holds_appended : (owner table : ℕ) (want : Want) (held : List Holding) (more : Holding) → Holds owner table want (with_holding more held) → IsHolding owner table want more ⊎ Holds owner table want held
holds_appended owner table want [] more h = h
holds_appended owner table want (other ∷ others) more h = at (leb other.owner.0 more.owner.0) h (λ rest. holds_appended owner table want others more rest)
  where
    at : (b : Bool) → Holds owner table want (cond b (other ∷ with_holding more others) (more ∷ other ∷ others))
        → (Holds owner table want (with_holding more others) → IsHolding owner table want more ⊎ Holds owner table want others)
        → IsHolding owner table want more ⊎ Holds owner table want (other ∷ others)
    at true (inl is) rest = inr (inl is)
    at true (inr held) rest = deeper_appended owner table want other more others (rest held)
    at false held rest = held

-- what a call that takes locks owes: a gap lock is never excluded, and a record lock is not where putting a
-- row in is not

none_left : (test : Holding → Bool) (held : List Holding) → ((holding : Holding) → test holding ≡ false) → filter test held ≡ []
none_left test [] none = refl
none_left test (holding ∷ held) none = ap (λ (b : Bool). cond b (holding ∷ filter test held) (filter test held)) (none holding) ∙ none_left test held none

never : (b : Bool) → b && false ≡ false
never true = refl
never false = refl

pub gap_free : (owner table : ℕ) (span : Span) (held : List Holding) → excluder owner table (OnGap span) held ≡ None
gap_free owner table span held =
    ap (least_owner None) (none_left (excludes owner table (OnGap span)) held (λ (holding : Holding). never (is_foreign owner table holding)))

filtered_less : (some all : Holding → Bool) (held : List Holding) → ((holding : Holding) → all holding ≡ false → some holding ≡ false) → filter all held ≡ [] → filter some held ≡ []
filtered_less some all [] less none = refl
filtered_less some all (holding ∷ held) less none = at (all holding) refl none (λ rest. filtered_less some all held less rest)
  where
    at : (b : Bool) → all holding ≡ b → cond b (holding ∷ filter all held) (filter all held) ≡ [] → (filter all held ≡ [] → filter some held ≡ [])
        → cond (some holding) (holding ∷ filter some held) (filter some held) ≡ []
    at true is rest more = absurd (let q : holding ∷ filter all held ≡ [] = rest in cc)
    at false is rest more = ap (λ (b : Bool). cond b (holding ∷ filter some held) (filter some held)) (less holding is) ∙ more rest

less_wanted : (key : List Value) (mode : LockMode) (held : Want) → is_excluded_by (InsertAt key) held ≡ false → is_excluded_by (OnKey key mode) held ≡ false
less_wanted key mode (OnKey other held_mode) none = ap (λ (b : Bool). b && (is_exclusive mode || is_exclusive held_mode)) none
less_wanted key mode (OnGap span) none = refl
less_wanted key mode (InsertAt other) none = refl

less_excluded : (owner table : ℕ) (key : List Value) (mode : LockMode) (holding : Holding) → excludes owner table (InsertAt key) holding ≡ false → excludes owner table (OnKey key mode) holding ≡ false
less_excluded owner table key mode holding none = at (is_foreign owner table holding) none
  where
    at : (b : Bool) → b && is_excluded_by (InsertAt key) holding.want ≡ false → b && is_excluded_by (OnKey key mode) holding.want ≡ false
    at true is = less_wanted key mode holding.want is
    at false is = refl

pub lock_free : (owner table : ℕ) (key : List Value) (mode : LockMode) (held : List Holding) → excluder owner table (InsertAt key) held ≡ None → excluder owner table (OnKey key mode) held ≡ None
lock_free owner table key mode held none =
    ap (least_owner None)
    (filtered_less (excludes owner table (OnKey key mode)) (excludes owner table (InsertAt key)) held (less_excluded owner table key mode)
    (no_owner None (filter (excludes owner table (InsertAt key)) held) none).1)
