-- Who holds what, and what excludes a further want.
use Rattle.std.specs.Prelude.{ℕ, ◌≡◌, ◌≢◌, ◌≤◌, ◌⊎◌, ◌&&◌, ◌||◌, ◌==◌, nat_le, not, min, Bool, true, false, cond, List, [], ◌∷◌, Option, None, Some, filter}
use Rattle.std.specs.List.{AllByRecursion}
use Rattle.std.specs.Ordering.{is_eq}
use Rattle.row_types.specs.declared.values.Value.{Value}
use Rattle.row_types.specs.declared.lock_modes.LockMode.{LockMode}
use Rattle.row_types.specs.declared.lock_modes.LockMode.TheVariants.{Shared, Exclusive}
use Rattle.row_types.specs.Order.{key_cmp, has}
use Rattle.lock_table.specs.declared.wants.Owner.{Owner}
use Rattle.lock_table.specs.declared.wants.Want.{Want}
use Rattle.lock_table.specs.declared.wants.Want.TheVariants.{OnKey, OnGap, InsertAt}
use Rattle.lock_table.specs.declared.wants.Holding.{Holding}
use Rattle.lock_table.specs.declared.wants.Held.{Held}
use Rattle.lock_table.specs.declared.wants.Held.TheVariants.{Free, Shared as HeldShared, Exclusive as HeldExclusive}

abbrev pub is_same_key : List Value → List Value → Bool
is_same_key ours theirs = is_eq (key_cmp ours theirs)

abbrev pub is_exclusive : LockMode → Bool
is_exclusive Shared = false
is_exclusive Exclusive = true

-- whether what another owner holds on the same table excludes a want
abbrev pub is_excluded_by : Want → Want → Bool
is_excluded_by (OnKey key mode) (OnKey held held_mode) = is_same_key key held && (is_exclusive mode || is_exclusive held_mode)
is_excluded_by (OnKey key mode) (OnGap span) = false
is_excluded_by (OnKey key mode) (InsertAt held) = false
is_excluded_by (OnGap span) held = false
is_excluded_by (InsertAt key) (OnKey held held_mode) = is_same_key key held
is_excluded_by (InsertAt key) (OnGap span) = has span key
is_excluded_by (InsertAt key) (InsertAt held) = false

-- whether a holding is another owner's, on this table
abbrev pub is_foreign : ℕ → ℕ → Holding → Bool
is_foreign owner table holding = not (holding.owner.0 == owner) && (holding.table == table)

abbrev pub excludes : ℕ → ℕ → Want → Holding → Bool
excludes owner table want holding = is_foreign owner table holding && is_excluded_by want holding.want

abbrev pub lesser_owner : ℕ → Option ℕ → Option ℕ
lesser_owner owner None = Some owner
lesser_owner owner (Some other) = Some (min owner other)

-- the least owner of these holdings and another, if there is one
abbrev pub least_owner : Option ℕ → List Holding → Option ℕ
least_owner least [] = least
least_owner least (holding ∷ held) = least_owner (lesser_owner holding.owner.0 least) held

-- the least other owner whose holding excludes the want
abbrev pub excluder : ℕ → ℕ → Want → List Holding → Option ℕ
excluder owner table want held = least_owner None (filter (excludes owner table want) held)

-- the key of a lock on a key, put before others
abbrev pub with_locked_key : Want → List (List Value) → List (List Value)
with_locked_key (OnKey key mode) keys = key ∷ keys
with_locked_key (OnGap span) keys = keys
with_locked_key (InsertAt key) keys = keys

-- the keys of a table that other owners have locks on
abbrev pub foreign_keys : ℕ → ℕ → List Holding → List (List Value)
foreign_keys owner table [] = []
foreign_keys owner table (holding ∷ held) =
    cond (is_foreign owner table holding) (with_locked_key holding.want (foreign_keys owner table held)) (foreign_keys owner table held)

-- the keys of a table that anybody has a lock on
abbrev pub locked_keys : ℕ → List Holding → List (List Value)
locked_keys table [] = []
locked_keys table (holding ∷ held) =
    cond (holding.table == table) (with_locked_key holding.want (locked_keys table held)) (locked_keys table held)

-- the holdings with one more, behind the others of its owner: they stand by ascending owner
abbrev pub with_holding : Holding → List Holding → List Holding
with_holding holding [] = holding ∷ []
with_holding holding (other ∷ others) =
    cond (nat_le other.owner.0 holding.owner.0) (other ∷ with_holding holding others) (holding ∷ other ∷ others)

abbrev pub with_want : Owner → ℕ → Want → List Holding → List Holding
with_want owner table want held = with_holding (record { owner = owner; table = table; want = want }) held

abbrev pub with_want_if : Owner → ℕ → Option Want → List Holding → List Holding
with_want_if owner table None held = held
with_want_if owner table (Some want) held = with_want owner table want held

-- the holdings with one want or two more
abbrev pub with_wants : Owner → ℕ → Want → Option Want → List Holding → List Holding
with_wants owner table first second held = with_want_if owner table second (with_want owner table first held)

-- the holdings without those of an owner
abbrev pub released : ℕ → List Holding → List Holding
released owner held = filter (λ (holding : Holding). not (holding.owner.0 == owner)) held

-- whether a want is an exclusive lock on a key
abbrev pub is_alone_on : List Value → Want → Bool
is_alone_on key (OnKey held mode) = is_same_key key held && is_exclusive mode
is_alone_on key (OnGap span) = false
is_alone_on key (InsertAt held) = false

-- the owner that has a key exclusively
abbrev pub exclusive_owner : ℕ → List Value → List Holding → Option ℕ
exclusive_owner table key [] = None
exclusive_owner table key (holding ∷ held) =
    cond ((holding.table == table) && is_alone_on key holding.want) (Some holding.owner.0) (exclusive_owner table key held)

abbrev pub IsHolding : ℕ → ℕ → Want → Holding → Type 0
IsHolding owner table want holding = (holding.owner.0 ≡ owner) × (holding.table ≡ table) × (holding.want ≡ want)

-- an owner holds this on a table
abbrev pub Holds : ℕ → ℕ → Want → List Holding → Type 0
Holds owner table want [] = ⊥
Holds owner table want (holding ∷ held) = IsHolding owner table want holding ⊎ Holds owner table want held

-- the strongest lock of an owner on a key
abbrev pub stronger : LockMode → Held → Held
stronger Exclusive held = HeldExclusive
stronger Shared Free = HeldShared
stronger Shared HeldShared = HeldShared
stronger Shared HeldExclusive = HeldExclusive

abbrev pub with_lock_of : List Value → Want → Held → Held
with_lock_of key (OnKey other mode) held = cond (is_same_key key other) (stronger mode held) held
with_lock_of key (OnGap span) held = held
with_lock_of key (InsertAt other) held = held

abbrev pub held_on : ℕ → ℕ → List Value → List Holding → Held
held_on owner table key [] = Free
held_on owner table key (holding ∷ held) =
    cond ((holding.owner.0 == owner) && (holding.table == table)) (with_lock_of key holding.want (held_on owner table key held)) (held_on owner table key held)

-- what can be held is a lock on a key or on a gap
abbrev pub IsLock : Want → Type 0
IsLock (OnKey key mode) = Unit {0}
IsLock (OnGap span) = Unit {0}
IsLock (InsertAt key) = ⊥

abbrev pub AreLocks : List Holding → Type 0
AreLocks = AllByRecursion (λ (holding : Holding). IsLock holding.want)

abbrev pub IsUpToEach : ℕ → List Holding → Type 0
IsUpToEach owner = AllByRecursion (λ (holding : Holding). owner ≤ holding.owner.0)

-- holdings by ascending owner
abbrev pub IsByOwner : List Holding → Type 0
IsByOwner [] = Unit {0}
IsByOwner (holding ∷ held) = IsUpToEach holding.owner.0 held × IsByOwner held

-- nothing that an owner holds excludes what another holds
abbrev pub AreCompatible : List Holding → Type 0
AreCompatible held =
    (a b table : ℕ) (ours theirs : Want) → a ≢ b → Holds a table ours held → Holds b table theirs held → is_excluded_by ours theirs ≡ false
