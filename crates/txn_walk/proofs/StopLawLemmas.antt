-- A key is a stop exactly where it is live or another owner has a lock on it.
use Rattle.std.proofs.Common.{◌≡◌, ◌≢◌, ◌⊎◌, ◌∙◌, inl, inr, ℕ, Bool, true, false, cond, List, [], ◌∷◌, ◌++◌, Option, None, Some, map, take, refl, ap, sym}
use Rattle.std.specs.Prelude.{is_some}
use Rattle.row_types.specs.declared.values.Value.{Value}
use Rattle.row_types.specs.declared.lock_modes.LockMode.{LockMode}
use Rattle.row_types.specs.KeyRows.{is_at, row_at}
use Rattle.ordered_table.specs.TableView.{TableView}
use Rattle.lock_table.specs.declared.wants.Holding.{Holding}
use Rattle.lock_table.specs.declared.wants.Want.TheVariants.{OnKey}
use Rattle.lock_table.specs.Locks.{is_same_key, foreign_keys, Holds}
use Rattle.lock_table.specs.Stops.{IsAmong}
use Rattle.lock_table.proofs.HoldLemmas.{same_key_is, same_key_self, foreign_among, foreign_is_held, LockedByOther}
use Rattle.lock_table.proofs.LeastLemmas.{front, back, either}
use Rattle.txn_walk.specs.StopsAt.{stops_at, is_live_in}

live_key : (key_len : ℕ) (key : List Value) (rows : List (List Value)) → IsAmong key (map (take key_len) rows) → is_some (row_at key_len key rows) ≡ true
live_key key_len key [] there = absurd there
live_key key_len key (row ∷ rows) (inl same) =
    ap (λ (b : Bool). is_some (cond b (Some row) (row_at key_len key rows))) (ap (is_same_key key) same ∙ same_key_self key)
live_key key_len key (row ∷ rows) (inr there) = at (is_at key_len key row) (live_key key_len key rows there)
  where
    at : (b : Bool) → is_some (row_at key_len key rows) ≡ true → is_some (cond b (Some row) (row_at key_len key rows)) ≡ true
    at true more = refl
    at false more = more

key_of_live : (key_len : ℕ) (key : List Value) (rows : List (List Value)) → is_some (row_at key_len key rows) ≡ true → IsAmong key (map (take key_len) rows)
key_of_live key_len key [] there = cc
key_of_live key_len key (row ∷ rows) there = at (λ t. key_of_live key_len key rows t) (is_at key_len key row) refl there
  where
    at : (is_some (row_at key_len key rows) ≡ true → IsAmong key (map (take key_len) rows)) → (b : Bool) → is_at key_len key row ≡ b
        → is_some (cond b (Some row) (row_at key_len key rows)) ≡ true → IsAmong key (map (take key_len) (row ∷ rows))
    at more true is t = inl (sym (same_key_is key (take key_len row) is))
    at more false is t = inr (more t)

pub stop_is : (owner number : ℕ) (table : TableView) (held : List Holding) (key : List Value) → IsAmong key (stops_at owner number table held)
    → (is_live_in table key ≡ true) ⊎ ((other : ℕ) × (mode : LockMode) × (other ≢ owner) × Holds other number (OnKey key mode) held)
stop_is owner number table held key there = at (either key (foreign_keys owner number held) (map (take table.key_len) table.rows) there)
  where
    by_other : LockedByOther owner number key held → (other : ℕ) × (mode : LockMode) × (other ≢ owner) × Holds other number (OnKey key mode) held
    by_other by = (by.other, by.mode, by.apart, by.holds)

    at : IsAmong key (foreign_keys owner number held) ⊎ IsAmong key (map (take table.key_len) table.rows)
        → (is_live_in table key ≡ true) ⊎ ((other : ℕ) × (mode : LockMode) × (other ≢ owner) × Holds other number (OnKey key mode) held)
    at (inl foreign) = inr (by_other (foreign_is_held owner number key held foreign))
    at (inr live) = inl (live_key table.key_len key table.rows live)

pub live_is_stop : (owner number : ℕ) (table : TableView) (held : List Holding) (key : List Value) → is_live_in table key ≡ true → IsAmong key (stops_at owner number table held)
live_is_stop owner number table held key live = back key (foreign_keys owner number held) (map (take table.key_len) table.rows) (key_of_live table.key_len key table.rows live)

pub locked_is_stop : (owner number other : ℕ) (mode : LockMode) (table : TableView) (held : List Holding) (key : List Value) → other ≢ owner → Holds other number (OnKey key mode) held
    → IsAmong key (stops_at owner number table held)
locked_is_stop owner number other mode table held key apart holds =
    front key (foreign_keys owner number held) (map (take table.key_len) table.rows) (foreign_among owner other number key mode held apart holds)
