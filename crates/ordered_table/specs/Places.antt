-- Where a key or an edge has its place among rows by rising key.
use Rattle.std.specs.Prelude.{ℕ, ◌≡◌, ◌≤◌, ◌<◌, Bool, true, false, cond, List, [], None, Some, length, take, slice_index_or, slice_set}
use Rattle.std.specs.List.{insert, remove, slice_get}
use Rattle.std.specs.Option.{option_map_or}
use Rattle.std.specs.Ordering.{is_le, is_lt}
use Rattle.row_types.specs.declared.values.Value.{Value}
use Rattle.row_types.specs.Order.{key_cmp}
use Rattle.ordered_table.specs.declared.places.Place.{Place}
use Rattle.ordered_table.specs.declared.places.Place.TheVariants.{Taken, Free}
use Rattle.row_types.specs.KeyRows.{is_at, row_at, put_row, without_key}

-- the key of the row of this number
abbrev pub key_at : ℕ → List (List Value) → ℕ → List Value
key_at key_len rows place = take key_len (slice_index_or rows place [])

-- whether a key is past this one, or at it where that counts too
abbrev pub is_past : Bool → List Value → List Value → Bool
is_past strictly key other = cond strictly (is_lt (key_cmp key other)) (is_le (key_cmp key other))

-- the rows from this one on are those whose key passes the test
pub record IsCut (key_len : ℕ) (test : List Value → Bool) (rows : List (List Value)) (place : ℕ) : Type 0 where
  pub within : place ≤ length rows
  pub before : (k : ℕ) → k < place → test (key_at key_len rows k) ≡ false
  pub behind : (k : ℕ) → place ≤ k → k < length rows → test (key_at key_len rows k) ≡ true

-- whether the row of this number has the key
abbrev pub is_there : ℕ → List Value → List (List Value) → ℕ → Bool
is_there key_len key rows place = option_map_or (is_at key_len key) (slice_get rows place) false

-- the row of this number has the key
pub record IsTakenAt (key_len : ℕ) (key : List Value) (rows : List (List Value)) (index : ℕ) : Type 0 where
  pub within : index < length rows
  pub row : (default : List Value) → row_at key_len key rows ≡ Some (slice_index_or rows index default)
  pub put : (row : List Value) → take key_len row ≡ key → put_row key_len row rows ≡ slice_set rows index row
  pub removed : without_key key_len key rows ≡ remove rows index

-- no row has the key, and one that had it would go in before the row of this number
pub record IsFreeAt (key_len : ℕ) (key : List Value) (rows : List (List Value)) (index : ℕ) : Type 0 where
  pub within : index ≤ length rows
  pub row : row_at key_len key rows ≡ None
  pub put : (row : List Value) → take key_len row ≡ key → put_row key_len row rows ≡ insert rows index row
  pub removed : without_key key_len key rows ≡ rows

abbrev pub IsPlaced : ℕ → List Value → List (List Value) → Place → Type 0
IsPlaced key_len key rows (Taken index) = IsTakenAt key_len key rows index
IsPlaced key_len key rows (Free index) = IsFreeAt key_len key rows index
