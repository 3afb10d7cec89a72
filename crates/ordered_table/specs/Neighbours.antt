-- What the least key past an edge and the greatest before it are, among the keys of rows.
use Rattle.std.specs.Prelude.{ℕ, ◌≡◌, true, false, List, IsSome}
use Rattle.row_types.specs.declared.values.Value.{Value}
use Rattle.row_types.specs.declared.edges.Edge.{Edge}
use Rattle.row_types.specs.declared.edges.Edge.TheVariants.{Before, After}
use Rattle.row_types.specs.Order.{is_past_edge, is_before_edge, has}
use Rattle.row_types.specs.KeyRows.{row_at}

-- one of the rows has the key
abbrev pub HasRowAt : ℕ → List (List Value) → List Value → Type 0
HasRowAt key_len rows key = IsSome (row_at key_len key rows)

-- a key of the rows that is past the edge, and none of theirs lies between the edge and it
pub record IsLeastPast (key_len : ℕ) (edge : Edge) (rows : List (List Value)) (key : List Value) : Type 0 where
  pub there : HasRowAt key_len rows key
  pub past : is_past_edge edge key ≡ true
  pub least : (other : List Value) → HasRowAt key_len rows other → has (record { lo = edge; hi = Before key }) other ≡ false

-- none of the rows' keys is past the edge
abbrev pub IsNonePast : ℕ → Edge → List (List Value) → Type 0
IsNonePast key_len edge rows = (other : List Value) → HasRowAt key_len rows other → is_past_edge edge other ≡ false

-- a key of the rows that is before the edge, and none of theirs lies between it and the edge
pub record IsGreatestBefore (key_len : ℕ) (edge : Edge) (rows : List (List Value)) (key : List Value) : Type 0 where
  pub there : HasRowAt key_len rows key
  pub before : is_before_edge edge key ≡ true
  pub greatest : (other : List Value) → HasRowAt key_len rows other → has (record { lo = After key; hi = edge }) other ≡ false

-- none of the rows' keys is before the edge
abbrev pub IsNoneBefore : ℕ → Edge → List (List Value) → Type 0
IsNoneBefore key_len edge rows = (other : List Value) → HasRowAt key_len rows other → is_before_edge edge other ≡ false
