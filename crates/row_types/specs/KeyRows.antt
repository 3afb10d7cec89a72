-- Rows by rising key: what they have at a key, and which of them are past an edge, before it or in a span.
use Rattle.std.specs.Prelude.{ℕ, ◌≡◌, ◌≤◌, ◌-◌, Bool, cond, not, List, [], ◌∷◌, Option, None, Some, length, take, filter, slice_get, option_map}
use Rattle.std.specs.List.{AllByRecursion}
use Rattle.std.specs.Ordering.{is_eq, match_ordering}
use Rattle.std.specs.declared.cmp.Ordering.TheVariants.{Less}
use Rattle.row_types.specs.declared.values.Value.{Value}
use Rattle.row_types.specs.declared.values.Value.TheVariants.{Null, Int, Text}
use Rattle.row_types.specs.declared.edges.Edge.{Edge}
use Rattle.row_types.specs.declared.edges.Span.{Span}
use Rattle.row_types.specs.Order.{key_cmp, is_past_edge, is_before_edge, has}

-- the values of a row, in column order
abbrev pub Row : Type 0
Row = List Value

-- rows; of a table by rising key
abbrev pub Rows : Type 0
Rows = List Row

-- the rows of each table, the tables in the order of their numbers
abbrev pub TableRows : Type 0
TableRows = List Rows

abbrev pub IsNotNull : Value → Type 0
IsNotNull Null = ⊥
IsNotNull (Int n) = Unit {0}
IsNotNull (Text text) = Unit {0}

-- the row has a value in each key column, and none of them is NULL
pub record HasKey (key_len : ℕ) (row : Row) : Type 0 where
  pub within : key_len ≤ length row
  pub not_null : AllByRecursion IsNotNull (take key_len row)

-- the key of the row is below each of these rows' keys
abbrev pub IsBelowAll : ℕ → Row → Rows → Type 0
IsBelowAll key_len row = AllByRecursion (λ (other : Row). key_cmp (take key_len row) (take key_len other) ≡ Less)

-- rows that have their key, by rising key, so that each key is there once
abbrev pub AreOrdered : ℕ → Rows → Type 0
AreOrdered key_len [] = Unit {0}
AreOrdered key_len (row ∷ rows) = HasKey key_len row × IsBelowAll key_len row rows × AreOrdered key_len rows

-- whether a row has the key
abbrev pub is_at : ℕ → List Value → Row → Bool
is_at key_len key row = is_eq (key_cmp key (take key_len row))

-- the row at a key, if there is one
abbrev pub row_at : ℕ → List Value → Rows → Option Row
row_at key_len key [] = None
row_at key_len key (row ∷ rows) = cond (is_at key_len key row) (Some row) (row_at key_len key rows)

-- the rows with this one at its place by key, in place of one that has its key
abbrev pub put_row : ℕ → Row → Rows → Rows
put_row key_len row [] = row ∷ []
put_row key_len row (other ∷ others) =
    match_ordering (key_cmp (take key_len row) (take key_len other))
    (row ∷ other ∷ others)
    (row ∷ others)
    (other ∷ put_row key_len row others)

-- the rows without the one at a key
abbrev pub without_key : ℕ → List Value → Rows → Rows
without_key key_len key = filter (λ (row : Row). not (is_at key_len key row))

-- the rows whose keys are in the span
abbrev pub rows_in : ℕ → Span → Rows → Rows
rows_in key_len span = filter (λ (row : Row). has span (take key_len row))

-- the rows whose keys are past the edge
abbrev pub rows_past : ℕ → Edge → Rows → Rows
rows_past key_len edge = filter (λ (row : Row). is_past_edge edge (take key_len row))

-- the rows whose keys are before the edge
abbrev pub rows_before : ℕ → Edge → Rows → Rows
rows_before key_len edge = filter (λ (row : Row). is_before_edge edge (take key_len row))

-- the row of the least key past the edge
abbrev pub row_past : ℕ → Edge → Rows → Option Row
row_past key_len edge rows = slice_get (rows_past key_len edge rows) 0

-- the least key past the edge
abbrev pub least_past : ℕ → Edge → Rows → Option (List Value)
least_past key_len edge rows = option_map (take key_len) (row_past key_len edge rows)

-- the n-th key past the edge, counted from 1
abbrev pub nth_past : ℕ → Edge → ℕ → Rows → Option (List Value)
nth_past key_len edge n rows = option_map (take key_len) (slice_get (rows_past key_len edge rows) (n - 1))

-- the greatest key before the edge
abbrev pub greatest_before : ℕ → Edge → Rows → Option (List Value)
greatest_before key_len edge rows =
    option_map (take key_len) (slice_get (rows_before key_len edge rows) (length (rows_before key_len edge rows) - 1))
