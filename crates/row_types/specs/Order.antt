-- The orders of values, keys and edges, and the keys of a span.
use Rattle.std.specs.Prelude.{◌≡◌, List, [], ◌∷◌, Bool, cond, ◌&&◌}
use Rattle.std.specs.List.{AllByRecursion}
use Rattle.std.specs.Ordering.{nat_cmp, int_cmp, is_le, is_lt, ordering_then}
use Rattle.std.specs.Cmp.Lexicographic.{slice_cmp}
use Rattle.std.specs.declared.cmp.Ordering.{Ordering}
use Rattle.std.specs.declared.cmp.Ordering.TheVariants.{Less, Equal, Greater}
use Rattle.row_types.specs.declared.values.Value.{Value}
use Rattle.row_types.specs.declared.values.Value.TheVariants.{Null, Int, Text}
use Rattle.row_types.specs.declared.edges.Edge.{Edge}
use Rattle.row_types.specs.declared.edges.Edge.TheVariants.{Low, Before, After, High}
use Rattle.row_types.specs.declared.edges.Span.{Span}

-- NULL, then numbers by value, then texts by their bytes
abbrev pub value_cmp : Value → Value → Ordering
value_cmp Null Null = Equal
value_cmp Null (Int n) = Less
value_cmp Null (Text t) = Less
value_cmp (Int m) Null = Greater
value_cmp (Int m) (Int n) = int_cmp m n
value_cmp (Int m) (Text t) = Less
value_cmp (Text s) Null = Greater
value_cmp (Text s) (Int n) = Greater
value_cmp (Text s) (Text t) = slice_cmp nat_cmp s t

-- column by column; a proper prefix is less
abbrev pub key_cmp : List Value → List Value → Ordering
key_cmp = slice_cmp value_cmp

-- Low, then for rising keys Before and After, then High
abbrev pub edge_cmp : Edge → Edge → Ordering
edge_cmp Low Low = Equal
edge_cmp Low (Before k) = Less
edge_cmp Low (After k) = Less
edge_cmp Low High = Less
edge_cmp (Before j) Low = Greater
edge_cmp (Before j) (Before k) = key_cmp j k
edge_cmp (Before j) (After k) = ordering_then (key_cmp j k) Less
edge_cmp (Before j) High = Less
edge_cmp (After j) Low = Greater
edge_cmp (After j) (Before k) = ordering_then (key_cmp j k) Greater
edge_cmp (After j) (After k) = key_cmp j k
edge_cmp (After j) High = Less
edge_cmp High Low = Greater
edge_cmp High (Before k) = Greater
edge_cmp High (After k) = Greater
edge_cmp High High = Equal

abbrev pub edge_le : Edge → Edge → Bool
edge_le e f = is_le (edge_cmp e f)

-- whether a key is past an edge
abbrev pub is_past_edge : Edge → List Value → Bool
is_past_edge edge key = edge_le edge (Before key)

-- whether a key is before an edge
abbrev pub is_before_edge : Edge → List Value → Bool
is_before_edge edge key = edge_le (After key) edge

-- whether a key lies between the edges of a span
abbrev pub has : Span → List Value → Bool
has span key = is_past_edge span.lo key && is_before_edge span.hi key

abbrev pub all_keys : Span
all_keys = record { lo = Low; hi = High }

abbrev pub no_keys : Span
no_keys = record { lo = Low; hi = Low }

abbrev pub later_edge : Edge → Edge → Edge
later_edge e f = cond (edge_le e f) f e

abbrev pub earlier_edge : Edge → Edge → Edge
earlier_edge e f = cond (edge_le e f) e f

-- the keys from one edge to another; from Low to Low where that leaves none
abbrev pub between : Edge → Edge → Span
between lo hi = cond (is_lt (edge_cmp lo hi)) (record { lo = lo; hi = hi }) no_keys

-- the keys of both spans: from the greater low edge to the lesser high edge
abbrev pub meeting : Span → Span → Span
meeting ours theirs = between (later_edge ours.lo theirs.lo) (earlier_edge ours.hi theirs.hi)

abbrev pub IsBelowKeys : List Value → List (List Value) → Type 0
IsBelowKeys key = AllByRecursion (λ (other : List Value). key_cmp key other ≡ Less)

-- each key is below all that follow it
abbrev pub KeysRise : List (List Value) → Type 0
KeysRise [] = Unit {0}
KeysRise (key ∷ keys) = IsBelowKeys key keys × KeysRise keys
