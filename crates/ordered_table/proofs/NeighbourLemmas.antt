-- The least key past an edge, the greatest before it, and the order in which keys past an edge are counted.
use Rattle.std.proofs.Common.{◌≡◌, ◌∙◌, ℕ, zero, suc, ◌+◌, ◌-◌, ◌≤◌, Bool, true, false, cond, Option, Some, None, List, [], ◌∷◌, ◌⊎◌, inl, inr, length, take, refl, ap, sym, subst, arith}
use Rattle.std.specs.Prelude.{slice_get, option_map, is_some, ◌&&◌}
use Rattle.std.specs.Ordering.{is_eq, is_le, ordering_then}
use Rattle.std.specs.declared.cmp.Ordering.{Ordering}
use Rattle.std.specs.declared.cmp.Ordering.TheVariants.{Less, Equal, Greater}
use Rattle.row_types.specs.declared.values.Value.{Value}
use Rattle.row_types.specs.declared.edges.Edge.{Edge}
use Rattle.row_types.specs.declared.edges.Edge.TheVariants.{Before, After}
use Rattle.row_types.specs.Order.{key_cmp, edge_le, is_past_edge, is_before_edge, has}
use Rattle.row_types.proofs.OrderLemmas.{key_ties, key_tied, key_turns}
use Rattle.row_types.proofs.SpanLemmas.{edge_le_trans}
use Rattle.row_types.specs.KeyRows.{AreOrdered, IsBelowAll, is_at, row_at, rows_past, rows_before, row_past, least_past, nth_past, greatest_before}
use Rattle.ordered_table.specs.Neighbours.{HasRowAt, IsLeastPast, IsNonePast, IsGreatestBefore, IsNoneBefore}
use Rattle.row_types.proofs.OrderedRowLemmas.{below_filtered}
use Rattle.row_types.proofs.KeyRowLemmas.{same_key}

there_first : (key_len : ℕ) (key row : List Value) (rows : List (List Value)) (here : Bool) → is_at key_len key row ≡ here
    → is_some (cond here (Some row) (row_at key_len key rows)) ≡ true → (key ≡ take key_len row) ⊎ HasRowAt key_len rows key
there_first key_len key row rows true is there = inl (same_key key (take key_len row) is)
there_first key_len key row rows false is there = inr there

-- a key of rows is that of the first or of a later one
there_of : (key_len : ℕ) (key row : List Value) (rows : List (List Value)) → HasRowAt key_len (row ∷ rows) key → (key ≡ take key_len row) ⊎ HasRowAt key_len rows key
there_of key_len key row rows there = there_first key_len key row rows (is_at key_len key row) refl there

there_own : (key_len : ℕ) (row : List Value) (rows : List (List Value)) → HasRowAt key_len (row ∷ rows) (take key_len row)
there_own key_len row rows = ap (λ (o : Ordering). is_some (cond (is_eq o) (Some row) (row_at key_len (take key_len row) rows))) (key_ties (take key_len row))

there_more : (key_len : ℕ) (key row : List Value) (rows : List (List Value)) → HasRowAt key_len rows key → HasRowAt key_len (row ∷ rows) key
there_more key_len key row rows there = either_way (is_at key_len key row) (row_at key_len key rows) there
  where
    either_way : (here : Bool) (rest : Option (List Value)) → is_some rest ≡ true → is_some (cond here (Some row) rest) ≡ true
    either_way true rest there = refl
    either_way false rest there = there

below_either : (key_len : ℕ) (row key other : List Value) (others : List (List Value)) → key_cmp (take key_len row) (take key_len other) ≡ Less
    → (HasRowAt key_len others key → key_cmp (take key_len row) key ≡ Less)
    → (key ≡ take key_len other) ⊎ HasRowAt key_len others key → key_cmp (take key_len row) key ≡ Less
below_either key_len row key other others first later (inl same) = ap (key_cmp (take key_len row)) same ∙ first
below_either key_len row key other others first later (inr there) = later there

-- a row below all is below each of their keys
below_there : (key_len : ℕ) (row key : List Value) (rows : List (List Value)) → IsBelowAll key_len row rows → HasRowAt key_len rows key → key_cmp (take key_len row) key ≡ Less
below_there key_len row key [] all there = cc
below_there key_len row key (other ∷ others) all there =
    below_either key_len row key other others all.0 (below_there key_len row key others all.1) (there_of key_len key other others there)

-- no key lies between an edge and one that is at or below it
not_between : (edge : Edge) (key other : List Value) → is_le (key_cmp key other) ≡ true → has (record { lo = edge; hi = Before key }) other ≡ false
not_between edge key other le = both_ways (is_past_edge edge other) (key_cmp key other) refl le
  where
    second : (b : Bool) → b && false ≡ false
    second true = refl
    second false = refl

    both_ways : (past : Bool) (o : Ordering) → key_cmp key other ≡ o → is_le o ≡ true → past && is_before_edge (Before key) other ≡ false
    both_ways past Less is le = ap (λ (o : Ordering). past && is_le (ordering_then o Greater)) (key_turns key other is) ∙ second past
    both_ways past Equal is le =
        ap (λ (k : List Value). past && is_le (ordering_then (key_cmp other k) Greater)) (same_key key other (ap is_eq is))
        ∙ ap (λ (o : Ordering). past && is_le (ordering_then o Greater)) (key_ties other) ∙ second past
    both_ways past Greater is le = cc

not_past_between : (edge : Edge) (key other : List Value) → is_past_edge edge other ≡ false → has (record { lo = edge; hi = Before key }) other ≡ false
not_past_between edge key other is = ap (λ (b : Bool). b && is_before_edge (Before key) other) is

least_here : (key_len : ℕ) (edge : Edge) (row : List Value) (rows : List (List Value)) → IsBelowAll key_len row rows → is_past_edge edge (take key_len row) ≡ true
    → IsLeastPast key_len edge (row ∷ rows) (take key_len row)
least_here key_len edge row rows all past = record {
  there = there_own key_len row rows;
  past = past;
  least = λ other there. of_two other (there_of key_len other row rows there);
}
  where
    of_two : (other : List Value) → (other ≡ take key_len row) ⊎ HasRowAt key_len rows other → has (record { lo = edge; hi = Before (take key_len row) }) other ≡ false
    of_two other (inl same) = not_between edge (take key_len row) other (ap is_le (key_tied (take key_len row) other (sym same)))
    of_two other (inr later) = not_between edge (take key_len row) other (ap is_le (below_there key_len row other rows all later))

least_later : (key_len : ℕ) (edge : Edge) (key row : List Value) (rows : List (List Value)) → is_past_edge edge (take key_len row) ≡ false
    → IsLeastPast key_len edge rows key → IsLeastPast key_len edge (row ∷ rows) key
least_later key_len edge key row rows before least = record {
  there = there_more key_len key row rows least.there;
  past = least.past;
  least = λ other there. of_two other (there_of key_len other row rows there);
}
  where
    of_two : (other : List Value) → (other ≡ take key_len row) ⊎ HasRowAt key_len rows other → has (record { lo = edge; hi = Before key }) other ≡ false
    of_two other (inl same) = not_past_between edge key other (ap (is_past_edge edge) same ∙ before)
    of_two other (inr later) = least.least other later

least_first : (key_len : ℕ) (edge : Edge) (key row : List Value) (rows : List (List Value)) (past : Bool) → is_past_edge edge (take key_len row) ≡ past
    → IsBelowAll key_len row rows → (least_past key_len edge rows ≡ Some key → IsLeastPast key_len edge rows key)
    → option_map (take key_len) (slice_get (cond past (row ∷ rows_past key_len edge rows) (rows_past key_len edge rows)) 0) ≡ Some key
    → IsLeastPast key_len edge (row ∷ rows) key
least_first key_len edge key row rows true is all later found =
    subst (IsLeastPast key_len edge (row ∷ rows)) (let same : take key_len row ≡ key = cc in same) (least_here key_len edge row rows all is)
least_first key_len edge key row rows false is all later found = least_later key_len edge key row rows is (later found)

pub least_is : (key_len : ℕ) (edge : Edge) (key : List Value) (rows : List (List Value)) → AreOrdered key_len rows → least_past key_len edge rows ≡ Some key → IsLeastPast key_len edge rows key
least_is key_len edge key [] ordered found = absurd (let no : None ≡ Some key = found in cc)
least_is key_len edge key (row ∷ rows) ordered found =
    least_first key_len edge key row rows (is_past_edge edge (take key_len row)) refl ordered.1 (least_is key_len edge key rows ordered.2) found

none_past_first : (key_len : ℕ) (edge : Edge) (row other : List Value) (rows : List (List Value)) (past : Bool) → is_past_edge edge (take key_len row) ≡ past
    → (least_past key_len edge rows ≡ None → HasRowAt key_len rows other → is_past_edge edge other ≡ false)
    → option_map (take key_len) (slice_get (cond past (row ∷ rows_past key_len edge rows) (rows_past key_len edge rows)) 0) ≡ None
    → (other ≡ take key_len row) ⊎ HasRowAt key_len rows other → is_past_edge edge other ≡ false
none_past_first key_len edge row other rows true is later none there = absurd (let no : Some (take key_len row) ≡ None = none in cc)
none_past_first key_len edge row other rows false is later none (inl same) = ap (is_past_edge edge) same ∙ is
none_past_first key_len edge row other rows false is later none (inr there) = later none there

pub none_past : (key_len : ℕ) (edge : Edge) (rows : List (List Value)) → least_past key_len edge rows ≡ None → IsNonePast key_len edge rows
none_past key_len edge [] none other there = cc
none_past key_len edge (row ∷ rows) none other there =
    none_past_first key_len edge row other rows (is_past_edge edge (take key_len row)) refl (λ n t. none_past key_len edge rows n other t) none (there_of key_len other row rows there)

last_is : (row : List Value) (rows : List (List Value)) → slice_get (row ∷ rows) (length (row ∷ rows) - 1) ≡ slice_get (row ∷ rows) (length rows)
last_is row rows = let e : suc (length rows) - 1 ≡ length rows = omega arith in ap (slice_get (row ∷ rows)) e

last_more : (row other : List Value) (others : List (List Value)) → slice_get (row ∷ other ∷ others) (length (row ∷ other ∷ others) - 1) ≡ slice_get (other ∷ others) (length (other ∷ others) - 1)
last_more row other others = last_is row (other ∷ others) ∙ sym (last_is other others)

none_before_first : (key_len : ℕ) (edge : Edge) (row other : List Value) (rows : List (List Value)) (before : Bool) → is_before_edge edge (take key_len row) ≡ before
    → (rows_before key_len edge rows ≡ [] → HasRowAt key_len rows other → is_before_edge edge other ≡ false)
    → cond before (row ∷ rows_before key_len edge rows) (rows_before key_len edge rows) ≡ []
    → (other ≡ take key_len row) ⊎ HasRowAt key_len rows other → is_before_edge edge other ≡ false
none_before_first key_len edge row other rows true is later none there = absurd (let no : row ∷ rows_before key_len edge rows ≡ [] = none in cc)
none_before_first key_len edge row other rows false is later none (inl same) = ap (is_before_edge edge) same ∙ is
none_before_first key_len edge row other rows false is later none (inr there) = later none there

no_rows_before : (key_len : ℕ) (edge : Edge) (rows : List (List Value)) → rows_before key_len edge rows ≡ [] → IsNoneBefore key_len edge rows
no_rows_before key_len edge [] none other there = cc
no_rows_before key_len edge (row ∷ rows) none other there =
    none_before_first key_len edge row other rows (is_before_edge edge (take key_len row)) refl (λ n t. no_rows_before key_len edge rows n other t) none (there_of key_len other row rows there)

last_none : (key_len : ℕ) (rows : List (List Value)) → option_map (take key_len) (slice_get rows (length rows - 1)) ≡ None → rows ≡ []
last_none key_len [] none = refl
last_none key_len (row ∷ []) none = absurd (let no : Some (take key_len row) ≡ None = none in cc)
last_none key_len (row ∷ other ∷ others) none =
    let no : other ∷ others ≡ [] = last_none key_len (other ∷ others) (ap (option_map (take key_len)) (sym (last_more row other others)) ∙ none) in absurd cc

pub none_before : (key_len : ℕ) (edge : Edge) (rows : List (List Value)) → greatest_before key_len edge rows ≡ None → IsNoneBefore key_len edge rows
none_before key_len edge rows none = no_rows_before key_len edge rows (last_none key_len (rows_before key_len edge rows) none)

-- no key at or below another lies past it
not_behind : (edge : Edge) (key other : List Value) → is_le (key_cmp other key) ≡ true → has (record { lo = After key; hi = edge }) other ≡ false
not_behind edge key other le = at_most (key_cmp other key) refl le
  where
    at_most : (o : Ordering) → key_cmp other key ≡ o → is_le o ≡ true → edge_le (After key) (Before other) && is_before_edge edge other ≡ false
    at_most Less is le = ap (λ (o : Ordering). is_le (ordering_then o Greater) && is_before_edge edge other) (key_turns other key is)
    at_most Equal is le = ap (λ (o : Ordering). is_le (ordering_then o Greater) && is_before_edge edge other) (key_tied key other (sym (same_key other key (ap is_eq is))))
    at_most Greater is le = cc

not_before_between : (edge : Edge) (key other : List Value) → is_before_edge edge other ≡ false → has (record { lo = After key; hi = edge }) other ≡ false
not_before_between edge key other is = ap (λ (b : Bool). edge_le (After key) (Before other) && b) is ∙ second (edge_le (After key) (Before other))
  where
    second : (b : Bool) → b && false ≡ false
    second true = refl
    second false = refl

greatest_here : (key_len : ℕ) (edge : Edge) (row : List Value) (rows : List (List Value)) → is_before_edge edge (take key_len row) ≡ true → rows_before key_len edge rows ≡ []
    → IsGreatestBefore key_len edge (row ∷ rows) (take key_len row)
greatest_here key_len edge row rows before none = record {
  there = there_own key_len row rows;
  before = before;
  greatest = λ other there. of_two other (there_of key_len other row rows there);
}
  where
    of_two : (other : List Value) → (other ≡ take key_len row) ⊎ HasRowAt key_len rows other → has (record { lo = After (take key_len row); hi = edge }) other ≡ false
    of_two other (inl same) = not_behind edge (take key_len row) other (ap is_le (key_tied other (take key_len row) same))
    of_two other (inr later) = not_before_between edge (take key_len row) other (no_rows_before key_len edge rows none other later)

greatest_later : (key_len : ℕ) (edge : Edge) (key row : List Value) (rows : List (List Value)) → IsBelowAll key_len row rows
    → IsGreatestBefore key_len edge rows key → IsGreatestBefore key_len edge (row ∷ rows) key
greatest_later key_len edge key row rows all greatest = record {
  there = there_more key_len key row rows greatest.there;
  before = greatest.before;
  greatest = λ other there. of_two other (there_of key_len other row rows there);
}
  where
    of_two : (other : List Value) → (other ≡ take key_len row) ⊎ HasRowAt key_len rows other → has (record { lo = After key; hi = edge }) other ≡ false
    of_two other (inl same) = not_behind edge key other (ap (λ (k : List Value). is_le (key_cmp k key)) same ∙ ap is_le (below_there key_len row key rows all greatest.there))
    of_two other (inr later) = greatest.greatest other later

greatest_first : (key_len : ℕ) (edge : Edge) (key row : List Value) (rows front : List (List Value)) (before : Bool) → is_before_edge edge (take key_len row) ≡ before
    → rows_before key_len edge rows ≡ front → IsBelowAll key_len row rows
    → (option_map (take key_len) (slice_get front (length front - 1)) ≡ Some key → IsGreatestBefore key_len edge rows key)
    → option_map (take key_len) (slice_get (cond before (row ∷ front) front) (length (cond before (row ∷ front) front) - 1)) ≡ Some key
    → IsGreatestBefore key_len edge (row ∷ rows) key
greatest_first key_len edge key row rows [] true is front all later found =
    subst (IsGreatestBefore key_len edge (row ∷ rows)) (let same : take key_len row ≡ key = cc in same) (greatest_here key_len edge row rows is front)
greatest_first key_len edge key row rows (other ∷ others) true is front all later found =
    greatest_later key_len edge key row rows all (later (ap (option_map (take key_len)) (sym (last_more row other others)) ∙ found))
greatest_first key_len edge key row rows front false is same all later found = greatest_later key_len edge key row rows all (later found)

pub greatest_is : (key_len : ℕ) (edge : Edge) (key : List Value) (rows : List (List Value)) → AreOrdered key_len rows → greatest_before key_len edge rows ≡ Some key → IsGreatestBefore key_len edge rows key
greatest_is key_len edge key [] ordered found = absurd (let no : None ≡ Some key = found in cc)
greatest_is key_len edge key (row ∷ rows) ordered found =
    greatest_first key_len edge key row rows (rows_before key_len edge rows) (is_before_edge edge (take key_len row)) refl refl ordered.1 (greatest_is key_len edge key rows ordered.2) found

below_le : (a b : List Value) → key_cmp a b ≡ Less → edge_le (Before a) (Before b) ≡ true
below_le a b below = ap is_le below

-- a key after one that is past an edge is past it
past_stays : (edge : Edge) (a b : List Value) → is_past_edge edge a ≡ true → key_cmp a b ≡ Less → is_past_edge edge b ≡ true
past_stays edge a b past below = edge_le_trans edge (Before a) (Before b) past (below_le a b below)

-- rows after one that is past an edge are past it
all_past : (key_len : ℕ) (edge : Edge) (row : List Value) (rows : List (List Value)) → is_past_edge edge (take key_len row) ≡ true → IsBelowAll key_len row rows → rows_past key_len edge rows ≡ rows
all_past key_len edge row [] past all = refl
all_past key_len edge row (other ∷ others) past all =
    ap (λ (b : Bool). cond b (other ∷ rows_past key_len edge others) (rows_past key_len edge others)) (past_stays edge (take key_len row) (take key_len other) past all.0)
    ∙ ap (λ (rs : List (List Value)). other ∷ rs) (all_past key_len edge row others past all.1)

not_past_own : (key : List Value) → is_past_edge (After key) key ≡ false
not_past_own key = ap (λ (o : Ordering). is_le (ordering_then o Greater)) (key_ties key)

past_greater : (key other : List Value) → key_cmp key other ≡ Less → is_past_edge (After key) other ≡ true
past_greater key other below = ap (λ (o : Ordering). is_le (ordering_then o Greater)) below

not_past_greater : (key other : List Value) → key_cmp other key ≡ Less → is_past_edge (After key) other ≡ false
not_past_greater key other below = ap (λ (o : Ordering). is_le (ordering_then o Greater)) (key_turns other key below)

-- the rows past a row's own key are those after it
behind_own : (key_len : ℕ) (low : List Value) (rows : List (List Value)) → IsBelowAll key_len low rows → rows_past key_len (After (take key_len low)) rows ≡ rows
behind_own key_len low [] all = refl
behind_own key_len low (other ∷ others) all =
    ap (λ (b : Bool). cond b (other ∷ rows_past key_len (After (take key_len low)) others) (rows_past key_len (After (take key_len low)) others)) (past_greater (take key_len low) (take key_len other) all.0)
    ∙ ap (λ (rs : List (List Value)). other ∷ rs) (behind_own key_len low others all.1)

skipped : (key_len : ℕ) (edge : Edge) (row : List Value) (rows : List (List Value)) → is_past_edge edge (take key_len row) ≡ false → rows_past key_len edge (row ∷ rows) ≡ rows_past key_len edge rows
skipped key_len edge row rows is = ap (λ (b : Bool). cond b (row ∷ rows_past key_len edge rows) (rows_past key_len edge rows)) is

below_got : (key_len : ℕ) (low row : List Value) (rows : List (List Value)) (n : ℕ) → IsBelowAll key_len low rows → slice_get rows n ≡ Some row → key_cmp (take key_len low) (take key_len row) ≡ Less
below_got key_len low row [] n all is = cc
below_got key_len low row (first ∷ rows) zero all is =
    let same : first ≡ row = cc in ap (λ (r : List Value). key_cmp (take key_len low) (take key_len r)) (sym same) ∙ all.0
below_got key_len low row (first ∷ rows) (suc n) all is = below_got key_len low row rows n all.1 is

step_first : (key_len : ℕ) (edge : Edge) (row first : List Value) (rows : List (List Value)) (n : ℕ) (past : Bool) → is_past_edge edge (take key_len first) ≡ past
    → IsBelowAll key_len first rows
    → ((m : ℕ) → slice_get (rows_past key_len edge rows) m ≡ Some row → slice_get (rows_past key_len edge rows) (suc m) ≡ row_past key_len (After (take key_len row)) rows)
    → slice_get (cond past (first ∷ rows_past key_len edge rows) (rows_past key_len edge rows)) n ≡ Some row
    → slice_get (cond past (first ∷ rows_past key_len edge rows) (rows_past key_len edge rows)) (suc n) ≡ row_past key_len (After (take key_len row)) (first ∷ rows)
step_first key_len edge row first rows zero true is all later found =
    let same : first ≡ row = cc in
    ap (λ (rs : List (List Value)). slice_get rs 0) (all_past key_len edge first rows is all)
    ∙ sym (ap (λ (rs : List (List Value)). slice_get rs 0) (skipped key_len (After (take key_len first)) first rows (not_past_own (take key_len first)) ∙ behind_own key_len first rows all))
    ∙ ap (λ (r : List Value). row_past key_len (After (take key_len r)) (first ∷ rows)) same
step_first key_len edge row first rows (suc n) true is all later found =
    later n found
    ∙ sym (ap (λ (rs : List (List Value)). slice_get rs 0) (skipped key_len (After (take key_len row)) first rows
    (not_past_greater (take key_len row) (take key_len first)
    (below_got key_len first row (rows_past key_len edge rows) n (below_filtered key_len (λ (other : List Value). is_past_edge edge (take key_len other)) first rows all) found))))
step_first key_len edge row first rows n false is all later found =
    later n found
    ∙ sym (ap (λ (rs : List (List Value)). slice_get rs 0) (skipped key_len (After (take key_len row)) first rows
    (not_past_greater (take key_len row) (take key_len first)
    (below_got key_len first row (rows_past key_len edge rows) n (below_filtered key_len (λ (other : List Value). is_past_edge edge (take key_len other)) first rows all) found))))

-- the row after one of those past an edge is the first past its key
next_row : (key_len : ℕ) (edge : Edge) (row : List Value) (rows : List (List Value)) (n : ℕ) → AreOrdered key_len rows → slice_get (rows_past key_len edge rows) n ≡ Some row
    → slice_get (rows_past key_len edge rows) (suc n) ≡ row_past key_len (After (take key_len row)) rows
next_row key_len edge row [] n ordered found = cc
next_row key_len edge row (first ∷ rows) n ordered found =
    step_first key_len edge row first rows n (is_past_edge edge (take key_len first)) refl ordered.1 (λ m is. next_row key_len edge row rows m ordered.2 is) found

key_got : (key_len : ℕ) (edge : Edge) (key : List Value) (rows : List (List Value)) (n : ℕ) (row : Option (List Value)) → AreOrdered key_len rows
    → slice_get (rows_past key_len edge rows) n ≡ row → option_map (take key_len) row ≡ Some key
    → option_map (take key_len) (slice_get (rows_past key_len edge rows) (suc n)) ≡ least_past key_len (After key) rows
key_got key_len edge key rows n None ordered is found = absurd (let no : None ≡ Some key = found in cc)
key_got key_len edge key rows n (Some row) ordered is found =
    let same : take key_len row ≡ key = cc in
    ap (option_map (take key_len)) (next_row key_len edge row rows n ordered is)
    ∙ ap (λ (k : List Value). least_past key_len (After k) rows) same

-- a further key past an edge is the next past the one before it
pub further : (key_len : ℕ) (edge : Edge) (n : ℕ) (key : List Value) (rows : List (List Value)) → AreOrdered key_len rows → 1 ≤ n → nth_past key_len edge n rows ≡ Some key
    → nth_past key_len edge (n + 1) rows ≡ least_past key_len (After key) rows
further key_len edge n key rows ordered one found =
    let e : (n + 1) - 1 ≡ suc (n - 1) = omega arith in
    ap (λ (m : ℕ). option_map (take key_len) (slice_get (rows_past key_len edge rows) m)) e
    ∙ key_got key_len edge key rows (n - 1) (slice_get (rows_past key_len edge rows) (n - 1)) ordered refl found

past_end : (key_len : ℕ) (rows : List (List Value)) (n : ℕ) → option_map (take key_len) (slice_get rows n) ≡ None → option_map (take key_len) (slice_get rows (suc n)) ≡ None
past_end key_len [] n none = refl
past_end key_len (row ∷ rows) zero none = absurd (let no : Some (take key_len row) ≡ None = none in cc)
past_end key_len (row ∷ rows) (suc n) none = past_end key_len rows n none

-- after the end of the keys past an edge there are none
pub no_further : (key_len : ℕ) (edge : Edge) (n : ℕ) (rows : List (List Value)) → 1 ≤ n → nth_past key_len edge n rows ≡ None → nth_past key_len edge (n + 1) rows ≡ None
no_further key_len edge n rows one none =
    let e : (n + 1) - 1 ≡ suc (n - 1) = omega arith in
    ap (λ (m : ℕ). option_map (take key_len) (slice_get (rows_past key_len edge rows) m)) e
    ∙ past_end key_len (rows_past key_len edge rows) (n - 1) none
