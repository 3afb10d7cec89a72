-- Rows stay by rising key when one is put in or taken away, and hold at each key what they should.
use Rattle.std.proofs.Common.{◌≡◌, ◌∙◌, ℕ, Bool, true, false, cond, None, List, [], ◌∷◌, take, refl, ap, sym}
use Rattle.std.specs.Prelude.{filter}
use Rattle.std.specs.Ordering.{is_le, match_ordering}
use Rattle.std.specs.declared.cmp.Ordering.{Ordering}
use Rattle.std.specs.declared.cmp.Ordering.TheVariants.{Less, Equal, Greater}
use Rattle.row_types.specs.declared.values.Value.{Value}
use Rattle.row_types.specs.Order.{key_cmp}
use Rattle.row_types.proofs.OrderLemmas.{key_at_most, key_turns_back}
use Rattle.row_types.specs.KeyRows.{HasKey, AreOrdered, IsBelowAll, put_row}

below_put_at : (key_len : ℕ) (low row other : List Value) (others : List (List Value)) (o : Ordering)
    → key_cmp (take key_len low) (take key_len row) ≡ Less → key_cmp (take key_len low) (take key_len other) ≡ Less → IsBelowAll key_len low others
    → IsBelowAll key_len low (put_row key_len row others)
    → IsBelowAll key_len low (match_ordering o (row ∷ other ∷ others) (row ∷ others) (other ∷ put_row key_len row others))
below_put_at key_len low row other others Less less first rest more = (less, (first, rest))
below_put_at key_len low row other others Equal less first rest more = (less, rest)
below_put_at key_len low row other others Greater less first rest more = (first, more)

-- a row below all is below all and one more
below_put : (key_len : ℕ) (low row : List Value) (rows : List (List Value)) → key_cmp (take key_len low) (take key_len row) ≡ Less → IsBelowAll key_len low rows
    → IsBelowAll key_len low (put_row key_len row rows)
below_put key_len low row [] less all = (less, tt)
below_put key_len low row (other ∷ others) less all =
    below_put_at key_len low row other others (key_cmp (take key_len row) (take key_len other)) less all.0 all.1 (below_put key_len low row others less all.1)

-- a row at or below one that is below all is so too
below_first : (key_len : ℕ) (low first : List Value) (rows : List (List Value)) → is_le (key_cmp (take key_len low) (take key_len first)) ≡ true → IsBelowAll key_len first rows → IsBelowAll key_len low rows
below_first key_len low first [] le all = tt
below_first key_len low first (other ∷ others) le all =
    (key_at_most (take key_len low) (take key_len first) (take key_len other) le all.0, below_first key_len low first others le all.1)

put_ordered_at : (key_len : ℕ) (row other : List Value) (others : List (List Value)) (o : Ordering) → key_cmp (take key_len row) (take key_len other) ≡ o
    → HasKey key_len row → HasKey key_len other → IsBelowAll key_len other others → AreOrdered key_len others → AreOrdered key_len (put_row key_len row others)
    → AreOrdered key_len (match_ordering o (row ∷ other ∷ others) (row ∷ others) (other ∷ put_row key_len row others))
put_ordered_at key_len row other others Less is has first all rest more =
    (has, (is, below_first key_len row other others (ap is_le is) all), (first, all, rest))
put_ordered_at key_len row other others Equal is has first all rest more = (has, below_first key_len row other others (ap is_le is) all, rest)
put_ordered_at key_len row other others Greater is has first all rest more =
    (first, below_put key_len other row others (key_turns_back (take key_len row) (take key_len other) is) all, more)

-- rows with one put at its key rise by key
pub put_ordered : (key_len : ℕ) (row : List Value) (rows : List (List Value)) → HasKey key_len row → AreOrdered key_len rows → AreOrdered key_len (put_row key_len row rows)
put_ordered key_len row [] has ordered = (has, tt, tt)
put_ordered key_len row (other ∷ others) has ordered =
    put_ordered_at key_len row other others (key_cmp (take key_len row) (take key_len other)) refl has ordered.0 ordered.1 ordered.2
    (put_ordered key_len row others has ordered.2)

below_kept : (key_len : ℕ) (low row : List Value) (rows : List (List Value)) (keeps : Bool) → key_cmp (take key_len low) (take key_len row) ≡ Less → IsBelowAll key_len low rows → IsBelowAll key_len low (cond keeps (row ∷ rows) rows)
below_kept key_len low row rows true first rest = (first, rest)
below_kept key_len low row rows false first rest = rest

-- a row below all is below each part of them
pub below_filtered : (key_len : ℕ) (test : List Value → Bool) (low : List Value) (rows : List (List Value)) → IsBelowAll key_len low rows → IsBelowAll key_len low (filter test rows)
below_filtered key_len test low [] all = tt
below_filtered key_len test low (row ∷ rows) all =
    below_kept key_len low row (filter test rows) (test row) all.0 (below_filtered key_len test low rows all.1)

ordered_kept : (key_len : ℕ) (row : List Value) (rows : List (List Value)) (keeps : Bool) → HasKey key_len row → IsBelowAll key_len row rows → AreOrdered key_len rows → AreOrdered key_len (cond keeps (row ∷ rows) rows)
ordered_kept key_len row rows true has all ordered = (has, all, ordered)
ordered_kept key_len row rows false has all ordered = ordered

-- a part of rows that rise by key rises by key
pub filter_ordered : (key_len : ℕ) (test : List Value → Bool) (rows : List (List Value)) → AreOrdered key_len rows → AreOrdered key_len (filter test rows)
filter_ordered key_len test [] ordered = tt
filter_ordered key_len test (row ∷ rows) ordered =
    ordered_kept key_len row (filter test rows) (test row) ordered.0 (below_filtered key_len test row rows ordered.1) (filter_ordered key_len test rows ordered.2)
