-- What the rows have at a key's place, and what putting a row there or taking it away gives.
use Rattle.std.proofs.Common.{◌≡◌, ◌∙◌, ℕ, zero, suc, ◌<◌, ◌≤◌, true, false, not, cond, Some, List, [], ◌∷◌, length, take, refl, ap, arith}
use Rattle.std.specs.Ordering.{is_eq, is_le, match_ordering}
use Rattle.std.specs.declared.cmp.Ordering.{Ordering}
use Rattle.std.specs.declared.cmp.Ordering.TheVariants.{Less, Equal, Greater}
use Rattle.row_types.specs.declared.values.Value.{Value}
use Rattle.row_types.specs.Order.{key_cmp}
use Rattle.row_types.proofs.OrderLemmas.{key_at_most}
use Rattle.row_types.proofs.SameRowLemmas.{none_below}
use Rattle.row_types.specs.KeyRows.{AreOrdered, IsBelowAll, row_at, put_row, without_key}
use Rattle.ordered_table.specs.Places.{is_past, is_there, IsCut, IsTakenAt, IsFreeAt}
use Rattle.ordered_table.proofs.CutLemmas.{cut_rest}

pub is_greater : (o : Ordering) → is_le o ≡ false → o ≡ Greater
is_greater Less e = cc
is_greater Equal e = cc
is_greater Greater e = refl

is_less : (o : Ordering) → is_le o ≡ true → is_eq o ≡ false → o ≡ Less
is_less Less le other = refl
is_less Equal le other = cc
is_less Greater le other = cc

-- a key below that of the first row is at none, and taking it away leaves the rows
pub all_left : (key_len : ℕ) (key row : List Value) (rows : List (List Value)) → is_le (key_cmp key (take key_len row)) ≡ true → IsBelowAll key_len row rows → without_key key_len key rows ≡ rows
all_left key_len key row [] below all = refl
all_left key_len key row (other ∷ others) below all =
    ap (λ (o : Ordering). cond (not (is_eq o)) (other ∷ without_key key_len key others) (without_key key_len key others))
    (key_at_most key (take key_len row) (take key_len other) below all.0)
    ∙ ap (λ (rs : List (List Value)). other ∷ rs) (all_left key_len key row others below all.1)

at_greater : (key_len : ℕ) (key row : List Value) (rows : List (List Value)) → key_cmp key (take key_len row) ≡ Greater → row_at key_len key (row ∷ rows) ≡ row_at key_len key rows
at_greater key_len key row rows e = ap (λ (o : Ordering). cond (is_eq o) (Some row) (row_at key_len key rows)) e

put_greater : (key_len : ℕ) (key row other : List Value) (others : List (List Value)) → take key_len row ≡ key → key_cmp key (take key_len other) ≡ Greater
    → put_row key_len row (other ∷ others) ≡ other ∷ put_row key_len row others
put_greater key_len key row other others is e =
    ap (λ (k : List Value). match_ordering (key_cmp k (take key_len other)) (row ∷ other ∷ others) (row ∷ others) (other ∷ put_row key_len row others)) is
    ∙ ap (λ (o : Ordering). match_ordering o (row ∷ other ∷ others) (row ∷ others) (other ∷ put_row key_len row others)) e

left_greater : (key_len : ℕ) (key other : List Value) (others : List (List Value)) → key_cmp key (take key_len other) ≡ Greater
    → without_key key_len key (other ∷ others) ≡ other ∷ without_key key_len key others
left_greater key_len key other others e =
    ap (λ (o : Ordering). cond (not (is_eq o)) (other ∷ without_key key_len key others) (without_key key_len key others)) e

put_equal : (key_len : ℕ) (key row other : List Value) (others : List (List Value)) → take key_len row ≡ key → key_cmp key (take key_len other) ≡ Equal
    → put_row key_len row (other ∷ others) ≡ row ∷ others
put_equal key_len key row other others is e =
    ap (λ (k : List Value). match_ordering (key_cmp k (take key_len other)) (row ∷ other ∷ others) (row ∷ others) (other ∷ put_row key_len row others)) is
    ∙ ap (λ (o : Ordering). match_ordering o (row ∷ other ∷ others) (row ∷ others) (other ∷ put_row key_len row others)) e

put_less : (key_len : ℕ) (key row other : List Value) (others : List (List Value)) → take key_len row ≡ key → key_cmp key (take key_len other) ≡ Less
    → put_row key_len row (other ∷ others) ≡ row ∷ other ∷ others
put_less key_len key row other others is e =
    ap (λ (k : List Value). match_ordering (key_cmp k (take key_len other)) (row ∷ other ∷ others) (row ∷ others) (other ∷ put_row key_len row others)) is
    ∙ ap (λ (o : Ordering). match_ordering o (row ∷ other ∷ others) (row ∷ others) (other ∷ put_row key_len row others)) e

taken_first : (key_len : ℕ) (key other : List Value) (others : List (List Value)) → IsBelowAll key_len other others → key_cmp key (take key_len other) ≡ Equal
    → IsTakenAt key_len key (other ∷ others) 0
taken_first key_len key other others all e = record {
  within = omega arith;
  row = λ default. ap (λ (o : Ordering). cond (is_eq o) (Some other) (row_at key_len key others)) e;
  put = λ row is. put_equal key_len key row other others is e;
  removed =
      ap (λ (o : Ordering). cond (not (is_eq o)) (other ∷ without_key key_len key others) (without_key key_len key others)) e
      ∙ all_left key_len key other others (ap is_le e) all;
}

taken_later : (key_len : ℕ) (key other : List Value) (others : List (List Value)) (index : ℕ) → key_cmp key (take key_len other) ≡ Greater
    → IsTakenAt key_len key others index → IsTakenAt key_len key (other ∷ others) (suc index)
taken_later key_len key other others index e taken =
    let w : index < length others = taken.within in
    record {
      within = omega arith;
      row = λ default. at_greater key_len key other others e ∙ taken.row default;
      put = λ row is. put_greater key_len key row other others is e ∙ ap (λ (rs : List (List Value)). other ∷ rs) (taken.put row is);
      removed = left_greater key_len key other others e ∙ ap (λ (rs : List (List Value)). other ∷ rs) taken.removed;
    }

is_equal : (o : Ordering) → is_eq o ≡ true → o ≡ Equal
is_equal Less e = cc
is_equal Equal e = refl
is_equal Greater e = cc

-- the row at the place of a key has it
pub taken_at : (key_len : ℕ) (key : List Value) (rows : List (List Value)) (index : ℕ) → AreOrdered key_len rows
    → IsCut key_len (is_past false key) rows index → is_there key_len key rows index ≡ true
    → IsTakenAt key_len key rows index
taken_at key_len key [] index ordered cut there = cc
taken_at key_len key (other ∷ others) zero ordered cut there =
    taken_first key_len key other others ordered.1 (is_equal (key_cmp key (take key_len other)) there)
taken_at key_len key (other ∷ others) (suc index) ordered cut there =
    taken_later key_len key other others index (is_greater (key_cmp key (take key_len other)) (cut.before 0 (omega arith)))
    (taken_at key_len key others index ordered.2 (cut_rest key_len (is_past false key) other others index cut) there)

free_first : (key_len : ℕ) (key other : List Value) (others : List (List Value)) → IsBelowAll key_len other others → key_cmp key (take key_len other) ≡ Less
    → IsFreeAt key_len key (other ∷ others) 0
free_first key_len key other others all e = record {
  within = omega arith;
  row =
      ap (λ (o : Ordering). cond (is_eq o) (Some other) (row_at key_len key others)) e
      ∙ none_below key_len key other others (ap is_le e) all;
  put = λ row is. put_less key_len key row other others is e;
  removed =
      ap (λ (o : Ordering). cond (not (is_eq o)) (other ∷ without_key key_len key others) (without_key key_len key others)) e
      ∙ ap (λ (rs : List (List Value)). other ∷ rs) (all_left key_len key other others (ap is_le e) all);
}

free_later : (key_len : ℕ) (key other : List Value) (others : List (List Value)) (index : ℕ) → key_cmp key (take key_len other) ≡ Greater
    → IsFreeAt key_len key others index → IsFreeAt key_len key (other ∷ others) (suc index)
free_later key_len key other others index e free =
    let w : index ≤ length others = free.within in
    record {
      within = omega arith;
      row = at_greater key_len key other others e ∙ free.row;
      put = λ row is. put_greater key_len key row other others is e ∙ ap (λ (rs : List (List Value)). other ∷ rs) (free.put row is);
      removed = left_greater key_len key other others e ∙ ap (λ (rs : List (List Value)). other ∷ rs) free.removed;
    }

-- no row has the key where the one at its place hasn't
pub free_at : (key_len : ℕ) (key : List Value) (rows : List (List Value)) (index : ℕ) → AreOrdered key_len rows
    → IsCut key_len (is_past false key) rows index → is_there key_len key rows index ≡ false
    → IsFreeAt key_len key rows index
free_at key_len key [] zero ordered cut there = record { within = omega arith; row = refl; put = λ row is. refl; removed = refl }
free_at key_len key [] (suc index) ordered cut there = let w : suc index ≤ 0 = cut.within in absurd (omega arith)
free_at key_len key (first ∷ rows) zero ordered cut there =
    free_first key_len key first rows ordered.1
    (is_less (key_cmp key (take key_len first)) (cut.behind 0 (omega arith) (omega arith)) there)
free_at key_len key (first ∷ rows) (suc index) ordered cut there =
    free_later key_len key first rows index (is_greater (key_cmp key (take key_len first)) (cut.before 0 (omega arith)))
    (free_at key_len key rows index ordered.2 (cut_rest key_len (is_past false key) first rows index cut) there)
