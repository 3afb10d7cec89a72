-- Different leading numbers give the order of keys.
use Rattle.std.proofs.Common.{◌≡◌, ◌∙◌, ℕ, zero, suc, ℤ, ◌≤◌, true, Option, None, Some, List, [], ◌∷◌, take, refl, ap, arith}
use Rattle.std.specs.Prelude.{slice_index_or}
use Rattle.std.specs.Ordering.{is_ne, is_lt, ordering_then}
use Rattle.std.specs.declared.cmp.Ordering.{Ordering}
use Rattle.std.specs.declared.cmp.Ordering.TheVariants.{Less, Equal, Greater}
use Rattle.row_types.specs.declared.values.Value.{Value}
use Rattle.row_types.specs.declared.values.Value.TheVariants.{Null, Int, Text}
use Rattle.row_types.specs.Order.{key_cmp}
use Rattle.ordered_table.specs.Places.{is_past}
use Rattle.ordered_table.specs.Leading.{leading, page_leading, leading_cmp}

not_equal : (o : Ordering) → o ≡ Equal → is_ne o ≡ true → ⊥
not_equal Less equal other = cc
not_equal Equal equal other = cc
not_equal Greater equal other = cc

then_first : (o rest : Ordering) → is_ne o ≡ true → o ≡ ordering_then o rest
then_first Less rest other = refl
then_first Equal rest other = cc
then_first Greater rest other = refl

none_equal : (number : Option ℤ) → leading_cmp number None ≡ Equal
none_equal None = refl
none_equal (Some n) = refl

-- the order of two keys is that of their leading numbers, where these differ
pub leading_decides : (o : Ordering) (key_len : ℕ) (key row : List Value) → 1 ≤ key_len → o ≡ leading_cmp (leading key) (leading row) → is_ne o ≡ true
    → o ≡ key_cmp key (take key_len row)
leading_decides o zero key row least is other = absurd (omega arith)
leading_decides o (suc n) [] row least is other = absurd (not_equal o is other)
leading_decides o (suc n) (Null ∷ values) row least is other = absurd (not_equal o is other)
leading_decides o (suc n) (Text text ∷ values) row least is other = absurd (not_equal o is other)
leading_decides o (suc n) (Int i ∷ values) [] least is other = absurd (not_equal o is other)
leading_decides o (suc n) (Int i ∷ values) (Null ∷ others) least is other = absurd (not_equal o is other)
leading_decides o (suc n) (Int i ∷ values) (Text text ∷ others) least is other = absurd (not_equal o is other)
leading_decides o (suc n) (Int i ∷ values) (Int j ∷ others) least is other =
    then_first o (key_cmp values (take n others)) other
    ∙ ap (λ (first : Ordering). ordering_then first (key_cmp values (take n others))) is

-- and so that of a key and a page's first row
pub page_decides : (o : Ordering) (key_len : ℕ) (key : List Value) (page : List (List Value)) → 1 ≤ key_len → o ≡ leading_cmp (leading key) (page_leading page)
    → is_ne o ≡ true → is_lt o ≡ is_past true key (take key_len (slice_index_or page 0 []))
page_decides o key_len key [] least is other = absurd (not_equal o (is ∙ none_equal (leading key)) other)
page_decides o key_len key (row ∷ rows) least is other = ap is_lt (leading_decides o key_len key row least is other)
