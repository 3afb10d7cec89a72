-- Values, keys and rows tie exactly where they are equal.
use Rattle.std.proofs.Common.{◌≡◌, List, [], ◌∷◌, Bool, true, false, sym, ap, subst, refl, IsTrue, ◌↔◌}
use Rattle.std.specs.Ordering.{nat_cmp, int_cmp, is_eq, ordering_reverse}
use Rattle.std.specs.Cmp.{IsTotalOrder}
use Rattle.std.specs.Cmp.Lexicographic.{slice_cmp}
use Rattle.std.specs.FinMap.{IsAntisymmetric, nat_cmp-IsAntisymmetric, int_cmp-IsAntisymmetric, slice_cmp-IsAntisymmetric}
use Rattle.std.specs.declared.cmp.Ordering.{Ordering}
use Rattle.std.specs.declared.cmp.Ordering.TheVariants.{Less, Equal, Greater}
use Rattle.std.proofs.lemmas.Cmp.{int_cmp_total, nat_list_cmp_total}
use Rattle.row_types.specs.declared.values.Value.{Value}
use Rattle.row_types.specs.declared.values.Value.TheVariants.{Null, Int, Text}
use Rattle.row_types.specs.Order.{value_cmp, key_cmp}
use Rattle.world_model.specs.Verdicts.{rows_equal}

-- what is its own reverse is no order but equality
own_reverse : (o : Ordering) → o ≡ ordering_reverse o → o ≡ Equal
own_reverse Less e = cc
own_reverse Equal e = refl
own_reverse Greater e = cc

ties_itself : {K : Type 0} (R : K → K → Ordering) → IsTotalOrder R → (x : K) → R x x ≡ Equal
ties_itself R order x = own_reverse (R x x) (order.antisymm x x)

lists_tie : {K : Type 0} (R : K → K → Ordering) → ((x : K) → R x x ≡ Equal) → (xs : List K) → slice_cmp R xs xs ≡ Equal
lists_tie R tie [] = refl
lists_tie R tie (x ∷ xs) = rw (tie x) (lists_tie R tie xs)

value_ties : (value : Value) → value_cmp value value ≡ Equal
value_ties Null = refl
value_ties (Int n) = ties_itself int_cmp int_cmp_total n
value_ties (Text text) = ties_itself (slice_cmp nat_cmp) nat_list_cmp_total text

value_same : IsAntisymmetric value_cmp
value_same Null Null e = refl
value_same Null (Int n) e = cc
value_same Null (Text t) e = cc
value_same (Int m) Null e = cc
value_same (Int m) (Int n) e = ap Int (int_cmp-IsAntisymmetric m n e)
value_same (Int m) (Text t) e = cc
value_same (Text s) Null e = cc
value_same (Text s) (Int n) e = cc
value_same (Text s) (Text t) e = ap Text (slice_cmp-IsAntisymmetric nat_cmp-IsAntisymmetric s t e)

key_ties : (key : List Value) → key_cmp key key ≡ Equal
key_ties = lists_tie value_cmp value_ties

key_same : IsAntisymmetric key_cmp
key_same = slice_cmp-IsAntisymmetric value_same

is_equal : (o : Ordering) → IsTrue (is_eq o) → o ≡ Equal
is_equal Less e = cc
is_equal Equal e = refl
is_equal Greater e = cc

same_test : (a b : Bool) → (IsTrue a → IsTrue b) → (IsTrue b → IsTrue a) → a ≡ b
same_test true true to from = refl
same_test true false to from = sym (to refl)
same_test false true to from = from refl
same_test false false to from = refl

-- tables compare as equal exactly where they are
pub rows_equal_exact : (rows others : List (List Value)) → IsTrue (rows_equal rows others) ↔ (rows ≡ others)
rows_equal_exact rows others = (
  λ e. slice_cmp-IsAntisymmetric key_same rows others (is_equal (slice_cmp key_cmp rows others) e),
  λ e. ap is_eq (subst (λ (xs : List (List Value)). slice_cmp key_cmp rows xs ≡ Equal) e (lists_tie key_cmp key_ties rows)),
)

-- so a test for equal rows is that comparison
pub rows_equal_is : (same : Bool) (rows others : List (List Value)) → IsTrue same ↔ (rows ≡ others) → same ≡ rows_equal rows others
rows_equal_is same rows others is =
    let exact = rows_equal_exact rows others in
    same_test same (rows_equal rows others) (λ e. exact.1 (is.0 e)) (λ e. is.1 (exact.0 e))
