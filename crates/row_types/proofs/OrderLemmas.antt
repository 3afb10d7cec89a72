-- The orders of values and keys are total, and only equal ones tie.
use Rattle.std.proofs.Common.{◌≡◌, ◌∙◌, ℕ, ℤ, pos, List, [], true, sym, ap, subst, refl}
use Rattle.std.specs.Ordering.{nat_cmp, int_cmp, is_le, ordering_reverse, ordering_then, on, then_cmp}
use Rattle.std.specs.Cmp.{IsTotalOrder, nat_cmp_total, on_total, then_total}
use Rattle.std.specs.Cmp.Lexicographic.{slice_cmp, lists_total}
use Rattle.std.specs.FinMap.{IsAntisymmetric, nat_cmp-IsAntisymmetric, int_cmp-IsAntisymmetric, slice_cmp-IsAntisymmetric}
use Rattle.std.specs.declared.cmp.Ordering.{Ordering}
use Rattle.std.specs.declared.cmp.Ordering.TheVariants.{Less, Equal, Greater}
use Rattle.std.proofs.lemmas.Cmp.{int_cmp_total, nat_list_cmp_total}
use Rattle.row_types.specs.declared.values.Value.{Value}
use Rattle.row_types.specs.declared.values.Value.TheVariants.{Null, Int, Text}
use Rattle.row_types.specs.Order.{value_cmp, key_cmp}

abbrev rank : Value → ℕ
rank Null = 0
rank (Int n) = 1
rank (Text t) = 2

abbrev number : Value → ℤ
number Null = pos 0
number (Int n) = n
number (Text t) = pos 0

abbrev text : Value → List ℕ
text Null = []
text (Int n) = []
text (Text t) = t

abbrev ranked : Value → Value → Ordering
ranked = then_cmp (on rank nat_cmp) (then_cmp (on number int_cmp) (on text (slice_cmp nat_cmp)))

ranked_total : IsTotalOrder ranked
ranked_total = then_total (on_total rank nat_cmp_total) (then_total (on_total number int_cmp_total) (on_total text nat_list_cmp_total))

pub equal_last : (o : Ordering) → o ≡ ordering_then o Equal
equal_last Less = refl
equal_last Equal = refl
equal_last Greater = refl

as_ranked : (a b : Value) → value_cmp a b ≡ ranked a b
as_ranked Null Null = refl
as_ranked Null (Int n) = refl
as_ranked Null (Text t) = refl
as_ranked (Int m) Null = refl
as_ranked (Int m) (Int n) = equal_last (int_cmp m n)
as_ranked (Int m) (Text t) = refl
as_ranked (Text s) Null = refl
as_ranked (Text s) (Int n) = refl
as_ranked (Text s) (Text t) = refl

pub values_total : IsTotalOrder value_cmp
values_total = subst IsTotalOrder (λ i a b. sym (as_ranked a b) i) ranked_total

pub keys_total : IsTotalOrder key_cmp
keys_total = lists_total values_total

values_exact : IsAntisymmetric value_cmp
values_exact Null Null e = refl
values_exact Null (Int n) e = cc
values_exact Null (Text t) e = cc
values_exact (Int m) Null e = cc
values_exact (Int m) (Int n) e = ap Int (int_cmp-IsAntisymmetric m n e)
values_exact (Int m) (Text t) e = cc
values_exact (Text s) Null e = cc
values_exact (Text s) (Int n) e = cc
values_exact (Text s) (Text t) e = ap Text (slice_cmp-IsAntisymmetric nat_cmp-IsAntisymmetric s t e)

-- keys that tie are equal
pub keys_exact : (a b : List Value) → key_cmp a b ≡ Equal → a ≡ b
keys_exact = slice_cmp-IsAntisymmetric values_exact

own_reverse : (o : Ordering) → o ≡ ordering_reverse o → o ≡ Equal
own_reverse Less e = cc
own_reverse Equal e = refl
own_reverse Greater e = cc

-- a key ties with itself
pub key_ties : (a : List Value) → key_cmp a a ≡ Equal
key_ties a = own_reverse (key_cmp a a) (keys_total.antisymm a a)

pub key_tied : (a b : List Value) → a ≡ b → key_cmp a b ≡ Equal
key_tied a b same = ap (key_cmp a) (sym same) ∙ key_ties a

-- the order the other way round
pub key_turns : (a b : List Value) → key_cmp a b ≡ Less → key_cmp b a ≡ Greater
key_turns a b below = keys_total.antisymm b a ∙ ap ordering_reverse below

pub key_turns_back : (a b : List Value) → key_cmp a b ≡ Greater → key_cmp b a ≡ Less
key_turns_back a b above = keys_total.antisymm b a ∙ ap ordering_reverse above

pub key_below : (a b c : List Value) → key_cmp a b ≡ Less → key_cmp b c ≡ Less → key_cmp a c ≡ Less
key_below a b c = keys_total.trans a b c

at_most : (a b c : List Value) (o : Ordering) → key_cmp a b ≡ o → is_le o ≡ true → key_cmp b c ≡ Less → key_cmp a c ≡ Less
at_most a b c Less e le below = keys_total.trans a b c e below
at_most a b c Equal e le below = subst (λ (k : List Value). key_cmp k c ≡ Less) (sym (keys_exact a b e)) below
at_most a b c Greater e le below = cc

-- at or below a key that is below a third
pub key_at_most : (a b c : List Value) → is_le (key_cmp a b) ≡ true → key_cmp b c ≡ Less → key_cmp a c ≡ Less
key_at_most a b c le below = at_most a b c (key_cmp a b) refl le below
