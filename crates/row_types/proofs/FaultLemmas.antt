-- A clipped number is the nearest, and a row fits exactly where it has no fault.
use Rattle.std.proofs.Common.{◌≡◌, ◌∙◌, ◌≤◌, ◌==◌, ℕ, suc, ℤ, pos, negsuc, Bool, true, false, cond, List, [], ◌∷◌, length, Option, None, Some, sym, ap, subst, refl, arith, IsTrue, leb}
use Rattle.std.proofs.lemmas.Int.{ints}
use Rattle.std.specs.Cmp.{tied_itself}
use Rattle.std.proofs.lemmas.Cmp.{int_cmp_total}
use Rattle.std.specs.Option.{option_or}
use Rattle.std.specs.Ordering.{int_cmp, is_eq}
use Rattle.std.specs.FinMap.{int_cmp-IsAntisymmetric}
use Rattle.std.specs.declared.cmp.Ordering.{Ordering}
use Rattle.std.specs.declared.cmp.Ordering.TheVariants.{Less, Equal, Greater}
use Rattle.row_types.specs.declared.values.Value.{Value}
use Rattle.row_types.specs.declared.values.Value.TheVariants.{Null, Int, Text as OneText}
use Rattle.row_types.specs.declared.table_schema.ColumnKind.{ColumnKind}
use Rattle.row_types.specs.declared.table_schema.ColumnKind.TheVariants.{Int as IntColumn, BigInt, Text as TextColumn}
use Rattle.row_types.specs.declared.table_schema.Column.{Column}
use Rattle.row_types.specs.declared.table_schema.Schema.{Schema}
use Rattle.row_types.specs.declared.row_faults.RowFault.{RowFault}
use Rattle.row_types.specs.declared.row_faults.RowFault.TheVariants.{Arity, NullIn, OutOfRange, TooLong}
use Rattle.row_types.specs.Fit.{NumberFits, TextFits, ValueFits, ValuesFit, RowFits}
use Rattle.row_types.specs.Faults.{IsOfNumbers, clipped, IsNearest, range_fault, number_fault, text_fault, value_fault, first_fault, row_fault}

pub clipped_is_nearest : (kind : ColumnKind) (n : ℤ) → IsOfNumbers kind → IsNearest kind n (clipped kind n)
clipped_is_nearest IntColumn (pos n) is = record { fits = grind (arith, ints); least = λ other fits. grind (arith, ints) }
clipped_is_nearest IntColumn (negsuc n) is = record { fits = grind (arith, ints); least = λ other fits. grind (arith, ints) }
clipped_is_nearest BigInt (pos n) is = record { fits = grind (arith, ints); least = λ other fits. grind (arith, ints) }
clipped_is_nearest BigInt (negsuc n) is = record { fits = grind (arith, ints); least = λ other fits. grind (arith, ints) }
clipped_is_nearest (TextColumn max) n is = absurd is

int_tie : (n : ℤ) → int_cmp n n ≡ Equal
int_tie n = tied_itself int_cmp_total n

range_kept : (place : ℕ) (kind : ColumnKind) (n : ℤ) (o : Ordering) → int_cmp (clipped kind n) n ≡ o
    → cond (is_eq o) None (Some (OutOfRange place n)) ≡ None → clipped kind n ≡ n
range_kept place kind n Less e none = cc
range_kept place kind n Equal e none = int_cmp-IsAntisymmetric (clipped kind n) n e
range_kept place kind n Greater e none = cc

range_in : (place : ℕ) (kind : ColumnKind) (n : ℤ) → clipped kind n ≡ n → range_fault place kind n ≡ None
range_in place kind n same =
    ap (λ (o : Ordering). cond (is_eq o) None (Some (OutOfRange place n))) (ap (λ (m : ℤ). int_cmp m n) same ∙ int_tie n)

kept_fits : (kind : ColumnKind) (n : ℤ) → IsOfNumbers kind → clipped kind n ≡ n → NumberFits kind n
kept_fits kind n is same = subst (NumberFits kind) same (clipped_is_nearest kind n is).fits

fits_kept : (kind : ColumnKind) (n : ℤ) → IsOfNumbers kind → NumberFits kind n → clipped kind n ≡ n
fits_kept IntColumn (pos n) is fits = grind (arith, ints)
fits_kept IntColumn (negsuc n) is fits = grind (arith, ints)
fits_kept BigInt (pos n) is fits = grind (arith, ints)
fits_kept BigInt (negsuc n) is fits = grind (arith, ints)
fits_kept (TextColumn max) n is fits = absurd is

number_fits : (place : ℕ) (kind : ColumnKind) (n : ℤ) → number_fault place kind n ≡ None → NumberFits kind n
number_fits place IntColumn n none = kept_fits IntColumn n tt (range_kept place IntColumn n (int_cmp (clipped IntColumn n) n) refl none)
number_fits place BigInt n none = kept_fits BigInt n tt (range_kept place BigInt n (int_cmp (clipped BigInt n) n) refl none)
number_fits place (TextColumn max) n none = cc

number_sound : (place : ℕ) (kind : ColumnKind) (n : ℤ) → NumberFits kind n → number_fault place kind n ≡ None
number_sound place IntColumn n fits = range_in place IntColumn n (fits_kept IntColumn n tt fits)
number_sound place BigInt n fits = range_in place BigInt n (fits_kept BigInt n tt fits)
number_sound place (TextColumn max) n fits = absurd fits

text_short : (place max len : ℕ) (short : Bool) → leb len max ≡ short → cond short None (Some (TooLong place len)) ≡ None → len ≤ max
text_short place max len true is none = grind arith
text_short place max len false is none = cc

text_fits : (place : ℕ) (kind : ColumnKind) (text : List ℕ) → text_fault place kind text ≡ None → TextFits kind text
text_fits place IntColumn text none = cc
text_fits place BigInt text none = cc
text_fits place (TextColumn max) text none = text_short place max (length text) (leb (length text) max) refl none

text_sound : (place : ℕ) (kind : ColumnKind) (text : List ℕ) → TextFits kind text → text_fault place kind text ≡ None
text_sound place IntColumn text fits = absurd fits
text_sound place BigInt text fits = absurd fits
text_sound place (TextColumn max) text fits =
    let short : leb (length text) max ≡ true = grind arith in
    ap (λ (b : Bool). cond b None (Some (TooLong place (length text)))) short

null_fits : (place : ℕ) (nullable : Bool) → cond nullable None (Some (NullIn place)) ≡ None → IsTrue nullable
null_fits place true none = refl
null_fits place false none = cc

null_sound : (place : ℕ) (nullable : Bool) → IsTrue nullable → cond nullable None (Some (NullIn place)) ≡ None
null_sound place true is = refl
null_sound place false is = cc

value_fits : (place : ℕ) (column : Column) (value : Value) → value_fault place column value ≡ None → ValueFits column value
value_fits place column Null none = null_fits place column.nullable none
value_fits place column (Int n) none = number_fits place column.kind n none
value_fits place column (OneText text) none = text_fits place column.kind text none

value_sound : (place : ℕ) (column : Column) (value : Value) → ValueFits column value → value_fault place column value ≡ None
value_sound place column Null fits = null_sound place column.nullable fits
value_sound place column (Int n) fits = number_sound place column.kind n fits
value_sound place column (OneText text) fits = text_sound place column.kind text fits

first_none : (first rest : Option RowFault) → option_or first rest ≡ None → (first ≡ None) × (rest ≡ None)
first_none None rest none = (refl, none)
first_none (Some fault) rest none = cc

values_fit : (place : ℕ) (columns : List Column) (values : List Value) → length values ≡ length columns → first_fault place columns values ≡ None → ValuesFit columns values
values_fit place [] [] len none = tt
values_fit place [] (value ∷ values) len none = absurd (omega arith)
values_fit place (column ∷ columns) [] len none = absurd (omega arith)
values_fit place (column ∷ columns) (value ∷ values) len none =
    let both = first_none (value_fault place column value) (first_fault (suc place) columns values) none in
    (value_fits place column value both.0, values_fit (suc place) columns values (omega arith) both.1)

values_sound : (place : ℕ) (columns : List Column) (values : List Value) → ValuesFit columns values → (length values ≡ length columns) × (first_fault place columns values ≡ None)
values_sound place [] [] fit = (refl, refl)
values_sound place [] (value ∷ values) fit = absurd fit
values_sound place (column ∷ columns) [] fit = absurd fit
values_sound place (column ∷ columns) (value ∷ values) fit =
    let rest = values_sound (suc place) columns values fit.1 in
    (ap suc rest.0, ap (λ (o : Option RowFault). option_or o (first_fault (suc place) columns values)) (value_sound place column value fit.0) ∙ rest.1)

pub as_long : (schema : Schema) (row : List Value) → length row ≡ length schema.columns → row_fault schema row ≡ first_fault 0 schema.columns row
as_long schema row len =
    let same : (length row == length schema.columns) ≡ true = grind arith in
    ap (λ (b : Bool). cond b (first_fault 0 schema.columns row) (Some (Arity (length row) (length schema.columns)))) same

-- a row of as many values without a fault fits
pub faultless_fits : (schema : Schema) (row : List Value) → length row ≡ length schema.columns → first_fault 0 schema.columns row ≡ None → RowFits schema row
faultless_fits schema row len none = values_fit 0 schema.columns row len none

-- a row that fits has no fault
pub fits_faultless : (schema : Schema) (row : List Value) → RowFits schema row → row_fault schema row ≡ None
fits_faultless schema row fits =
    let sound = values_sound 0 schema.columns row fits in
    as_long schema row sound.0 ∙ sound.1

pub faulty : (schema : Schema) (row : List Value) (fault : RowFault) → row_fault schema row ≡ Some fault → RowFits schema row → ⊥
faulty schema row fault is fits = let clash : None ≡ Some fault = sym (fits_faultless schema row fits) ∙ is in cc

-- a row that fits has as many values as the schema has columns
pub as_many : (schema : Schema) (row : List Value) → RowFits schema row → length row ≡ length schema.columns
as_many schema row fits = (values_sound 0 schema.columns row fits).0
