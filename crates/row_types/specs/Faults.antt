-- The nearest number of a column's kind, and the first fault of a row.
use Rattle.std.specs.Prelude.{ℕ, suc, ℤ, ◌-ℤ◌, nat_abs, ◌==◌, ◌≤◌, ◌<◌, ◌^◌, cond, leb, List, [], ◌∷◌, length, Option, None, Some}
use Rattle.std.specs.Int.{w32, w64, saturate_signed}
use Rattle.std.specs.Option.{option_or}
use Rattle.std.specs.Ordering.{int_cmp, is_eq}
use Rattle.std.specs.List.{AllByRecursion}
use Rattle.row_types.specs.declared.values.Value.{Value}
use Rattle.row_types.specs.declared.values.Value.TheVariants.{Null, Int, Text as OneText}
use Rattle.row_types.specs.declared.table_schema.ColumnKind.{ColumnKind}
use Rattle.row_types.specs.declared.table_schema.ColumnKind.TheVariants.{Int as IntColumn, BigInt, Text as TextColumn}
use Rattle.row_types.specs.declared.table_schema.Column.{Column}
use Rattle.row_types.specs.declared.table_schema.Schema.{Schema}
use Rattle.row_types.specs.declared.row_faults.RowFault.{RowFault}
use Rattle.row_types.specs.declared.row_faults.RowFault.TheVariants.{Arity, NullIn, Kind, OutOfRange, TooLong}
use Rattle.row_types.specs.Fit.{NumberFits}

-- the nearest number of the column's kind
abbrev pub clipped : ColumnKind → ℤ → ℤ
clipped IntColumn n = saturate_signed w32 n
clipped BigInt n = saturate_signed w64 n
clipped (TextColumn max) n = n

abbrev pub IsOfNumbers : ColumnKind → Type 0
IsOfNumbers IntColumn = Unit {0}
IsOfNumbers BigInt = Unit {0}
IsOfNumbers (TextColumn max) = ⊥

-- no number of the kind is nearer
pub record IsNearest (kind : ColumnKind) (n nearest : ℤ) : Type 0 where
  pub fits : NumberFits kind nearest
  pub least : (other : ℤ) → NumberFits kind other → nat_abs (n -ℤ nearest) ≤ nat_abs (n -ℤ other)

abbrev pub range_fault : ℕ → ColumnKind → ℤ → Option RowFault
range_fault place kind n = cond (is_eq (int_cmp (clipped kind n) n)) None (Some (OutOfRange place n))

abbrev pub number_fault : ℕ → ColumnKind → ℤ → Option RowFault
number_fault place IntColumn n = range_fault place IntColumn n
number_fault place BigInt n = range_fault place BigInt n
number_fault place (TextColumn max) n = Some (Kind place)

abbrev pub text_fault : ℕ → ColumnKind → List ℕ → Option RowFault
text_fault place IntColumn text = Some (Kind place)
text_fault place BigInt text = Some (Kind place)
text_fault place (TextColumn max) text = cond (leb (length text) max) None (Some (TooLong place (length text)))

-- what is wrong with a value in the column of this number, if anything
abbrev pub value_fault : ℕ → Column → Value → Option RowFault
value_fault place column Null = cond column.nullable None (Some (NullIn place))
value_fault place column (Int n) = number_fault place column.kind n
value_fault place column (OneText text) = text_fault place column.kind text

-- the first column's fault, else the first of the later ones
abbrev pub first_fault : ℕ → List Column → List Value → Option RowFault
first_fault place [] values = None
first_fault place (column ∷ columns) [] = None
first_fault place (column ∷ columns) (value ∷ values) = option_or (value_fault place column value) (first_fault (suc place) columns values)

-- a wrong number of values, else the first column's fault
abbrev pub row_fault : Schema → List Value → Option RowFault
row_fault schema row =
    cond (length row == length schema.columns) (first_fault 0 schema.columns row) (Some (Arity (length row) (length schema.columns)))

abbrev pub TextIsShort : Value → Type 0
TextIsShort Null = Unit {0}
TextIsShort (Int n) = Unit {0}
TextIsShort (OneText text) = length text < 2 ^ 32

-- columns, values and the bytes of each text are counted by numbers of 32 bits
pub record IsShort (schema : Schema) (row : List Value) : Type 0 where
  pub columns : length schema.columns < 2 ^ 32
  pub values : length row < 2 ^ 32
  pub texts : AllByRecursion TextIsShort row
