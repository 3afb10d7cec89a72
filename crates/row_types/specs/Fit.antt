-- Which rows fit a schema, and what a table is.
use Rattle.std.specs.Prelude.{FitsSigned, false, ℕ, ℤ, ◌≡◌, ◌≤◌, ◌<◌, ◌^◌, List, [], ◌∷◌, IsTrue, length, take}
use Rattle.std.specs.Int.{w32, w64}
use Rattle.std.specs.List.{AllByRecursion}
use Rattle.row_types.specs.declared.values.Value.{Value}
use Rattle.row_types.specs.declared.values.Value.TheVariants.{Null, Int, Text as OneText}
use Rattle.row_types.specs.declared.table_schema.ColumnKind.{ColumnKind}
use Rattle.row_types.specs.declared.table_schema.ColumnKind.TheVariants.{Int as IntColumn, BigInt, Text as TextColumn}
use Rattle.row_types.specs.declared.table_schema.Column.{Column}
use Rattle.row_types.specs.declared.table_schema.Schema.{Schema}
use Rattle.row_types.specs.KeyRows.{Row, Rows, TableRows, IsBelowAll as IsBelowEach, put_row}

-- a number within the column's range
abbrev pub NumberFits : ColumnKind → ℤ → Type 0
NumberFits IntColumn n = FitsSigned w32 n
NumberFits BigInt n = FitsSigned w64 n
NumberFits (TextColumn max) n = ⊥

-- a text of no more bytes than the column takes
abbrev pub TextFits : ColumnKind → List ℕ → Type 0
TextFits IntColumn text = ⊥
TextFits BigInt text = ⊥
TextFits (TextColumn max) text = length text ≤ max

abbrev pub KindFits : ColumnKind → Type 0
KindFits IntColumn = Unit {0}
KindFits BigInt = Unit {0}
KindFits (TextColumn max) = max < 2 ^ 16

abbrev pub ValueFits : Column → Value → Type 0
ValueFits column Null = IsTrue column.nullable
ValueFits column (Int n) = NumberFits column.kind n
ValueFits column (OneText text) = TextFits column.kind text

-- a value for each column, each of which fits
abbrev pub ValuesFit : List Column → List Value → Type 0
ValuesFit [] [] = Unit {0}
ValuesFit [] (value ∷ values) = ⊥
ValuesFit (column ∷ columns) [] = ⊥
ValuesFit (column ∷ columns) (value ∷ values) = ValueFits column value × ValuesFit columns values

abbrev pub RowFits : Schema → Row → Type 0
RowFits schema row = ValuesFit schema.columns row

-- the values of the key columns, which come first
abbrev pub key_of : Schema → Row → List Value
key_of schema row = take schema.key_len row

-- a text column's length is a number of 16 bits
abbrev pub LengthFits : Column → Type 0
LengthFits column = KindFits column.kind

-- one or two key columns, which take no NULL
pub record IsSchema (schema : Schema) : Type 0 where
  pub key : 1 ≤ schema.key_len
  pub most : schema.key_len ≤ 2
  pub within : schema.key_len ≤ length schema.columns
  pub lengths : AllByRecursion LengthFits schema.columns
  pub not_null : AllByRecursion (λ (column : Column). column.nullable ≡ false) (take schema.key_len schema.columns)

-- the key of the row is below each of these rows' keys
abbrev pub IsBelowAll : Schema → Row → Rows → Type 0
IsBelowAll schema = IsBelowEach schema.key_len

-- a table: rows that fit, by rising key, so that each key is there once
abbrev pub IsTable : Schema → Rows → Type 0
IsTable schema [] = Unit {0}
IsTable schema (row ∷ rows) = RowFits schema row × IsBelowAll schema row rows × IsTable schema rows

-- a table for each schema
abbrev pub AreTables : List Schema → TableRows → Type 0
AreTables [] [] = Unit {0}
AreTables [] (rows ∷ tables) = ⊥
AreTables (schema ∷ schemas) [] = ⊥
AreTables (schema ∷ schemas) (rows ∷ tables) = IsTable schema rows × AreTables schemas tables

-- rows with this row at its place by key, in place of one that has its key
abbrev pub with_row : Schema → Row → Rows → Rows
with_row schema = put_row schema.key_len

-- rows with each of the second list put in, one after the other
abbrev pub with_rows : Schema → Rows → Rows → Rows
with_rows schema rows [] = rows
with_rows schema rows (row ∷ more) = with_rows schema (with_row schema row rows) more
