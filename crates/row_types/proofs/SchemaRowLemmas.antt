-- The rows of a table of a schema, by the schema's key alone.
use Rattle.std.proofs.Common.{◌≡◌, ◌∙◌, ℕ, zero, suc, ◌≤◌, true, false, List, [], ◌∷◌, length, take, refl, ap, sym, arith}
use Rattle.std.specs.List.{AllByRecursion}
use Rattle.std.specs.Ordering.{match_ordering}
use Rattle.row_types.specs.declared.values.Value.{Value}
use Rattle.row_types.specs.declared.values.Value.TheVariants.{Null, Int, Text}
use Rattle.row_types.specs.declared.table_schema.Column.{Column}
use Rattle.row_types.specs.declared.table_schema.Schema.{Schema}
use Rattle.row_types.specs.Order.{key_cmp}
use Rattle.row_types.specs.Fit.{ValueFits, ValuesFit, RowFits, IsSchema, IsTable, with_row}
use Rattle.row_types.specs.KeyRows.{IsNotNull, HasKey, AreOrdered, put_row}

fitting_len : (columns : List Column) (row : List Value) → ValuesFit columns row → length row ≡ length columns
fitting_len [] [] fits = refl
fitting_len [] (value ∷ values) fits = absurd fits
fitting_len (column ∷ columns) [] fits = absurd fits
fitting_len (column ∷ columns) (value ∷ values) fits = ap suc (fitting_len columns values fits.1)

value_not_null : (column : Column) (value : Value) → column.nullable ≡ false → ValueFits column value → IsNotNull value
value_not_null column Null not_null fits = let no : false ≡ true = sym not_null ∙ fits in cc
value_not_null column (Int n) not_null fits = tt
value_not_null column (Text text) not_null fits = tt

key_not_null : (key_len : ℕ) (columns : List Column) (row : List Value) → ValuesFit columns row
    → AllByRecursion (λ (column : Column). column.nullable ≡ false) (take key_len columns) → AllByRecursion IsNotNull (take key_len row)
key_not_null zero columns row fits not_null = tt
key_not_null (suc key_len) [] [] fits not_null = tt
key_not_null (suc key_len) [] (value ∷ values) fits not_null = absurd fits
key_not_null (suc key_len) (column ∷ columns) [] fits not_null = absurd fits
key_not_null (suc key_len) (column ∷ columns) (value ∷ values) fits not_null =
    (value_not_null column value not_null.0 fits.0, key_not_null key_len columns values fits.1 not_null.1)

-- a row that fits has its key
pub fitting_key : (schema : Schema) (row : List Value) → IsSchema schema → RowFits schema row → HasKey schema.key_len row
fitting_key schema row is fits =
    let same : length row ≡ length schema.columns = fitting_len schema.columns row fits in
    let within : schema.key_len ≤ length schema.columns = is.within in
    record { within = omega arith; not_null = key_not_null schema.key_len schema.columns row fits is.not_null }

pub table_ordered : (schema : Schema) (rows : List (List Value)) → IsSchema schema → IsTable schema rows → AreOrdered schema.key_len rows
table_ordered schema [] is table = tt
table_ordered schema (row ∷ rows) is table = (fitting_key schema row is table.0, table.1, table_ordered schema rows is table.2)

pub with_is_put : (schema : Schema) (row : List Value) (rows : List (List Value)) → with_row schema row rows ≡ put_row schema.key_len row rows
with_is_put schema row rows = refl
