-- Over a row that fits, an expression of a column's kind has a value of that kind.
use Rattle.std.proofs.Common.{◌≡◌, ◌∙◌, ℕ, zero, suc, ℤ, ◌+ℤ◌, ◌-ℤ◌, ◌*ℤ◌, Bool, true, false, IsTrue, Option, Some, None, List, [], ◌∷◌, refl, ap, sym, subst, slice_get}
use Rattle.std.specs.Prelude.{slice_index_or}
use Rattle.std.specs.Option.{option_map_or}
use Rattle.row_types.specs.declared.values.Value.{Value}
use Rattle.row_types.specs.declared.values.Value.TheVariants.{Null, Int, Text}
use Rattle.row_types.specs.declared.table_schema.ColumnKind.{ColumnKind}
use Rattle.row_types.specs.declared.table_schema.ColumnKind.TheVariants.{Int as IntColumn, BigInt, Text as TextColumn}
use Rattle.row_types.specs.declared.table_schema.Column.{Column}
use Rattle.row_types.specs.declared.table_schema.Schema.{Schema}
use Rattle.row_types.specs.Fit.{NumberFits, TextFits, ValueFits, ValuesFit, RowFits}
use Rattle.ptc_statement.specs.declared.expressions.Expr.{Expr, Expr-F}
use Rattle.ptc_statement.specs.declared.expressions.Expr.TheOpen.{Lit, Cell, Neg, Add, Sub, Mul}
use Rattle.ptc_statement.specs.declared.expressions.Expr.TheFolds.{ind-Expr, map-Expr, fold-roll-Expr}
use Rattle.ptc_statement.specs.Meaning.{value_of, value_at, calculated, negated}
use Rattle.ptc_statement.specs.Fits.{is_of_numbers, is_of_texts, column_is, value_is_number, value_is_text, is_number_at, is_number, is_text_at, is_text, is_of_kind}

-- numbers in columns of numbers, texts in columns of texts, NULL in both
abbrev pub IsOfKind : ColumnKind → Value → Type 0
IsOfKind IntColumn value = value_is_number value ≡ true
IsOfKind BigInt value = value_is_number value ≡ true
IsOfKind (TextColumn max) value = value_is_text value ≡ true

-- a column's value in a row that fits
value_in : (columns : List Column) (row : List Value) (place : ℕ) (column : Column) → ValuesFit columns row → slice_get columns place ≡ Some column
    → ValueFits column (slice_index_or row place Null)
value_in [] row place column fits found = absurd (cc)
value_in (first ∷ columns) [] place column fits found = absurd fits
value_in (first ∷ columns) (value ∷ row) zero column fits found =
    let same : first ≡ column = cc in
    subst (λ (c : Column). ValueFits c value) same fits.0
value_in (first ∷ columns) (value ∷ row) (suc place) column fits found = value_in columns row place column fits.1 found

column_found : (test : ColumnKind → Bool) (found : Option Column) → option_map_or (λ (column : Column). test column.kind) found false ≡ true
    → (column : Column) × (found ≡ Some column) × (test column.kind ≡ true)
column_found test None passes = absurd (cc)
column_found test (Some column) passes = (column, refl, passes)

number_kept : (kind : ColumnKind) (column : Column) (value : Value) → column.kind ≡ kind → is_of_numbers kind ≡ true → ValueFits column value → value_is_number value ≡ true
number_kept kind column Null is numbers fits = refl
number_kept kind column (Int n) is numbers fits = refl
number_kept IntColumn column (Text text) is numbers fits = absurd (subst (λ (k : ColumnKind). TextFits k text) is fits)
number_kept BigInt column (Text text) is numbers fits = absurd (subst (λ (k : ColumnKind). TextFits k text) is fits)
number_kept (TextColumn max) column (Text text) is numbers fits = cc

text_kept : (kind : ColumnKind) (column : Column) (value : Value) → column.kind ≡ kind → is_of_texts kind ≡ true → ValueFits column value → value_is_text value ≡ true
text_kept kind column Null is texts fits = refl
text_kept kind column (Text text) is texts fits = refl
text_kept IntColumn column (Int n) is texts fits = cc
text_kept BigInt column (Int n) is texts fits = cc
text_kept (TextColumn max) column (Int n) is texts fits = absurd (subst (λ (k : ColumnKind). NumberFits k n) is fits)

number_cell : (schema : Schema) (row : List Value) (place : ℕ) → RowFits schema row → column_is is_of_numbers schema place ≡ true → value_is_number (slice_index_or row place Null) ≡ true
number_cell schema row place fits is =
    let found = column_found is_of_numbers (slice_get schema.columns place) is in
    number_kept found.0.kind found.0 (slice_index_or row place Null) refl found.2 (value_in schema.columns row place found.0 fits found.1)

text_cell : (schema : Schema) (row : List Value) (place : ℕ) → RowFits schema row → column_is is_of_texts schema place ≡ true → value_is_text (slice_index_or row place Null) ≡ true
text_cell schema row place fits is =
    let found = column_found is_of_texts (slice_get schema.columns place) is in
    text_kept found.0.kind found.0 (slice_index_or row place Null) refl found.2 (value_in schema.columns row place found.0 fits found.1)

calculated_number : (operation : ℤ → ℤ → ℤ) (left right : Value) → value_is_number (calculated operation left right) ≡ true
calculated_number operation Null right = refl
calculated_number operation (Int m) Null = refl
calculated_number operation (Int m) (Int n) = refl
calculated_number operation (Int m) (Text t) = refl
calculated_number operation (Text s) right = refl

negated_number : (operand : Value) → value_is_number (negated operand) ≡ true
negated_number Null = refl
negated_number (Int n) = refl
negated_number (Text t) = refl

abbrev GivesNumber : Schema → List Value → Expr → Type 0
GivesNumber schema row expr = is_number schema expr ≡ true → value_is_number (value_of row expr) ≡ true

abbrev GivesText : Schema → List Value → Expr → Type 0
GivesText schema row expr = is_text schema expr ≡ true → value_is_text (value_of row expr) ≡ true

number_layer : (schema : Schema) (row : List Value) → RowFits schema row → (x : Expr-F Expr)
    → is_number_at schema (map-Expr Expr Bool (is_number schema) x) ≡ true → value_is_number (value_at row (map-Expr Expr Value (value_of row) x)) ≡ true
number_layer schema row fits (Lit value) is = is
number_layer schema row fits (Cell column) is = number_cell schema row column fits is
number_layer schema row fits (Neg operand) is = negated_number (value_of row operand)
number_layer schema row fits (Add left right) is = calculated_number ◌+ℤ◌ (value_of row left) (value_of row right)
number_layer schema row fits (Sub left right) is = calculated_number ◌-ℤ◌ (value_of row left) (value_of row right)
number_layer schema row fits (Mul left right) is = calculated_number ◌*ℤ◌ (value_of row left) (value_of row right)

text_layer : (schema : Schema) (row : List Value) → RowFits schema row → (x : Expr-F Expr)
    → is_text_at schema (map-Expr Expr Bool (is_text schema) x) ≡ true → value_is_text (value_at row (map-Expr Expr Value (value_of row) x)) ≡ true
text_layer schema row fits (Lit value) is = is
text_layer schema row fits (Cell column) is = text_cell schema row column fits is
text_layer schema row fits (Neg operand) is = cc
text_layer schema row fits (Add left right) is = cc
text_layer schema row fits (Sub left right) is = cc
text_layer schema row fits (Mul left right) is = cc

gives_number : (schema : Schema) (row : List Value) → RowFits schema row → (expr : Expr) → GivesNumber schema row expr
gives_number schema row fits = ind-Expr (GivesNumber schema row) (λ x y is number.
    ap value_is_number (fold-roll-Expr Value (value_at row) x)
    ∙ number_layer schema row fits x (sym (fold-roll-Expr Bool (is_number_at schema) x) ∙ number))

gives_text : (schema : Schema) (row : List Value) → RowFits schema row → (expr : Expr) → GivesText schema row expr
gives_text schema row fits = ind-Expr (GivesText schema row) (λ x y is text.
    ap value_is_text (fold-roll-Expr Value (value_at row) x)
    ∙ text_layer schema row fits x (sym (fold-roll-Expr Bool (is_text_at schema) x) ∙ text))

-- an expression of a kind has a value of the kind
pub value_of_kind : (schema : Schema) (kind : ColumnKind) (row : List Value) (expr : Expr) → RowFits schema row → IsTrue (is_of_kind schema kind expr) → IsOfKind kind (value_of row expr)
value_of_kind schema IntColumn row expr fits is = gives_number schema row fits expr is
value_of_kind schema BigInt row expr fits is = gives_number schema row fits expr is
value_of_kind schema (TextColumn max) row expr fits is = gives_text schema row fits expr is
