-- What the tests of a caller say.
use Rattle.std.proofs.Common.{◌≡◌, ◌∙◌, ◌≤◌, ℕ, Bool, true, false, List, [], ◌∷◌, Some, refl, ap, sym, subst, arith}
use Rattle.std.specs.List.{AllByRecursion, slice_get}
use Rattle.row_types.specs.declared.values.Value.{Value}
use Rattle.row_types.specs.declared.values.Value.TheVariants.{Null, Int, Text}
use Rattle.row_types.specs.declared.table_schema.ColumnKind.{ColumnKind}
use Rattle.row_types.specs.declared.table_schema.ColumnKind.TheVariants.{Int as IntColumn, BigInt, Text as TextColumn}
use Rattle.row_types.specs.declared.table_schema.Column.{Column}
use Rattle.row_types.specs.declared.table_schema.Schema.{Schema}
use Rattle.row_types.specs.Fit.{IsSchema}
use Rattle.row_types.specs.Faults.{TextIsShort}
use Rattle.ptc_statement.specs.declared.expressions.Op.{Op}
use Rattle.ptc_statement.specs.declared.expressions.Expr.{Expr}
use Rattle.ptc_statement.specs.declared.expressions.Expr.TheVariants.{Lit, Cell}
use Rattle.ptc_statement.specs.declared.conditions.Cond.TheVariants.{Compare}
use Rattle.ptc_statement.specs.declared.assignments.Assignment.{Assignment}
use Rattle.ptc_statement.specs.Fits.{is_of_numbers, value_is_number, is_of_kind, expr_height, CondFits, AssignmentFits}
use Rattle.ptc_statement.proofs.FitLemmas.{literal_is_number, literal_height, comparison_fits}
use Rattle.test_builders.specs.Builders.{pair_columns}
use Rattle.node_builders.specs.Asked.{When, is_text, has_no_text, IsNumberColumn, IsNumber}

-- what a test says that is true
pub when_true : {P : Type 0} (b : Bool) → When b P → b ≡ true → P
when_true true fact is = fact
when_true false fact is = absurd (let q : false ≡ true = is in cc)

pub no_text_short : (values : List Value) → has_no_text values ≡ true → AllByRecursion TextIsShort values
no_text_short [] e = tt
no_text_short (Null ∷ values) e = (tt, no_text_short values e)
no_text_short (Int n ∷ values) e = (tt, no_text_short values e)
no_text_short (Text text ∷ values) e = absurd (let q : false ≡ true = e in cc)

a_number : (value : Value) → is_text value ≡ false → value_is_number value ≡ true
a_number Null e = refl
a_number (Int n) e = refl
a_number (Text text) e = absurd (let q : true ≡ false = e in cc)

pub compared_fits : (schema : Schema) (op : Op) (left right : Expr) → IsNumberColumn schema left → IsNumber right → CondFits schema (Compare op left right)
compared_fits schema op left right column number =
    subst (λ (e : Expr). CondFits schema (Compare op e right)) (sym column.is)
    (subst (λ (e : Expr). CondFits schema (Compare op (Cell column.column) e)) (sym number.is)
    (comparison_fits schema op column.column number.value column.numbers (a_number number.value number.no_text)))

kind_takes : (schema : Schema) (kind : ColumnKind) (value : Value) → is_of_numbers kind ≡ true → value_is_number value ≡ true → is_of_kind schema kind (Lit value) ≡ true
kind_takes schema IntColumn value numbers is = literal_is_number schema value ∙ is
kind_takes schema BigInt value numbers is = literal_is_number schema value ∙ is
kind_takes schema (TextColumn max) value numbers is = absurd (let q : false ≡ true = numbers in cc)

-- a number for a column of numbers behind the key
pub number_fits : (schema : Schema) (column : Column) (set : Assignment) → schema.key_len ≤ set.column → slice_get schema.columns set.column ≡ Some column → is_of_numbers column.kind ≡ true → IsNumber set.expr
    → AssignmentFits schema set
number_fits schema column set behind found numbers is = record {
  behind_key = behind;
  column = column;
  found = found;
  kind = ap (is_of_kind schema column.kind) is.is ∙ kind_takes schema column.kind is.value numbers (a_number is.value is.no_text);
  height = let high : expr_height set.expr ≡ 1 = ap expr_height is.is ∙ literal_height is.value in omega (arith, high);
}

pub pair_is_schema : (name id value : List ℕ) → IsSchema (record { name = name; columns = pair_columns id value; key_len = 1 })
pair_is_schema name id value = record { key = omega arith; most = omega arith; within = omega arith; lengths = (tt, (tt, tt)); not_null = (refl, tt) }
