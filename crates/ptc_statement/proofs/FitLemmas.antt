-- A comparison of a column of numbers with a number fits, and so does a number for such a column.
use Rattle.std.proofs.Common.{◌≡◌, ◌∙◌, ◌+◌, ℕ, Bool, true, false, max, ap, sym, refl, arith}
use Rattle.std.specs.Prelude.{◌&&◌, ◌||◌}
use Rattle.row_types.specs.declared.values.Value.{Value}
use Rattle.row_types.specs.declared.table_schema.Schema.{Schema}
use Rattle.ptc_statement.specs.declared.expressions.Op.{Op}
use Rattle.ptc_statement.specs.declared.expressions.Expr.TheOpen.{Lit as LitLayer, Cell as CellLayer}
use Rattle.ptc_statement.specs.declared.expressions.Expr.TheFolds.{fold-roll-Expr}
use Rattle.ptc_statement.specs.declared.expressions.Expr.TheVariants.{Lit, Cell, rolls-Lit, rolls-Cell}
use Rattle.ptc_statement.specs.declared.conditions.Cond.TheOpen.{Compare as CompareLayer}
use Rattle.ptc_statement.specs.declared.conditions.Cond.TheFolds.{fold-roll-Cond}
use Rattle.ptc_statement.specs.declared.conditions.Cond.TheVariants.{Compare, rolls-Compare}
use Rattle.ptc_statement.specs.Fits.{is_of_numbers, column_is, value_is_number, is_number_at, is_number, is_text, is_sound_at, is_sound, expr_height_at, expr_height, cond_height_at, cond_height, CondFits}

pub literal_is_number : (schema : Schema) (value : Value) → is_number schema (Lit value) ≡ value_is_number value
literal_is_number schema value = ap (is_number schema) (sym (rolls-Lit value)) ∙ fold-roll-Expr Bool (is_number_at schema) (LitLayer value)

cell_is_number : (schema : Schema) (column : ℕ) → is_number schema (Cell column) ≡ column_is is_of_numbers schema column
cell_is_number schema column = ap (is_number schema) (sym (rolls-Cell column)) ∙ fold-roll-Expr Bool (is_number_at schema) (CellLayer column)

pub literal_height : (value : Value) → expr_height (Lit value) ≡ 1
literal_height value = ap expr_height (sym (rolls-Lit value)) ∙ fold-roll-Expr ℕ expr_height_at (LitLayer value)

cell_height : (column : ℕ) → expr_height (Cell column) ≡ 1
cell_height column = ap expr_height (sym (rolls-Cell column)) ∙ fold-roll-Expr ℕ expr_height_at (CellLayer column)

two_numbers : (left right rest : Bool) → left ≡ true → right ≡ true → (left && right) || rest ≡ true
two_numbers true true rest one two = refl
two_numbers true false rest one two = cc
two_numbers false right rest one two = cc

-- a column of numbers compared with a number
pub comparison_fits : (schema : Schema) (op : Op) (column : ℕ) (value : Value) → column_is is_of_numbers schema column ≡ true → value_is_number value ≡ true
    → CondFits schema (Compare op (Cell column) (Lit value))
comparison_fits schema op column value is number = record {
  kinds = ap (is_sound schema) (sym (rolls-Compare op (Cell column) (Lit value)))
      ∙ fold-roll-Cond Bool (is_sound_at schema) (CompareLayer op (Cell column) (Lit value))
      ∙ two_numbers (is_number schema (Cell column)) (is_number schema (Lit value)) (is_text schema (Cell column) && is_text schema (Lit value))
      (cell_is_number schema column ∙ is) (literal_is_number schema value ∙ number);
  height =
      let high : cond_height (Compare op (Cell column) (Lit value)) ≡ max (expr_height (Cell column)) (expr_height (Lit value)) + 1 =
      ap cond_height (sym (rolls-Compare op (Cell column) (Lit value))) ∙ fold-roll-Cond ℕ cond_height_at (CompareLayer op (Cell column) (Lit value)) in
      omega (arith, high, cell_height column, literal_height value);
}
