-- How expressions and conditions are written, with no more parentheses than their reading needs.
use Rattle.std.specs.Prelude.{ℕ, pos, negsuc, Bool, true, false, not, ◌&&◌, ◌||◌, cond, List, [], ◌∷◌, ◌++◌, codes, take}
use Rattle.std.specs.List.{slice_get}
use Rattle.std.specs.Option.{option_map_or}
use Rattle.row_types.specs.declared.values.Value.{Value}
use Rattle.row_types.specs.declared.values.Value.TheVariants.{Null, Int, Text}
use Rattle.row_types.specs.declared.table_schema.Column.{Column}
use Rattle.row_types.specs.declared.table_schema.Schema.{Schema}
use Rattle.ptc_statement.specs.declared.expressions.Op.{Op}
use Rattle.ptc_statement.specs.declared.expressions.Op.TheVariants.{Eq, Ne, Lt, Le, Gt, Ge}
use Rattle.ptc_statement.specs.declared.expressions.Expr.{Expr, Expr-F, fold-Expr}
use Rattle.ptc_statement.specs.declared.expressions.Expr.TheOpen.{Lit, Cell, Neg, Add, Sub, Mul}
use Rattle.ptc_statement.specs.declared.conditions.Cond.{Cond, Cond-F, fold-Cond}
use Rattle.ptc_statement.specs.declared.conditions.Cond.TheOpen.{Compare, KeyCompare, IsNull, Not, And, Or}
use Rattle.statement_text.specs.Texts.{value_text, tuple_text}

-- the name of a column of a table
unfoldable pub column_name : List Schema → ℕ → ℕ → List ℕ
column_name schemas table column =
    option_map_or (λ (schema : Schema). option_map_or (λ (found : Column). found.name) (slice_get schema.columns column) []) (slice_get schemas table) []

-- an expression as it is written: whether it is a literal or a column, whether it is a number from 0
-- on, and its text
pub record WrittenExpr : Type 0 where
  pub is_leaf : Bool
  pub from_zero : Bool
  pub text : List ℕ

abbrev pub is_from_zero : Value → Bool
is_from_zero Null = false
is_from_zero (Int (pos n)) = true
is_from_zero (Int (negsuc n)) = false
is_from_zero (Text text) = false

-- parentheses, unless the text stands bare
unfoldable pub opening : Bool → List ℕ
opening bare = cond bare [] (codes "(")

unfoldable pub closing : Bool → List ℕ
closing bare = cond bare [] (codes ")")

-- a text in parentheses, unless it stands bare
abbrev pub enclosed : Bool → List ℕ → List ℕ
enclosed bare text = opening bare ++ text ++ closing bare

-- an operand that is no leaf stands in parentheses
abbrev pub operand_text : WrittenExpr → List ℕ
operand_text operand = enclosed operand.is_leaf operand.text

-- a sign before a number from 0 on would be read as part of the number
abbrev pub text_after_sign : WrittenExpr → List ℕ
text_after_sign operand = enclosed (operand.is_leaf && not operand.from_zero) operand.text

abbrev pub arithmetic : List ℕ → WrittenExpr
arithmetic text = record { is_leaf = false; from_zero = false; text = text }

abbrev pub expr_written_at : List Schema → ℕ → Expr-F WrittenExpr → WrittenExpr
expr_written_at schemas table (Lit value) = record { is_leaf = true; from_zero = is_from_zero value; text = value_text value }
expr_written_at schemas table (Cell column) = record { is_leaf = true; from_zero = false; text = column_name schemas table column }
expr_written_at schemas table (Neg operand) = arithmetic (codes "-" ++ text_after_sign operand)
expr_written_at schemas table (Add left right) = arithmetic (operand_text left ++ codes " + " ++ operand_text right)
expr_written_at schemas table (Sub left right) = arithmetic (operand_text left ++ codes " - " ++ operand_text right)
expr_written_at schemas table (Mul left right) = arithmetic (operand_text left ++ codes " * " ++ operand_text right)

abbrev pub expr_written : List Schema → ℕ → Expr → WrittenExpr
expr_written schemas table expr = fold-Expr WrittenExpr (expr_written_at schemas table) expr

abbrev pub expr_text : List Schema → ℕ → Expr → List ℕ
expr_text schemas table expr = (expr_written schemas table expr).text

unfoldable pub op_text : Op → List ℕ
op_text Eq = codes " = "
op_text Ne = codes " <> "
op_text Lt = codes " < "
op_text Le = codes " <= "
op_text Gt = codes " > "
op_text Ge = codes " >= "

unfoldable pub null_test_text : Bool → List ℕ
null_test_text true = codes " IS NOT NULL"
null_test_text false = codes " IS NULL"

-- columns' names, each after a comma
abbrev pub names_on : List Column → List ℕ
names_on [] = []
names_on (column ∷ columns) = codes ", " ++ column.name ++ names_on columns

abbrev pub names_text : List Column → List ℕ
names_text [] = []
names_text (column ∷ columns) = column.name ++ names_on columns

-- the key columns of a table, in parentheses
unfoldable pub key_columns_text : List Schema → ℕ → List ℕ
key_columns_text schemas table =
    codes "(" ++ option_map_or (λ (schema : Schema). names_text (take schema.key_len schema.columns)) (slice_get schemas table) [] ++ codes ")"

-- a condition as it is written: whether it is an AND or an OR, and its text
pub record WrittenCond : Type 0 where
  pub is_and : Bool
  pub is_or : Bool
  pub text : List ℕ

abbrev pub term : List ℕ → WrittenCond
term text = record { is_and = false; is_or = false; text = text }

-- an AND or OR under another stands in parentheses, but for a left one of the same word
abbrev pub text_left_of_and : WrittenCond → List ℕ
text_left_of_and left = enclosed (not left.is_or) left.text

abbrev pub text_left_of_or : WrittenCond → List ℕ
text_left_of_or left = enclosed (not left.is_and) left.text

abbrev pub text_on_the_right : WrittenCond → List ℕ
text_on_the_right right = enclosed (not (right.is_and || right.is_or)) right.text

abbrev pub cond_written_at : List Schema → ℕ → Cond-F WrittenCond → WrittenCond
cond_written_at schemas table (Compare op left right) = term (expr_text schemas table left ++ op_text op ++ expr_text schemas table right)
cond_written_at schemas table (KeyCompare op key) = term (key_columns_text schemas table ++ op_text op ++ tuple_text key)
cond_written_at schemas table (IsNull expr negated) = term (expr_text schemas table expr ++ null_test_text negated)
cond_written_at schemas table (Not operand) = term (codes "NOT " ++ enclosed false operand.text)
cond_written_at schemas table (And left right) = record {
  is_and = true;
  is_or = false;
  text = text_left_of_and left ++ codes " AND " ++ text_on_the_right right;
}
cond_written_at schemas table (Or left right) = record {
  is_and = false;
  is_or = true;
  text = text_left_of_or left ++ codes " OR " ++ text_on_the_right right;
}

abbrev pub cond_written : List Schema → ℕ → Cond → WrittenCond
cond_written schemas table condition = fold-Cond WrittenCond (cond_written_at schemas table) condition

abbrev pub cond_text : List Schema → ℕ → Cond → List ℕ
cond_text schemas table condition = (cond_written schemas table condition).text
