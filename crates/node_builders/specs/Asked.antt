-- What a caller of a node asks for.
use Rattle.std.specs.Prelude.{ℕ, ◌≡◌, Bool, true, false, List, [], ◌∷◌}
use Rattle.row_types.specs.declared.values.Value.{Value}
use Rattle.row_types.specs.declared.values.Value.TheVariants.{Null, Int, Text}
use Rattle.row_types.specs.declared.table_schema.Schema.{Schema}
use Rattle.ptc_statement.specs.declared.expressions.Expr.{Expr}
use Rattle.ptc_statement.specs.declared.expressions.Expr.TheVariants.{Lit, Cell}
use Rattle.ptc_statement.specs.declared.statements.Statement.{Statement}
use Rattle.ptc_statement.specs.Fits.{FitsSchemas, is_of_numbers, column_is}
use Rattle.node_model.specs.Node.{NodeView}
use Rattle.node_parts.specs.Views.{IsUnderWay, IsIdle}

-- a test that is true says this
abbrev pub When : Bool → Type 0 → Type 0
When true fact = fact
When false fact = Unit {0}

pub record CanStart (owner : ℕ) (node : NodeView) (statement : Statement) : Type 0 where
  pub idle : IsIdle owner node
  pub fits : FitsSchemas node.schemas statement

pub record CanGoOn (owner : ℕ) (node : NodeView) (next : Statement) : Type 0 where
  pub under_way : IsUnderWay owner node
  pub fits : FitsSchemas node.schemas next

abbrev pub is_text : Value → Bool
is_text Null = false
is_text (Int n) = false
is_text (Text text) = true

abbrev pub has_no_text : List Value → Bool
has_no_text [] = true
has_no_text (Null ∷ values) = has_no_text values
has_no_text (Int n ∷ values) = has_no_text values
has_no_text (Text text ∷ values) = false

-- a column of numbers
pub record IsNumberColumn (schema : Schema) (expr : Expr) : Type 0 where
  pub column : ℕ
  pub is : expr ≡ Cell column
  pub numbers : column_is is_of_numbers schema column ≡ true

-- a literal that is a number or NULL
pub record IsNumber (expr : Expr) : Type 0 where
  pub value : Value
  pub is : expr ≡ Lit value
  pub no_text : is_text value ≡ false
