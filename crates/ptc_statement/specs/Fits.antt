-- Which statements fit a schema.
use Rattle.std.specs.Prelude.{ℕ, ◌≡◌, ◌≤◌, ◌+◌, ◌==◌, ◌&&◌, ◌||◌, max, Bool, true, false, IsTrue, List, [], ◌∷◌, Option, None, Some, take}
use Rattle.std.specs.List.{slice_get, AllByRecursion}
use Rattle.std.specs.Option.{option_map_or}
use Rattle.row_types.specs.declared.values.Value.{Value}
use Rattle.row_types.specs.declared.values.Value.TheVariants.{Null, Int, Text}
use Rattle.row_types.specs.declared.table_schema.ColumnKind.{ColumnKind}
use Rattle.row_types.specs.declared.table_schema.ColumnKind.TheVariants.{Int as IntColumn, BigInt, Text as TextColumn}
use Rattle.row_types.specs.declared.table_schema.Column.{Column}
use Rattle.row_types.specs.declared.table_schema.Schema.{Schema}
use Rattle.row_types.specs.Fit.{RowFits}
use Rattle.ptc_statement.specs.declared.expressions.Expr.{Expr, Expr-F, fold-Expr}
use Rattle.ptc_statement.specs.declared.expressions.Expr.TheOpen.{Lit, Cell, Neg, Add, Sub, Mul}
use Rattle.ptc_statement.specs.declared.conditions.Cond.{Cond, Cond-F, fold-Cond}
use Rattle.ptc_statement.specs.declared.conditions.Cond.TheOpen.{Compare, KeyCompare, IsNull, Not, And, Or}
use Rattle.ptc_statement.specs.declared.assignments.Assignment.{Assignment}
use Rattle.ptc_statement.specs.declared.statements.Statement.{Statement}
use Rattle.ptc_statement.specs.declared.statements.Statement.TheVariants.{Insert, Replace, Delete, Update, LockRead, Check, SetMaster, ClearChecks}
use Rattle.ptc_statement.specs.Effect.{table_of}

abbrev pub is_of_numbers : ColumnKind → Bool
is_of_numbers IntColumn = true
is_of_numbers BigInt = true
is_of_numbers (TextColumn max) = false

abbrev pub is_of_texts : ColumnKind → Bool
is_of_texts IntColumn = false
is_of_texts BigInt = false
is_of_texts (TextColumn max) = true

-- the column of this number is one that passes; there is one
abbrev pub column_is : (ColumnKind → Bool) → Schema → ℕ → Bool
column_is test schema column = option_map_or (λ (found : Column). test found.kind) (slice_get schema.columns column) false

-- whether a value may stand where a number is wanted, and where a text is: NULL may in both places
abbrev pub value_is_number : Value → Bool
value_is_number Null = true
value_is_number (Int n) = true
value_is_number (Text text) = false

abbrev pub value_is_text : Value → Bool
value_is_text Null = true
value_is_text (Int n) = false
value_is_text (Text text) = true

-- arithmetic takes numbers and gives one
abbrev pub is_number_at : Schema → Expr-F Bool → Bool
is_number_at schema (Lit value) = value_is_number value
is_number_at schema (Cell column) = column_is is_of_numbers schema column
is_number_at schema (Neg operand) = operand
is_number_at schema (Add left right) = left && right
is_number_at schema (Sub left right) = left && right
is_number_at schema (Mul left right) = left && right

-- whether an expression may stand where a number is wanted
abbrev pub is_number : Schema → Expr → Bool
is_number schema expr = fold-Expr Bool (is_number_at schema) expr

abbrev pub is_text_at : Schema → Expr-F Bool → Bool
is_text_at schema (Lit value) = value_is_text value
is_text_at schema (Cell column) = column_is is_of_texts schema column
is_text_at schema (Neg operand) = false
is_text_at schema (Add left right) = false
is_text_at schema (Sub left right) = false
is_text_at schema (Mul left right) = false

-- whether an expression may stand where a text is wanted
abbrev pub is_text : Schema → Expr → Bool
is_text schema expr = fold-Expr Bool (is_text_at schema) expr

-- an expression of a column's kind
abbrev pub is_of_kind : Schema → ColumnKind → Expr → Bool
is_of_kind schema IntColumn expr = is_number schema expr
is_of_kind schema BigInt expr = is_number schema expr
is_of_kind schema (TextColumn max) expr = is_text schema expr

abbrev pub literal_is_of_kind : ColumnKind → Value → Bool
literal_is_of_kind kind Null = false
literal_is_of_kind kind (Int n) = is_of_numbers kind
literal_is_of_kind kind (Text text) = is_of_texts kind

-- a literal for each column, of its kind, none of them NULL
abbrev pub literals_fit : List Column → List Value → Bool
literals_fit [] [] = true
literals_fit [] (value ∷ values) = false
literals_fit (column ∷ columns) [] = false
literals_fit (column ∷ columns) (value ∷ values) = literal_is_of_kind column.kind value && literals_fit columns values

-- two sides of one kind; a row comparison needs a key of two columns
abbrev pub is_sound_at : Schema → Cond-F Bool → Bool
is_sound_at schema (Compare op left right) =
    (is_number schema left && is_number schema right) || (is_text schema left && is_text schema right)
is_sound_at schema (KeyCompare op key) = (schema.key_len == 2) && literals_fit (take schema.key_len schema.columns) key
is_sound_at schema (IsNull expr negated) = is_number schema expr || is_text schema expr
is_sound_at schema (Not operand) = operand
is_sound_at schema (And left right) = left && right
is_sound_at schema (Or left right) = left && right

-- whether each comparison of a condition joins two sides of one kind
abbrev pub is_sound : Schema → Cond → Bool
is_sound schema condition = fold-Cond Bool (is_sound_at schema) condition

-- a literal and a column are 1 high, a sign is 1 higher than its higher operand
abbrev pub expr_height_at : Expr-F ℕ → ℕ
expr_height_at (Lit value) = 1
expr_height_at (Cell column) = 1
expr_height_at (Neg operand) = operand + 1
expr_height_at (Add left right) = max left right + 1
expr_height_at (Sub left right) = max left right + 1
expr_height_at (Mul left right) = max left right + 1

abbrev pub expr_height : Expr → ℕ
expr_height expr = fold-Expr ℕ expr_height_at expr

abbrev pub cond_height_at : Cond-F ℕ → ℕ
cond_height_at (Compare op left right) = max (expr_height left) (expr_height right) + 1
cond_height_at (KeyCompare op key) = 1
cond_height_at (IsNull expr negated) = expr_height expr + 1
cond_height_at (Not operand) = operand + 1
cond_height_at (And left right) = max left right + 1
cond_height_at (Or left right) = max left right + 1

-- the height of a condition, its expressions counted
abbrev pub cond_height : Cond → ℕ
cond_height condition = fold-Cond ℕ cond_height_at condition

-- a column behind the key is given an expression of its kind, at most 64 high
pub record AssignmentFits (schema : Schema) (assignment : Assignment) : Type 0 where
  pub behind_key : schema.key_len ≤ assignment.column
  pub column : Column
  pub found : slice_get schema.columns assignment.column ≡ Some column
  pub kind : IsTrue (is_of_kind schema column.kind assignment.expr)
  pub height : expr_height assignment.expr ≤ 64

pub record CondFits (schema : Schema) (condition : Cond) : Type 0 where
  pub kinds : IsTrue (is_sound schema condition)
  pub height : cond_height condition ≤ 64

abbrev pub WhereFits : Schema → Option Cond → Type 0
WhereFits schema None = Unit {0}
WhereFits schema (Some condition) = CondFits schema condition

-- the keys of a span may be any
abbrev pub StatementFits : Schema → Statement → Type 0
StatementFits schema (Insert table row) = RowFits schema row
StatementFits schema (Replace table row) = RowFits schema row
StatementFits schema (Delete table where_true) = WhereFits schema where_true
StatementFits schema (Update table sets where_true) = AllByRecursion (AssignmentFits schema) sets × WhereFits schema where_true
StatementFits schema (LockRead table mode span where_true) = WhereFits schema where_true
StatementFits schema (Check table chunk span kind) = Unit {0}
StatementFits schema (SetMaster table chunk kind master) = Unit {0}
StatementFits schema (ClearChecks table) = Unit {0}

-- its table is one of theirs, and it fits that table's schema
pub record FitsSchemas (schemas : List Schema) (statement : Statement) : Type 0 where
  pub schema : Schema
  pub found : slice_get schemas (table_of statement) ≡ Some schema
  pub fits : StatementFits schema statement

-- a client's statement, and not one of the checksum tool's
abbrev pub IsClients : Statement → Type 0
IsClients (Insert table row) = Unit {0}
IsClients (Replace table row) = Unit {0}
IsClients (Delete table where_true) = Unit {0}
IsClients (Update table sets where_true) = Unit {0}
IsClients (LockRead table mode span where_true) = Unit {0}
IsClients (Check table chunk span kind) = ⊥
IsClients (SetMaster table chunk kind master) = ⊥
IsClients (ClearChecks table) = ⊥

-- one of the checksum tool's
abbrev pub IsTools : Statement → Type 0
IsTools statement = IsClients statement → ⊥
