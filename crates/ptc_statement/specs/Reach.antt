-- The keys that a statement walks.
use Rattle.std.specs.Prelude.{◌==◌, Bool, false, cond, List, [], ◌∷◌, Option, None, Some}
use Rattle.row_types.specs.declared.values.Value.{Value}
use Rattle.row_types.specs.declared.values.Value.TheVariants.{Null, Int, Text}
use Rattle.row_types.specs.declared.edges.Edge.TheVariants.{Low, Before, After, High}
use Rattle.row_types.specs.declared.edges.Span.{Span}
use Rattle.row_types.specs.declared.table_schema.Schema.{Schema}
use Rattle.row_types.specs.Order.{all_keys, no_keys, meeting}
use Rattle.row_types.specs.Fit.{key_of}
use Rattle.ptc_statement.specs.declared.expressions.Op.{Op}
use Rattle.ptc_statement.specs.declared.expressions.Op.TheVariants.{Eq, Ne, Lt, Le, Gt, Ge}
use Rattle.ptc_statement.specs.declared.expressions.Expr.{Expr, Expr-F, fold-Expr}
use Rattle.ptc_statement.specs.declared.expressions.Expr.TheOpen.{Lit, Cell, Neg, Add, Sub, Mul}
use Rattle.ptc_statement.specs.declared.conditions.Cond.{Cond, Cond-F, fold-Cond}
use Rattle.ptc_statement.specs.declared.conditions.Cond.TheOpen.{Compare, KeyCompare, IsNull, Not, And, Or}
use Rattle.ptc_statement.specs.declared.statements.Statement.{Statement}
use Rattle.ptc_statement.specs.declared.statements.Statement.TheVariants.{Insert, Replace, Delete, Update, LockRead, Check, SetMaster, ClearChecks}

abbrev pub literal_at : Expr-F (Option Value) → Option Value
literal_at (Lit value) = Some value
literal_at (Cell column) = None
literal_at (Neg operand) = None
literal_at (Add left right) = None
literal_at (Sub left right) = None
literal_at (Mul left right) = None

-- the value of an expression that is a literal
abbrev pub literal_of : Expr → Option Value
literal_of expr = fold-Expr (Option Value) literal_at expr

abbrev pub is_first_column_at : Expr-F Bool → Bool
is_first_column_at (Lit value) = false
is_first_column_at (Cell column) = column == 0
is_first_column_at (Neg operand) = false
is_first_column_at (Add left right) = false
is_first_column_at (Sub left right) = false
is_first_column_at (Mul left right) = false

-- whether an expression is the first column
abbrev pub is_first_column : Expr → Bool
is_first_column expr = fold-Expr Bool is_first_column_at expr

-- the sign with its sides exchanged
abbrev pub exchanged : Op → Op
exchanged Eq = Eq
exchanged Ne = Ne
exchanged Lt = Gt
exchanged Le = Ge
exchanged Gt = Lt
exchanged Ge = Le

abbrev pub just_key : List Value → Span
just_key key = record { lo = Before key; hi = After key }

-- the keys that stand so to a key; <> narrows nothing
abbrev pub keys_by : Op → List Value → Span
keys_by Eq key = just_key key
keys_by Ne key = all_keys
keys_by Lt key = record { lo = Low; hi = Before key }
keys_by Le key = record { lo = Low; hi = After key }
keys_by Gt key = record { lo = After key; hi = High }
keys_by Ge key = record { lo = Before key; hi = High }

-- the keys of one value that stand so to a literal; NULL and what is no literal narrow nothing
abbrev pub keys_of_value : Op → Option Value → Span
keys_of_value op None = all_keys
keys_of_value op (Some Null) = all_keys
keys_of_value op (Some (Int n)) = keys_by op (Int n ∷ [])
keys_of_value op (Some (Text text)) = keys_by op (Text text ∷ [])

-- a key of one column compared with a literal, either way round
abbrev pub keys_of_column : Op → Expr → Expr → Span
keys_of_column op left right =
    cond (is_first_column left) (keys_of_value op (literal_of right))
    (cond (is_first_column right) (keys_of_value (exchanged op) (literal_of left)) all_keys)

-- a comparison narrows where the first column is the whole key
abbrev pub keys_compared : Schema → Op → Expr → Expr → Span
keys_compared schema op left right = cond (schema.key_len == 1) (keys_of_column op left right) all_keys

-- the keys that one part of a condition leaves, from those of its operands
abbrev pub keys_at : Schema → Cond-F Span → Span
keys_at schema (Compare op left right) = keys_compared schema op left right
keys_at schema (KeyCompare op key) = keys_by op key
keys_at schema (IsNull expr negated) = all_keys
keys_at schema (Not operand) = all_keys
keys_at schema (And left right) = meeting left right
keys_at schema (Or left right) = all_keys

-- the keys that a condition leaves: the meeting of those of all terms that ANDs join
abbrev pub keys_met : Schema → Cond → Span
keys_met schema condition = fold-Cond Span (keys_at schema) condition

abbrev pub keys_where : Schema → Option Cond → Span
keys_where schema None = all_keys
keys_where schema (Some condition) = keys_met schema condition

-- the keys that a statement walks
abbrev pub reach_of : Schema → Statement → Span
reach_of schema (Insert table row) = just_key (key_of schema row)
reach_of schema (Replace table row) = just_key (key_of schema row)
reach_of schema (Delete table where_true) = keys_where schema where_true
reach_of schema (Update table sets where_true) = keys_where schema where_true
reach_of schema (LockRead table mode span where_true) = meeting span (keys_where schema where_true)
reach_of schema (Check table chunk span kind) = span
reach_of schema (SetMaster table chunk kind master) = no_keys
reach_of schema (ClearChecks table) = no_keys
