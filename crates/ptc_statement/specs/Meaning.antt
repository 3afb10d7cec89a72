-- The value of an expression and the truth of a condition over a row.
use Rattle.std.specs.Prelude.{ℤ, ◌+ℤ◌, ◌-ℤ◌, ◌*ℤ◌, neg_ℤ, Bool, true, false, not, Option, None, Some, slice_index_or}
use Rattle.std.specs.Int.{w64, saturate_signed}
use Rattle.std.specs.Ordering.{is_eq, is_ne, is_lt, is_le, is_gt, is_ge}
use Rattle.std.specs.declared.cmp.Ordering.{Ordering}
use Rattle.row_types.specs.declared.values.Value.{Value}
use Rattle.row_types.specs.declared.values.Value.TheVariants.{Null, Int, Text}
use Rattle.row_types.specs.declared.table_schema.Schema.{Schema}
use Rattle.row_types.specs.Order.{value_cmp, key_cmp}
use Rattle.row_types.specs.KeyRows.{Row}
use Rattle.row_types.specs.Fit.{key_of}
use Rattle.ptc_statement.specs.declared.expressions.Op.{Op}
use Rattle.ptc_statement.specs.declared.expressions.Op.TheVariants.{Eq, Ne, Lt, Le, Gt, Ge}
use Rattle.ptc_statement.specs.declared.expressions.Expr.{Expr, Expr-F, fold-Expr}
use Rattle.ptc_statement.specs.declared.expressions.Expr.TheOpen.{Lit, Cell, Neg, Add, Sub, Mul}
use Rattle.ptc_statement.specs.declared.conditions.Cond.{Cond, Cond-F, fold-Cond}
use Rattle.ptc_statement.specs.declared.conditions.Cond.TheOpen.{Compare, KeyCompare, IsNull, Not, And, Or}

-- an arithmetic result, clipped to 64 bits
abbrev pub number : ℤ → Value
number n = Int (saturate_signed w64 n)

-- arithmetic with NULL gives NULL; texts are no operands
abbrev pub calculated : (ℤ → ℤ → ℤ) → Value → Value → Value
calculated operation Null right = Null
calculated operation (Int m) Null = Null
calculated operation (Int m) (Int n) = number (operation m n)
calculated operation (Int m) (Text t) = Null
calculated operation (Text s) right = Null

abbrev pub negated : Value → Value
negated Null = Null
negated (Int n) = number (neg_ℤ n)
negated (Text t) = Null

-- what one part of an expression gives, from the values of its operands
abbrev pub value_at : Row → Expr-F Value → Value
value_at row (Lit value) = value
value_at row (Cell column) = slice_index_or row column Null
value_at row (Neg operand) = negated operand
value_at row (Add left right) = calculated ◌+ℤ◌ left right
value_at row (Sub left right) = calculated ◌-ℤ◌ left right
value_at row (Mul left right) = calculated ◌*ℤ◌ left right

-- the value of an expression over a row
abbrev pub value_of : Row → Expr → Value
value_of row expr = fold-Expr Value (value_at row) expr

-- whether two sides in this order meet the sign
abbrev pub meets : Op → Ordering → Bool
meets Eq ordering = is_eq ordering
meets Ne ordering = is_ne ordering
meets Lt ordering = is_lt ordering
meets Le ordering = is_le ordering
meets Gt ordering = is_gt ordering
meets Ge ordering = is_ge ordering

-- a comparison with NULL is unknown
abbrev pub compared : Op → Value → Value → Option Bool
compared op Null right = None
compared op (Int m) Null = None
compared op (Int m) (Int n) = Some (meets op (value_cmp (Int m) (Int n)))
compared op (Int m) (Text t) = Some (meets op (value_cmp (Int m) (Text t)))
compared op (Text s) Null = None
compared op (Text s) (Int n) = Some (meets op (value_cmp (Text s) (Int n)))
compared op (Text s) (Text t) = Some (meets op (value_cmp (Text s) (Text t)))

abbrev pub is_null : Value → Bool
is_null Null = true
is_null (Int n) = false
is_null (Text t) = false

-- NOT, AND and OR of three values: true, false and unknown
abbrev pub opposite : Option Bool → Option Bool
opposite None = None
opposite (Some truth) = Some (not truth)

abbrev pub both : Option Bool → Option Bool → Option Bool
both None None = None
both None (Some true) = None
both None (Some false) = Some false
both (Some true) right = right
both (Some false) right = Some false

abbrev pub either : Option Bool → Option Bool → Option Bool
either None None = None
either None (Some true) = Some true
either None (Some false) = None
either (Some true) right = Some true
either (Some false) right = right

-- IS NULL, or where it is negated IS NOT NULL
abbrev pub null_test : Bool → Value → Bool
null_test true value = not (is_null value)
null_test false value = is_null value

-- the truth of one part of a condition, from the truths of its operands
abbrev pub truth_at : Schema → Row → Cond-F (Option Bool) → Option Bool
truth_at schema row (Compare op left right) = compared op (value_of row left) (value_of row right)
truth_at schema row (KeyCompare op key) = Some (meets op (key_cmp (key_of schema row) key))
truth_at schema row (IsNull expr negated) = Some (null_test negated (value_of row expr))
truth_at schema row (Not operand) = opposite operand
truth_at schema row (And left right) = both left right
truth_at schema row (Or left right) = either left right

-- the truth of a condition over a row, none where it is unknown
abbrev pub truth_of : Schema → Row → Cond → Option Bool
truth_of schema row cond = fold-Cond (Option Bool) (truth_at schema row) cond

abbrev pub is_true : Option Bool → Bool
is_true None = false
is_true (Some truth) = truth

-- whether a statement takes the row: its condition is true there, or there is none
abbrev pub is_taken : Schema → Option Cond → Row → Bool
is_taken schema None row = true
is_taken schema (Some condition) row = is_true (truth_of schema row condition)
