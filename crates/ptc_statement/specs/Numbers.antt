-- Arithmetic on numbers, without the values that they stand for.
use Rattle.std.specs.Prelude.{ℤ, ◌≡◌, neg_ℤ, Option, None, Some}
use Rattle.std.specs.Int.{w64, saturate_signed}
use Rattle.row_types.specs.declared.values.Value.{Value}
use Rattle.row_types.specs.declared.values.Value.TheVariants.{Null, Int, Text}
use Rattle.row_types.specs.KeyRows.{Row}
use Rattle.ptc_statement.specs.declared.expressions.Expr.{Expr}
use Rattle.ptc_statement.specs.Meaning.{value_of}

-- the number that a value is, if it is one
abbrev pub number_in : Value → Option ℤ
number_in Null = None
number_in (Int n) = Some n
number_in (Text t) = None

-- a number as a value, and NULL where there is none
abbrev pub number_value : Option ℤ → Value
number_value None = Null
number_value (Some n) = Int n

-- the value of an expression is a number or NULL, as that of all arithmetic is
abbrev pub IsCalculated : Row → Expr → Type 0
IsCalculated row expr = value_of row expr ≡ number_value (number_in (value_of row expr))

-- a value that stands ready for an expression is its value; where none does, the expression is calculated
abbrev pub IsHeld : Row → Expr → Option Value → Type 0
IsHeld row expr None = IsCalculated row expr
IsHeld row expr (Some value) = value ≡ value_of row expr

-- the negative of a number, clipped to 64 bits
abbrev pub opposite_number : Option ℤ → Option ℤ
opposite_number None = None
opposite_number (Some n) = Some (saturate_signed w64 (neg_ℤ n))

-- what arithmetic gives of two numbers, clipped to 64 bits; nothing where one is missing
abbrev pub combined : (ℤ → ℤ → ℤ) → Option ℤ → Option ℤ → Option ℤ
combined operation None right = None
combined operation (Some m) None = None
combined operation (Some m) (Some n) = Some (saturate_signed w64 (operation m n))
