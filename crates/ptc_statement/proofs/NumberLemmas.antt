-- Arithmetic on values is arithmetic on the numbers that they are.
use Rattle.std.proofs.Common.{◌≡◌, ℤ, refl}
use Rattle.row_types.specs.declared.values.Value.{Value}
use Rattle.row_types.specs.declared.values.Value.TheVariants.{Null, Int, Text}
use Rattle.ptc_statement.specs.Meaning.{calculated, negated}
use Rattle.ptc_statement.specs.Numbers.{number_in, number_value, opposite_number, combined}

pub number_of_negated : (operand : Value) → number_in (negated operand) ≡ opposite_number (number_in operand)
number_of_negated Null = refl
number_of_negated (Int n) = refl
number_of_negated (Text t) = refl

pub number_of_calculated : (operation : ℤ → ℤ → ℤ) (left right : Value)
    → number_in (calculated operation left right) ≡ combined operation (number_in left) (number_in right)
number_of_calculated operation Null right = refl
number_of_calculated operation (Int m) Null = refl
number_of_calculated operation (Int m) (Int n) = refl
number_of_calculated operation (Int m) (Text t) = refl
number_of_calculated operation (Text s) right = refl

pub negated_is_number : (operand : Value) → negated operand ≡ number_value (number_in (negated operand))
negated_is_number Null = refl
negated_is_number (Int n) = refl
negated_is_number (Text t) = refl

pub calculated_is_number : (operation : ℤ → ℤ → ℤ) (left right : Value)
    → calculated operation left right ≡ number_value (number_in (calculated operation left right))
calculated_is_number operation Null right = refl
calculated_is_number operation (Int m) Null = refl
calculated_is_number operation (Int m) (Int n) = refl
calculated_is_number operation (Int m) (Text t) = refl
calculated_is_number operation (Text s) right = refl
