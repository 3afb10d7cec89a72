-- Numbers grow with each digit.
use Rattle.std.proofs.Common.{ℕ, ◌+◌, ◌*◌, ◌≤◌, List, [], ◌∷◌, arith}
use Rattle.std.specs.Char.{digit_value}
use Rattle.std.specs.Str.Parse.{digits_value_after}

pub grows : (number : ℕ) (text : List ℕ) → number ≤ digits_value_after 10 number text
grows number [] = omega arith
grows number (byte ∷ text) = omega (arith, grows (number * 10 + digit_value byte) text)
