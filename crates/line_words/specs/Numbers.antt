-- Numbers that the reader keeps in 128 bits.
use Rattle.std.specs.Prelude.{◌≡◌, ◌-◌, ◌^◌, ◌==◌, ◌&&◌, ◌||◌, not, ⊤, ℕ, Bool, false, min, List, [], ◌∷◌, ◌++◌}
use Rattle.std.specs.Char.{is_ascii_digit}
use Rattle.file_text.specs.Said.{IsDecimal, begins_zero}

-- a number with this property, or the greatest of 128 bits where that number is greater
pub record Capped (P : ℕ → Type 0) (found : ℕ) : Type 0 where
  pub number : ℕ
  pub is : P number
  pub capped : found ≡ min number (2 ^ 128 - 1)

abbrev pub StopsDigits : List ℕ → Type 0
StopsDigits [] = ⊤
StopsDigits (byte ∷ bytes) = is_ascii_digit byte ≡ false

-- the text begins with this number, and this is left behind its digits
pub record DecimalCut (found : ℕ) (text rest : List ℕ) : Type 0 where
  pub front : List ℕ
  pub are : text ≡ front ++ rest
  pub stops : StopsDigits rest
  pub number : Capped (λ (n : ℕ). IsDecimal n front) found

abbrev pub NoDecimalCut : List ℕ → Type 0
NoDecimalCut text = (front rest : List ℕ) (n : ℕ) → text ≡ front ++ rest → StopsDigits rest → IsDecimal n front → ⊥

abbrev pub is_canonical : List ℕ → ℕ → Bool
is_canonical text size = not (size == 0) && (size == 1 || not (begins_zero text))
