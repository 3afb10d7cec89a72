-- The tokens of a text, each with its place.
use Rattle.std.specs.Prelude.{◌≡◌, ◌≤◌, ◌+◌, ◌==◌, ◌&&◌, not, ⊤, ℕ, Bool, true, false, List, [], ◌∷◌, ◌++◌, length}
use Rattle.std.specs.List.{AllByRecursion}
use Rattle.statement_tokens.specs.Spellings.{IsTokenText, StopsAtEnd}
use Rattle.statement_tokens.specs.declared.words.Math.TheVariants.{Minus}
use Rattle.statement_tokens.specs.declared.words.Token.{Token}
use Rattle.statement_tokens.specs.declared.words.Word.{Word}
use Rattle.statement_tokens.specs.declared.words.Word.TheVariants as w
use Rattle.statement_tokens.specs.declared.text_ends.TextEnd.{TextEnd}
use Rattle.statement_tokens.specs.declared.text_ends.TextEnd.TheVariants.{Whole, NoToken as StopsBefore}

-- an operand ends here, so that a `-` behind it is no sign
abbrev pub is_operand_end : Word → Bool
is_operand_end (w.Name n) = true
is_operand_end (w.Number n) = true
is_operand_end (w.Text t) = true
is_operand_end w.Null = true
is_operand_end w.Close = true
is_operand_end _ = false

abbrev pub is_behind_operand : List Word → Bool
is_behind_operand [] = false
is_behind_operand (word ∷ words) = is_operand_end word

abbrev pub is_minus : Word → Bool
is_minus (w.Math Minus) = true
is_minus _ = false

-- the words before are a `-` that is a sign; the last stands first
abbrev pub is_behind_sign : List Word → Bool
is_behind_sign [] = false
is_behind_sign (word ∷ words) = is_minus word && not (is_behind_operand words)

-- the ends of 128 bits, signed
abbrev pub most_number : Bool → ℕ
most_number true = 170141183460469231731687303715884105728
most_number false = 170141183460469231731687303715884105727

-- a number past the ends of 128 bits is no token
abbrev pub InBits : Bool → Word → Type 0
InBits behind_sign (w.Number n) = n ≤ most_number behind_sign
InBits behind_sign word = ⊤

-- this text is the token with which text and rest begin; said is whether a sign stands before it
pub record TokenAt (behind_sign : Bool) (word : Word) (text rest : List ℕ) : Type 0 where
  pub spelled : IsTokenText word text
  pub longest : StopsAtEnd word rest
  pub bits : InBits behind_sign word

-- no token begins the text
abbrev pub NoToken : Bool → List ℕ → Type 0
NoToken behind_sign bytes = (word : Word) (text rest : List ℕ) → bytes ≡ text ++ rest → TokenAt behind_sign word text rest → ⊥

-- the bytes begin with this token, and this is the rest
pub record IsCut (behind_sign : Bool) (word : Word) (bytes rest : List ℕ) : Type 0 where
  pub text : List ℕ
  pub are : bytes ≡ text ++ rest
  pub token : TokenAt behind_sign word text rest

abbrev pub AreSpaces : List ℕ → Type 0
AreSpaces bytes = AllByRecursion (λ (byte : ℕ). byte ≡ 32) bytes

-- there is a first byte, and it is no space
abbrev pub BeginsBare : List ℕ → Type 0
BeginsBare [] = ⊥
BeginsBare (byte ∷ bytes) = (byte == 32) ≡ false

-- How it ends: nothing but spaces is left, or what is left behind all of them begins with no token.
abbrev pub EndsSo : List Word → ℕ → List ℕ → List ℕ → TextEnd → Type 0
EndsSo before place blanks rest (Whole past) = (rest ≡ []) × (past ≡ place)
EndsSo before place blanks rest (StopsBefore past) = BeginsBare rest × NoToken (is_behind_sign before) rest × (past ≡ place + length blanks)

pub record EndsAt (before : List Word) (place : ℕ) (bytes : List ℕ) (end : TextEnd) : Type 0 where
  pub blanks : List ℕ
  pub rest : List ℕ
  pub are : bytes ≡ blanks ++ rest
  pub spaces : AreSpaces blanks
  pub ends : EndsSo before place blanks rest end

-- A text's tokens from this place on, where these words stand before; and how it ends.
abbrev pub AreTokens : List Word → ℕ → List ℕ → List Token → TextEnd → Type 0
AreTokens before place bytes [] end = EndsAt before place bytes end
AreTokens before place bytes (t ∷ ts) end =
    (blanks : List ℕ) × (text : List ℕ) × (rest : List ℕ) × (bytes ≡ blanks ++ (text ++ rest)) × AreSpaces blanks × (t.place ≡ place + length blanks)
    × TokenAt (is_behind_sign before) t.word text rest × AreTokens (t.word ∷ before) (t.place + length text) rest ts end

-- the tokens of a whole text
abbrev pub AreTokensOf : List ℕ → List Token → TextEnd → Type 0
AreTokensOf text ts end = AreTokens [] 1 text ts end
