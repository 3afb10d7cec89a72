-- The rest of a line, part by part.
use Rattle.std.specs.Prelude.{◌≡◌, ◌<◌, ◌+◌, ◌==◌, ◌&&◌, not, ℕ, Bool, List, [], ◌∷◌, length, if◌then◌else◌}
use Rattle.statement_tokens.specs.FirstToken.{behind}
use Rattle.file_text.specs.Parts.{Part, is_sign, no_sign, parts_of, row_parts_from, tokens_within, behind_token}
use Rattle.line_parts.specs.declared.cuttings.Cutting.{Cutting}
use Rattle.line_parts.specs.declared.cuttings.Cutting.TheVariants.{Words, SignedWords, RowFront, RowTokens}

-- the parts of the rest of a line that begins at this place
abbrev pub parts_from : Cutting → ℕ → List ℕ → List Part
parts_from Words place bytes = parts_of no_sign place bytes
parts_from SignedWords place bytes = parts_of is_sign place bytes
parts_from RowFront place bytes = row_parts_from place bytes
parts_from RowTokens place bytes = tokens_within (length bytes) place bytes

-- no space and no sign
abbrev pub is_plain : (ℕ → Bool) → ℕ → Bool
is_plain alone byte = not (byte == 32) && not (alone byte)

abbrev pub behind_word : (ℕ → Bool) → ℕ → List ℕ → List ℕ
behind_word alone byte bytes = if alone byte then bytes else behind (is_plain alone) bytes

-- what is behind the part with this first byte
abbrev pub behind_part : Cutting → ℕ → List ℕ → List ℕ
behind_part Words byte bytes = behind_word no_sign byte bytes
behind_part SignedWords byte bytes = behind_word is_sign byte bytes
behind_part RowFront byte bytes = behind_word is_sign byte bytes
behind_part RowTokens byte bytes = behind_token byte bytes

-- how it is cut
abbrev pub cutting_behind : Cutting → ℕ → Cutting
cutting_behind Words byte = Words
cutting_behind SignedWords byte = SignedWords
cutting_behind RowFront byte = if byte == 40 then RowTokens else RowFront
cutting_behind RowTokens byte = RowTokens

-- the first part of the rest of a line, and what is left behind it
pub record NextPart (cutting : Cutting) (place : ℕ) (bytes : List ℕ) (at : ℕ) (text : List ℕ) (next : ℕ) (rest : List ℕ) (behind : Cutting) : Type 0 where
  pub parts : parts_from cutting place bytes ≡ record { place = at; text = text } ∷ parts_from behind next rest
  pub shorter : length rest < length bytes
  pub places : next + length rest ≡ place + length bytes
