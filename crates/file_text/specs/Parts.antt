-- The parts of a line: its words, and the signs that part them, each with its place.
use Rattle.std.specs.Prelude.{ℕ, zero, suc, ◌+◌, ◌-◌, ◌==◌, ◌&&◌, ◌||◌, not, Bool, false, List, [], ◌∷◌, if◌then◌else◌, length, take, Option, None, Some}
use Rattle.std.specs.Char.{is_ascii_digit}
use Rattle.statement_tokens.specs.Spellings.{is_letter, is_word_byte}
use Rattle.statement_tokens.specs.FirstToken.{behind, quoted}

-- what stands between two spaces or signs, and the number of its first byte in the line, from 1
pub record Part : Type 0 where
  pub place : ℕ
  pub text : List ℕ

-- the signs that part the words of TABLE and ROW
abbrev pub is_sign : ℕ → Bool
is_sign byte = byte == 40 || byte == 41 || byte == 44

abbrev pub no_sign : ℕ → Bool
no_sign byte = false

abbrev pub begins_alone : (ℕ → Bool) → List ℕ → Bool
begins_alone alone [] = false
begins_alone alone (byte ∷ bytes) = alone byte

-- a byte before a part that it touches belongs to it, unless one of the two is a sign
abbrev pub touches : (ℕ → Bool) → ℕ → ℕ → Part → Bool
touches alone place byte part = part.place == suc place && not (alone byte) && not (begins_alone alone part.text)

abbrev pub joined : (ℕ → Bool) → ℕ → ℕ → List Part → List Part
joined alone place byte [] = record { place = place; text = byte ∷ [] } ∷ []
joined alone place byte (part ∷ parts) =
    if touches alone place byte part then record { place = place; text = byte ∷ part.text } ∷ parts
    else record { place = place; text = byte ∷ [] } ∷ part ∷ parts

-- the parts of a text that begins at this place
abbrev pub parts_of : (ℕ → Bool) → ℕ → List ℕ → List Part
parts_of alone place [] = []
parts_of alone place (byte ∷ bytes) =
    if byte == 32 then parts_of alone (suc place) bytes
    else joined alone place byte (parts_of alone (suc place) bytes)

-- words parted by spaces
abbrev pub words_of : List ℕ → List Part
words_of line = parts_of no_sign 1 line

-- words parted by spaces and signs
abbrev pub signed_words_of : List ℕ → List Part
signed_words_of line = parts_of is_sign 1 line

-- what is behind a text in quotes; one that does not close is all the rest
abbrev pub behind_quote : Option (List ℕ × List ℕ) → List ℕ
behind_quote None = []
behind_quote (Some parts) = parts.1

-- What is behind the token with which a text begins. A number is one token however long it is, and each sign
-- is one byte: a row has no longer ones.
abbrev pub behind_token : ℕ → List ℕ → List ℕ
behind_token byte bytes =
    if is_letter byte then behind is_word_byte bytes
    else if is_ascii_digit byte then behind is_ascii_digit bytes
    else if byte == 39 then behind_quote (quoted bytes)
    else bytes

-- the first of these bytes, up to the rest
abbrev pub front_to : List ℕ → List ℕ → List ℕ
front_to rest bytes = take (length bytes - length rest) bytes

-- the tokens of a text that begins at this place, in as many steps as it has bytes
abbrev pub tokens_within : ℕ → ℕ → List ℕ → List Part
tokens_within zero place bytes = []
tokens_within (suc steps) place [] = []
tokens_within (suc steps) place (byte ∷ bytes) =
    if byte == 32 then tokens_within steps (suc place) bytes
    else record { place = place; text = front_to (behind_token byte bytes) (byte ∷ bytes) }
    ∷ tokens_within steps (place + (suc (length bytes) - length (behind_token byte bytes))) (behind_token byte bytes)

-- words parted by spaces and signs up to the first parenthesis, and from there on the tokens of statement text
abbrev pub row_parts_from : ℕ → List ℕ → List Part
row_parts_from place [] = []
row_parts_from place (byte ∷ bytes) =
    if byte == 32 then row_parts_from (suc place) bytes
    else if byte == 40 then record { place = place; text = byte ∷ [] } ∷ tokens_within (length bytes) (suc place) bytes
    else joined is_sign place byte (row_parts_from (suc place) bytes)

abbrev pub row_parts_of : List ℕ → List Part
row_parts_of line = row_parts_from 1 line

abbrev pub before_spaces : ℕ → List ℕ → List ℕ
before_spaces byte [] = if byte == 32 then [] else byte ∷ []
before_spaces byte (next ∷ bytes) = byte ∷ next ∷ bytes

-- the line without the spaces at its end
abbrev pub trimmed : List ℕ → List ℕ
trimmed [] = []
trimmed (byte ∷ bytes) = before_spaces byte (trimmed bytes)

-- one past the line's last byte that is no space
abbrev pub past_end : List ℕ → ℕ
past_end line = suc (length (trimmed line))

-- the place of the part of this number, or one past the line's end
abbrev pub place_of : ℕ → List Part → ℕ → ℕ
place_of past [] number = past
place_of past (part ∷ parts) zero = part.place
place_of past (part ∷ parts) (suc number) = place_of past parts number
