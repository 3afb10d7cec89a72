-- The first token of a text, worked out byte by byte: what the code is proved to give, and what lemmas
-- show to be the token of the text.
use Rattle.std.specs.Prelude.{ℕ, ◌==◌, nat_le, Bool, false, List, [], ◌∷◌, Option, None, Some, length, find, if◌then◌else◌}
use Rattle.std.specs.Char.{is_ascii_digit}
use Rattle.std.specs.Option.{option_map, option_or}
use Rattle.std.specs.Str.{str_eq_ignore_ascii_case}
use Rattle.ptc_statement.specs.declared.expressions.Op.TheVariants as op
use Rattle.statement_tokens.specs.Spellings.{is_letter, is_word_byte, is_text_byte, keyword_text, number_from, spelling}
use Rattle.statement_tokens.specs.Tokens.{most_number}
use Rattle.statement_tokens.specs.declared.words.Math.TheVariants.{Plus, Minus, Times}
use Rattle.statement_tokens.specs.declared.words.Keyword.{Keyword}
use Rattle.statement_tokens.specs.declared.words.Keyword.TheVariants as k
use Rattle.statement_tokens.specs.declared.words.Word.{Word}
use Rattle.statement_tokens.specs.declared.words.Word.TheVariants as w

abbrev pub all_keywords : List Keyword
all_keywords = k.Insert ∷ k.Into ∷ k.Values ∷ k.Replace ∷ k.Delete ∷ k.From ∷ k.Where ∷ k.Update ∷ k.Set ∷ k.Select ∷ k.For ∷ k.Share ∷ k.Lock ∷ k.In ∷ k.Mode ∷ k.Checksum ∷ k.Chunk ∷ k.To ∷ k.Using ∷ k.SetMaster ∷ k.Cnt ∷ k.Crc ∷ k.ClearChecks ∷ k.Low ∷ k.High ∷ k.Before ∷ k.After ∷ k.Md5 ∷ k.Sha1 ∷ k.Key ∷ k.Int ∷ k.BigInt ∷ k.VarChar ∷ []

unfoldable pub keyword_named : List ℕ → Option Keyword
keyword_named text = find (λ keyword. str_eq_ignore_ascii_case (keyword_text keyword) text) all_keywords

abbrev pub matches_letters : Option (List ℕ) → List ℕ → Bool
matches_letters None text = false
matches_letters (Some letters) text = str_eq_ignore_ascii_case letters text

-- the keywords of expressions and conditions
unfoldable pub operator_named : List ℕ → Option Word
operator_named text = find (λ word. matches_letters (spelling word) text) (w.Null ∷ w.And ∷ w.Or ∷ w.Not ∷ w.Is ∷ w.Between ∷ [])

unfoldable pub reserved_word : List ℕ → Option Word
reserved_word text = option_or (operator_named text) (option_map w.Keyword (keyword_named text))

-- how a list begins where a test holds, and what is behind that
abbrev pub front_of : (ℕ → Bool) → List ℕ → List ℕ
front_of test [] = []
front_of test (x ∷ xs) = if test x then x ∷ front_of test xs else []

abbrev pub behind : (ℕ → Bool) → List ℕ → List ℕ
behind test [] = []
behind test (x ∷ xs) = if test x then behind test xs else x ∷ xs

abbrev pub is_space : ℕ → Bool
is_space byte = byte == 32

abbrev pub name_within : List ℕ → Option Word
name_within text = if nat_le (length text) 32 then Some (w.Name text) else None

abbrev pub word_of : List ℕ → Option Word
word_of text = option_or (reserved_word text) (name_within text)

abbrev pub with_rest : List ℕ → Option Word → Option (Word × List ℕ)
with_rest rest None = None
with_rest rest (Some word) = Some (word, rest)

abbrev pub number_within : Bool → ℕ → Option Word
number_within behind_sign n = if nat_le n (most_number behind_sign) then Some (w.Number n) else None

abbrev pub onto : ℕ → Option (List ℕ × List ℕ) → Option (List ℕ × List ℕ)
onto byte None = None
onto byte (Some parts) = Some (byte ∷ parts.0, parts.1)

-- what stands up to the closing quote, and what is behind it
abbrev pub quoted : List ℕ → Option (List ℕ × List ℕ)
quoted [] = None
quoted (byte ∷ []) = if byte == 39 then Some ([], []) else None
quoted (byte ∷ next ∷ bytes) =
    if byte == 39 then (if next == 39 then onto 39 (quoted bytes) else Some ([], next ∷ bytes))
    else if is_text_byte byte then onto byte (quoted (next ∷ bytes)) else None

abbrev pub text_of : Option (List ℕ × List ℕ) → Option (Word × List ℕ)
text_of None = None
text_of (Some parts) = Some (w.Text parts.0, parts.1)

-- a sign of two bytes, else one of the first byte alone
abbrev pub less_sign : List ℕ → Word × List ℕ
less_sign [] = (w.Compare op.Lt, [])
less_sign (byte ∷ bytes) =
    if byte == 61 then (w.Compare op.Le, bytes) else if byte == 62 then (w.Compare op.Ne, bytes) else (w.Compare op.Lt, byte ∷ bytes)

abbrev pub greater_sign : List ℕ → Word × List ℕ
greater_sign [] = (w.Compare op.Gt, [])
greater_sign (byte ∷ bytes) = if byte == 61 then (w.Compare op.Ge, bytes) else (w.Compare op.Gt, byte ∷ bytes)

abbrev pub unequal_sign : List ℕ → Option (Word × List ℕ)
unequal_sign [] = None
unequal_sign (byte ∷ bytes) = if byte == 61 then Some (w.Compare op.Ne, bytes) else None

abbrev pub single_sign : ℕ → Option Word
single_sign byte =
    if byte == 40 then Some w.Open
    else if byte == 41 then Some w.Close
    else if byte == 42 then Some (w.Math Times)
    else if byte == 43 then Some (w.Math Plus)
    else if byte == 44 then Some w.Comma
    else if byte == 45 then Some (w.Math Minus)
    else if byte == 59 then Some w.Semicolon
    else if byte == 61 then Some (w.Compare op.Eq)
    else None

abbrev pub sign_at : ℕ → List ℕ → Option (Word × List ℕ)
sign_at byte bytes =
    if byte == 60 then Some (less_sign bytes)
    else if byte == 62 then Some (greater_sign bytes)
    else if byte == 33 then unequal_sign bytes
    else with_rest bytes (single_sign byte)

abbrev pub word_at : List ℕ → Option (Word × List ℕ)
word_at bytes = with_rest (behind is_word_byte bytes) (word_of (front_of is_word_byte bytes))

abbrev pub number_at : Bool → List ℕ → Option (Word × List ℕ)
number_at behind_sign bytes = with_rest (behind is_ascii_digit bytes) (number_within behind_sign (number_from 0 (front_of is_ascii_digit bytes)))

abbrev pub first_token : Bool → List ℕ → Option (Word × List ℕ)
first_token behind_sign [] = None
first_token behind_sign (byte ∷ bytes) =
    if is_letter byte then word_at (byte ∷ bytes)
    else if is_ascii_digit byte then number_at behind_sign (byte ∷ bytes)
    else if byte == 39 then text_of (quoted bytes)
    else sign_at byte bytes
