-- How words are spelled.
use Rattle.std.specs.Prelude.{◌≡◌, ◌≢◌, ◌⊎◌, ◌≤◌, ◌+◌, ◌-◌, ◌*◌, ◌==◌, ◌||◌, not, ⊤, ℕ, Bool, true, false, List, [], ◌∷◌, ◌++◌, Option, None, Some, length, codes, if◌then◌else◌}
use Rattle.std.specs.List.{AllByRecursion}
use Rattle.std.specs.Char.{is_ascii_alphabetic, is_ascii_control, is_ascii_digit}
use Rattle.std.specs.Str.{str_eq_ignore_ascii_case}
use Rattle.ptc_statement.specs.declared.expressions.Op.TheVariants as op
use Rattle.statement_tokens.specs.declared.words.Math.TheVariants.{Plus, Minus, Times}
use Rattle.statement_tokens.specs.declared.words.Keyword.{Keyword}
use Rattle.statement_tokens.specs.declared.words.Keyword.TheVariants as k
use Rattle.statement_tokens.specs.declared.words.Word.{Word}
use Rattle.statement_tokens.specs.declared.words.Word.TheVariants as w

abbrev pub is_letter : ℕ → Bool
is_letter byte = is_ascii_alphabetic byte || byte == 95

abbrev pub is_word_byte : ℕ → Bool
is_word_byte byte = is_letter byte || is_ascii_digit byte

abbrev pub first_is_letter : List ℕ → Bool
first_is_letter [] = false
first_is_letter (byte ∷ bytes) = is_letter byte

-- letters, digits and `_`, no digit first
pub record IsWordForm (text : List ℕ) : Type 0 where
  pub begins : first_is_letter text ≡ true
  pub bytes : AllByRecursion (λ (byte : ℕ). is_word_byte byte ≡ true) text

abbrev pub keyword_text : Keyword → List ℕ
keyword_text k.Insert = codes "INSERT"
keyword_text k.Into = codes "INTO"
keyword_text k.Values = codes "VALUES"
keyword_text k.Replace = codes "REPLACE"
keyword_text k.Delete = codes "DELETE"
keyword_text k.From = codes "FROM"
keyword_text k.Where = codes "WHERE"
keyword_text k.Update = codes "UPDATE"
keyword_text k.Set = codes "SET"
keyword_text k.Select = codes "SELECT"
keyword_text k.For = codes "FOR"
keyword_text k.Share = codes "SHARE"
keyword_text k.Lock = codes "LOCK"
keyword_text k.In = codes "IN"
keyword_text k.Mode = codes "MODE"
keyword_text k.Checksum = codes "CHECKSUM"
keyword_text k.Chunk = codes "CHUNK"
keyword_text k.To = codes "TO"
keyword_text k.Using = codes "USING"
keyword_text k.SetMaster = codes "SETMASTER"
keyword_text k.Cnt = codes "CNT"
keyword_text k.Crc = codes "CRC"
keyword_text k.ClearChecks = codes "CLEARCHECKS"
keyword_text k.Low = codes "LOW"
keyword_text k.High = codes "HIGH"
keyword_text k.Before = codes "BEFORE"
keyword_text k.After = codes "AFTER"
keyword_text k.Md5 = codes "MD5"
keyword_text k.Sha1 = codes "SHA1"
keyword_text k.Key = codes "KEY"
keyword_text k.Int = codes "INT"
keyword_text k.BigInt = codes "BIGINT"
keyword_text k.VarChar = codes "VARCHAR"

-- the letters of a keyword; other words have none
abbrev pub spelling : Word → Option (List ℕ)
spelling w.Null = Some (codes "NULL")
spelling w.And = Some (codes "AND")
spelling w.Or = Some (codes "OR")
spelling w.Not = Some (codes "NOT")
spelling w.Is = Some (codes "IS")
spelling w.Between = Some (codes "BETWEEN")
spelling (w.Keyword keyword) = Some (keyword_text keyword)
spelling _ = None

-- a keyword in any mix of capital and small letters
abbrev pub IsSpelled : Option (List ℕ) → List ℕ → Type 0
IsSpelled None text = ⊥
IsSpelled (Some letters) text = str_eq_ignore_ascii_case letters text ≡ true

-- a name is a word of at most 32 bytes that is no keyword
pub record IsNameText (name text : List ℕ) : Type 0 where
  pub is : text ≡ name
  pub form : IsWordForm text
  pub short : length text ≤ 32
  pub other : (word : Word) → IsSpelled (spelling word) text → ⊥

abbrev pub number_from : ℕ → List ℕ → ℕ
number_from n [] = n
number_from n (digit ∷ digits) = number_from (n * 10 + (digit - 48)) digits

pub record IsNumberText (n : ℕ) (text : List ℕ) : Type 0 where
  pub some : text ≢ []
  pub digits : AllByRecursion (λ (byte : ℕ). is_ascii_digit byte ≡ true) text
  pub value : n ≡ number_from 0 text

abbrev pub doubled : List ℕ → List ℕ
doubled [] = []
doubled (byte ∷ bytes) = if byte == 39 then 39 ∷ (39 ∷ doubled bytes) else byte ∷ doubled bytes

-- no control character of ASCII
abbrev pub is_text_byte : ℕ → Bool
is_text_byte byte = not (is_ascii_control byte)

pub record IsQuoted (content text : List ℕ) : Type 0 where
  pub is : text ≡ 39 ∷ (doubled content ++ 39 ∷ [])
  pub bytes : AllByRecursion (λ (byte : ℕ). is_text_byte byte ≡ true) content

abbrev pub IsTokenText : Word → List ℕ → Type 0
IsTokenText (w.Name name) text = IsNameText name text
IsTokenText (w.Number n) text = IsNumberText n text
IsTokenText (w.Text content) text = IsQuoted content text
IsTokenText (w.Math Plus) text = text ≡ codes "+"
IsTokenText (w.Math Minus) text = text ≡ codes "-"
IsTokenText (w.Math Times) text = text ≡ codes "*"
IsTokenText (w.Compare op.Eq) text = text ≡ codes "="
IsTokenText (w.Compare op.Ne) text = (text ≡ codes "<>") ⊎ (text ≡ codes "!=")
IsTokenText (w.Compare op.Lt) text = text ≡ codes "<"
IsTokenText (w.Compare op.Le) text = text ≡ codes "<="
IsTokenText (w.Compare op.Gt) text = text ≡ codes ">"
IsTokenText (w.Compare op.Ge) text = text ≡ codes ">="
IsTokenText w.Open text = text ≡ codes "("
IsTokenText w.Close text = text ≡ codes ")"
IsTokenText w.Comma text = text ≡ codes ","
IsTokenText w.Semicolon text = text ≡ codes ";"
IsTokenText word text = IsSpelled (spelling word) text

-- whether the token would be longer with this byte behind it
abbrev pub goes_on : Word → ℕ → Bool
goes_on (w.Number n) byte = is_ascii_digit byte
goes_on (w.Text t) byte = byte == 39
goes_on (w.Compare op.Lt) byte = byte == 61 || byte == 62
goes_on (w.Compare op.Gt) byte = byte == 61
goes_on (w.Math o) byte = false
goes_on (w.Compare o) byte = false
goes_on w.Open byte = false
goes_on w.Close byte = false
goes_on w.Comma byte = false
goes_on w.Semicolon byte = false
goes_on word byte = is_word_byte byte

abbrev pub StopsAtEnd : Word → List ℕ → Type 0
StopsAtEnd word [] = ⊤
StopsAtEnd word (byte ∷ bytes) = goes_on word byte ≡ false
