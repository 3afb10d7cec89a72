-- Words, one behind another.
use Rattle.std.proofs.Common.{◌≡◌, ℕ, ◌+◌, Bool, true, false, List, [], ◌∷◌, ◌++◌, refl, sym, ◌∙◌, ap, subst, length, arith, append_assoc, append-nil}
use Rattle.std.specs.Prelude.{◌==◌, ◌||◌}
use Rattle.std.specs.Char.{is_ascii_digit}
use Rattle.ptc_statement.specs.declared.expressions.Op.TheVariants as op
use Rattle.statement_tokens.specs.declared.words.Token.{Token}
use Rattle.statement_tokens.specs.declared.words.Word.{Word}
use Rattle.statement_tokens.specs.declared.words.Word.TheVariants as w
use Rattle.statement_tokens.specs.declared.text_ends.TextEnd.TheVariants.{Whole}
use Rattle.statement_tokens.specs.Spellings.{StopsAtEnd, goes_on, is_word_byte}
use Rattle.statement_tokens.specs.Tokens.{TokenAt, InBits, AreTokens, is_behind_sign}
use Rattle.statement_text_laws.specs.SpelledWords.{Spelled, words_of, WordsAreRead, ends_token}
use Rattle.statement_grammar.proofs.BasicLemmas.{equal}

-- ---- tokens

wider : (behind_sign : Bool) (word : Word) → InBits false word → InBits behind_sign word
wider true (w.Number n) h = omega arith
wider false (w.Number n) h = h
wider b (w.Name n) h = tt
wider b (w.Text n) h = tt
wider b w.Null h = tt
wider b (w.Math n) h = tt
wider b (w.Compare n) h = tt
wider b w.And h = tt
wider b w.Or h = tt
wider b w.Not h = tt
wider b w.Is h = tt
wider b w.Between h = tt
wider b w.Open h = tt
wider b w.Close h = tt
wider b w.Comma h = tt
wider b w.Semicolon h = tt
wider b (w.Keyword n) h = tt

record Read (before : List Word) (place : ℕ) (words : List Word) (bytes : List ℕ) : Type 0 where
  tokens : List Token
  past : ℕ
  are : AreTokens before place bytes tokens (Whole past)
  words_are : words_of tokens ≡ words

read : (before : List Word) (place : ℕ) (words : List Word) (bytes : List ℕ) → Spelled words bytes [] → Read before place words bytes
read before place [] bytes h = record { tokens = []; past = place; are = record { blanks = []; rest = []; are = h; spaces = tt; ends = (refl, refl) }; words_are = refl }
read before place (word ∷ words) bytes h =
    let at = place + length h.0 in
    let i = read (word ∷ before) (place + length h.0 + length h.1) words h.2 h.6 in record {
      tokens = record { word = word; place = place + length h.0 } ∷ i.tokens;
      past = i.past;
      are = (h.0, h.1, h.2, h.3, h.4, refl, record { spelled = h.5.spelled; longest = subst (StopsAtEnd word) (append-nil h.2) h.5.longest; bits = wider (is_behind_sign before) word h.5.bits }, i.are);
      words_are = ap (λ (ws : List Word). word ∷ ws) i.words_are;
    }

pub words_are_read : WordsAreRead
words_are_read words bytes h = let i = read [] 1 words bytes h in (i.tokens, i.past, i.are, i.words_are)

-- ---- one behind another

pub joined : (words more : List Word) (a b rest : List ℕ) → Spelled words a (b ++ rest) → Spelled more b rest → Spelled (words ++ more) (a ++ b) rest
joined [] more a b rest h i = subst (λ (l : List ℕ). Spelled more (l ++ b) rest) (sym h) i
joined (word ∷ words) more a b rest h i = (
  h.0,
  h.1,
  h.2 ++ b,
  ap (λ (l : List ℕ). l ++ b) h.3 ∙ append_assoc h.0 (h.1 ++ h.2) b ∙ ap (λ (l : List ℕ). h.0 ++ l) (append_assoc h.1 h.2 b),
  h.4,
  subst (TokenAt false word h.1) (sym (append_assoc h.2 b rest)) h.5,
  joined words more h.2 b rest h.6 i,
)

pub spaced : (words : List Word) (bytes rest : List ℕ) → (words ≡ [] → ⊥) → Spelled words bytes rest → Spelled words (32 ∷ bytes) rest
spaced [] bytes rest some h = absurd (some refl)
spaced (word ∷ words) bytes rest some h = (32 ∷ h.0, h.1, h.2, ap (λ (l : List ℕ). 32 ∷ l) h.3, (refl, h.4), h.5, h.6)

pub one : (word : Word) (text rest : List ℕ) → TokenAt false word text rest → Spelled (word ∷ []) text rest
one word text rest h = ([], text, [], sym (append-nil text), tt, h, refl)

-- a word before others
pub before_others : (word : Word) (words : List Word) (text bytes rest : List ℕ) → TokenAt false word text (bytes ++ rest) → Spelled words bytes rest → Spelled (word ∷ words) (text ++ bytes) rest
before_others word words text bytes rest h i = ([], text, bytes, refl, tt, h, i)

-- ---- what ends a token

-- no token is longer with this byte behind it
record EndsAll (byte : ℕ) : Type 0 where
  digit : is_ascii_digit byte ≡ false
  word : is_word_byte byte ≡ false
  quote : (byte == 39) ≡ false
  equals : (byte == 61) ≡ false
  greater : (byte == 62) ≡ false

ends_all : (byte : ℕ) (word : Word) → EndsAll byte → goes_on word byte ≡ false
ends_all byte (w.Number n) e = e.digit
ends_all byte (w.Text n) e = e.quote
ends_all byte (w.Compare op.Lt) e = rw (e.equals, e.greater) refl
ends_all byte (w.Compare op.Gt) e = e.equals
ends_all byte (w.Compare op.Eq) e = refl
ends_all byte (w.Compare op.Ne) e = refl
ends_all byte (w.Compare op.Le) e = refl
ends_all byte (w.Compare op.Ge) e = refl
ends_all byte (w.Math o) e = refl
ends_all byte w.Open e = refl
ends_all byte w.Close e = refl
ends_all byte w.Comma e = refl
ends_all byte w.Semicolon e = refl
ends_all byte _ e = e.word

pub stops : (word : Word) (rest : List ℕ) → ends_token rest ≡ true → StopsAtEnd word rest
stops word [] h = tt
stops word (byte ∷ bytes) h = by_space (byte == 32) refl h
  where
    by_comma : (b : Bool) → (byte == 44) ≡ b → b ≡ true → goes_on word byte ≡ false
    by_comma true t e = ap (goes_on word) (equal byte 44 t) ∙ ends_all 44 word (record { digit = refl; word = refl; quote = refl; equals = refl; greater = refl })
    by_comma false t e = cc

    by_close : (b : Bool) → (byte == 41) ≡ b → (b || byte == 44) ≡ true → goes_on word byte ≡ false
    by_close true t e = ap (goes_on word) (equal byte 41 t) ∙ ends_all 41 word (record { digit = refl; word = refl; quote = refl; equals = refl; greater = refl })
    by_close false t e = by_comma (byte == 44) refl e

    by_space : (b : Bool) → (byte == 32) ≡ b → (b || (byte == 41 || byte == 44)) ≡ true → goes_on word byte ≡ false
    by_space true t e = ap (goes_on word) (equal byte 32 t) ∙ ends_all 32 word (record { digit = refl; word = refl; quote = refl; equals = refl; greater = refl })
    by_space false t e = by_close (byte == 41) refl e
