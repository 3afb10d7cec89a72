-- The texts among the tokens of a text have no control character.
use Rattle.std.proofs.Common.{◌≡◌, ℕ, true, List, [], ◌∷◌, ◌++◌, refl}
use Rattle.std.specs.Prelude.{⊤}
use Rattle.std.specs.List.{AllByRecursion}
use Rattle.statement_tokens.specs.declared.words.Token.{Token}
use Rattle.statement_tokens.specs.declared.words.Word.{Word}
use Rattle.statement_tokens.specs.declared.words.Word.TheVariants as w
use Rattle.statement_tokens.specs.declared.text_ends.TextEnd.{TextEnd}
use Rattle.statement_tokens.specs.Spellings.{is_text_byte, IsTokenText}
use Rattle.statement_tokens.specs.Tokens.{AreTokens}
use Rattle.statement_grammar.proofs.BasicLemmas.{both_true}
use Rattle.statement_text_laws.specs.SpelledWords.{are_text_bytes}

abbrev pub Prints : Word → Type 0
Prints (w.Text text) = are_text_bytes text ≡ true
Prints word = ⊤

abbrev pub AllPrint : List Token → Type 0
AllPrint [] = ⊤
AllPrint (t ∷ ts) = Prints t.word × AllPrint ts

pub front_prints : (ts us : List Token) → AllPrint (ts ++ us) → AllPrint ts
front_prints [] us h = tt
front_prints (t ∷ ts) us h = (h.0, front_prints ts us h.1)

pub back_prints : (ts us : List Token) → AllPrint (ts ++ us) → AllPrint us
back_prints [] us h = h
back_prints (t ∷ ts) us h = back_prints ts us h.1

bytes_are : (bytes : List ℕ) → AllByRecursion (λ (byte : ℕ). is_text_byte byte ≡ true) bytes → are_text_bytes bytes ≡ true
bytes_are [] h = refl
bytes_are (byte ∷ bytes) h = both_true (is_text_byte byte) (are_text_bytes bytes) h.0 (bytes_are bytes h.1)

word_prints : (word : Word) (text : List ℕ) → IsTokenText word text → Prints word
word_prints (w.Text content) text h = bytes_are content h.bytes
word_prints _ text h = tt

pub tokens_print : (before : List Word) (place : ℕ) (bytes : List ℕ) (ts : List Token) (end : TextEnd) → AreTokens before place bytes ts end → AllPrint ts
tokens_print before place bytes [] end h = tt
tokens_print before place bytes (t ∷ ts) end h = (word_prints t.word h.1 h.6.spelled, tokens_print (t.word ∷ before) _ h.2 ts end h.7)
