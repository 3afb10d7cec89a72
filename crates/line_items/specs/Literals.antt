-- Literals of a ROW and words of actors, as the reader tells them.
use Rattle.std.specs.Prelude.{◌≡◌, ◌≢◌, ℕ, ◌==◌, false, List, [], ◌∷◌, Option, None, Some, Bool, true, length, if◌then◌else◌}
use Rattle.std.specs.Str.{str_eq_ignore_ascii_case}
use Rattle.statement_tokens.specs.Spellings.{IsNumberText}
use Rattle.statement_tokens.specs.declared.words.Word.{Word}
use Rattle.statement_tokens.specs.declared.words.Word.TheVariants as w
use Rattle.file_text.specs.declared.places.Keyword.TheVariants.{NullKeyword}
use Rattle.file_text.specs.Said.{spelling}
use Rattle.line_words.specs.declared.actors.ActorWord.{ActorWord}
use Rattle.line_words.specs.declared.actors.ActorWord.TheVariants as a

abbrev pub texted : Word → Option (List ℕ)
texted (w.Text text) = Some text
texted word = None

-- where nothing is left behind it
abbrev pub texted_before : Word → List ℕ → Option (List ℕ)
texted_before word rest = if length rest == 0 then texted word else None

-- no number, not NULL and no sign of a number
pub record NoPlainLiteral (text : List ℕ) : Type 0 where
  pub no_null : str_eq_ignore_ascii_case (spelling NullKeyword) text ≡ false
  pub no_sign : text ≢ 45 ∷ []
  pub no_digits : (number : ℕ) → IsNumberText number text → ⊥

abbrev pub is_local : ActorWord → Bool
is_local (a.Local replica session) = true
is_local actor = false
