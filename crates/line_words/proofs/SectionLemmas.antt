-- What stands before the first sign.
use Rattle.std.proofs.Common.{◌≡◌, ◌-◌, ℕ, Bool, true, false, List, [], ◌∷◌, length, take, refl, ap, ◌∙◌}
use Rattle.statement_tokens.specs.FirstToken.{behind, front_of}
use Rattle.statement_tokens.proofs.CutLemmas.{front_taken}
use Rattle.file_text.specs.Parts.{is_sign}
use Rattle.file_text.specs.Rules.{before_sign}
use Rattle.line_words.specs.Sections.{is_no_sign}

front_is : (text : List ℕ) → front_of is_no_sign text ≡ before_sign text
front_is [] = refl
front_is (byte ∷ bytes) = by_test (front_is bytes) (is_sign byte) refl
  where
    by_test : front_of is_no_sign bytes ≡ before_sign bytes → (is : Bool) → is_sign byte ≡ is → front_of is_no_sign (byte ∷ bytes) ≡ before_sign (byte ∷ bytes)
    by_test more true e = rw e refl
    by_test more false e = rw e (ap (λ (xs : List ℕ). byte ∷ xs) more)

pub before_is : (text rest front : List ℕ) → rest ≡ behind is_no_sign text → front ≡ take (length text - length rest) text → front ≡ before_sign text
before_is text rest front is e = e ∙ ap (λ (xs : List ℕ). take (length text - length xs) text) is ∙ front_taken is_no_sign text ∙ front_is text
