-- What is behind a text in quotes.
use Rattle.std.proofs.Common.{◌≡◌, ◌≤◌, ◌==◌, ℕ, suc, Bool, true, false, List, [], ◌∷◌, Option, None, Some, length, refl, sym, ap, subst, ◌∙◌, arith}
use Rattle.std.proofs.lemmas.Bool.Decides.{nat_tests}
use Rattle.statement_tokens.specs.Spellings.{is_text_byte}
use Rattle.statement_tokens.specs.FirstToken.{onto, quoted}
use Rattle.file_text.specs.Parts.{behind_quote}

pub rest_onto : (byte : ℕ) (found : Option (List ℕ × List ℕ)) → behind_quote (onto byte found) ≡ behind_quote found
rest_onto byte None = refl
rest_onto byte (Some parts) = refl

pub text_byte : (byte : ℕ) (bytes : List ℕ) → (byte == 39) ≡ false → is_text_byte byte ≡ true → behind_quote (quoted (byte ∷ bytes)) ≡ behind_quote (quoted bytes)
text_byte byte [] other is = rw other refl
text_byte byte (next ∷ bytes) other is = rw (other, is) (rest_onto byte (quoted (next ∷ bytes)))

pub no_text_byte : (byte : ℕ) (bytes : List ℕ) → (byte == 39) ≡ false → is_text_byte byte ≡ false → behind_quote (quoted (byte ∷ bytes)) ≡ []
no_text_byte byte [] other is = rw other refl
no_text_byte byte (next ∷ bytes) other is = rw (other, is) refl

step : (m n : ℕ) → m ≤ n → m ≤ suc n
step m n l = omega (arith, l)

pub quote_shorter : (bytes : List ℕ) → length (behind_quote (quoted bytes)) ≤ length bytes
quote_shorter [] = omega arith
quote_shorter (byte ∷ []) = by_test (byte == 39) refl
  where
    by_test : (is : Bool) → (byte == 39) ≡ is → length (behind_quote (quoted (byte ∷ []))) ≤ 1
    by_test true e = rw e (omega arith)
    by_test false e = rw e (omega arith)
quote_shorter (byte ∷ next ∷ bytes) = by_test (quote_shorter bytes) (quote_shorter (next ∷ bytes)) (byte == 39) refl
  where
    shorter : (xs ys : List ℕ) → xs ≡ ys → length ys ≤ length (next ∷ bytes) → length xs ≤ length (byte ∷ next ∷ bytes)
    shorter xs ys e l = step (length xs) (length (next ∷ bytes)) (subst (λ (zs : List ℕ). length zs ≤ length (next ∷ bytes)) (sym e) l)

    by_next : length (behind_quote (quoted bytes)) ≤ length bytes → byte ≡ 39 → (is : Bool) → (next == 39) ≡ is → length (behind_quote (quoted (39 ∷ next ∷ bytes))) ≤ suc (suc (length bytes))
    by_next far q true e = rw e (let o = rest_onto 39 (quoted bytes) in step _ (suc (length bytes)) (step _ (length bytes) (subst (λ (zs : List ℕ). length zs ≤ length bytes) (sym o) far)))
    by_next far q false e = rw e (omega arith)

    by_text : length (behind_quote (quoted (next ∷ bytes))) ≤ length (next ∷ bytes) → (byte == 39) ≡ false → (is : Bool) → is_text_byte byte ≡ is → length (behind_quote (quoted (byte ∷ next ∷ bytes))) ≤ length (byte ∷ next ∷ bytes)
    by_text near other true e = shorter _ _ (text_byte byte (next ∷ bytes) other e) near
    by_text near other false e = shorter _ [] (no_text_byte byte (next ∷ bytes) other e) (omega arith)

    by_test : length (behind_quote (quoted bytes)) ≤ length bytes → length (behind_quote (quoted (next ∷ bytes))) ≤ length (next ∷ bytes) → (is : Bool) → (byte == 39) ≡ is → length (behind_quote (quoted (byte ∷ next ∷ bytes))) ≤ length (byte ∷ next ∷ bytes)
    by_test far near true e = let q : byte ≡ 39 = grind (arith, nat_tests, e) in subst (λ (b : ℕ). length (behind_quote (quoted (b ∷ next ∷ bytes))) ≤ length (byte ∷ next ∷ bytes)) (sym q) (by_next far q (next == 39) refl)
    by_test far near false e = by_text near e (is_text_byte byte) refl
