-- Spaces at the end of a line.
use Rattle.std.proofs.Common.{◌≡◌, ◌≤◌, ◌==◌, ℕ, suc, Bool, true, false, List, [], ◌∷◌, ◌++◌, length, refl, sym, ap, ◌∙◌, arith}
use Rattle.std.proofs.lemmas.Bool.Decides.{nat_tests}
use Rattle.file_text.specs.Parts.{trimmed, before_spaces}

ends_space : (front : List ℕ) → trimmed (front ++ 32 ∷ []) ≡ trimmed front
ends_space [] = refl
ends_space (byte ∷ front) = ap (before_spaces byte) (ends_space front)

onto_byte : (byte last : ℕ) (front : List ℕ) → before_spaces byte (front ++ last ∷ []) ≡ byte ∷ (front ++ last ∷ [])
onto_byte byte last [] = refl
onto_byte byte last (next ∷ front) = refl

ends_byte : (last : ℕ) → (last == 32) ≡ false → (front : List ℕ) → trimmed (front ++ last ∷ []) ≡ front ++ last ∷ []
ends_byte last e [] = rw e refl
ends_byte last e (byte ∷ front) = ap (before_spaces byte) (ends_byte last e front) ∙ onto_byte byte last front

pub trimmed_space : (line front : List ℕ) (last : ℕ) → line ≡ front ++ last ∷ [] → last ≡ 32 → trimmed front ≡ trimmed line
trimmed_space line front last is e = sym (ap trimmed (is ∙ ap (λ (b : ℕ). front ++ b ∷ []) e) ∙ ends_space front)

pub trimmed_other : (line front : List ℕ) (last : ℕ) → line ≡ front ++ last ∷ [] → (last ≡ 32 → ⊥) → trimmed line ≡ line
trimmed_other line front last is other =
    let e : (last == 32) ≡ false = grind (arith, nat_tests, other) in
    ap trimmed is ∙ ends_byte last e front ∙ sym is

before_short : (byte : ℕ) (rest : List ℕ) → length (before_spaces byte rest) ≤ suc (length rest)
before_short byte [] = by_test (byte == 32) refl
  where
    by_test : (is : Bool) → (byte == 32) ≡ is → length (before_spaces byte []) ≤ 1
    by_test true e = let f : length (before_spaces byte []) ≡ 0 = rw e refl in omega (arith, f)
    by_test false e = let f : length (before_spaces byte []) ≡ 1 = rw e refl in omega (arith, f)
before_short byte (next ∷ rest) = omega arith

short : (line : List ℕ) → length (trimmed line) ≤ length line
short [] = omega arith
short (byte ∷ bytes) = let a = before_short byte (trimmed bytes) in let b = short bytes in omega (arith, a, b)

pub trimmed_short : (line rest : List ℕ) → rest ≡ trimmed line → length rest ≤ length line
trimmed_short line rest e = let a = short line in let b : length rest ≡ length (trimmed line) = ap length e in omega (arith, a, b)
