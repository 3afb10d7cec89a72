-- A part stands within its line.
use Rattle.std.proofs.Common.{◌≡◌, ◌≤◌, ◌+◌, ◌-◌, ◌==◌, ℕ, zero, suc, Bool, true, false, List, [], ◌∷◌, length, take, refl, sym, ap, subst, ◌∙◌, arith}
use Rattle.std.proofs.lemmas.Bool.Decides.{nat_tests}
use Rattle.std.specs.Prelude.{⊤, not, ◌&&◌}
use Rattle.file_text.specs.Parts.{Part, is_sign, no_sign, begins_alone, touches, joined, parts_of, row_parts_from, tokens_within, behind_token, front_to}
use Rattle.line_parts.specs.declared.cuttings.Cutting.{Cutting}
use Rattle.line_parts.specs.declared.cuttings.Cutting.TheVariants.{Words, SignedWords, RowFront, RowTokens}
use Rattle.line_parts.specs.Cuts.{parts_from}

abbrev Within : ℕ → List Part → Type 0
Within end [] = ⊤
Within end (part ∷ parts) = part.place + length part.text ≤ end

later : (place size : ℕ) (parts : List Part) → Within (suc place + size) parts → Within (place + suc size) parts
later place size [] w = tt
later place size (part ∷ parts) w = omega (arith, w)

touching_place : (alone : ℕ → Bool) (place byte : ℕ) (part : Part) → touches alone place byte part ≡ true → part.place ≡ suc place
touching_place alone place byte part e = by_place (part.place == suc place) refl
  where
    no : (b : Bool) → b ≡ true → b ≡ false → ⊥
    no b f g = cc

    by_place : (is : Bool) → (part.place == suc place) ≡ is → part.place ≡ suc place
    by_place true f = grind (arith, nat_tests, f)
    by_place false f = absurd (no (touches alone place byte part) e (rw f refl))

joined_within : (alone : ℕ → Bool) (place byte size : ℕ) (parts : List Part) → Within (suc place + size) parts → Within (place + suc size) (joined alone place byte parts)
joined_within alone place byte size [] w = let f : place + 1 ≤ place + suc size = omega arith in f
joined_within alone place byte size (part ∷ parts) w = by_test (touches alone place byte part) refl
  where
    by_test : (is : Bool) → touches alone place byte part ≡ is → Within (place + suc size) (joined alone place byte (part ∷ parts))
    by_test true e =
        let p = touching_place alone place byte part e in
        let f : joined alone place byte (part ∷ parts) ≡ record { place = place; text = byte ∷ part.text } ∷ parts = rw e refl in
        let g : place + suc (length part.text) ≤ place + suc size = omega (arith, p, w) in
        subst (Within (place + suc size)) (sym f) g
    by_test false e =
        let f : joined alone place byte (part ∷ parts) ≡ record { place = place; text = byte ∷ [] } ∷ (part ∷ parts) = rw e refl in
        let g : place + 1 ≤ place + suc size = omega arith in
        subst (Within (place + suc size)) (sym f) g

words_within : (alone : ℕ → Bool) (place : ℕ) (bytes : List ℕ) → Within (place + length bytes) (parts_of alone place bytes)
words_within alone place [] = tt
words_within alone place (byte ∷ bytes) = by_test (words_within alone (suc place) bytes) (byte == 32) refl
  where
    by_test : Within (suc place + length bytes) (parts_of alone (suc place) bytes) → (is : Bool) → (byte == 32) ≡ is → Within (place + suc (length bytes)) (parts_of alone place (byte ∷ bytes))
    by_test w true e =
        let f : parts_of alone place (byte ∷ bytes) ≡ parts_of alone (suc place) bytes = rw e refl in
        subst (Within (place + suc (length bytes))) (sym f) (later place (length bytes) (parts_of alone (suc place) bytes) w)
    by_test w false e =
        let f : parts_of alone place (byte ∷ bytes) ≡ joined alone place byte (parts_of alone (suc place) bytes) = rw e refl in
        subst (Within (place + suc (length bytes))) (sym f) (joined_within alone place byte (length bytes) (parts_of alone (suc place) bytes) w)

take_short : (n : ℕ) (bytes : List ℕ) → length (take n bytes) ≤ length bytes
take_short zero bytes = omega arith
take_short (suc n) [] = omega arith
take_short (suc n) (byte ∷ bytes) = let l = take_short n bytes in omega (arith, l)

tokens_are_within : (steps place : ℕ) (bytes : List ℕ) → Within (place + length bytes) (tokens_within steps place bytes)
tokens_are_within zero place bytes = tt
tokens_are_within (suc steps) place [] = tt
tokens_are_within (suc steps) place (byte ∷ bytes) = by_test (tokens_are_within steps (suc place) bytes) (byte == 32) refl
  where
    rest : List Part
    rest = tokens_within steps (place + (suc (length bytes) - length (behind_token byte bytes))) (behind_token byte bytes)

    by_test : Within (suc place + length bytes) (tokens_within steps (suc place) bytes) → (is : Bool) → (byte == 32) ≡ is → Within (place + suc (length bytes)) (tokens_within (suc steps) place (byte ∷ bytes))
    by_test w true e =
        let f : tokens_within (suc steps) place (byte ∷ bytes) ≡ tokens_within steps (suc place) bytes = rw e refl in
        subst (Within (place + suc (length bytes))) (sym f) (later place (length bytes) (tokens_within steps (suc place) bytes) w)
    by_test w false e =
        let f : tokens_within (suc steps) place (byte ∷ bytes) ≡ record { place = place; text = front_to (behind_token byte bytes) (byte ∷ bytes) } ∷ rest = rw e refl in
        let t = take_short (length (byte ∷ bytes) - length (behind_token byte bytes)) (byte ∷ bytes) in
        let g : place + length (front_to (behind_token byte bytes) (byte ∷ bytes)) ≤ place + suc (length bytes) = omega (arith, t) in
        subst (Within (place + suc (length bytes))) (sym f) g

row_within : (place : ℕ) (bytes : List ℕ) → Within (place + length bytes) (row_parts_from place bytes)
row_within place [] = tt
row_within place (byte ∷ bytes) = by_space (row_within (suc place) bytes) (byte == 32) refl
  where
    by_sign : Within (suc place + length bytes) (row_parts_from (suc place) bytes) → (byte == 32) ≡ false → (is : Bool) → (byte == 40) ≡ is → Within (place + suc (length bytes)) (row_parts_from place (byte ∷ bytes))
    by_sign w e true s =
        let f : row_parts_from place (byte ∷ bytes) ≡ record { place = place; text = byte ∷ [] } ∷ tokens_within (length bytes) (suc place) bytes = rw (e, s) refl in
        let g : place + 1 ≤ place + suc (length bytes) = omega arith in
        subst (Within (place + suc (length bytes))) (sym f) g
    by_sign w e false s =
        let f : row_parts_from place (byte ∷ bytes) ≡ joined is_sign place byte (row_parts_from (suc place) bytes) = rw (e, s) refl in
        subst (Within (place + suc (length bytes))) (sym f) (joined_within is_sign place byte (length bytes) (row_parts_from (suc place) bytes) w)

    by_space : Within (suc place + length bytes) (row_parts_from (suc place) bytes) → (is : Bool) → (byte == 32) ≡ is → Within (place + suc (length bytes)) (row_parts_from place (byte ∷ bytes))
    by_space w true e =
        let f : row_parts_from place (byte ∷ bytes) ≡ row_parts_from (suc place) bytes = rw e refl in
        subst (Within (place + suc (length bytes))) (sym f) (later place (length bytes) (row_parts_from (suc place) bytes) w)
    by_space w false e = by_sign w e (byte == 40) refl

within : (cutting : Cutting) (place : ℕ) (bytes : List ℕ) → Within (place + length bytes) (parts_from cutting place bytes)
within Words place bytes = words_within no_sign place bytes
within SignedWords place bytes = words_within is_sign place bytes
within RowFront place bytes = row_within place bytes
within RowTokens place bytes = tokens_are_within (length bytes) place bytes

-- the first part ends where the bytes do, or before
pub first_within : (cutting : Cutting) (place at : ℕ) (bytes text : List ℕ) (more : List Part) → parts_from cutting place bytes ≡ record { place = at; text = text } ∷ more → at + length text ≤ place + length bytes
first_within cutting place at bytes text more e = subst (Within (place + length bytes)) e (within cutting place bytes)
