-- The end of a line.
use Rattle.std.proofs.Common.{◌≡◌, ◌==◌, ℕ, Bool, true, false, List, [], ◌∷◌, ◌++◌, length, refl, sym, ap, ◌∙◌, arith}
use Rattle.std.proofs.lemmas.Bool.Decides.{nat_tests}
use Rattle.std.specs.Prelude.{if◌then◌else◌}
use Rattle.file_text.specs.File.{content, has_feed}
use Rattle.file_lines.specs.Ends.{without_return}

empty : (xs : List ℕ) → length xs ≡ 0 → xs ≡ []
empty [] e = refl
empty (x ∷ xs) e = absurd (omega (arith, e))

feed_behind : (front : List ℕ) (byte : ℕ) → has_feed (front ++ byte ∷ []) ≡ (byte == 10)
feed_behind [] byte = refl
feed_behind (a ∷ []) byte = refl
feed_behind (a ∷ (b ∷ front)) byte = feed_behind (b ∷ front) byte

pub no_feed : (line : List ℕ) → length line ≡ 0 → has_feed line ≡ false
no_feed line e = ap has_feed (empty line e)

pub feed_is : (line front : List ℕ) (byte : ℕ) → line ≡ front ++ byte ∷ [] → has_feed line ≡ (byte == 10)
feed_is line front byte is = ap has_feed is ∙ feed_behind front byte

return_behind : (front : List ℕ) (byte : ℕ) → without_return (front ++ byte ∷ []) ≡ (if byte == 13 then front else front ++ byte ∷ [])
return_behind [] byte = refl
return_behind (a ∷ []) byte = by_test (byte == 13) refl
  where
    by_test : (is : Bool) → (byte == 13) ≡ is → without_return (a ∷ (byte ∷ [])) ≡ (if byte == 13 then a ∷ [] else a ∷ (byte ∷ []))
    by_test true e = rw e refl
    by_test false e = rw e refl
return_behind (a ∷ (b ∷ front)) byte = by_test (byte == 13) refl (return_behind (b ∷ front) byte)
  where
    by_test : (is : Bool) → (byte == 13) ≡ is → without_return (b ∷ (front ++ byte ∷ [])) ≡ (if byte == 13 then b ∷ front else b ∷ (front ++ byte ∷ []))
        → a ∷ without_return (b ∷ (front ++ byte ∷ [])) ≡ (if byte == 13 then a ∷ (b ∷ front) else a ∷ (b ∷ (front ++ byte ∷ [])))
    by_test true e h = rw e (ap (λ (l : List ℕ). a ∷ l) (h ∙ rw e refl))
    by_test false e h = rw e (ap (λ (l : List ℕ). a ∷ l) (h ∙ rw e refl))

is_not : (byte other : ℕ) → (byte ≡ other → ⊥) → (byte == other) ≡ false
is_not byte other n = grind (arith, nat_tests, n)

pub nothing_returns : (text : List ℕ) → length text ≡ 0 → text ≡ without_return text
nothing_returns text e = empty text e ∙ sym (ap without_return (empty text e))

pub returns : (text front : List ℕ) (byte : ℕ) → text ≡ front ++ byte ∷ [] → byte ≡ 13 → front ≡ without_return text
returns text front byte is e = let t : (byte == 13) ≡ true = grind (arith, nat_tests, e) in sym (ap without_return is ∙ return_behind front byte ∙ rw t refl)

pub returns_not : (text front : List ℕ) (byte : ℕ) → text ≡ front ++ byte ∷ [] → (byte ≡ 13 → ⊥) → text ≡ without_return text
returns_not text front byte is n = let t = is_not byte 13 n in is ∙ sym (ap without_return is ∙ return_behind front byte ∙ rw t refl)

content_behind : (front : List ℕ) (byte : ℕ) → content (front ++ byte ∷ []) ≡ (if byte == 10 then without_return front else front ++ byte ∷ [])
content_behind [] byte = refl
content_behind (a ∷ []) byte = refl
content_behind (a ∷ (b ∷ [])) byte = by_test (byte == 10) refl
  where
    by_test : (is : Bool) → (byte == 10) ≡ is → content (a ∷ (b ∷ (byte ∷ []))) ≡ (if byte == 10 then without_return (a ∷ (b ∷ [])) else a ∷ (b ∷ (byte ∷ [])))
    by_test true e = rw e refl
    by_test false e = rw e refl
content_behind (a ∷ (b ∷ (c ∷ front))) byte = by_test (byte == 10) refl (content_behind (b ∷ (c ∷ front)) byte)
  where
    by_test : (is : Bool) → (byte == 10) ≡ is → content (b ∷ (c ∷ (front ++ byte ∷ []))) ≡ (if byte == 10 then without_return (b ∷ (c ∷ front)) else b ∷ (c ∷ (front ++ byte ∷ [])))
        → a ∷ content (b ∷ (c ∷ (front ++ byte ∷ []))) ≡ (if byte == 10 then without_return (a ∷ (b ∷ (c ∷ front))) else a ∷ (b ∷ (c ∷ (front ++ byte ∷ []))))
    by_test true e h = rw e (ap (λ (l : List ℕ). a ∷ l) (h ∙ rw e refl))
    by_test false e h = rw e (ap (λ (l : List ℕ). a ∷ l) (h ∙ rw e refl))

pub no_content : (line : List ℕ) → length line ≡ 0 → line ≡ content line
no_content line e = empty line e ∙ sym (ap content (empty line e))

pub content_feed : (line front : List ℕ) (byte : ℕ) → line ≡ front ++ byte ∷ [] → byte ≡ 10 → without_return front ≡ content line
content_feed line front byte is e = let t : (byte == 10) ≡ true = grind (arith, nat_tests, e) in sym (ap content is ∙ content_behind front byte ∙ rw t refl)

pub content_other : (line front : List ℕ) (byte : ℕ) → line ≡ front ++ byte ∷ [] → (byte ≡ 10 → ⊥) → line ≡ content line
content_other line front byte is n = let t = is_not byte 10 n in is ∙ sym (ap content is ∙ content_behind front byte ∙ rw t refl)
