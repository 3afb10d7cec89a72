-- The first line of a text.
use Rattle.std.proofs.Common.{◌≡◌, ℕ, ◌+◌, ◌<◌, ◌≤◌, List, [], ◌∷◌, ◌++◌, length, get_or, take, drop, refl, sym, ap, subst, ◌∙◌, append_assoc, arith, take-append-drop, take_at, length-append, length-take, length-drop}
use Rattle.std.proofs.lemmas.Bool.{ne_eqb}
use Rattle.std.proofs.lemmas.List.{take_more, drop_more, take_all, drop_all}
use Rattle.file_text.specs.File.{lines_of}
use Rattle.file_lines.specs.Ends.{IsFreeOf}

free-append : (stop : ℕ) (xs ys : List ℕ) → IsFreeOf stop xs → IsFreeOf stop ys → IsFreeOf stop (xs ++ ys)
free-append stop [] ys h k = k
free-append stop (x ∷ xs) ys h k = (h.0, free-append stop xs ys h.1 k)

pub free_more : (stop : ℕ) (xs : List ℕ) (i : ℕ) → i < length xs → IsFreeOf stop (take i xs) → (get_or xs i 0 ≡ stop → ⊥) → IsFreeOf stop (take (i + 1) xs)
free_more stop xs i lt h ne = rw (take_more xs i 0 lt) (free-append stop (take i xs) (get_or xs i 0 ∷ []) h (ne, tt))

pub free_all : (stop : ℕ) (xs : List ℕ) (i : ℕ) → length xs ≤ i → IsFreeOf stop (take i xs) → IsFreeOf stop xs
free_all stop xs i le h = subst (IsFreeOf stop) (take_all i xs le) h

pub feed_at : (stop : ℕ) (xs : List ℕ) (i : ℕ) → i < length xs → get_or xs i 0 ≡ stop → drop i xs ≡ stop ∷ drop (i + 1) xs
feed_at stop xs i lt e = drop_more xs i 0 lt ∙ ap (λ (x : ℕ). x ∷ drop (i + 1) xs) e

parts_at : (stop : ℕ) (xs : List ℕ) (i : ℕ) → drop i xs ≡ stop ∷ drop (i + 1) xs → xs ≡ take i xs ++ stop ∷ drop (i + 1) xs
parts_at stop xs i e = sym (take-append-drop i xs) ∙ ap (λ (ys : List ℕ). take i xs ++ ys) e

lines_of-line : (front rest : List ℕ) → IsFreeOf 10 front → lines_of (front ++ 10 ∷ rest) ≡ (front ++ 10 ∷ []) ∷ lines_of rest
unfolding lines_of
lines_of-line [] rest h = refl
lines_of-line (b ∷ bs) rest h = rw (ne_eqb b 10 h.0, lines_of-line bs rest h.1) refl

lines_of-last : (b : ℕ) (bs : List ℕ) → IsFreeOf 10 (b ∷ bs) → lines_of (b ∷ bs) ≡ (b ∷ bs) ∷ []
unfolding lines_of
lines_of-last b [] h = rw (ne_eqb b 10 h.0) refl
lines_of-last b (c ∷ cs) h = rw (ne_eqb b 10 h.0, lines_of-last c cs h.1) refl

lines_of_free : (bytes : List ℕ) → IsFreeOf 10 bytes → (bytes ≡ [] → ⊥) → lines_of bytes ≡ bytes ∷ []
lines_of_free [] h ne = absurd (ne refl)
lines_of_free (b ∷ bs) h ne = lines_of-last b bs h

lines_of-nil : lines_of [] ≡ []
unfolding lines_of
lines_of-nil = refl

first_at : (bytes : List ℕ) (at : ℕ) → at < length bytes → IsFreeOf 10 (take at bytes) → drop at bytes ≡ 10 ∷ drop (at + 1) bytes → lines_of bytes ≡ take (at + 1) bytes ∷ lines_of (drop (at + 1) bytes)
first_at bytes at lt h e =
    let front : List ℕ = take at bytes in
    let rest : List ℕ = drop (at + 1) bytes in
    let parts : bytes ≡ front ++ 10 ∷ rest = parts_at 10 bytes at e in
    let len : length (front ++ 10 ∷ []) ≡ at + 1 = omega (arith, length-append front (10 ∷ []), length-take at bytes) in
    let line : take (at + 1) bytes ≡ front ++ 10 ∷ [] = ap (take (at + 1)) (parts ∙ sym (append_assoc front (10 ∷ []) rest)) ∙ take_at (front ++ 10 ∷ []) rest (at + 1) len in
    ap lines_of parts ∙ lines_of-line front rest h ∙ ap (λ (x : List ℕ). x ∷ lines_of rest) (sym line)

pub first_parts : (bytes line rest : List ℕ) (at : ℕ) → line ≡ take (at + 1) bytes → rest ≡ drop (at + 1) bytes → IsFreeOf 10 (take at bytes) × (at < length bytes) × (drop at bytes ≡ 10 ∷ drop (at + 1) bytes) → (lines_of bytes ≡ line ∷ lines_of rest) × (length rest < length bytes)
first_parts bytes line rest at l r h = (
  first_at bytes at h.1 h.0 h.2 ∙ ap (λ (x : List ℕ). x ∷ lines_of (drop (at + 1) bytes)) (sym l) ∙ ap (λ (x : List ℕ). line ∷ lines_of x) (sym r),
  let at_most = h.1 in omega (arith, ap length r, length-drop (at + 1) bytes),
)

pub first_whole : (bytes line rest : List ℕ) → line ≡ take (length bytes) bytes → rest ≡ drop (length bytes) bytes → IsFreeOf 10 bytes → (length bytes ≡ 0 → ⊥) → (lines_of bytes ≡ line ∷ lines_of rest) × (length rest < length bytes)
first_whole bytes line rest l r h some =
    let ne : bytes ≡ [] → ⊥ = λ e. some (ap length e) in
    let line-is : line ≡ bytes = l ∙ take_all (length bytes) bytes (omega arith) in
    let rest-is : rest ≡ [] = r ∙ drop_all (length bytes) bytes (omega arith) in (
      lines_of_free bytes h ne ∙ ap (λ (x : List ℕ). x ∷ []) (sym line-is) ∙ ap (λ (x : List (List ℕ)). line ∷ x) (sym lines_of-nil ∙ ap lines_of (sym rest-is)),
      omega (arith, ap length rest-is),
    )
