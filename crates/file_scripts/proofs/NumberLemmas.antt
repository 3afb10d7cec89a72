-- Numbers that are kept in 128 bits, among so many from 1.
use Rattle.std.proofs.Common.{◌≡◌, ◌⊎◌, ◌≤◌, ◌<◌, ◌^◌, ◌-◌, ℕ, Bool, true, false, refl, ap, ◌∙◌, arith, inl, inr}
use Rattle.std.proofs.lemmas.Bool.Decides.{nat_tests}
use Rattle.std.proofs.Math.Nat.{min-eq_left, min-eq_right}
use Rattle.std.specs.Prelude.{◌&&◌, leb}
use Rattle.line_words.specs.Actors.{kept}
use Rattle.file_laws.proofs.TestLemmas.{both}
use Rattle.file_scripts.specs.Declarations.{is_within}

pub kept_choice : (n : ℕ) → ((n < 2 ^ 128) × (kept n ≡ n)) ⊎ ((2 ^ 64 < n) × (2 ^ 64 < kept n))
kept_choice n = by_test (leb n (2 ^ 128 - 1)) refl
  where
    by_test : (is : Bool) → leb n (2 ^ 128 - 1) ≡ is → ((n < 2 ^ 128) × (kept n ≡ n)) ⊎ ((2 ^ 64 < n) × (2 ^ 64 < kept n))
    by_test true e = let l : n ≤ 2 ^ 128 - 1 = grind (arith, nat_tests, e) in inl (omega (arith, l), min-eq_left l)
    by_test false e =
        let l : 2 ^ 128 - 1 < n = grind (arith, nat_tests, e) in
        let m : kept n ≡ 2 ^ 128 - 1 = min-eq_right (omega (arith, l)) in
        inr (omega (arith, l), omega (arith, m))

-- a number within 64 bits is kept as it is
pub kept_small : (n : ℕ) → n ≤ 2 ^ 64 → kept n ≡ n
kept_small n s = by_choice (kept_choice n)
  where
    by_choice : ((n < 2 ^ 128) × (kept n ≡ n)) ⊎ ((2 ^ 64 < n) × (2 ^ 64 < kept n)) → kept n ≡ n
    by_choice (inl h) = h.1
    by_choice (inr h) = let l = h.0 in absurd (omega (arith, s, l))

-- and no other number is kept as one within 64 bits
pub kept_back : (n : ℕ) → kept n ≤ 2 ^ 64 → kept n ≡ n
kept_back n s = by_choice (kept_choice n)
  where
    by_choice : ((n < 2 ^ 128) × (kept n ≡ n)) ⊎ ((2 ^ 64 < n) × (2 ^ 64 < kept n)) → kept n ≡ n
    by_choice (inl h) = h.1
    by_choice (inr h) = let l = h.1 in absurd (omega (arith, s, l))

pub within_yes : (n count : ℕ) → is_within n count ≡ true → (1 ≤ n) × (n ≤ count)
within_yes n count e =
    let parts = both (leb 1 n) (leb n count) e in
    let low = parts.0 in let high = parts.1 in
    (grind (arith, nat_tests, low), grind (arith, nat_tests, high))

pub within_no : (n count : ℕ) → is_within n count ≡ false → 1 ≤ n → n ≤ count → ⊥
within_no n count e l h =
    let low : leb 1 n ≡ true = grind (arith, nat_tests, l) in
    let high : leb n count ≡ true = grind (arith, nat_tests, h) in
    let both : is_within n count ≡ true = ap (λ (b : Bool). b && leb n count) low ∙ high in
    absurd cc

pub kept_within_yes : (n count : ℕ) → count ≤ 2 ^ 64 → is_within (kept n) count ≡ true → (1 ≤ n) × (n ≤ count)
kept_within_yes n count s e =
    let w = within_yes (kept n) count e in
    let low = w.0 in let high = w.1 in
    let same : kept n ≡ n = kept_back n (omega (arith, s, high)) in
    (omega (arith, low, same), omega (arith, high, same))

pub kept_within_no : (n count : ℕ) → count ≤ 2 ^ 64 → is_within (kept n) count ≡ false → 1 ≤ n → n ≤ count → ⊥
kept_within_no n count s e l h =
    let same : kept n ≡ n = kept_small n (omega (arith, s, h)) in
    within_no (kept n) count e (omega (arith, l, same)) (omega (arith, h, same))
