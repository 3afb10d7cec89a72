-- Numbers that are kept up to a greatest one, and counts that are kept up to one more than a limit.
use Rattle.std.proofs.Common.{◌≡◌, ◌⊎◌, ◌≤◌, ◌<◌, ◌+◌, ◌^◌, ◌-◌, ◌==◌, ℕ, suc, Bool, true, false, min, refl, sym, ap, ◌∙◌, arith, inl, inr}
use Rattle.std.proofs.lemmas.Bool.Decides.{nat_tests}
use Rattle.std.proofs.Math.Nat.{min-eq_left, min-eq_right}
use Rattle.std.specs.Prelude.{leb, not}
use Rattle.line_items.specs.Counted.{capped}

pub leb_same : (a b c d : ℕ) → (a ≤ b → c ≤ d) → (c ≤ d → a ≤ b) → leb a b ≡ leb c d
leb_same a b c d f g = by_tests (leb a b) (leb c d) refl refl
  where
    by_tests : (x y : Bool) → leb a b ≡ x → leb c d ≡ y → leb a b ≡ leb c d
    by_tests true true e h = e ∙ sym h
    by_tests false false e h = e ∙ sym h
    by_tests true false e h = let l : a ≤ b = grind (arith, nat_tests, e) in let m = f l in grind (arith, nat_tests, h, m)
    by_tests false true e h = let l : c ≤ d = grind (arith, nat_tests, h) in let m = g l in grind (arith, nat_tests, e, m)

pub kept_choice : (n most : ℕ) → ((n ≤ most) × (min n most ≡ n)) ⊎ ((most < n) × (min n most ≡ most))
kept_choice n most = by_test (leb n most) refl
  where
    by_test : (is : Bool) → leb n most ≡ is → ((n ≤ most) × (min n most ≡ n)) ⊎ ((most < n) × (min n most ≡ most))
    by_test true e = let l : n ≤ most = grind (arith, nat_tests, e) in inl (l, min-eq_left l)
    by_test false e = let l : most < n = grind (arith, nat_tests, e) in let m : most ≤ n = omega (arith, l) in inr (l, min-eq_right m)

pub kept_at_most : (n most bound : ℕ) → bound < most → leb (min n most) bound ≡ leb n bound
kept_at_most n most bound s = by_choice (kept_choice n most)
  where
    by_choice : ((n ≤ most) × (min n most ≡ n)) ⊎ ((most < n) × (min n most ≡ most)) → leb (min n most) bound ≡ leb n bound
    by_choice (inl h) = ap (λ (m : ℕ). leb m bound) h.1
    by_choice (inr h) = let e = h.1 in let l = h.0 in leb_same (min n most) bound n bound (λ m. omega (arith, s, e, m)) (λ m. omega (arith, s, l, m))

pub kept_at_least : (n most bound : ℕ) → bound ≤ most → leb bound (min n most) ≡ leb bound n
kept_at_least n most bound s = by_choice (kept_choice n most)
  where
    by_choice : ((n ≤ most) × (min n most ≡ n)) ⊎ ((most < n) × (min n most ≡ most)) → leb bound (min n most) ≡ leb bound n
    by_choice (inl h) = ap (leb bound) h.1
    by_choice (inr h) = let e = h.1 in let l = h.0 in leb_same bound (min n most) bound n (λ m. omega (arith, s, l)) (λ m. omega (arith, s, e))

eq_same : (a b c : ℕ) → (a ≡ b → c ≡ b) → (c ≡ b → a ≡ b) → (a == b) ≡ (c == b)
eq_same a b c f g = by_tests (a == b) (c == b) refl refl
  where
    by_tests : (x y : Bool) → (a == b) ≡ x → (c == b) ≡ y → (a == b) ≡ (c == b)
    by_tests true true e h = e ∙ sym h
    by_tests false false e h = e ∙ sym h
    by_tests true false e h = let l : a ≡ b = grind (arith, nat_tests, e) in let m = f l in grind (arith, nat_tests, h, m)
    by_tests false true e h = let l : c ≡ b = grind (arith, nat_tests, h) in let m = g l in grind (arith, nat_tests, e, m)

pub kept_is : (n most other : ℕ) → other < most → (min n most == other) ≡ (n == other)
kept_is n most other s = by_choice (kept_choice n most)
  where
    by_choice : ((n ≤ most) × (min n most ≡ n)) ⊎ ((most < n) × (min n most ≡ most)) → (min n most == other) ≡ (n == other)
    by_choice (inl h) = ap (λ (m : ℕ). m == other) h.1
    by_choice (inr h) = let e = h.1 in let l = h.0 in eq_same (min n most) other n (λ m. omega (arith, s, e, m)) (λ m. omega (arith, s, l, m))

pub capped_choice : (limit n : ℕ) → ((n ≤ limit) × (capped limit n ≡ n)) ⊎ ((limit < n) × (capped limit n ≡ suc limit))
capped_choice limit n = by_test (leb n limit) refl
  where
    by_test : (is : Bool) → leb n limit ≡ is → ((n ≤ limit) × (capped limit n ≡ n)) ⊎ ((limit < n) × (capped limit n ≡ suc limit))
    by_test true e = inl (grind (arith, nat_tests, e), rw e refl)
    by_test false e = inr (grind (arith, nat_tests, e), rw e refl)

pub capped_same : (limit a b : ℕ) → (a ≤ limit → a ≡ b) → (limit < a → limit < b) → capped limit a ≡ capped limit b
capped_same limit a b f g = by_choices (capped_choice limit a) (capped_choice limit b)
  where
    by_choices : ((a ≤ limit) × (capped limit a ≡ a)) ⊎ ((limit < a) × (capped limit a ≡ suc limit)) → ((b ≤ limit) × (capped limit b ≡ b)) ⊎ ((limit < b) × (capped limit b ≡ suc limit)) → capped limit a ≡ capped limit b
    by_choices (inl h) k = ap (capped limit) (f h.0)
    by_choices (inr h) (inr k) = h.1 ∙ sym k.1
    by_choices (inr h) (inl k) = let l = g h.0 in let m = k.0 in absurd (omega (arith, l, m))

-- a sum that passes the limit with what is kept does so with all
pub sum_same : (first turns count most limit : ℕ) → limit < most → leb (first + capped limit turns + min count most) limit ≡ leb (first + turns + count) limit
sum_same first turns count most limit s = by_choices (capped_choice limit turns) (kept_choice count most)
  where
    by_choices : ((turns ≤ limit) × (capped limit turns ≡ turns)) ⊎ ((limit < turns) × (capped limit turns ≡ suc limit)) → ((count ≤ most) × (min count most ≡ count)) ⊎ ((most < count) × (min count most ≡ most))
        → leb (first + capped limit turns + min count most) limit ≡ leb (first + turns + count) limit
    by_choices (inl h) (inl k) = ap (λ (t : ℕ). leb (first + t + min count most) limit) h.1 ∙ ap (λ (c : ℕ). leb (first + turns + c) limit) k.1
    by_choices (inl h) (inr k) =
        let e = k.1 in let l = k.0 in
        leb_same (first + capped limit turns + min count most) limit (first + turns + count) limit (λ m. omega (arith, s, e, m)) (λ m. omega (arith, s, l, m))
    by_choices (inr h) k =
        let e = h.1 in let l = h.0 in
        leb_same (first + capped limit turns + min count most) limit (first + turns + count) limit (λ m. omega (arith, s, e, m)) (λ m. omega (arith, s, l, m))

pub capped_sum : (limit turns count most : ℕ) → limit < most → capped limit (capped limit turns + min count most) ≡ capped limit (turns + count)
capped_sum limit turns count most s = by_choices (capped_choice limit turns) (kept_choice count most)
  where
    by_choices : ((turns ≤ limit) × (capped limit turns ≡ turns)) ⊎ ((limit < turns) × (capped limit turns ≡ suc limit)) → ((count ≤ most) × (min count most ≡ count)) ⊎ ((most < count) × (min count most ≡ most))
        → capped limit (capped limit turns + min count most) ≡ capped limit (turns + count)
    by_choices (inl h) (inl k) = ap (λ (t : ℕ). capped limit (t + min count most)) h.1 ∙ ap (λ (c : ℕ). capped limit (turns + c)) k.1
    by_choices (inl h) (inr k) =
        let e = k.1 in let l = k.0 in
        capped_same limit (capped limit turns + min count most) (turns + count) (λ m. absurd (omega (arith, s, e, m))) (λ m. omega (arith, s, l))
    by_choices (inr h) k =
        let e = h.1 in let l = h.0 in
        capped_same limit (capped limit turns + min count most) (turns + count) (λ m. absurd (omega (arith, e, m))) (λ m. omega (arith, l))

pub sum_more : (first turns count limit : ℕ) → leb (first + capped limit turns + count) limit ≡ leb (first + turns + count) limit
sum_more first turns count limit = by_choice (capped_choice limit turns)
  where
    by_choice : ((turns ≤ limit) × (capped limit turns ≡ turns)) ⊎ ((limit < turns) × (capped limit turns ≡ suc limit)) → leb (first + capped limit turns + count) limit ≡ leb (first + turns + count) limit
    by_choice (inl h) = ap (λ (t : ℕ). leb (first + t + count) limit) h.1
    by_choice (inr h) =
        let e = h.1 in let l = h.0 in
        leb_same (first + capped limit turns + count) limit (first + turns + count) limit (λ m. omega (arith, e, m)) (λ m. omega (arith, l, m))

pub more_same : (n count limit : ℕ) → leb (capped limit n + count) limit ≡ leb (n + count) limit
more_same n count limit = by_choice (capped_choice limit n)
  where
    by_choice : ((n ≤ limit) × (capped limit n ≡ n)) ⊎ ((limit < n) × (capped limit n ≡ suc limit)) → leb (capped limit n + count) limit ≡ leb (n + count) limit
    by_choice (inl h) = ap (λ (m : ℕ). leb (m + count) limit) h.1
    by_choice (inr h) = let e = h.1 in let l = h.0 in leb_same (capped limit n + count) limit (n + count) limit (λ m. omega (arith, e, m)) (λ m. omega (arith, l, m))

pub over_yes : (n bound : ℕ) → not (leb n bound) ≡ true → bound < n
over_yes n bound e = by_test (leb n bound) refl e
  where
    by_test : (is : Bool) → leb n bound ≡ is → not is ≡ true → bound < n
    by_test true l f = absurd cc
    by_test false l f = grind (arith, nat_tests, l)

pub over_no : (n bound : ℕ) → not (leb n bound) ≡ false → bound < n → ⊥
over_no n bound e m = by_test (leb n bound) refl e
  where
    by_test : (is : Bool) → leb n bound ≡ is → not is ≡ false → ⊥
    by_test true l f = let k : n ≤ bound = grind (arith, nat_tests, l) in omega (arith, k, m)
    by_test false l f = cc

pub least_yes : (n bound : ℕ) → leb bound n ≡ true → bound ≤ n
least_yes n bound e = grind (arith, nat_tests, e)

pub least_no : (n bound : ℕ) → leb bound n ≡ false → bound ≤ n → ⊥
least_no n bound e m = let k : n < bound = grind (arith, nat_tests, e) in omega (arith, k, m)
