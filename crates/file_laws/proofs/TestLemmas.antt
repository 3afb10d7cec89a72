-- Tests that are joined, and numbers compared.
use Rattle.std.proofs.Common.{◌≡◌, ◌⊎◌, ◌≤◌, ℕ, Bool, true, false, refl, ap, ◌∙◌, arith, inl, inr, leb, leb-false}
use Rattle.std.specs.Prelude.{◌&&◌, ◌||◌}

pub both : (a b : Bool) → (a && b) ≡ true → (a ≡ true) × (b ≡ true)
both true true e = (refl, refl)
both true false e = absurd cc
both false b e = absurd cc

pub and_true : (a b : Bool) → a ≡ true → b ≡ true → (a && b) ≡ true
and_true a b e f = ap (λ (x : Bool). x && b) e ∙ f

pub either : (a b : Bool) → (a || b) ≡ true → (a ≡ true) ⊎ (b ≡ true)
either true b e = inl refl
either false b e = inr e

pub or_left : (a b : Bool) → a ≡ true → (a || b) ≡ true
or_left true b e = refl
or_left false b e = absurd cc

pub or_right : (a b : Bool) → b ≡ true → (a || b) ≡ true
or_right true b e = refl
or_right false b e = e

pub le_true : (a b : ℕ) → a ≤ b → leb a b ≡ true
le_true a b l = by_test (leb a b) refl
  where
    by_test : (x : Bool) → leb a b ≡ x → leb a b ≡ true
    by_test true e = e
    by_test false e = let g = leb-false a b e in absurd (omega (arith, l, g))
