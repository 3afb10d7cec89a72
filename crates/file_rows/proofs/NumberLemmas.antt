-- Numbers of replicas that are kept in 128 bits.
use Rattle.std.proofs.Common.{◌≡◌, ◌⊎◌, ◌≤◌, ◌<◌, ◌^◌, ◌-◌, ◌==◌, ◌&&◌, ℕ, Bool, true, false, refl, sym, ap, ◌∙◌, arith, inl, inr, leb, subst}
use Rattle.std.proofs.lemmas.Bool.Decides.{nat_tests}
use Rattle.std.proofs.Math.Nat.{min-eq_left, min-eq_right}
use Rattle.file_text.specs.Said.{Node, All, Source, Replica}
use Rattle.file_text.specs.Causes.{is_for}
use Rattle.line_words.specs.Actors.{kept}
use Rattle.line_words.specs.Items.{kept_node}
use Rattle.file_rows.specs.NodeRows.{is_for_word}

abbrev pub most : ℕ
most = 2 ^ 128 - 1

kept_choice : (n : ℕ) → ((n ≤ most) × (kept n ≡ n)) ⊎ ((most < n) × (kept n ≡ most))
kept_choice n = by_test (leb n most) refl
  where
    by_test : (is : Bool) → leb n most ≡ is → ((n ≤ most) × (kept n ≡ n)) ⊎ ((most < n) × (kept n ≡ most))
    by_test true e = let h : n ≤ most = grind (arith, nat_tests, e) in inl (h, min-eq_left h)
    by_test false e = let h : most < n = grind (arith, nat_tests, e) in inr (h, min-eq_right (omega (arith, h)))

not_equal : (a b : ℕ) → a < b → (a == b) ≡ false
not_equal a b h = by_test (a == b) refl
  where
    by_test : (is : Bool) → (a == b) ≡ is → (a == b) ≡ false
    by_test true e = let f : a ≡ b = grind (arith, nat_tests, e) in absurd (omega (arith, h, f))
    by_test false e = e

at_least_one : (n : ℕ) → 1 ≤ n → leb 1 n ≡ true
at_least_one n h = by_test (leb 1 n) refl
  where
    by_test : (is : Bool) → leb 1 n ≡ is → leb 1 n ≡ true
    by_test true e = e
    by_test false e = let f : n < 1 = grind (arith, nat_tests, e) in absurd (omega (arith, h, f))

-- a word names the same nodes as what it is kept of
pub same_nodes : (which : Node) (node : ℕ) → node < most → is_for_word (kept_node which) node ≡ is_for node which
same_nodes All node h = refl
same_nodes Source node h = refl
same_nodes (Replica replica) node h = by_choice (kept_choice replica)
  where
    by_choice : ((replica ≤ most) × (kept replica ≡ replica)) ⊎ ((most < replica) × (kept replica ≡ most)) → (leb 1 (kept replica) && (node == kept replica)) ≡ (leb 1 replica && (node == replica))
    by_choice (inl c) = ap (λ (r : ℕ). leb 1 r && (node == r)) c.1
    by_choice (inr c) =
        let k : node < kept replica = subst (λ (r : ℕ). node < r) (sym c.1) h in
        let r : node < replica = let g = c.0 in omega (arith, g, h) in
        both (leb 1 (kept replica)) (leb 1 replica) (not_equal node (kept replica) k) (not_equal node replica r)
      where
        both : (a b : Bool) → (node == kept replica) ≡ false → (node == replica) ≡ false → (a && (node == kept replica)) ≡ (b && (node == replica))
        both true true e f = e ∙ sym f
        both true false e f = e
        both false true e f = sym f
        both false false e f = refl
