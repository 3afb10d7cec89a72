-- The fault that comes first is the least.
use Rattle.std.proofs.Common.{◌≡◌, ℕ, ◌<◌, ◌≤◌, Bool, true, false, List, [], ◌∷◌, Option, Some, None, refl, sym, subst, ◌∙◌, inl, inr, arith}
use Rattle.std.specs.Prelude.{◌⊎◌, ◌==◌, ◌&&◌, ◌||◌, nat_lt, if◌then◌else◌}
use Rattle.std.proofs.lemmas.Bool.Decides.{nat_tests}
use Rattle.statement_grammar.specs.declared.text_faults.TextFault.{TextFault}
use Rattle.statement_grammar.specs.FirstFault.{place_of_fault, rank_of, comes_before, earlier, first_of, NotBehind, IsAmong, IsLeast, FirstIsLeast}
use Rattle.statement_tokens.proofs.ReservedLemmas.{some_is}

before_is : (p q r t : ℕ) → (nat_lt p q || ((p == q) && nat_lt r t)) ≡ true → (p < q) ⊎ ((p ≡ q) × (r ≤ t))
before_is p q r t e = grind (arith, nat_tests)

not_before : (p q r t : ℕ) → (nat_lt p q || ((p == q) && nat_lt r t)) ≡ false → (q < p) ⊎ ((q ≡ p) × (t ≤ r))
not_before p q r t e = grind (arith, nat_tests)

in_order : (p q v r t u : ℕ) → (p < q) ⊎ ((p ≡ q) × (r ≤ t)) → (q < v) ⊎ ((q ≡ v) × (t ≤ u)) → (p < v) ⊎ ((p ≡ v) × (r ≤ u))
in_order p q v r t u (inl a) (inl b) = inl (omega arith)
in_order p q v r t u (inl a) (inr b) = inl (subst (λ (x : ℕ). p < x) b.0 a)
in_order p q v r t u (inr a) (inl b) = inl (subst (λ (x : ℕ). x < v) (sym a.0) b)
in_order p q v r t u (inr a) (inr b) = let e = a.0 ∙ b.0 in let l = b.1 in let m = a.1 in inr (e, omega arith)

not_behind_itself : (f : TextFault) → NotBehind f f
not_behind_itself f = inr (refl, omega arith)

one_more : (h : TextFault) (hs : List TextFault) (f : TextFault) → ((k : TextFault) → first_of hs ≡ Some k → IsLeast k hs) → (o : Option TextFault) → first_of hs ≡ o → earlier h o ≡ f → IsLeast f (h ∷ hs)
one_more h hs f more None o e = record { among = inl (sym e); least = λ other a. alone hs other o a }
  where
    alone : (hs : List TextFault) (other : TextFault) → first_of hs ≡ None → (other ≡ h) ⊎ IsAmong other hs → NotBehind f other
    alone hs other o (inl a) = subst (NotBehind f) (sym a) (subst (λ (x : TextFault). NotBehind f x) (sym e) (not_behind_itself f))
    alone [] other o (inr a) = absurd a
    alone (x ∷ xs) other o (inr a) = cc
one_more h hs f more (Some k) o e = by_test (comes_before k h) refl e
  where
    i : IsLeast k hs
    i = more k o

    by_test : (b : Bool) → comes_before k h ≡ b → (if b then k else h) ≡ f → IsLeast f (h ∷ hs)
    by_test true t e = record { among = inr (subst (λ (x : TextFault). IsAmong x hs) e i.among); least = λ other a. subst (λ (x : TextFault). NotBehind x other) e (cases other a) }
      where
        cases : (other : TextFault) → (other ≡ h) ⊎ IsAmong other hs → NotBehind k other
        cases other (inl a) = subst (NotBehind k) (sym a) (before_is (place_of_fault k) (place_of_fault h) (rank_of k) (rank_of h) t)
        cases other (inr a) = i.least other a
    by_test false t e = record { among = inl (sym e); least = λ other a. subst (λ (x : TextFault). NotBehind x other) e (cases other a) }
      where
        cases : (other : TextFault) → (other ≡ h) ⊎ IsAmong other hs → NotBehind h other
        cases other (inl a) = subst (NotBehind h) (sym a) (not_behind_itself h)
        cases other (inr a) = in_order (place_of_fault h) (place_of_fault k) (place_of_fault other) (rank_of h) (rank_of k) (rank_of other) (not_before (place_of_fault k) (place_of_fault h) (rank_of k) (rank_of h) t) (i.least other a)

pub first_is_least : FirstIsLeast
first_is_least [] f e = cc
first_is_least (h ∷ hs) f e = one_more h hs f (λ k o. first_is_least hs k o) (first_of hs) refl (some_is (earlier h (first_of hs)) f e)
