-- The first of many faults, part by part.
use Rattle.std.proofs.Common.{◌≡◌, ℕ, ◌<◌, ◌≤◌, min, Bool, true, false, List, [], ◌∷◌, ◌++◌, Option, Some, None, refl, sym, ap, ◌∙◌, arith, inl, inr}
use Rattle.std.specs.Prelude.{◌⊎◌, ◌==◌, ◌&&◌, ◌||◌, nat_lt, map, if◌then◌else◌}
use Rattle.std.specs.Option.{option_map}
use Rattle.std.proofs.lemmas.Bool.Decides.{nat_tests}
use Rattle.statement_grammar.specs.declared.text_faults.TextFault.{TextFault}
use Rattle.statement_grammar.specs.FirstFault.{place_of_fault, rank_of, comes_before, earlier, first_of}
use Rattle.statement_reader.specs.Facts.{least, least_of}
use Rattle.statement_faults.specs.TreeFaults.{merged}

abbrev test : ℕ → ℕ → ℕ → ℕ → Bool
test p q r t = nat_lt p q || ((p == q) && nat_lt r t)

strict : (p q r t : ℕ) → test p q r t ≡ true → (p < q) ⊎ ((p ≡ q) × (r < t))
strict p q r t e = grind (arith, nat_tests)

not_strict : (p q r t : ℕ) → test p q r t ≡ false → (q < p) ⊎ ((q ≡ p) × (t ≤ r))
not_strict p q r t e = grind (arith, nat_tests)

is_strict : (p q r t : ℕ) → (p < q) ⊎ ((p ≡ q) × (r < t)) → test p q r t ≡ true
is_strict p q r t (inl a) = before p q a
  where
    before : (p q : ℕ) → p < q → test p q r t ≡ true
    before p q a = grind (arith, nat_tests)
is_strict p q r t (inr a) = tied p q a.0 a.1
  where
    tied : (p q : ℕ) → p ≡ q → r < t → test p q r t ≡ true
    tied p q a b = grind (arith, nat_tests)

is_not : (p q r t : ℕ) → (q < p) ⊎ ((q ≡ p) × (t ≤ r)) → test p q r t ≡ false
is_not p q r t (inl a) = behind p q a
  where
    behind : (p q : ℕ) → q < p → test p q r t ≡ false
    behind p q a = grind (arith, nat_tests)
is_not p q r t (inr a) = tied p q a.0 a.1
  where
    tied : (p q : ℕ) → q ≡ p → t ≤ r → test p q r t ≡ false
    tied p q a b = grind (arith, nat_tests)

before_both : (p q v r t u : ℕ) → (p < q) ⊎ ((p ≡ q) × (r < t)) → (q < v) ⊎ ((q ≡ v) × (t < u)) → (p < v) ⊎ ((p ≡ v) × (r < u))
before_both p q v r t u (inl a) (inl b) = inl (omega arith)
before_both p q v r t u (inl a) (inr b) = let e = b.0 in inl (omega arith)
before_both p q v r t u (inr a) (inl b) = let e = a.0 in inl (omega arith)
before_both p q v r t u (inr a) (inr b) = let l = a.1 in let m = b.1 in inr (a.0 ∙ b.0, omega arith)

behind_both : (p q v r t u : ℕ) → (q < p) ⊎ ((q ≡ p) × (t ≤ r)) → (v < q) ⊎ ((v ≡ q) × (u ≤ t)) → (v < p) ⊎ ((v ≡ p) × (u ≤ r))
behind_both p q v r t u (inl a) (inl b) = inl (omega arith)
behind_both p q v r t u (inl a) (inr b) = let e = b.0 in inl (omega arith)
behind_both p q v r t u (inr a) (inl b) = let e = a.0 in inl (omega arith)
behind_both p q v r t u (inr a) (inr b) = let l = a.1 in let m = b.1 in inr (b.0 ∙ a.0, omega arith)

through : (h g f : TextFault) → comes_before h g ≡ true → comes_before g f ≡ true → comes_before h f ≡ true
through h g f a b =
    is_strict (place_of_fault h) (place_of_fault f) (rank_of h) (rank_of f)
    (before_both (place_of_fault h) (place_of_fault g) (place_of_fault f) (rank_of h) (rank_of g) (rank_of f) (strict (place_of_fault h) (place_of_fault g) (rank_of h) (rank_of g) a) (strict (place_of_fault g) (place_of_fault f) (rank_of g) (rank_of f) b))

not_through : (h g f : TextFault) → comes_before h g ≡ false → comes_before g f ≡ false → comes_before h f ≡ false
not_through h g f a b =
    is_not (place_of_fault h) (place_of_fault f) (rank_of h) (rank_of f)
    (behind_both (place_of_fault h) (place_of_fault g) (place_of_fault f) (rank_of h) (rank_of g) (rank_of f) (not_strict (place_of_fault h) (place_of_fault g) (rank_of h) (rank_of g) a) (not_strict (place_of_fault g) (place_of_fault f) (rank_of g) (rank_of f) b))

abbrev pick : Bool → TextFault → TextFault → TextFault
pick b h f = if b then h else f

of_three : (f g h : TextFault) → earlier f (Some (earlier g (Some h))) ≡ earlier (earlier f (Some g)) (Some h)
of_three f g h = by_tests (comes_before h g) (comes_before g f) refl refl
  where
    left : (b : Bool) → comes_before h g ≡ b → earlier f (Some (earlier g (Some h))) ≡ earlier f (Some (pick b h g))
    left b e = ap (λ (x : Bool). earlier f (Some (pick x h g))) e

    right : (b : Bool) → comes_before g f ≡ b → earlier (earlier f (Some g)) (Some h) ≡ earlier (pick b g f) (Some h)
    right b e = ap (λ (x : Bool). earlier (pick x g f) (Some h)) e

    by_tests : (a b : Bool) → comes_before h g ≡ a → comes_before g f ≡ b → earlier f (Some (earlier g (Some h))) ≡ earlier (earlier f (Some g)) (Some h)
    by_tests true true a b = left true a ∙ ap (λ (x : Bool). pick x h f) (through h g f a b) ∙ sym (ap (λ (x : Bool). pick x h g) a) ∙ sym (right true b)
    by_tests true false a b = left true a ∙ sym (right false b)
    by_tests false true a b = left false a ∙ ap (λ (x : Bool). pick x g f) b ∙ sym (ap (λ (x : Bool). pick x h g) a) ∙ sym (right true b)
    by_tests false false a b = left false a ∙ ap (λ (x : Bool). pick x g f) b ∙ sym (ap (λ (x : Bool). pick x h f) (not_through h g f a b)) ∙ sym (right false b)

pub earlier_more : (f : TextFault) (a b : Option TextFault) → earlier f (merged a b) ≡ earlier (earlier f a) b
earlier_more f None b = refl
earlier_more f (Some g) None = refl
earlier_more f (Some g) (Some h) = of_three f g h

-- the first of two lists
pub first_of_both : (xs ys : List TextFault) → first_of (xs ++ ys) ≡ merged (first_of xs) (first_of ys)
first_of_both [] ys = refl
first_of_both (f ∷ fs) ys = ap (λ (o : Option TextFault). Some (earlier f o)) (first_of_both fs ys) ∙ ap (λ (x : TextFault). Some x) (earlier_more f (first_of fs) (first_of ys))

pub no_first : (xs : List TextFault) → first_of xs ≡ None → xs ≡ []
no_first [] e = refl
no_first (f ∷ fs) e = cc

-- ---- faults of one kind at many places

same_rank : (v u k : ℕ) → test v u k k ≡ nat_lt v u
same_rank v u k = by_test (nat_lt v u) refl
  where
    less : (v u : ℕ) → nat_lt v u ≡ true → v < u
    less v u e = grind (arith, nat_tests)

    not_less : (v u : ℕ) → nat_lt v u ≡ false → u ≤ v
    not_less v u e = grind (arith, nat_tests)

    by_test : (b : Bool) → nat_lt v u ≡ b → test v u k k ≡ nat_lt v u
    by_test true e = let l = less v u e in is_strict v u k k (inl l) ∙ sym e
    by_test false e = let l = not_less v u e in is_not v u k k (at_least u v l) ∙ sym e
      where
        at_least : (u v : ℕ) → u ≤ v → (u < v) ⊎ ((u ≡ v) × (k ≤ k))
        at_least u v l = grind (arith, nat_tests)

abbrev HasPlace : (ℕ → TextFault) → Type 0
HasPlace f = (n : ℕ) → place_of_fault (f n) ≡ n

abbrev HasRank : (ℕ → TextFault) → ℕ → Type 0
HasRank f k = (n : ℕ) → rank_of (f n) ≡ k

one_of_two : (f : ℕ → TextFault) (k u v : ℕ) → HasPlace f → HasRank f k → earlier (f u) (Some (f v)) ≡ f (min u v)
one_of_two f k u v p r =
    ap (λ (b : Bool). pick b (f v) (f u)) tests ∙ by_test (nat_lt v u) refl
  where
    tests : comes_before (f v) (f u) ≡ nat_lt v u
    tests =
        ap (λ (n : ℕ). test n (place_of_fault (f u)) (rank_of (f v)) (rank_of (f u))) (p v)
        ∙ ap (λ (n : ℕ). test v n (rank_of (f v)) (rank_of (f u))) (p u)
        ∙ ap (λ (n : ℕ). test v u n (rank_of (f u))) (r v)
        ∙ ap (λ (n : ℕ). test v u k n) (r u)
        ∙ same_rank v u k

    less : (v u : ℕ) → nat_lt v u ≡ true → v ≡ min u v
    less v u e = let l : v < u = lt v u e in omega arith
      where
        lt : (v u : ℕ) → nat_lt v u ≡ true → v < u
        lt v u e = grind (arith, nat_tests)

    not_less : (v u : ℕ) → nat_lt v u ≡ false → u ≡ min u v
    not_less v u e = let l : u ≤ v = le v u e in omega arith
      where
        le : (v u : ℕ) → nat_lt v u ≡ false → u ≤ v
        le v u e = grind (arith, nat_tests)

    by_test : (b : Bool) → nat_lt v u ≡ b → pick (nat_lt v u) (f v) (f u) ≡ f (min u v)
    by_test true e = ap (λ (b : Bool). pick b (f v) (f u)) e ∙ ap f (less v u e)
    by_test false e = ap (λ (b : Bool). pick b (f v) (f u)) e ∙ ap f (not_less v u e)

pub first_of_places : (f : ℕ → TextFault) (k : ℕ) (us : List ℕ) → HasPlace f → HasRank f k → first_of (map f us) ≡ option_map f (least_of us)
first_of_places f k [] p r = refl
first_of_places f k (u ∷ us) p r = ap (λ (o : Option TextFault). Some (earlier (f u) o)) (first_of_places f k us p r) ∙ by_least (least_of us)
  where
    by_least : (o : Option ℕ) → Some (earlier (f u) (option_map f o)) ≡ option_map f (least (Some u) o)
    by_least None = refl
    by_least (Some v) = ap (λ (x : TextFault). Some x) (one_of_two f k u v p r)
