-- A tree that is at most 64 high is nowhere too deep.
use Rattle.std.proofs.Common.{◌≡◌, ℕ, suc, ◌≤◌, ◌+◌, max, nat_lt, Bool, true, false, List, [], ◌∷◌, refl, sym, ◌∙◌, ap, subst, arith}
use Rattle.std.specs.Prelude.{◌-◌, take, length, if◌then◌else◌}
use Rattle.std.proofs.lemmas.Bool.Decides.{nat_tests}
use Rattle.statement_tokens.specs.declared.words.Token.{Token}
use Rattle.statement_grammar.specs.Grammar as g
use Rattle.statement_grammar.specs.Grammar.{Shape, Setting, IsAt, tokens_of}
use Rattle.statement_grammar.specs.Cut.{Part, Gap, Leaf, Prefix, Binary, Lower, Range, Nullness, Paren, Signed, RowTest, whole, len, cut, height}
use Rattle.statement_grammar.specs.Faults.{is_last, deep_from, deep_in}
use Rattle.statement_grammar.proofs.CutLemmas.{cut_all, take_all}

some_high : (x : Part) → 1 ≤ height x
some_high Gap = omega arith
some_high (Leaf t) = omega arith
some_high (Prefix t s) = omega arith
some_high (Binary l t r) = omega arith
some_high (Lower x b l) = omega arith
some_high (Range x b l a h) = omega arith
some_high (Nullness x i) = omega arith
some_high (Paren o s) = some_high s
some_high (Signed t d) = omega arith
some_high (RowTest ts) = omega arith

-- what is there of a tree on the way is no higher than the whole
cut_low : (n : ℕ) (s : Shape) → height (cut false n s) ≤ height (whole s)
cut_low n (g.Leaf t) = by_test (nat_lt 0 n)
  where
    by_test : (b : Bool) → height (if b then Leaf t else Gap) ≤ 1
    by_test true = omega arith
    by_test false = omega arith
cut_low n (g.Prefix t s) = by_test (nat_lt 0 n) (cut_low (n - 1) s)
  where
    by_test : (b : Bool) → height (cut false (n - 1) s) ≤ height (whole s) → height (if b then Prefix t (cut false (n - 1) s) else Gap) ≤ height (whole s) + 1
    by_test true h = omega arith
    by_test false h = omega arith
cut_low n (g.Binary l t r) = by_test (nat_lt (len l) n) (cut_low n l) (cut_low (n - (len l + 1)) r)
  where
    by_test : (b : Bool) → height (cut false n l) ≤ height (whole l) → height (cut false (n - (len l + 1)) r) ≤ height (whole r)
        → height (if b then Binary (whole l) t (cut false (n - (len l + 1)) r) else cut false n l) ≤ max (height (whole l)) (height (whole r)) + 1
    by_test true h i = omega arith
    by_test false h i = omega arith
cut_low n (g.Range x b l a h) = by_tests (nat_lt (len x) n) (nat_lt (len x + 1 + len l) n) (cut_low n x) (cut_low (n - (len x + 1)) l) (cut_low (n - (len x + 1 + len l + 1)) h)
  where
    by_tests : (d e : Bool) → height (cut false n x) ≤ height (whole x) → height (cut false (n - (len x + 1)) l) ≤ height (whole l) → height (cut false (n - (len x + 1 + len l + 1)) h) ≤ height (whole h)
        → height (if d then (if e then Range (whole x) b (whole l) a (cut false (n - (len x + 1 + len l + 1)) h) else Lower (whole x) b (cut false (n - (len x + 1)) l)) else cut false n x)
        ≤ max (height (whole x)) (max (height (whole l)) (height (whole h))) + 2
    by_tests true true i j k = omega arith
    by_tests true false i j k = omega arith
    by_tests false e i j k = omega arith
cut_low n (g.Nullness x i ws) = by_test (nat_lt (len x) n) (cut_low n x)
  where
    by_test : (b : Bool) → height (cut false n x) ≤ height (whole x) → height (if b then Nullness (whole x) i else cut false n x) ≤ height (whole x) + 1
    by_test true h = omega arith
    by_test false h = omega arith
cut_low n (g.Paren o s p) = by_test (nat_lt 0 n) (cut_low (n - 1) s)
  where
    by_test : (b : Bool) → height (cut false (n - 1) s) ≤ height (whole s) → height (if b then Paren o (cut false (n - 1) s) else Gap) ≤ height (whole s)
    by_test true h = h
    by_test false h = some_high (whole s)
cut_low n (g.Signed t d) = by_tests (nat_lt 1 n) (nat_lt 0 n)
  where
    by_tests : (b e : Bool) → height (if b then Signed t d else if e then (if false then Prefix t Gap else Signed t d) else Gap) ≤ 1
    by_tests true e = omega arith
    by_tests false true = omega arith
    by_tests false false = omega arith
cut_low n (g.RowTest []) = omega arith
cut_low n (g.RowTest (o ∷ [])) = omega arith
cut_low n (g.RowTest (o ∷ a ∷ ts)) = by_tests (nat_lt 2 n) (nat_lt 1 n) (nat_lt 0 n)
  where
    by_tests : (b d e : Bool) → height (if b then RowTest (take n (o ∷ a ∷ ts)) else if d then Paren o (Leaf a) else if e then Paren o Gap else Gap) ≤ 1
    by_tests true d e = omega arith
    by_tests false true e = omega arith
    by_tests false false true = omega arith
    by_tests false false false = omega arith

not_deep : (n : ℕ) → n ≤ 64 → nat_lt 64 n ≡ false
not_deep n h = grind (arith, nat_tests)

none_from : (g : Setting) (k : ℕ) (c : Bool) (s : Shape) (n : ℕ) (ts : List Token) → n + length ts ≡ len s → IsAt g k c s → height (whole s) ≤ 64 → deep_from s n ts ≡ []
none_from g k c s n [] e is h = refl
none_from g k c s n (t ∷ ts) e is h =
    ap (λ (b : Bool). if b then t.place ∷ [] else deep_from s (suc n) ts) (not_deep (height (cut (is_last ts) (suc n) s)) (low ts e))
    ∙ none_from g k c s (suc n) ts (omega arith) is h
  where
    low : (ts : List Token) → n + length (t ∷ ts) ≡ len s → height (cut (is_last ts) (suc n) s) ≤ 64
    low [] e = subst (λ (x : Part). height x ≤ 64) (sym (cut_all g k c s true (suc n) is (omega arith))) h
    low (u ∷ us) e = let i = cut_low (suc n) s in omega arith

pub none_deep : (g : Setting) (k : ℕ) (c : Bool) (s : Shape) → IsAt g k c s → height (whole s) ≤ 64 → deep_in s (len s) ≡ []
none_deep g k c s is h =
    ap (deep_from s 0) (take_all (len s) (tokens_of s) (omega arith)) ∙ none_from g k c s 0 (tokens_of s) (let a : 0 + len s ≡ len s = omega arith in a) is h

pub whole_cut : (g : Setting) (k : ℕ) (c : Bool) (s : Shape) → IsAt g k c s → cut true (len s) s ≡ whole s
whole_cut g k c s is = cut_all g k c s true (len s) is (omega arith)
