-- The tree so far is in the tokens that are read.
use Rattle.std.proofs.Common.{◌≡◌, ℕ, zero, suc, ◌≤◌, List, [], ◌∷◌, ◌++◌, refl, sym, ap, subst, ◌∙◌, arith, append_assoc, nat_lt}
use Rattle.std.specs.Prelude.{take, drop, length, if◌then◌else◌}
use Rattle.statement_tokens.specs.declared.words.Token.{Token}
use Rattle.statement_grammar.specs.Grammar.{Shape, Setting, IsAt, tokens_of}
use Rattle.statement_grammar.specs.Machine.{State, Due, run}
use Rattle.statement_grammar.specs.Cut.{Part, parts, cut, height}
use Rattle.statement_grammar.specs.SoFar.{so_far, so_far_before, OneCut, OneCutOnTheWay}
use Rattle.statement_grammar.specs.Faults.{deep_from, deep_in, is_last}
use Rattle.statement_grammar.proofs.CutLemmas.{Next, cuts, length_on}
use Rattle.statement_tokens.proofs.ReservedLemmas.{some_is}

pub one_cut : OneCut
one_cut g s other n h i l m e =
    let a = cuts g 1 g.base s [] n h (λ u o p. tt) (λ p. p) l in
    let b = cuts g 1 g.base other [] n i (λ u o p. tt) (λ p. p) m in
    let same : a.state ≡ b.state = some_is a.state b.state (sym a.runs ∙ ap (run g parts (Due [])) e ∙ b.runs) in
    sym a.ends ∙ ap so_far same ∙ b.ends

within : (n : ℕ) (xs ts : List Token) (t : Token) → drop n xs ≡ t ∷ ts → n ≤ length xs
within zero xs ts t e = omega arith
within (suc n) [] ts t e = cc
within (suc n) (x ∷ xs) ts t e = let i = within n xs ts t e in omega arith

pub one_cut_on_the_way : OneCutOnTheWay
one_cut_on_the_way g s other n t ts us h i e d f =
    let a = cuts g 1 g.base s [] n h (λ u o p. tt) (λ p. p) (within n (tokens_of s) ts t d) in
    let b = cuts g 1 g.base other [] n i (λ u o p. tt) (λ p. p) (within n (tokens_of other) us t f) in
    let same : a.state ≡ b.state = some_is a.state b.state (sym a.runs ∙ ap (run g parts (Due [])) e ∙ b.runs) in
    sym (a.goes_on t (subst (λ (l : List Token). Next l t) (sym d) refl)) ∙ ap (λ (x : State Part). so_far_before x t) same ∙ b.goes_on t (subst (λ (l : List Token). Next l t) (sym f) refl)

take_front : (xs ys : List Token) → take (length xs) (xs ++ ys) ≡ xs
take_front [] ys = refl
take_front (x ∷ xs) ys = ap (λ (l : List Token). x ∷ l) (take_front xs ys)

drop_front : (xs ys : List Token) → drop (length xs) (xs ++ ys) ≡ ys
drop_front [] ys = refl
drop_front (x ∷ xs) ys = drop_front xs ys

take_so : (n : ℕ) (all xs ys : List Token) → all ≡ xs ++ ys → length xs ≡ n → take n all ≡ xs
take_so n all xs ys e l = ap (take n) e ∙ ap (λ (k : ℕ). take k (xs ++ ys)) (sym l) ∙ take_front xs ys

drop_so : (n : ℕ) (all xs ys : List Token) → all ≡ xs ++ ys → length xs ≡ n → drop n all ≡ ys
drop_so n all xs ys e l = ap (drop n) e ∙ ap (λ (k : ℕ). drop k (xs ++ ys)) (sym l) ∙ drop_front xs ys

length_so : (n : ℕ) (all xs ys : List Token) → all ≡ xs ++ ys → length xs ≡ n → n ≤ length all
length_so n all xs ys e l = let a = length_on xs ys in let b : length all ≡ length (xs ++ ys) = ap length e in omega arith

cut_same : (g : Setting) (s other : Shape) (n : ℕ) (front ts rest past : List Token) → IsAt g 1 g.base s → IsAt g 1 g.base other → tokens_of s ≡ front ++ (ts ++ rest) → tokens_of other ≡ front ++ (ts ++ past) → length front ≡ n
    → cut (is_last ts) n s ≡ cut (is_last ts) n other
cut_same g s other n front [] rest past h i a b l =
    one_cut g s other n h i (length_so n (tokens_of s) front rest a l) (length_so n (tokens_of other) front past b l) (take_so n (tokens_of s) front rest a l ∙ sym (take_so n (tokens_of other) front past b l))
cut_same g s other n front (u ∷ us) rest past h i a b l =
    one_cut_on_the_way g s other n u (us ++ rest) (us ++ past) h i (take_so n (tokens_of s) front (u ∷ (us ++ rest)) a l ∙ sym (take_so n (tokens_of other) front (u ∷ (us ++ past)) b l))
    (drop_so n (tokens_of s) front (u ∷ (us ++ rest)) a l) (drop_so n (tokens_of other) front (u ∷ (us ++ past)) b l)

-- the heights along the way are those of the tokens
pub deep_same : (g : Setting) (s other : Shape) (n : ℕ) (front ts rest past : List Token) → IsAt g 1 g.base s → IsAt g 1 g.base other → tokens_of s ≡ front ++ (ts ++ rest) → tokens_of other ≡ front ++ (ts ++ past) → length front ≡ n
    → deep_from s n ts ≡ deep_from other n ts
deep_same g s other n front [] rest past h i a b l = refl
deep_same g s other n front (t ∷ ts) rest past h i a b l =
    let longer : length (front ++ t ∷ []) ≡ suc n = let o = length_on front (t ∷ []) in omega arith in
    let c : tokens_of s ≡ (front ++ t ∷ []) ++ (ts ++ rest) = a ∙ sym (append_assoc front (t ∷ []) (ts ++ rest)) in
    let d : tokens_of other ≡ (front ++ t ∷ []) ++ (ts ++ past) = b ∙ sym (append_assoc front (t ∷ []) (ts ++ past)) in
    ap (λ (x : Part). if nat_lt 64 (height x) then t.place ∷ [] else deep_from s (suc n) ts) (cut_same g s other (suc n) (front ++ t ∷ []) ts rest past h i c d longer)
    ∙ ap (λ (ps : List ℕ). if nat_lt 64 (height (cut (is_last ts) (suc n) other)) then t.place ∷ [] else ps) (deep_same g s other (suc n) (front ++ t ∷ []) ts rest past h i c d longer)

pub take_drop : (n : ℕ) (xs : List Token) → xs ≡ take n xs ++ drop n xs
take_drop zero xs = refl
take_drop (suc n) [] = refl
take_drop (suc n) (x ∷ xs) = ap (λ (l : List Token). x ∷ l) (take_drop n xs)

-- what is too deep is so whichever whole tree begins so
pub one_depth : (g : Setting) (s other : Shape) (n m : ℕ) → IsAt g 1 g.base s → IsAt g 1 g.base other → take n (tokens_of s) ≡ take m (tokens_of other) → deep_in s n ≡ deep_in other m
one_depth g s other n m h i e =
    deep_same g s other 0 [] (take n (tokens_of s)) (drop n (tokens_of s)) (drop m (tokens_of other)) h i (take_drop n (tokens_of s))
    (take_drop m (tokens_of other) ∙ ap (λ (us : List Token). us ++ drop m (tokens_of other)) (sym e)) refl
    ∙ ap (deep_from other 0) e
