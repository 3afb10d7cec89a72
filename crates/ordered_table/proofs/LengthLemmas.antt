-- What the lengths of pages are, all together, alone and beside each other.
use Rattle.std.proofs.Common.{◌≡◌, ◌∙◌, ℕ, ◌+◌, ◌<◌, ◌≤◌, List, [], ◌∷◌, length, map, refl, ap, sym, subst, arith}
use Rattle.std.specs.List.{AllByRecursion, sum}
use Rattle.std.proofs.lemmas.List.Sums.{sum_by-cons}
use Rattle.row_types.specs.KeyRows.{Rows}
use Rattle.ordered_table.specs.Pages.{flat, ArePages, NeighboursExceed}
use Rattle.ordered_table.proofs.SizeLemmas.{length_flat-cons}

lengths_sum : (pages : List Rows) → sum (map (λ (page : Rows). length page) pages) ≡ length (flat pages)
lengths_sum [] = refl
lengths_sum (page ∷ pages) =
    sum_by-cons (λ (n : ℕ). n) (length page) (map (λ (p : Rows). length p) pages)
    ∙ ap (λ (n : ℕ). length page + n) (lengths_sum pages)
    ∙ sym (length_flat-cons page pages)

lengths_sized : (before : ℕ) (pages : List Rows) → before ≤ 64 → ArePages before pages
    → AllByRecursion (λ (n : ℕ). (1 ≤ n) × (n ≤ 64)) (map (λ (page : Rows). length page) pages)
lengths_sized before [] most are = tt
lengths_sized before (page ∷ pages) most are =
    let more : 64 < before + length page = are.0 in
    ((omega arith, are.1), lengths_sized (length page) pages are.1 are.2)

lengths_exceed : (before : ℕ) (pages : List Rows) → ArePages before pages → NeighboursExceed 64 (map (λ (page : Rows). length page) pages)
lengths_exceed before [] are = tt
lengths_exceed before (page ∷ []) are = tt
lengths_exceed before (page ∷ next ∷ pages) are = (are.2.0, lengths_exceed (length page) (next ∷ pages) are.2)

-- the same, of a list that has these lengths
pub sum_is : (pages : List Rows) (ns : List ℕ) → ns ≡ map (λ (page : Rows). length page) pages → sum ns ≡ length (flat pages)
sum_is pages ns is = ap sum is ∙ lengths_sum pages

pub are_sized : (pages : List Rows) (ns : List ℕ) → ArePages 64 pages → ns ≡ map (λ (page : Rows). length page) pages
    → AllByRecursion (λ (n : ℕ). (1 ≤ n) × (n ≤ 64)) ns
are_sized pages ns are is = subst (AllByRecursion (λ (n : ℕ). (1 ≤ n) × (n ≤ 64))) (sym is) (lengths_sized 64 pages (omega arith) are)

pub do_exceed : (pages : List Rows) (ns : List ℕ) → ArePages 64 pages → ns ≡ map (λ (page : Rows). length page) pages → NeighboursExceed 64 ns
do_exceed pages ns are is = subst (NeighboursExceed 64) (sym is) (lengths_exceed 64 pages are)
