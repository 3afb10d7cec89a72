-- How many refused lines are settled, as the list changes.
use Rattle.std.proofs.Common.{◌≡◌, ℕ, ◌+◌, ◌≤◌, List, [], ◌∷◌, ◌++◌, length, take, arith, length-append}
use Rattle.std.proofs.lemmas.List.{length-take-le}

pub taken_settled : (settled : ℕ) (lines : List ℕ) → settled ≤ length lines → settled ≤ length (take settled lines)
taken_settled settled lines within =
    let e : length (take settled lines) ≡ settled = length-take-le settled lines within in
    omega arith

pub more_settled : (settled line : ℕ) (lines : List ℕ) → settled ≤ length lines → settled ≤ length (lines ++ line ∷ [])
more_settled settled line lines within =
    let e : length (lines ++ line ∷ []) ≡ length lines + 1 = length-append lines (line ∷ []) in
    omega arith
