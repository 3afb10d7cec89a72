-- What holds of each holds of the one at a place.
use Rattle.std.proofs.Common.{◌≡◌, ℕ, zero, suc, List, [], ◌∷◌, Some, subst}
use Rattle.std.specs.List.{AllByRecursion, slice_get}

pub each_at : {A : Type 0} (P : A → Type 0) (xs : List A) (i : ℕ) (x : A) → AllByRecursion P xs → slice_get xs i ≡ Some x → P x
each_at P [] i x each found = absurd (cc)
each_at P (y ∷ xs) zero x each found =
    let same : y ≡ x = cc in
    subst P same each.0
each_at P (y ∷ xs) (suc i) x each found = each_at P xs i x each.1 found
