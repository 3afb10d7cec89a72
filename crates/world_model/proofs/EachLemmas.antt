-- What holds of each element of a list, and a list with one element set.
use Rattle.std.proofs.Common.{◌≡◌, ◌∙◌, ℕ, zero, suc, List, [], ◌∷◌, refl, ap, subst, Some}
use Rattle.std.specs.Prelude.{slice_set}
use Rattle.std.specs.List.{AllByRecursion, slice_get}

pub each_at : {A : Type 0} (P : A → Type 0) (xs : List A) (i : ℕ) (x : A) → AllByRecursion P xs → slice_get xs i ≡ Some x → P x
each_at P [] i x each found = absurd (cc)
each_at P (y ∷ xs) zero x each found =
    let same : y ≡ x = cc in
    subst P same each.0
each_at P (y ∷ xs) (suc i) x each found = each_at P xs i x each.1 found

pub each_set : {A : Type 0} (P : A → Type 0) (xs : List A) (i : ℕ) (x : A) → AllByRecursion P xs → P x → AllByRecursion P (slice_set xs i x)
each_set P [] i x each holds = tt
each_set P (y ∷ xs) zero x each holds = (holds, each.1)
each_set P (y ∷ xs) (suc i) x each holds = (each.0, each_set P xs i x each.1 holds)

pub each_more : {A : Type 0} (P Q : A → Type 0) (xs : List A) → ((x : A) → P x → Q x) → AllByRecursion P xs → AllByRecursion Q xs
each_more P Q [] more each = tt
each_more P Q (x ∷ xs) more each = (more x each.0, each_more P Q xs more each.1)

-- the element that stands there is set
pub set_same : {A : Type 0} (xs : List A) (i : ℕ) (x : A) → slice_get xs i ≡ Some x → slice_set xs i x ≡ xs
set_same [] i x found = refl
set_same (y ∷ xs) zero x found =
    let same : y ≡ x = cc in
    ap (λ z. z ∷ xs) (let back : x ≡ y = cc in back)
set_same (y ∷ xs) (suc i) x found = ap (λ zs. y ∷ zs) (set_same xs i x found)

pub both : {A B C : Type 0} (f : A → B → C) (a c : A) (b d : B) → a ≡ c → b ≡ d → f a b ≡ f c d
both f a c b d one other = ap (λ x. f x b) one ∙ ap (λ y. f c y) other
