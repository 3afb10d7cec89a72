-- What holds of each of a list.
use Rattle.std.proofs.Common.{◌≡◌, ℕ, zero, suc, List, [], ◌∷◌, ◌++◌, Some, map, refl, ap, subst}
use Rattle.std.specs.Prelude.{slice_set}
use Rattle.std.specs.List.{AllByRecursion, slice_get}

pub each_joined : {A : Type 0} (P : A → Type 0) (xs ys : List A) → AllByRecursion P xs → AllByRecursion P ys → AllByRecursion P (xs ++ ys)
each_joined P [] ys xs_are ys_are = ys_are
each_joined P (x ∷ xs) ys xs_are ys_are = (xs_are.0, each_joined P xs ys xs_are.1 ys_are)

pub each_mapped : {A B : Type 0} (Q : B → Type 0) (f : A → B) (xs : List A) → ((x : A) → Q (f x)) → AllByRecursion Q (map f xs)
each_mapped Q f [] is = tt
each_mapped Q f (x ∷ xs) is = (is x, each_mapped Q f xs is)

pub each_is : {A : Type 0} (P Q : A → Type 0) (xs : List A) → ((x : A) → P x → Q x) → AllByRecursion P xs → AllByRecursion Q xs
each_is P Q [] is are = tt
each_is P Q (x ∷ xs) is are = (is x are.0, each_is P Q xs is are.1)

pub each_at : {A : Type 0} (P : A → Type 0) (xs : List A) (place : ℕ) (x : A) → AllByRecursion P xs → slice_get xs place ≡ Some x → P x
each_at P [] place x are found = absurd (cc)
each_at P (y ∷ xs) zero x are found =
    let same : y ≡ x = cc in
    subst P same are.0
each_at P (y ∷ xs) (suc place) x are found = each_at P xs place x are.1 found

pub each_set : {A : Type 0} (P : A → Type 0) (xs : List A) (place : ℕ) (x : A) → P x → AllByRecursion P xs → AllByRecursion P (slice_set xs place x)
each_set P [] place x is are = tt
each_set P (y ∷ xs) zero x is are = (is, are.1)
each_set P (y ∷ xs) (suc place) x is are = (are.0, each_set P xs place x is are.1)

-- a function that is the same of the new element is the same of the whole list
pub map_set : {A B : Type 0} (f : A → B) (xs : List A) (place : ℕ) (old new : A) → slice_get xs place ≡ Some old → f new ≡ f old → map f (slice_set xs place new) ≡ map f xs
map_set f [] place old new found same = refl
map_set f (x ∷ xs) zero old new found same =
    let is : x ≡ old = cc in
    let at : f x ≡ f old = ap f is in
    cc
map_set f (x ∷ xs) (suc place) old new found same = ap (λ ys. f x ∷ ys) (map_set f xs place old new found same)
