-- What holds of each element of a list, as the list changes.
use Rattle.std.proofs.Common.{◌≡◌, ℕ, zero, suc, ◌+◌, ◌-◌, ◌≤◌, List, [], ◌∷◌, ◌++◌, length, map, refl, ap, ◌∙◌, sym, subst, arith, append_assoc, length-append, Bool, true, false, cond, Some, None}
use Rattle.std.specs.Prelude.{slice_set, filter}
use Rattle.std.specs.List.{AllByRecursion, slice_get}

pub each_more : {A : Type 0} (P Q : A → Type 0) (xs : List A) → ((x : A) → P x → Q x) → AllByRecursion P xs → AllByRecursion Q xs
each_more P Q [] more each = tt
each_more P Q (x ∷ xs) more each = (more x each.0, each_more P Q xs more each.1)

pub each_append : {A : Type 0} (P : A → Type 0) (xs ys : List A) → AllByRecursion P xs → AllByRecursion P ys → AllByRecursion P (xs ++ ys)
each_append P [] ys each rest = rest
each_append P (x ∷ xs) ys each rest = (each.0, each_append P xs ys each.1 rest)

pub each_first : {A : Type 0} (P : A → Type 0) (xs ys : List A) → AllByRecursion P (xs ++ ys) → AllByRecursion P xs
each_first P [] ys each = tt
each_first P (x ∷ xs) ys each = (each.0, each_first P xs ys each.1)

pub each_rest : {A : Type 0} (P : A → Type 0) (xs ys : List A) → AllByRecursion P (xs ++ ys) → AllByRecursion P ys
each_rest P [] ys each = each
each_rest P (x ∷ xs) ys each = each_rest P xs ys each.1

pub each_both : {A : Type 0} (P Q S : A → Type 0) (xs : List A) → ((x : A) → P x → Q x → S x) → AllByRecursion P xs → AllByRecursion Q xs → AllByRecursion S xs
each_both P Q S [] more one other = tt
each_both P Q S (x ∷ xs) more one other = (more x one.0 other.0, each_both P Q S xs more one.1 other.1)

pub each_at : {A : Type 0} (P : A → Type 0) (xs : List A) (i : ℕ) (x : A) → AllByRecursion P xs → slice_get xs i ≡ Some x → P x
each_at P [] i x each found = absurd (cc)
each_at P (y ∷ xs) zero x each found =
    let same : y ≡ x = cc in
    subst P same each.0
each_at P (y ∷ xs) (suc i) x each found = each_at P xs i x each.1 found

pub each_set : {A : Type 0} (P : A → Type 0) (xs : List A) (i : ℕ) (x : A) → AllByRecursion P xs → P x → AllByRecursion P (slice_set xs i x)
each_set P [] i x each holds = tt
each_set P (y ∷ xs) zero x each holds = (holds, each.1)
each_set P (y ∷ xs) (suc i) x each holds = (each.0, each_set P xs i x each.1 holds)

each_kept : {A : Type 0} (P : A → Type 0) (x : A) (xs : List A) (keeps : Bool) → P x → AllByRecursion P xs → AllByRecursion P (cond keeps (x ∷ xs) xs)
each_kept P x xs true holds each = (holds, each)
each_kept P x xs false holds each = each

pub each_filtered : {A : Type 0} (P : A → Type 0) (test : A → Bool) (xs : List A) → AllByRecursion P xs → AllByRecursion P (filter test xs)
each_filtered P test [] each = tt
each_filtered P test (x ∷ xs) each = each_kept P x (filter test xs) (test x) each.0 (each_filtered P test xs each.1)

pub each_map : {A B : Type 0} (f : A → B) (P : B → Type 0) (xs : List A) → AllByRecursion (λ x. P (f x)) xs → AllByRecursion P (map f xs)
each_map f P [] each = tt
each_map f P (x ∷ xs) each = (each.0, each_map f P xs each.1)

pub each_always : {A : Type 0} (P : A → Type 0) (xs : List A) → ((x : A) → P x) → AllByRecursion P xs
each_always P [] always = tt
each_always P (x ∷ xs) always = (always x, each_always P xs always)

-- a function that is the same of the new element is the same of the whole list
pub map_set_same : {A B : Type 0} (f : A → B) (xs : List A) (i : ℕ) (old new : A) → slice_get xs i ≡ Some old → f new ≡ f old → map f (slice_set xs i new) ≡ map f xs
map_set_same f [] i old new found same = refl
map_set_same f (x ∷ xs) zero old new found same =
    let is : x ≡ old = cc in
    let at : f x ≡ f old = ap f is in
    cc
map_set_same f (x ∷ xs) (suc i) old new found same = ap (λ ys. f x ∷ ys) (map_set_same f xs i old new found same)

pub map_back : {A B : Type 0} (f : A → B) (g : B → A) (xs : List A) → ((x : A) → g (f x) ≡ x) → map g (map f xs) ≡ xs
map_back f g [] back = refl
map_back f g (x ∷ xs) back =
    let head = back x in
    let rest = map_back f g xs back in
    cc

pub map_after : {A B C : Type 0} (f : A → B) (g : B → C) (h : A → C) (xs : List A) → ((x : A) → g (f x) ≡ h x) → map g (map f xs) ≡ map h xs
map_after f g h [] same = refl
map_after f g h (x ∷ xs) same =
    let head = same x in
    let rest = map_after f g h xs same in
    cc

pub slice_get_none : {A : Type 0} (xs : List A) (i : ℕ) → slice_get xs i ≡ None → length xs ≤ i
slice_get_none [] i none = omega arith
slice_get_none (x ∷ xs) zero none = absurd (cc)
slice_get_none (x ∷ xs) (suc i) none = omega (arith, slice_get_none xs i none)

-- the element after a prefix of a list
pub slice_get_after : {A : Type 0} (front : List A) (x : A) (rest : List A) → slice_get (front ++ x ∷ rest) (length front) ≡ Some x
slice_get_after [] x rest = refl
slice_get_after (y ∷ front) x rest = slice_get_after front x rest

-- the last elements of a list, of which the first has this number
pub record LastFrom {A : Type 0} (whole : List A) (number : ℕ) (last : List A) : Type 0 where
  pub front : List A
  pub counted : length front + 1 ≡ number
  pub all : whole ≡ front ++ last

pub last_all : {A : Type 0} (whole : List A) → LastFrom whole 1 whole
last_all whole = record { front = []; counted = omega arith; all = refl }

pub last_first : {A : Type 0} (whole : List A) (number : ℕ) (x : A) (xs : List A) → LastFrom whole number (x ∷ xs) → slice_get whole (number - 1) ≡ Some x
last_first {A} whole number x xs last =
    let at : number - 1 ≡ length last.front = omega (arith, last.counted) in
    ap (λ n. slice_get whole n) at ∙ ap (λ (ys : List A). slice_get ys (length last.front)) last.all ∙ slice_get_after last.front x xs

pub last_more : {A : Type 0} (whole : List A) (number : ℕ) (x : A) (xs : List A) → LastFrom whole number (x ∷ xs) → LastFrom whole (number + 1) xs
last_more whole number x xs last = record {
  front = last.front ++ x ∷ [];
  counted = omega (arith, length-append last.front (x ∷ []), last.counted);
  all = last.all ∙ sym (append_assoc last.front (x ∷ []) xs);
}
