-- Facts about each element of a list, and lists of keys.
use Rattle.std.proofs.Common.{◌≡◌, ◌≢◌, ◌⊎◌, ℕ, ℤ, Bool, true, false, cond, List, [], ◌∷◌, ◌++◌, map, refl, sym, inl, inr}
use Rattle.std.specs.Prelude.{filter}
use Rattle.std.specs.List.{AllByRecursion}
use Rattle.ptc_run.specs.FirstForm.{IsNotAmong, AreDistinct}

pub all_append : {X : Type 0} (P : X → Type 0) (xs ys : List X) → AllByRecursion P xs → AllByRecursion P ys → AllByRecursion P (xs ++ ys)
all_append P [] ys h k = k
all_append P (x ∷ xs) ys h k = (h.0, all_append P xs ys h.1 k)

pub all_front : {X : Type 0} (P : X → Type 0) (xs ys : List X) → AllByRecursion P (xs ++ ys) → AllByRecursion P xs
all_front P [] ys h = tt
all_front P (x ∷ xs) ys h = (h.0, all_front P xs ys h.1)

pub all_back : {X : Type 0} (P : X → Type 0) (xs ys : List X) → AllByRecursion P (xs ++ ys) → AllByRecursion P ys
all_back P [] ys h = h
all_back P (x ∷ xs) ys h = all_back P xs ys h.1

pub all_map : {X Y : Type 0} (P : Y → Type 0) (f : X → Y) (xs : List X) → AllByRecursion (λ (x : X). P (f x)) xs → AllByRecursion P (map f xs)
all_map P f [] h = tt
all_map P f (x ∷ xs) h = (h.0, all_map P f xs h.1)

pub all_weaker : {X : Type 0} (P Q : X → Type 0) → ((x : X) → P x → Q x) → (xs : List X) → AllByRecursion P xs → AllByRecursion Q xs
all_weaker P Q w [] h = tt
all_weaker P Q w (x ∷ xs) h = (w x h.0, all_weaker P Q w xs h.1)

all_cond : {X : Type 0} (P : X → Type 0) (b : Bool) (x : X) (xs : List X) → P x → AllByRecursion P xs → AllByRecursion P (cond b (x ∷ xs) xs)
all_cond P true x xs h k = (h, k)
all_cond P false x xs h k = k

pub all_filter : {X : Type 0} (P : X → Type 0) (test : X → Bool) (xs : List X) → AllByRecursion P xs → AllByRecursion P (filter test xs)
all_filter P test [] h = tt
all_filter P test (x ∷ xs) h = all_cond P (test x) x (filter test xs) h.0 (all_filter P test xs h.1)

-- ---- keys

pub distinct_push : (keys : List ℤ) (key : ℤ) → AreDistinct keys → IsNotAmong key keys → AreDistinct (keys ++ key ∷ [])
distinct_push [] key h n = (tt, tt)
distinct_push (k ∷ keys) key h n = (all_append (λ (other : ℤ). other ≢ k) keys (key ∷ []) h.0 ((λ e. n.0 (sym e)), tt), distinct_push keys key h.1 n.1)

pub distinct_last : (keys : List ℤ) (key : ℤ) → AreDistinct (keys ++ key ∷ []) → IsNotAmong key keys
distinct_last [] key h = tt
distinct_last (k ∷ keys) key h = let last = all_back (λ (other : ℤ). other ≢ k) keys (key ∷ []) h.0 in ((λ e. last.0 (sym e)), distinct_last keys key h.1)

pub distinct_front : (keys more : List ℤ) → AreDistinct (keys ++ more) → AreDistinct keys
distinct_front [] more h = tt
distinct_front (k ∷ keys) more h = (all_front (λ (other : ℤ). other ≢ k) keys more h.0, distinct_front keys more h.1)

-- ---- two readings of lines

-- the second list goes on where what stands behind the first one begins with an item's line
pub record Longer (X : Type 0) (line : X → List ℕ) (xs ys : List X) (left : List (List ℕ)) : Type 0 where
  pub item : X
  pub others : List X
  pub rest : List (List ℕ)
  pub longer : ys ≡ xs ++ item ∷ others
  pub is_line : left ≡ line item ∷ rest

pub items_match : {X : Type 0} (line : X → List ℕ) (P : X → Type 0) → ((x y : X) → P x → P y → line x ≡ line y → x ≡ y) → (xs ys : List X) (left right : List (List ℕ)) → AllByRecursion P xs → AllByRecursion P ys → ((x : X) (rest : List (List ℕ)) → P x → right ≡ line x ∷ rest → ⊥) → map line xs ++ left ≡ map line ys ++ right
    → ((ys ≡ xs) × (left ≡ right)) ⊎ Longer X line xs ys left
items_match line P once [] [] left right f g never e = inl (refl, e)
items_match line P once [] (y ∷ ys) left right f g never e = inr (record { item = y; others = ys; rest = map line ys ++ right; longer = refl; is_line = e })
items_match line P once (x ∷ xs) [] left right f g never e = absurd (never x (map line xs ++ left) f.0 (sym e))
items_match {X} line P once (x ∷ xs) (y ∷ ys) left right f g never e =
    let heads : line x ≡ line y = cc in
    let tails : map line xs ++ left ≡ map line ys ++ right = cc in
    let same : ◌≡◌ {A = X} y x = once y x g.0 f.0 (sym heads) in
    elim (items_match line P once xs ys left right f.1 g.1 never tails) [
      | inl h ↦ inl ((λ i. same i ∷ h.0 i), h.1)
      | inr h ↦ inr (record { item = h.item; others = h.others; rest = h.rest; longer = λ i. same i ∷ h.longer i; is_line = h.is_line })
    ]
