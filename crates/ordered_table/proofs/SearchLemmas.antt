-- Binary search in the first keys finds the page of a key.
use Rattle.std.proofs.Common.{◌≡◌, ℕ, zero, suc, ◌+◌, ◌-◌, ◌<◌, ◌≤◌, true, false, not, List, [], ◌∷◌, ◌++◌, length, take, ◌∙◌, refl, ap, sym, subst, arith}
use Rattle.std.specs.Prelude.{slice_index_or}
use Rattle.std.specs.List.{AllByRecursion}
use Rattle.std.specs.List.Sorted.{IsPartitionedBy, IsPartitionPoint}
use Rattle.std.proofs.lemmas.List.{get_or_default}
use Rattle.std.specs.Ordering.{is_lt}
use Rattle.std.specs.declared.cmp.Ordering.{Ordering}
use Rattle.std.specs.declared.cmp.Ordering.TheVariants.{Less, Equal, Greater}
use Rattle.row_types.specs.declared.values.Value.{Value}
use Rattle.row_types.specs.Order.{key_cmp}
use Rattle.row_types.proofs.OrderLemmas.{key_below, key_turns, key_turns_back, keys_exact}
use Rattle.row_types.specs.KeyRows.{AreOrdered, IsBelowAll}
use Rattle.ordered_table.specs.Places.{is_past, key_at, IsCut}
use Rattle.ordered_table.proofs.CutLemmas.{cut_rest, not_past_parted, cut_at_point}
use Rattle.ordered_table.specs.Pages.{flat, ArePages}
use Rattle.ordered_table.specs.PageOf.{firsts, IsAboveAll, IsUnderAll, IsPageOf}
use Rattle.ordered_table.proofs.SizeLemmas.{behind_fuller}

pub all_right : (P : List Value → Type 0) (xs ys : List (List Value)) → AllByRecursion P (xs ++ ys) → AllByRecursion P ys
all_right P [] ys all = all
all_right P (x ∷ xs) ys all = all_right P xs ys all.1

all_left : (P : List Value → Type 0) (xs ys : List (List Value)) → AllByRecursion P (xs ++ ys) → AllByRecursion P xs
all_left P [] ys all = tt
all_left P (x ∷ xs) ys all = (all.0, all_left P xs ys all.1)

all_both : (P : List Value → Type 0) (xs ys : List (List Value)) → AllByRecursion P xs → AllByRecursion P ys → AllByRecursion P (xs ++ ys)
all_both P [] ys left right = right
all_both P (x ∷ xs) ys left right = (left.0, all_both P xs ys left.1 right)

pub ordered_right : (key_len : ℕ) (xs ys : List (List Value)) → AreOrdered key_len (xs ++ ys) → AreOrdered key_len ys
ordered_right key_len [] ys ordered = ordered
ordered_right key_len (x ∷ xs) ys ordered = ordered_right key_len xs ys ordered.2

pub ordered_left : (key_len : ℕ) (xs ys : List (List Value)) → AreOrdered key_len (xs ++ ys) → AreOrdered key_len xs
ordered_left key_len [] ys ordered = tt
ordered_left key_len (x ∷ xs) ys ordered =
    (ordered.0, all_left (λ (other : List Value). key_cmp (take key_len x) (take key_len other) ≡ Less) xs ys ordered.1, ordered_left key_len xs ys ordered.2)

-- each page rises by key
pub page_ordered : (key_len n : ℕ) (pages : List (List (List Value))) → AreOrdered key_len (flat pages) → AreOrdered key_len (slice_index_or pages n [])
page_ordered key_len n [] ordered = tt
page_ordered key_len zero (page ∷ pages) ordered = ordered_left key_len page (flat pages) ordered
page_ordered key_len (suc n) (page ∷ pages) ordered = page_ordered key_len n pages (ordered_right key_len page (flat pages) ordered)

less_is : (o : Ordering) → is_lt o ≡ true → o ≡ Less
less_is Less e = refl
less_is Equal e = cc
less_is Greater e = cc

under_all : (key_len : ℕ) (key low : List Value) (rows : List (List Value)) → key_cmp key (take key_len low) ≡ Less → IsBelowAll key_len low rows → IsUnderAll key_len key rows
under_all key_len key low [] less all = tt
under_all key_len key low (row ∷ rows) less all =
    (key_below key (take key_len low) (take key_len row) less all.0, under_all key_len key low rows less all.1)

-- a key below the first row is below all
under_pages : (key_len : ℕ) (key : List Value) (pages : List (List (List Value))) → AreOrdered key_len (flat pages) → ArePages 64 pages
    → (1 ≤ length pages → is_past true key (key_at key_len (firsts pages) 0) ≡ true) → IsUnderAll key_len key (flat pages)
under_pages key_len key [] ordered are past = tt
under_pages key_len key ([] ∷ pages) ordered are past = let a : 64 < 64 + 0 = are.0 in absurd (omega arith)
under_pages key_len key ((row ∷ rows) ∷ pages) ordered are past =
    let less : key_cmp key (take key_len row) ≡ Less = less_is (key_cmp key (take key_len row)) (past (omega arith)) in
    (less, under_all key_len key row (rows ++ flat pages) less ordered.1)

above_row_at : (key : List Value) (low middle : List Value) (o : Ordering) → key_cmp key middle ≡ o → is_lt o ≡ false → key_cmp low middle ≡ Less → key_cmp key low ≡ Greater
above_row_at key low middle Less is past below = cc
above_row_at key low middle Equal is past below =
    key_turns low key (subst (λ (k : List Value). key_cmp low k ≡ Less) (sym (keys_exact key middle is)) below)
above_row_at key low middle Greater is past below =
    key_turns low key (key_below low middle key below (key_turns_back key middle is))

-- a key that is not below the next page's first row is above a page's rows
above_page : (key_len : ℕ) (key next : List Value) (page rest : List (List Value)) → AreOrdered key_len (page ++ next ∷ rest)
    → is_past true key (take key_len next) ≡ false → IsAboveAll key_len key page
above_page key_len key next [] rest ordered past = tt
above_page key_len key next (row ∷ page) rest ordered past =
    let below : IsBelowAll key_len row (next ∷ rest) = all_right (λ (other : List Value). key_cmp (take key_len row) (take key_len other) ≡ Less) page (next ∷ rest) ordered.1 in
    (above_row_at key (take key_len row) (take key_len next) (key_cmp key (take key_len next)) refl past below.0, above_page key_len key next page rest ordered.2 past)

above_first : (key_len : ℕ) (key : List Value) (page : List (List Value)) (pages : List (List (List Value))) → AreOrdered key_len (page ++ flat pages) → ArePages 64 pages → 1 ≤ length pages
    → is_past true key (key_at key_len (firsts pages) 0) ≡ false → IsAboveAll key_len key page
above_first key_len key page [] ordered are some past = absurd (omega arith)
above_first key_len key page ([] ∷ pages) ordered are some past = let a : 64 < 64 + 0 = are.0 in absurd (omega arith)
above_first key_len key page ((row ∷ rows) ∷ pages) ordered are some past = above_page key_len key row page (rows ++ flat pages) ordered past

rest_are : (page : List (List Value)) (pages : List (List (List Value))) → ArePages 64 (page ∷ pages) → ArePages 64 pages
rest_are page pages are = behind_fuller pages (length page) 64 are.1 are.2

-- where no first key is at or below the key, its page is the first
pub page_first : (key_len : ℕ) (key : List Value) (pages : List (List (List Value))) → AreOrdered key_len (flat pages) → ArePages 64 pages → 1 ≤ length pages
    → IsCut key_len (is_past true key) (firsts pages) 0 → IsPageOf key_len key pages 0
page_first key_len key [] ordered are some cut = absurd (omega arith)
page_first key_len key (page ∷ pages) ordered are some cut = record {
  within = omega arith;
  before = tt;
  behind = all_right (λ (row : List Value). key_cmp key (take key_len row) ≡ Less) page (flat pages)
      (under_pages key_len key (page ∷ pages) ordered are (λ h. cut.behind 0 (omega arith) (omega arith)));
}

pub length_firsts : (pages : List (List (List Value))) → length (firsts pages) ≡ length pages
length_firsts [] = refl
length_firsts (page ∷ pages) = ap suc (length_firsts pages)

-- otherwise it is the last one whose first key is at or below it
pub page_last : (key_len : ℕ) (key : List Value) (n : ℕ) (pages : List (List (List Value))) → AreOrdered key_len (flat pages) → ArePages 64 pages
    → IsCut key_len (is_past true key) (firsts pages) (suc n) → IsPageOf key_len key pages n
page_last key_len key n [] ordered are cut = let w : suc n ≤ 0 = cut.within in absurd (omega arith)
page_last key_len key zero (page ∷ pages) ordered are cut = record {
  within = omega arith;
  before = tt;
  behind = under_pages key_len key pages (ordered_right key_len page (flat pages) ordered) (rest_are page pages are)
      (λ h. let l : length (firsts pages) ≡ length pages = length_firsts pages in cut.behind 1 (omega arith) (omega arith));
}
page_last key_len key (suc n) (page ∷ pages) ordered are cut =
    let w : suc (suc n) ≤ suc (length (firsts pages)) = cut.within in
    let l : length (firsts pages) ≡ length pages = length_firsts pages in
    let rest : IsPageOf key_len key pages n =
    page_last key_len key n pages (ordered_right key_len page (flat pages) ordered) (rest_are page pages are)
    (cut_rest key_len (is_past true key) (slice_index_or page 0 []) (firsts pages) (suc n) cut) in
    let v : n < length pages = rest.within in
    record {
      within = omega arith;
      before = all_both (λ (row : List Value). key_cmp key (take key_len row) ≡ Greater) page (flat (take n pages))
          (above_first key_len key page pages ordered (rest_are page pages are) (omega arith) (cut.before 1 (omega arith))) rest.before;
      behind = rest.behind;
    }

-- the page before the first one whose first key is above the key, if there is one before it
pub page_found : (key_len : ℕ) (key : List Value) (cut : ℕ) (pages : List (List (List Value))) → AreOrdered key_len (flat pages) → ArePages 64 pages → 1 ≤ length pages
    → IsCut key_len (is_past true key) (firsts pages) cut → IsPageOf key_len key pages (cut - 1)
page_found key_len key zero pages ordered are some cut = page_first key_len key pages ordered are some cut
page_found key_len key (suc n) pages ordered are some cut = subst (IsPageOf key_len key pages) (omega arith) (page_last key_len key n pages ordered are cut)

-- the first rows rise by key
below_firsts : (key_len : ℕ) (low : List Value) (pages : List (List (List Value))) → ArePages 64 pages → IsBelowAll key_len low (flat pages) → IsBelowAll key_len low (firsts pages)
below_firsts key_len low [] are below = tt
below_firsts key_len low ([] ∷ pages) are below = let a : 64 < 64 + 0 = are.0 in absurd (omega arith)
below_firsts key_len low ((row ∷ rows) ∷ pages) are below = (
  below.0,
  below_firsts key_len low pages (rest_are (row ∷ rows) pages are)
      (all_right (λ (other : List Value). key_cmp (take key_len low) (take key_len other) ≡ Less) rows (flat pages) below.1),
)

pub firsts_ordered : (key_len : ℕ) (pages : List (List (List Value))) → AreOrdered key_len (flat pages) → ArePages 64 pages → AreOrdered key_len (firsts pages)
firsts_ordered key_len [] ordered are = tt
firsts_ordered key_len ([] ∷ pages) ordered are = let a : 64 < 64 + 0 = are.0 in absurd (omega arith)
firsts_ordered key_len ((row ∷ rows) ∷ pages) ordered are = (
  ordered.0,
  below_firsts key_len row pages (rest_are (row ∷ rows) pages are)
      (all_right (λ (other : List Value). key_cmp (take key_len row) (take key_len other) ≡ Less) rows (flat pages) ordered.1),
  firsts_ordered key_len pages (ordered_right key_len (row ∷ rows) (flat pages) ordered) (rest_are (row ∷ rows) pages are),
)

-- a page has a row
pub page_some : (n : ℕ) (pages : List (List (List Value))) (page : List (List Value)) → ArePages 64 pages → n < length pages → page ≡ slice_index_or pages n page → 1 ≤ length page
page_some n [] page are within is = absurd (omega arith)
page_some zero (first ∷ pages) page are within is = let a : 64 < 64 + length first = are.0 in subst (λ (p : List (List Value)). 1 ≤ length p) (sym is) (omega arith)
page_some (suc n) (first ∷ pages) page are within is = page_some n pages page (rest_are first pages are) (omega arith) is

-- the first row of the page of a number
first_at : (n : ℕ) (pages : List (List (List Value))) (d : List (List Value)) → n < length pages → slice_index_or (firsts pages) n [] ≡ slice_index_or (slice_index_or pages n d) 0 []
first_at n [] d within = absurd (omega arith)
first_at zero (page ∷ pages) d within = refl
first_at (suc n) (page ∷ pages) d within = first_at n pages d (omega arith)

-- pages whose first keys are not past a key stand before those whose first keys are
pub pages_parted : (key_len : ℕ) (key : List Value) (pages : List (List (List Value))) → AreOrdered key_len (flat pages) → ArePages 64 pages
    → IsPartitionedBy (λ (page : List (List Value)). not (is_past true key (take key_len (slice_index_or page 0 [])))) pages
pages_parted key_len key pages ordered are i j d le within e =
    let l : length (firsts pages) ≡ length pages = length_firsts pages in
    ap (λ (row : List Value). not (is_past true key (take key_len row))) (sym (first_at i pages d (omega arith)))
    ∙ not_past_parted key_len true key (firsts pages) (firsts_ordered key_len pages ordered are) i j [] le (omega arith)
    (ap (λ (row : List Value). not (is_past true key (take key_len row))) (first_at j pages d within) ∙ e)

-- the place between them cuts the first rows
pub cut_at_page : (key_len : ℕ) (key : List Value) (pages : List (List (List Value))) (place : ℕ) → place ≤ length pages
    → IsPartitionPoint (λ (page : List (List Value)). not (is_past true key (take key_len (slice_index_or page 0 []))) ≡ true)
    (λ (page : List (List Value)). not (is_past true key (take key_len (slice_index_or page 0 []))) ≡ false) pages place
    → IsCut key_len (is_past true key) (firsts pages) place
cut_at_page key_len key pages place most point =
    let l : length (firsts pages) ≡ length pages = length_firsts pages in
    cut_at_point key_len true key (firsts pages) place (omega arith) (
      (λ k d w h. ap (λ (row : List Value). not (is_past true key (take key_len row))) (get_or_default (firsts pages) k d [] (omega arith) ∙ first_at k pages [] (omega arith))
          ∙ point.0 k [] (omega arith) h),
      (λ k d h w. ap (λ (row : List Value). not (is_past true key (take key_len row))) (get_or_default (firsts pages) k d [] w ∙ first_at k pages [] (omega arith))
          ∙ point.1 k [] h (omega arith)),
    )

-- no key is below the one of no row
pub not_below_none : (key_len : ℕ) (key : List Value) → false ≡ is_past true key (take key_len [])
not_below_none zero [] = refl
not_below_none zero (value ∷ values) = refl
not_below_none (suc n) [] = refl
not_below_none (suc n) (value ∷ values) = refl
