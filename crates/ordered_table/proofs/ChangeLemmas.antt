-- What a change of one page is to the rows of all.
use Rattle.std.proofs.Common.{◌≡◌, ◌∙◌, ◌≤◌, ◌<◌, ℕ, Some, None, List, [], length, take, ap, sym, subst, arith}
use Rattle.std.specs.Prelude.{slice_index_or, slice_set}
use Rattle.std.specs.List.{insert, remove}
use Rattle.std.proofs.lemmas.List.{get_or_read, length-set, set-get_or}
use Rattle.row_types.specs.declared.values.Value.{Value}
use Rattle.row_types.specs.KeyRows.{AreOrdered, row_at, put_row, without_key}
use Rattle.ordered_table.specs.Places.{IsTakenAt, IsFreeAt}
use Rattle.ordered_table.specs.Pages.{flat, ArePages}
use Rattle.ordered_table.specs.PageOf.{IsPageOf}
use Rattle.ordered_table.proofs.PageOfLemmas.{row_at_page, put_row_page, without_key_page}
use Rattle.ordered_table.proofs.SearchLemmas.{page_ordered}
use Rattle.ordered_table.proofs.SizeLemmas.{set_are, page_most}

-- the page's row of this number has the key
pub record IsTakenIn (key_len : ℕ) (key : List Value) (pages : List (List (List Value))) (n index : ℕ) : Type 0 where
  pub page : n < length pages
  pub within : index < length (slice_index_or pages n [])
  pub row : (default : List Value) → row_at key_len key (flat pages) ≡ Some (slice_index_or (slice_index_or pages n []) index default)
  pub put : (row : List Value) → take key_len row ≡ key → put_row key_len row (flat pages) ≡ flat (slice_set pages n (slice_set (slice_index_or pages n []) index row))
  pub removed : without_key key_len key (flat pages) ≡ flat (slice_set pages n (remove (slice_index_or pages n []) index))

-- no row has the key, and one that had it would go into this page in before the row of this number
pub record IsFreeIn (key_len : ℕ) (key : List Value) (pages : List (List (List Value))) (n index : ℕ) : Type 0 where
  pub page : n < length pages
  pub within : index ≤ length (slice_index_or pages n [])
  pub row : row_at key_len key (flat pages) ≡ None
  pub put : (row : List Value) → take key_len row ≡ key → put_row key_len row (flat pages) ≡ flat (slice_set pages n (insert (slice_index_or pages n []) index row))
  pub removed : without_key key_len key (flat pages) ≡ flat pages

pub page_read : (n : ℕ) (pages slice : List (List (List Value))) (page : List (List Value)) → slice ≡ pages → n < length pages → page ≡ slice_index_or slice n page
    → page ≡ slice_index_or pages n []
page_read n pages slice page same within is =
    get_or_read pages n page within (subst (λ (ps : List (List (List Value))). page ≡ slice_index_or ps n page) same is) []

of_is : (key_len : ℕ) (key k : List Value) (n : ℕ) (pages slice : List (List (List Value))) → k ≡ key → slice ≡ pages → IsPageOf key_len k slice n → IsPageOf key_len key pages n
of_is key_len key k n pages slice key_is same of =
    subst (λ (x : List Value). IsPageOf key_len x pages n) key_is (subst (λ (ps : List (List (List Value))). IsPageOf key_len k ps n) same of)

pub taken_in : (key_len : ℕ) (key k1 k2 : List Value) (n index : ℕ) (pages s1 s2 : List (List (List Value))) (page rows : List (List Value))
    → k1 ≡ key → k2 ≡ key → s1 ≡ pages → s2 ≡ pages → rows ≡ page → page ≡ slice_index_or s2 n page
    → IsPageOf key_len k1 s1 n → IsTakenAt key_len k2 rows index → IsTakenIn key_len key pages n index
taken_in key_len key k1 k2 n index pages s1 s2 page rows is1 is2 same1 same2 rows_is read of0 taken0 =
    let of : IsPageOf key_len key pages n = of_is key_len key k1 n pages s1 is1 same1 of0 in
    let here : rows ≡ slice_index_or pages n [] = rows_is ∙ page_read n pages s2 page same2 of.within read in
    let taken : IsTakenAt key_len key (slice_index_or pages n []) index =
    subst (λ (x : List Value). IsTakenAt key_len x (slice_index_or pages n []) index) is2 (subst (λ (rs : List (List Value)). IsTakenAt key_len k2 rs index) here taken0) in
    record {
      page = of.within;
      within = taken.within;
      row = λ default. row_at_page key_len key n pages of ∙ taken.row default;
      put = λ row e. put_row_page key_len row n pages (subst (λ (x : List Value). IsPageOf key_len x pages n) (sym e) of)
          ∙ ap (λ (rs : List (List Value)). flat (slice_set pages n rs)) (taken.put row e);
      removed = without_key_page key_len key n pages of ∙ ap (λ (rs : List (List Value)). flat (slice_set pages n rs)) taken.removed;
    }

pub free_in : (key_len : ℕ) (key k1 k2 : List Value) (n index : ℕ) (pages s1 s2 : List (List (List Value))) (page rows : List (List Value))
    → k1 ≡ key → k2 ≡ key → s1 ≡ pages → s2 ≡ pages → rows ≡ page → page ≡ slice_index_or s2 n page
    → IsPageOf key_len k1 s1 n → IsFreeAt key_len k2 rows index → IsFreeIn key_len key pages n index
free_in key_len key k1 k2 n index pages s1 s2 page rows is1 is2 same1 same2 rows_is read of0 free0 =
    let of : IsPageOf key_len key pages n = of_is key_len key k1 n pages s1 is1 same1 of0 in
    let here : rows ≡ slice_index_or pages n [] = rows_is ∙ page_read n pages s2 page same2 of.within read in
    let free : IsFreeAt key_len key (slice_index_or pages n []) index =
    subst (λ (x : List Value). IsFreeAt key_len x (slice_index_or pages n []) index) is2 (subst (λ (rs : List (List Value)). IsFreeAt key_len k2 rs index) here free0) in
    record {
      page = of.within;
      within = free.within;
      row = row_at_page key_len key n pages of ∙ free.row;
      put = λ row e. put_row_page key_len row n pages (subst (λ (x : List Value). IsPageOf key_len x pages n) (sym e) of)
          ∙ ap (λ (rs : List (List Value)). flat (slice_set pages n rs)) (free.put row e);
      removed = without_key_page key_len key n pages of ∙ ap (λ (rs : List (List Value)). flat (slice_set pages n rs)) free.removed
          ∙ ap (λ (ps : List (List (List Value))). flat ps) (set-get_or pages n []);
    }

-- a page that was read rises by key
pub read_ordered : (key_len n : ℕ) (pages slice : List (List (List Value))) (page rows : List (List Value)) → AreOrdered key_len (flat pages) → slice ≡ pages → n < length pages
    → rows ≡ page → page ≡ slice_index_or slice n page → AreOrdered key_len rows
read_ordered key_len n pages slice page rows ordered same within rows_is read =
    subst (AreOrdered key_len) (sym (rows_is ∙ page_read n pages slice page same within read)) (page_ordered key_len n pages ordered)

-- exchanging a row keeps the sizes
pub exchanged_are : (n index : ℕ) (row : List Value) (pages : List (List (List Value))) → ArePages 64 pages → n < length pages
    → ArePages 64 (slice_set pages n (slice_set (slice_index_or pages n []) index row))
exchanged_are n index row pages are within =
    let l : length (slice_set (slice_index_or pages n []) index row) ≡ length (slice_index_or pages n []) = length-set (slice_index_or pages n []) index row in
    let m : length (slice_index_or pages n []) ≤ 64 = page_most n 64 pages are within in
    set_are n 64 (slice_set (slice_index_or pages n []) index row) pages are within (omega arith) (omega arith)
