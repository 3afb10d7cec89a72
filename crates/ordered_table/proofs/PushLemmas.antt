-- A row after all others: in the last page, or in a page of its own where that one is full.
use Rattle.std.proofs.Common.{◌≡◌, ◌∙◌, ℕ, zero, suc, ◌+◌, ◌<◌, ◌≤◌, List, [], ◌∷◌, ◌++◌, length, refl, ap, sym, subst, append_assoc, append-nil, arith}
use Rattle.std.specs.Prelude.{slice_index_or, slice_set}
use Rattle.std.specs.List.{insert}
use Rattle.std.proofs.lemmas.List.{get_or_read}
use Rattle.std.proofs.lemmas.List.Edits.{length-insert, insert_end}
use Rattle.ordered_table.specs.Pages.{flat, ArePages, IsLastFull}
use Rattle.ordered_table.proofs.SizeLemmas.{set_are}

-- a row at the end of the last page is one after all others
pub push_flat : {X : Type 0} (n len : ℕ) (row : X) (pages : List (List X)) → suc n ≡ length pages → len ≡ length (slice_index_or pages n [])
    → flat (slice_set pages n (insert (slice_index_or pages n []) len row)) ≡ flat pages ++ row ∷ []
push_flat n len row [] last end = absurd (omega arith)
push_flat zero len row (page ∷ []) last end =
    append-nil (insert page len row) ∙ ap (λ k. insert page k row) end ∙ insert_end page row
    ∙ ap (λ (rows : List _). rows ++ row ∷ []) (sym (append-nil page))
push_flat zero len row (page ∷ next ∷ pages) last end = absurd (omega arith)
push_flat (suc n) len row (page ∷ pages) last end =
    ap (λ (rows : List _). page ++ rows) (push_flat n len row pages (omega arith) end)
    ∙ sym (append_assoc page (flat pages) (row ∷ []))

pub push_are : {X : Type 0} (n len : ℕ) (row : X) (pages : List (List X)) → ArePages 64 pages → suc n ≡ length pages → len ≡ length (slice_index_or pages n []) → len < 64
    → ArePages 64 (slice_set pages n (insert (slice_index_or pages n []) len row))
push_are n len row pages are last end room =
    let more : length (insert (slice_index_or pages n []) len row) ≡ length (slice_index_or pages n []) + 1 =
    length-insert (slice_index_or pages n []) len row (omega arith) in
    set_are n 64 (insert (slice_index_or pages n []) len row) pages are (omega arith) (omega arith) (omega arith)

-- a page of one row after all others
pub page_flat : {X : Type 0} (row : X) (pages : List (List X)) → flat (pages ++ (row ∷ []) ∷ []) ≡ flat pages ++ row ∷ []
page_flat row [] = refl
page_flat row (page ∷ pages) =
    ap (λ (rows : List _). page ++ rows) (page_flat row pages)
    ∙ sym (append_assoc page (flat pages) (row ∷ []))

page_are_behind : {X : Type 0} (before : ℕ) (row : X) (page : List X) (pages : List (List X)) → ArePages before (page ∷ pages) → IsLastFull (page ∷ pages)
    → ArePages before (page ∷ (pages ++ (row ∷ []) ∷ []))
page_are_behind before row page [] are full =
    let e : length page ≡ 64 = full in
    (are.0, are.1, (omega arith, omega arith, tt))
page_are_behind before row page (next ∷ pages) are full =
    (are.0, are.1, page_are_behind (length page) row next pages are.2 full)

pub page_are : {X : Type 0} (row : X) (pages : List (List X)) → ArePages 64 pages → IsLastFull pages → ArePages 64 (pages ++ (row ∷ []) ∷ [])
page_are row [] are full = (omega arith, omega arith, tt)
page_are row (page ∷ pages) are full = page_are_behind 64 row page pages are full

pub none_full : {X : Type 0} (pages : List (List X)) → length pages ≡ 0 → IsLastFull pages
none_full [] none = tt
none_full (page ∷ pages) none = absurd (omega arith)

-- the last page as it was read
pub read_full : {X : Type 0} (n : ℕ) (page : List X) (pages : List (List X)) → ArePages 64 pages → suc n ≡ length pages → page ≡ slice_index_or pages n page → 64 ≤ length page
    → IsLastFull pages
read_full n page pages are last read full = last_full n 64 pages are last (subst (λ (p : List _). 64 ≤ length p) (get_or_read pages n page (omega arith) read []) full)
  where
    last_full : {X : Type 0} (n before : ℕ) (pages : List (List X)) → ArePages before pages → suc n ≡ length pages → 64 ≤ length (slice_index_or pages n []) → IsLastFull pages
    last_full n before [] are last full = tt
    last_full zero before (page ∷ []) are last full = let most : length page ≤ 64 = are.1 in omega arith
    last_full zero before (page ∷ next ∷ pages) are last full = absurd (omega arith)
    last_full (suc n) before (page ∷ []) are last full = absurd (omega arith)
    last_full (suc n) before (page ∷ next ∷ pages) are last full = last_full n (length page) (next ∷ pages) are.2 (omega arith) full
