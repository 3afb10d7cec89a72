-- Rows past an edge, before it and in a span, in parts: the rest of a page, whole pages, a part of one more.
use Rattle.std.proofs.Common.{◌≡◌, ◌∙◌, ℕ, zero, suc, ◌+◌, ◌-◌, ◌^◌, ◌<◌, ◌≤◌, Bool, true, false, cond, None, List, [], ◌∷◌, ◌++◌, length, take, drop, refl, ap, sym, subst, append_assoc, append-nil, length-append, arith}
use Rattle.std.specs.Prelude.{slice_get, slice_index_or, filter}
use Rattle.std.specs.List.{AllByRecursion}
use Rattle.std.proofs.lemmas.List.{get_or_read, take_all, drop_all}
use Rattle.row_types.specs.declared.edges.Edge.{Edge}
use Rattle.row_types.specs.declared.edges.Edge.TheVariants.{Low, Before, After, High}
use Rattle.row_types.specs.declared.edges.Span.{Span}
use Rattle.row_types.specs.declared.values.Value.{Value}
use Rattle.row_types.specs.Order.{is_past_edge, is_before_edge}
use Rattle.row_types.specs.KeyRows.{Row, Rows, AreOrdered, rows_in, rows_past, rows_before}
use Rattle.row_types.proofs.OrderedRowLemmas.{filter_ordered}
use Rattle.ordered_table.specs.Pages.{flat, ArePages, HasRow}
use Rattle.ordered_table.specs.PageOf.{IsPageOf}
use Rattle.ordered_table.specs.AheadParts.{ahead_rows, IsAhead}
use Rattle.ordered_table.proofs.CutLemmas.{span_is, past_from, before_to, cut_low, cut_high}
use Rattle.ordered_table.proofs.PageOfLemmas.{filter_append, flat_at, past_before_key, past_after_key, before_before_key, before_after_key}
use Rattle.ordered_table.proofs.SearchLemmas.{page_some}

pub get_left : {X : Type 0} (xs ys : List X) (k : ℕ) → k < length xs → slice_get (xs ++ ys) k ≡ slice_get xs k
get_left [] ys k within = absurd (omega arith)
get_left (x ∷ xs) ys zero within = refl
get_left (x ∷ xs) ys (suc k) within = get_left xs ys k (omega arith)

pub get_right : {X : Type 0} (xs ys : List X) (k : ℕ) → length xs ≤ k → slice_get (xs ++ ys) k ≡ slice_get ys (k - length xs)
get_right [] ys k past = let e : k ≡ k - 0 = omega arith in ap (slice_get ys) e
get_right (x ∷ xs) ys zero past = absurd (omega arith)
get_right (x ∷ xs) ys (suc k) past =
    let e : k - length xs ≡ suc k - length (x ∷ xs) = omega arith in
    get_right xs ys k (omega arith) ∙ ap (slice_get ys) e

-- the last of two lists is that of the second, where that has one
pub last_right : {X : Type 0} (xs ys : List X) → 1 ≤ length ys → slice_get (xs ++ ys) (length (xs ++ ys) - 1) ≡ slice_get ys (length ys - 1)
last_right xs ys some =
    let l : length (xs ++ ys) ≡ length xs + length ys = length-append xs ys in
    let e : length (xs ++ ys) - 1 - length xs ≡ length ys - 1 = omega arith in
    get_right xs ys (length (xs ++ ys) - 1) (omega arith) ∙ ap (slice_get ys) e

-- and that of the first, where the second has none
pub last_left : {X : Type 0} (xs : List X) → slice_get (xs ++ []) (length (xs ++ []) - 1) ≡ slice_get xs (length xs - 1)
last_left xs = ap (λ (zs : List _). slice_get zs (length zs - 1)) (append-nil xs)

-- the last row of pages is that of the last page
pub last_page : (n : ℕ) (pages : List Rows) → suc n ≡ length pages → 1 ≤ length (slice_index_or pages n [])
    → slice_get (flat pages) (length (flat pages) - 1) ≡ slice_get (slice_index_or pages n []) (length (slice_index_or pages n []) - 1)
last_page n [] most some = absurd (omega arith)
last_page zero (page ∷ []) most some = last_left page
last_page zero (page ∷ next ∷ pages) most some = absurd (omega arith)
last_page (suc n) (page ∷ pages) most some =
    let l : length (flat pages) ≡ length (flat (take n pages)) + length (slice_index_or pages n [] ++ flat (drop (suc n) pages)) =
    ap length (flat_at n pages (omega arith)) ∙ length-append (flat (take n pages)) (slice_index_or pages n [] ++ flat (drop (suc n) pages)) in
    let m : length (slice_index_or pages n [] ++ flat (drop (suc n) pages)) ≡ length (slice_index_or pages n []) + length (flat (drop (suc n) pages)) =
    length-append (slice_index_or pages n []) (flat (drop (suc n) pages)) in
    last_right page (flat pages) (omega arith) ∙ last_page n pages (omega arith) some

full_behind : (before : ℕ) (pages : List Rows) → before ≤ 64 → ArePages before pages → AllByRecursion HasRow pages
full_behind before [] most are = tt
full_behind before ([] ∷ pages) most are = let a : 64 < before + 0 = are.0 in absurd (omega arith)
full_behind before ((row ∷ rows) ∷ pages) most are = (tt, full_behind (length (row ∷ rows)) pages are.1 are.2)

-- pages of their sizes have rows
pub are_full : (pages : List Rows) → ArePages 64 pages → AllByRecursion HasRow pages
are_full pages are = full_behind 64 pages (omega arith) are

pub drop_full : (n : ℕ) (pages : List Rows) → AllByRecursion HasRow pages → AllByRecursion HasRow (drop n pages)
drop_full zero pages full = full
drop_full (suc n) [] full = tt
drop_full (suc n) (page ∷ pages) full = drop_full n pages full.1

take_are_behind : (n before : ℕ) (pages : List Rows) → ArePages before pages → ArePages before (take n pages)
take_are_behind zero before pages are = tt
take_are_behind (suc n) before [] are = tt
take_are_behind (suc n) before (page ∷ pages) are = (are.0, are.1, take_are_behind n (length page) pages are.2)

pub take_are : (n : ℕ) (pages : List Rows) → ArePages 64 pages → ArePages 64 (take n pages)
take_are n pages are = take_are_behind n 64 pages are

kept_most : (keeps : Bool) (row : Row) (kept rows : Rows) → length kept ≤ length rows → length (cond keeps (row ∷ kept) kept) ≤ suc (length rows)
kept_most true row kept rows most = omega arith
kept_most false row kept rows most = omega arith

pub filter_most : (test : Row → Bool) (rows : Rows) → length (filter test rows) ≤ length rows
filter_most test [] = omega arith
filter_most test (row ∷ rows) = kept_most (test row) row (filter test rows) rows (filter_most test rows)

-- the rows of pages before an edge, and of the part of one more, are those of both before it and past another edge
pub between_parts : (key_len : ℕ) (span : Span) (rows first : Rows) (pages rest : List Rows) (last end : Rows)
    → flat pages ++ last ≡ rows_before key_len span.hi rows
    → first ++ flat rest ≡ rows_past key_len span.lo (flat pages)
    → end ≡ rows_past key_len span.lo last
    → ahead_rows first rest end ≡ rows_in key_len span rows
between_parts key_len span rows first pages rest last end upto from part =
    sym (append_assoc first (flat rest) end)
    ∙ ap (λ (rs : Rows). rs ++ end) from
    ∙ ap (λ (rs : Rows). rows_past key_len span.lo (flat pages) ++ rs) part
    ∙ sym (filter_append (λ (row : Row). is_past_edge span.lo (take key_len row)) (flat pages) last)
    ∙ ap (rows_past key_len span.lo) upto
    ∙ sym (span_is key_len span rows)

pub upto_ordered : (key_len : ℕ) (edge : Edge) (rows : Rows) (pages : List Rows) (last : Rows) → AreOrdered key_len rows
    → flat pages ++ last ≡ rows_before key_len edge rows → AreOrdered key_len (flat pages ++ last)
upto_ordered key_len edge rows pages last ordered upto =
    subst (AreOrdered key_len) (sym upto) (filter_ordered key_len (λ (row : Row). is_before_edge edge (take key_len row)) rows ordered)

pub past_ahead : (first : Rows) (pages : List Rows) → ahead_rows first pages [] ≡ first ++ flat pages
past_ahead first pages = ap (λ (rs : Rows). first ++ rs) (append-nil (flat pages))

-- a part of rows that can be counted can be counted
pub part_fits : (test : Row → Bool) (rows part : Rows) → length rows < 2 ^ 63 → part ≡ filter test rows → length part < 2 ^ 63
part_fits test rows part fits is =
    let most : length (filter test rows) ≤ length rows = filter_most test rows in
    let same : length part ≡ length (filter test rows) = ap length is in
    omega arith

-- all rows are still to come
pub all_ahead : (pages : List Rows) → ArePages 64 pages → length (flat pages) < 2 ^ 63 → IsAhead [] pages []
all_ahead pages are fits = record {
  full = are_full pages are;
  fits = subst (λ (rows : Rows). length rows < 2 ^ 63) (sym (append-nil (flat pages))) fits;
}

-- the last row of pages is that of the last page, as it was read
pub last_read : (n : ℕ) (pages : List Rows) (page : Rows) → ArePages 64 pages → suc n ≡ length pages → page ≡ slice_index_or pages n page
    → slice_get (flat pages) (length (flat pages) - 1) ≡ slice_get page (length page - 1)
last_read n pages page are most read =
    let here : page ≡ slice_index_or pages n [] = get_or_read pages n page (omega arith) read [] in
    let some : 1 ≤ length page = page_some n pages page are (omega arith) read in
    last_page n pages most (subst (λ (p : Rows). 1 ≤ length p) here some) ∙ ap (λ (p : Rows). slice_get p (length p - 1)) (sym here)

past_low : (key_len : ℕ) (rows : Rows) → rows_past key_len Low rows ≡ rows
past_low key_len rows = past_from key_len Low rows 0 (cut_low key_len rows)

past_high : (key_len : ℕ) (rows : Rows) → rows_past key_len High rows ≡ []
past_high key_len rows = past_from key_len High rows (length rows) (cut_high key_len rows) ∙ drop_all (length rows) rows (omega arith)

before_low : (key_len : ℕ) (rows : Rows) → rows_before key_len Low rows ≡ []
before_low key_len rows = before_to key_len Low rows 0 (cut_low key_len rows)

before_high : (key_len : ℕ) (rows : Rows) → rows_before key_len High rows ≡ rows
before_high key_len rows = before_to key_len High rows (length rows) (cut_high key_len rows) ∙ take_all (length rows) rows (omega arith)

-- the same of an edge that was found to be the one or the other
pub past_at_low : (key_len : ℕ) (edge : Edge) (rows : Rows) → edge ≡ Low → rows ≡ rows_past key_len edge rows
past_at_low key_len edge rows is = sym (ap (λ (e : Edge). rows_past key_len e rows) is ∙ past_low key_len rows)

pub past_at_high : (key_len : ℕ) (edge : Edge) (rows : Rows) → edge ≡ High → [] ≡ rows_past key_len edge rows
past_at_high key_len edge rows is = sym (ap (λ (e : Edge). rows_past key_len e rows) is ∙ past_high key_len rows)

pub before_at_low : (key_len : ℕ) (edge : Edge) (rows : Rows) → edge ≡ Low → [] ≡ rows_before key_len edge rows
before_at_low key_len edge rows is = sym (ap (λ (e : Edge). rows_before key_len e rows) is ∙ before_low key_len rows)

pub before_at_high : (key_len : ℕ) (edge : Edge) (rows : Rows) → edge ≡ High → rows ++ [] ≡ rows_before key_len edge rows
before_at_high key_len edge rows is = append-nil rows ∙ sym (ap (λ (e : Edge). rows_before key_len e rows) is ∙ before_high key_len rows)

pub past_at_before : (key_len : ℕ) (edge : Edge) (key slice : List Value) (n : ℕ) (pages : List Rows) → edge ≡ Before key → slice ≡ key → IsPageOf key_len slice pages n
    → rows_past key_len edge (flat pages) ≡ rows_past key_len edge (slice_index_or pages n []) ++ flat (drop (suc n) pages)
past_at_before key_len edge key slice n pages is same of =
    subst (λ (e : Edge). rows_past key_len e (flat pages) ≡ rows_past key_len e (slice_index_or pages n []) ++ flat (drop (suc n) pages)) (sym is)
    (past_before_key key_len key n pages (subst (λ (k : List Value). IsPageOf key_len k pages n) same of))

pub past_at_after : (key_len : ℕ) (edge : Edge) (key slice : List Value) (n : ℕ) (pages : List Rows) → edge ≡ After key → slice ≡ key → IsPageOf key_len slice pages n
    → rows_past key_len edge (flat pages) ≡ rows_past key_len edge (slice_index_or pages n []) ++ flat (drop (suc n) pages)
past_at_after key_len edge key slice n pages is same of =
    subst (λ (e : Edge). rows_past key_len e (flat pages) ≡ rows_past key_len e (slice_index_or pages n []) ++ flat (drop (suc n) pages)) (sym is)
    (past_after_key key_len key n pages (subst (λ (k : List Value). IsPageOf key_len k pages n) same of))

pub before_at_before : (key_len : ℕ) (edge : Edge) (key slice : List Value) (n : ℕ) (pages : List Rows) → edge ≡ Before key → slice ≡ key → IsPageOf key_len slice pages n
    → rows_before key_len edge (flat pages) ≡ flat (take n pages) ++ rows_before key_len edge (slice_index_or pages n [])
before_at_before key_len edge key slice n pages is same of =
    subst (λ (e : Edge). rows_before key_len e (flat pages) ≡ flat (take n pages) ++ rows_before key_len e (slice_index_or pages n [])) (sym is)
    (before_before_key key_len key n pages (subst (λ (k : List Value). IsPageOf key_len k pages n) same of))

pub before_at_after : (key_len : ℕ) (edge : Edge) (key slice : List Value) (n : ℕ) (pages : List Rows) → edge ≡ After key → slice ≡ key → IsPageOf key_len slice pages n
    → rows_before key_len edge (flat pages) ≡ flat (take n pages) ++ rows_before key_len edge (slice_index_or pages n [])
before_at_after key_len edge key slice n pages is same of =
    subst (λ (e : Edge). rows_before key_len e (flat pages) ≡ flat (take n pages) ++ rows_before key_len e (slice_index_or pages n [])) (sym is)
    (before_after_key key_len key n pages (subst (λ (k : List Value). IsPageOf key_len k pages n) same of))

-- a list without a first item is empty
pub nil_first : {X : Type 0} (xs : List X) → slice_get xs 0 ≡ None → xs ≡ []
nil_first [] none = refl
nil_first (x ∷ xs) none = cc
