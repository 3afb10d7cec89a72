-- What a table has at a key is what one page has there.
use Rattle.std.proofs.Common.{◌≡◌, ◌∙◌, ℕ, zero, suc, ◌+◌, ◌<◌, Bool, true, false, not, cond, Option, None, Some, List, [], ◌∷◌, ◌++◌, length, take, drop, refl, ap, sym, subst, append_assoc, append-nil, length-append, arith}
use Rattle.std.specs.Prelude.{slice_index_or, slice_set, filter}
use Rattle.std.specs.List.{AllByRecursion}
use Rattle.std.specs.Ordering.{is_eq, is_le, match_ordering, ordering_then}
use Rattle.std.specs.declared.cmp.Ordering.{Ordering}
use Rattle.std.specs.declared.cmp.Ordering.TheVariants.{Less, Equal, Greater}
use Rattle.row_types.specs.declared.values.Value.{Value}
use Rattle.row_types.specs.declared.edges.Edge.TheVariants.{Before, After}
use Rattle.row_types.specs.Order.{key_cmp, is_past_edge, is_before_edge}
use Rattle.row_types.specs.KeyRows.{is_at, row_at, put_row, without_key, rows_past, rows_before}
use Rattle.ordered_table.proofs.CutLemmas.{before_is}
use Rattle.ordered_table.specs.Pages.{flat}
use Rattle.ordered_table.specs.PageOf.{IsAboveAll, IsUnderAll, IsPageOf}

-- the pages before one, its rows, and the pages after it
pub flat_at : (n : ℕ) (pages : List (List (List Value))) → n < length pages
    → flat pages ≡ flat (take n pages) ++ (slice_index_or pages n [] ++ flat (drop (suc n) pages))
flat_at n [] within = absurd (omega arith)
flat_at zero (page ∷ pages) within = refl
flat_at (suc n) (page ∷ pages) within =
    ap (λ (rows : List (List Value)). page ++ rows) (flat_at n pages (omega arith))
    ∙ sym (append_assoc page (flat (take n pages)) (slice_index_or pages n [] ++ flat (drop (suc n) pages)))

-- and with another page in its place
pub flat_set : (n : ℕ) (new : List (List Value)) (pages : List (List (List Value))) → n < length pages
    → flat (slice_set pages n new) ≡ flat (take n pages) ++ (new ++ flat (drop (suc n) pages))
flat_set n new [] within = absurd (omega arith)
flat_set zero new (page ∷ pages) within = refl
flat_set (suc n) new (page ∷ pages) within =
    ap (λ (rows : List (List Value)). page ++ rows) (flat_set n new pages (omega arith))
    ∙ sym (append_assoc page (flat (take n pages)) (new ++ flat (drop (suc n) pages)))

-- tests on a row of a key above or below it
above_at : (key_len : ℕ) (key row : List Value) → key_cmp key (take key_len row) ≡ Greater → is_at key_len key row ≡ false
above_at key_len key row greater = ap is_eq greater

under_at : (key_len : ℕ) (key row : List Value) → key_cmp key (take key_len row) ≡ Less → is_at key_len key row ≡ false
under_at key_len key row less = ap is_eq less

row_at_above : (key_len : ℕ) (key : List Value) (xs ys : List (List Value)) → IsAboveAll key_len key xs → row_at key_len key (xs ++ ys) ≡ row_at key_len key ys
row_at_above key_len key [] ys all = refl
row_at_above key_len key (x ∷ xs) ys all =
    ap (λ (b : Bool). cond b (Some x) (row_at key_len key (xs ++ ys))) (above_at key_len key x all.0) ∙ row_at_above key_len key xs ys all.1

row_at_none : (key_len : ℕ) (key : List Value) (ys : List (List Value)) → IsUnderAll key_len key ys → row_at key_len key ys ≡ None
row_at_none key_len key [] all = refl
row_at_none key_len key (y ∷ ys) all =
    ap (λ (b : Bool). cond b (Some y) (row_at key_len key ys)) (under_at key_len key y all.0) ∙ row_at_none key_len key ys all.1

row_at_under : (key_len : ℕ) (key : List Value) (xs ys : List (List Value)) → IsUnderAll key_len key ys → row_at key_len key (xs ++ ys) ≡ row_at key_len key xs
row_at_under key_len key [] ys all = row_at_none key_len key ys all
row_at_under key_len key (x ∷ xs) ys all = ap (λ (rest : Option (List Value)). cond (is_at key_len key x) (Some x) rest) (row_at_under key_len key xs ys all)

-- the row at a key is the one of its page
pub row_at_page : (key_len : ℕ) (key : List Value) (n : ℕ) (pages : List (List (List Value))) → IsPageOf key_len key pages n
    → row_at key_len key (flat pages) ≡ row_at key_len key (slice_index_or pages n [])
row_at_page key_len key n pages of =
    ap (row_at key_len key) (flat_at n pages of.within)
    ∙ row_at_above key_len key (flat (take n pages)) (slice_index_or pages n [] ++ flat (drop (suc n) pages)) of.before
    ∙ row_at_under key_len key (slice_index_or pages n []) (flat (drop (suc n) pages)) of.behind

put_row_above : (key_len : ℕ) (row : List Value) (xs ys : List (List Value)) → IsAboveAll key_len (take key_len row) xs
    → put_row key_len row (xs ++ ys) ≡ xs ++ put_row key_len row ys
put_row_above key_len row [] ys all = refl
put_row_above key_len row (x ∷ xs) ys all =
    ap (λ (o : Ordering). match_ordering o (row ∷ x ∷ (xs ++ ys)) (row ∷ (xs ++ ys)) (x ∷ put_row key_len row (xs ++ ys))) all.0
    ∙ ap (λ (rows : List (List Value)). x ∷ rows) (put_row_above key_len row xs ys all.1)

put_row_first : (key_len : ℕ) (row : List Value) (ys : List (List Value)) → IsUnderAll key_len (take key_len row) ys → put_row key_len row ys ≡ row ∷ ys
put_row_first key_len row [] all = refl
put_row_first key_len row (y ∷ ys) all =
    ap (λ (o : Ordering). match_ordering o (row ∷ y ∷ ys) (row ∷ ys) (y ∷ put_row key_len row ys)) all.0

put_row_under_at : (key_len : ℕ) (row x : List Value) (xs ys : List (List Value)) (o : Ordering)
    → put_row key_len row (xs ++ ys) ≡ put_row key_len row xs ++ ys
    → match_ordering o (row ∷ x ∷ (xs ++ ys)) (row ∷ (xs ++ ys)) (x ∷ put_row key_len row (xs ++ ys))
    ≡ match_ordering o (row ∷ x ∷ xs) (row ∷ xs) (x ∷ put_row key_len row xs) ++ ys
put_row_under_at key_len row x xs ys Less e = refl
put_row_under_at key_len row x xs ys Equal e = refl
put_row_under_at key_len row x xs ys Greater e = ap (λ (rows : List (List Value)). x ∷ rows) e

put_row_under : (key_len : ℕ) (row : List Value) (xs ys : List (List Value)) → IsUnderAll key_len (take key_len row) ys
    → put_row key_len row (xs ++ ys) ≡ put_row key_len row xs ++ ys
put_row_under key_len row [] ys all = put_row_first key_len row ys all
put_row_under key_len row (x ∷ xs) ys all =
    put_row_under_at key_len row x xs ys (key_cmp (take key_len row) (take key_len x)) (put_row_under key_len row xs ys all)

-- putting a row is putting it into its page
pub put_row_page : (key_len : ℕ) (row : List Value) (n : ℕ) (pages : List (List (List Value))) → IsPageOf key_len (take key_len row) pages n
    → put_row key_len row (flat pages) ≡ flat (slice_set pages n (put_row key_len row (slice_index_or pages n [])))
put_row_page key_len row n pages of =
    ap (put_row key_len row) (flat_at n pages of.within)
    ∙ put_row_above key_len row (flat (take n pages)) (slice_index_or pages n [] ++ flat (drop (suc n) pages)) of.before
    ∙ ap (λ (rows : List (List Value)). flat (take n pages) ++ rows) (put_row_under key_len row (slice_index_or pages n []) (flat (drop (suc n) pages)) of.behind)
    ∙ sym (flat_set n (put_row key_len row (slice_index_or pages n [])) pages of.within)

pub filter_append : (test : List Value → Bool) (xs ys : List (List Value)) → filter test (xs ++ ys) ≡ filter test xs ++ filter test ys
filter_append test [] ys = refl
filter_append test (x ∷ xs) ys = filter_append_at (test x) x xs ys test (filter_append test xs ys)
  where
    filter_append_at : (b : Bool) (x : List Value) (xs ys : List (List Value)) (test : List Value → Bool) → filter test (xs ++ ys) ≡ filter test xs ++ filter test ys
        → cond b (x ∷ filter test (xs ++ ys)) (filter test (xs ++ ys)) ≡ cond b (x ∷ filter test xs) (filter test xs) ++ filter test ys
    filter_append_at true x xs ys test e = ap (λ (rows : List (List Value)). x ∷ rows) e
    filter_append_at false x xs ys test e = e

-- all rows pass a test, or none
abbrev pub AllAre : (List Value → Bool) → Bool → List (List Value) → Type 0
AllAre test b = AllByRecursion (λ (row : List Value). test row ≡ b)

filter_all : (test : List Value → Bool) (xs : List (List Value)) → AllAre test true xs → filter test xs ≡ xs
filter_all test [] all = refl
filter_all test (x ∷ xs) all = ap (λ (b : Bool). cond b (x ∷ filter test xs) (filter test xs)) all.0 ∙ ap (λ (rows : List (List Value)). x ∷ rows) (filter_all test xs all.1)

filter_none : (test : List Value → Bool) (xs : List (List Value)) → AllAre test false xs → filter test xs ≡ []
filter_none test [] all = refl
filter_none test (x ∷ xs) all = ap (λ (b : Bool). cond b (x ∷ filter test xs) (filter test xs)) all.0 ∙ filter_none test xs all.1

-- what an order decides of all rows
decided : (key_len : ℕ) (key : List Value) (test : List Value → Bool) (f : Ordering → Bool) (o : Ordering) → ((row : List Value) → test row ≡ f (key_cmp key (take key_len row)))
    → (rows : List (List Value)) → AllByRecursion (λ (row : List Value). key_cmp key (take key_len row) ≡ o) rows → AllAre test (f o) rows
decided key_len key test f o is [] all = tt
decided key_len key test f o is (row ∷ rows) all = (is row ∙ ap f all.0, decided key_len key test f o is rows all.1)

filter_parts : (test : List Value → Bool) (n : ℕ) (pages : List (List (List Value))) → n < length pages
    → filter test (flat pages) ≡ filter test (flat (take n pages)) ++ (filter test (slice_index_or pages n []) ++ filter test (flat (drop (suc n) pages)))
filter_parts test n pages within =
    ap (filter test) (flat_at n pages within)
    ∙ filter_append test (flat (take n pages)) (slice_index_or pages n [] ++ flat (drop (suc n) pages))
    ∙ ap (λ (rows : List (List Value)). filter test (flat (take n pages)) ++ rows) (filter_append test (slice_index_or pages n []) (flat (drop (suc n) pages)))

-- the rows without a key are those of its page without it
pub without_key_page : (key_len : ℕ) (key : List Value) (n : ℕ) (pages : List (List (List Value))) → IsPageOf key_len key pages n
    → without_key key_len key (flat pages) ≡ flat (slice_set pages n (without_key key_len key (slice_index_or pages n [])))
without_key_page key_len key n pages of =
    let test : List Value → Bool = λ (row : List Value). not (is_at key_len key row) in
    let before : filter test (flat (take n pages)) ≡ flat (take n pages) =
    filter_all test (flat (take n pages)) (decided key_len key test (λ (o : Ordering). not (is_eq o)) Greater (λ row. refl) (flat (take n pages)) of.before) in
    let behind : filter test (flat (drop (suc n) pages)) ≡ flat (drop (suc n) pages) =
    filter_all test (flat (drop (suc n) pages)) (decided key_len key test (λ (o : Ordering). not (is_eq o)) Less (λ row. refl) (flat (drop (suc n) pages)) of.behind) in
    filter_parts test n pages of.within
    ∙ ap (λ (rows : List (List Value)). rows ++ (filter test (slice_index_or pages n []) ++ filter test (flat (drop (suc n) pages)))) before
    ∙ ap (λ (rows : List (List Value)). flat (take n pages) ++ (filter test (slice_index_or pages n []) ++ rows)) behind
    ∙ sym (flat_set n (filter test (slice_index_or pages n [])) pages of.within)

-- the rows that a test keeps, where it keeps none before the page and all after it
past_parts : (key_len : ℕ) (key : List Value) (test : List Value → Bool) (f : Ordering → Bool) (n : ℕ) (pages : List (List (List Value))) → IsPageOf key_len key pages n
    → ((row : List Value) → test row ≡ f (key_cmp key (take key_len row))) → f Greater ≡ false → f Less ≡ true
    → filter test (flat pages) ≡ filter test (slice_index_or pages n []) ++ flat (drop (suc n) pages)
past_parts key_len key test f n pages of is drops keeps =
    let before : filter test (flat (take n pages)) ≡ [] =
    filter_none test (flat (take n pages)) (subst (λ b. AllAre test b (flat (take n pages))) drops (decided key_len key test f Greater is (flat (take n pages)) of.before)) in
    let behind : filter test (flat (drop (suc n) pages)) ≡ flat (drop (suc n) pages) =
    filter_all test (flat (drop (suc n) pages)) (subst (λ b. AllAre test b (flat (drop (suc n) pages))) keeps (decided key_len key test f Less is (flat (drop (suc n) pages)) of.behind)) in
    filter_parts test n pages of.within
    ∙ ap (λ (rows : List (List Value)). rows ++ (filter test (slice_index_or pages n []) ++ filter test (flat (drop (suc n) pages)))) before
    ∙ ap (λ (rows : List (List Value)). filter test (slice_index_or pages n []) ++ rows) behind

-- the other way round
before_parts : (key_len : ℕ) (key : List Value) (test : List Value → Bool) (f : Ordering → Bool) (n : ℕ) (pages : List (List (List Value))) → IsPageOf key_len key pages n
    → ((row : List Value) → test row ≡ f (key_cmp key (take key_len row))) → f Greater ≡ true → f Less ≡ false
    → filter test (flat pages) ≡ flat (take n pages) ++ filter test (slice_index_or pages n [])
before_parts key_len key test f n pages of is keeps drops =
    let before : filter test (flat (take n pages)) ≡ flat (take n pages) =
    filter_all test (flat (take n pages)) (subst (λ b. AllAre test b (flat (take n pages))) keeps (decided key_len key test f Greater is (flat (take n pages)) of.before)) in
    let behind : filter test (flat (drop (suc n) pages)) ≡ [] =
    filter_none test (flat (drop (suc n) pages)) (subst (λ b. AllAre test b (flat (drop (suc n) pages))) drops (decided key_len key test f Less is (flat (drop (suc n) pages)) of.behind)) in
    filter_parts test n pages of.within
    ∙ ap (λ (rows : List (List Value)). rows ++ (filter test (slice_index_or pages n []) ++ filter test (flat (drop (suc n) pages)))) before
    ∙ ap (λ (rows : List (List Value)). flat (take n pages) ++ (filter test (slice_index_or pages n []) ++ rows)) behind
    ∙ ap (λ (rows : List (List Value)). flat (take n pages) ++ rows) (append-nil (filter test (slice_index_or pages n [])))

pub past_before_key : (key_len : ℕ) (key : List Value) (n : ℕ) (pages : List (List (List Value))) → IsPageOf key_len key pages n
    → rows_past key_len (Before key) (flat pages) ≡ rows_past key_len (Before key) (slice_index_or pages n []) ++ flat (drop (suc n) pages)
past_before_key key_len key n pages of =
    past_parts key_len key (λ (row : List Value). is_past_edge (Before key) (take key_len row)) is_le n pages of (λ row. refl) refl refl

pub past_after_key : (key_len : ℕ) (key : List Value) (n : ℕ) (pages : List (List (List Value))) → IsPageOf key_len key pages n
    → rows_past key_len (After key) (flat pages) ≡ rows_past key_len (After key) (slice_index_or pages n []) ++ flat (drop (suc n) pages)
past_after_key key_len key n pages of =
    past_parts key_len key (λ (row : List Value). is_past_edge (After key) (take key_len row)) (λ (o : Ordering). is_le (ordering_then o Greater)) n pages of (λ row. refl) refl refl

pub before_before_key : (key_len : ℕ) (key : List Value) (n : ℕ) (pages : List (List (List Value))) → IsPageOf key_len key pages n
    → rows_before key_len (Before key) (flat pages) ≡ flat (take n pages) ++ rows_before key_len (Before key) (slice_index_or pages n [])
before_before_key key_len key n pages of =
    before_parts key_len key (λ (row : List Value). is_before_edge (Before key) (take key_len row)) (λ (o : Ordering). not (is_le o)) n pages of
    (λ row. before_is (Before key) (take key_len row)) refl refl

pub before_after_key : (key_len : ℕ) (key : List Value) (n : ℕ) (pages : List (List (List Value))) → IsPageOf key_len key pages n
    → rows_before key_len (After key) (flat pages) ≡ flat (take n pages) ++ rows_before key_len (After key) (slice_index_or pages n [])
before_after_key key_len key n pages of =
    before_parts key_len key (λ (row : List Value). is_before_edge (After key) (take key_len row)) (λ (o : Ordering). not (is_le (ordering_then o Greater))) n pages of
    (λ row. before_is (After key) (take key_len row)) refl refl

-- how many rows there are when a page changes
pub length_set : (n : ℕ) (new : List (List Value)) (pages : List (List (List Value))) → n < length pages
    → length (flat (slice_set pages n new)) + length (slice_index_or pages n []) ≡ length (flat pages) + length new
length_set n new [] within = absurd (omega arith)
length_set zero new (page ∷ pages) within =
    let a : length (page ++ flat pages) ≡ length page + length (flat pages) = length-append page (flat pages) in
    let b : length (new ++ flat pages) ≡ length new + length (flat pages) = length-append new (flat pages) in
    omega arith
length_set (suc n) new (page ∷ pages) within =
    let a : length (page ++ flat pages) ≡ length page + length (flat pages) = length-append page (flat pages) in
    let b : length (page ++ flat (slice_set pages n new)) ≡ length page + length (flat (slice_set pages n new)) = length-append page (flat (slice_set pages n new)) in
    let r : length (flat (slice_set pages n new)) + length (slice_index_or pages n []) ≡ length (flat pages) + length new = length_set n new pages (omega arith) in
    omega arith
