-- Pages keep their sizes, and pages together keep their rows.
use Rattle.std.proofs.Common.{◌≡◌, ◌∙◌, ℕ, zero, suc, ◌+◌, ◌*◌, ◌<◌, ◌≤◌, Bool, true, false, cond, List, [], ◌∷◌, ◌++◌, length, refl, ap, sym, subst, append_assoc, length-append, inl, inr, arith}
use Rattle.std.specs.Prelude.{slice_index_or, slice_set, nat_le}
use Rattle.std.specs.List.{remove}
use Rattle.std.proofs.lemmas.List.{get_or_default}
use Rattle.std.proofs.lemmas.List.Edits.{get_or-remove_below}
use Rattle.ordered_table.specs.Pages.{flat, ArePages, joined, parted, settled_split, settled_loss, without_empty}
use Rattle.ordered_table.specs.Room.{HasRoom}

pub length_flat-cons : {X : Type 0} (page : List X) (pages : List (List X)) → length (flat (page ∷ pages)) ≡ length page + length (flat pages)
length_flat-cons page pages = length-append page (flat pages)

-- pages that hold n rows are few
pub pages_few : {X : Type 0} (pages : List (List X)) (before : ℕ) → before ≤ 64 → ArePages before pages
    → (65 * length pages ≤ 2 * length (flat pages) + before)
pages_few [] before full are = omega arith
pages_few (page ∷ []) before full are =
    let l : length (flat (page ∷ [])) ≡ length page + 0 = length_flat-cons page [] in
    let a : 64 < before + length page = are.0 in
    omega arith
pages_few (page ∷ next ∷ pages) before full are =
    let l : length (flat (page ∷ next ∷ pages)) ≡ length page + length (flat (next ∷ pages)) = length_flat-cons page (next ∷ pages) in
    let m : length (flat (next ∷ pages)) ≡ length next + length (flat pages) = length_flat-cons next pages in
    let a : 64 < before + length page = are.0 in
    let r : 65 * length (next ∷ pages) ≤ 2 * length (flat (next ∷ pages)) + length page = pages_few (next ∷ pages) (length page) are.1 are.2 in
    omega arith

-- after a fuller page the same pages do
pub behind_fuller : {X : Type 0} (pages : List (List X)) (before fuller : ℕ) → before ≤ fuller → ArePages before pages → ArePages fuller pages
behind_fuller [] before fuller le are = tt
behind_fuller (page ∷ pages) before fuller le are = (let a : 64 < before + length page = are.0 in omega arith, are.1, are.2)

joined_flat_at : {X : Type 0} (small : Bool) (page next : List X) (pages : List (List X))
    → flat (cond small ((page ++ next) ∷ pages) (page ∷ next ∷ pages)) ≡ page ++ (next ++ flat pages)
joined_flat_at true page next pages = append_assoc page next (flat pages)
joined_flat_at false page next pages = refl

-- joining pages keeps the rows
pub joined_flat : {X : Type 0} (n : ℕ) (pages : List (List X)) → flat (joined n pages) ≡ flat pages
joined_flat n [] = refl
joined_flat (suc n) (page ∷ pages) = ap (λ (rows : List _). page ++ rows) (joined_flat n pages)
joined_flat zero (page ∷ []) = refl
joined_flat zero (page ∷ next ∷ pages) = joined_flat_at (nat_le (length page + length next) 64) page next pages

pub settled_split_flat : {X : Type 0} (n : ℕ) (pages : List (List X)) → flat (settled_split n pages) ≡ flat pages
settled_split_flat zero pages = joined_flat 1 pages
settled_split_flat (suc n) pages = joined_flat n (joined (suc (suc n)) pages) ∙ joined_flat (suc (suc n)) pages

pub settled_loss_flat : {X : Type 0} (n : ℕ) (pages : List (List X)) → flat (settled_loss n pages) ≡ flat pages
settled_loss_flat zero pages = joined_flat 0 pages
settled_loss_flat (suc n) pages = joined_flat n (joined (suc n) pages) ∙ joined_flat (suc n) pages

pub without_empty_flat : {X : Type 0} (pages : List (List X)) → flat (without_empty pages) ≡ flat pages
without_empty_flat [] = refl
without_empty_flat ([] ∷ pages) = refl
without_empty_flat ((row ∷ rows) ∷ pages) = refl

-- parting a page gives the rows that setting it gives
pub parted_flat : {X : Type 0} (n : ℕ) (lower upper page : List X) (pages : List (List X)) → n < length pages → lower ++ upper ≡ page
    → flat (parted n lower upper pages) ≡ flat (slice_set pages n page)
parted_flat n lower upper page [] within parts = absurd (omega arith)
parted_flat zero lower upper page (first ∷ pages) within parts = sym (append_assoc lower upper (flat pages)) ∙ ap (λ (rows : List _). rows ++ flat pages) parts
parted_flat (suc n) lower upper page (first ∷ pages) within parts = ap (λ (rows : List _). first ++ rows) (parted_flat n lower upper page pages (omega arith) parts)

-- pages that may stand after a page, whatever the two hold together
abbrev pub AreLoose : {X : Type 0} → List (List X) → Type 0
AreLoose [] = Unit {0}
AreLoose (page ∷ pages) = (length page ≤ 64) × ArePages (length page) pages

-- the page of this number and its next may hold few rows together
abbrev pub AreLooseAt : {X : Type 0} → ℕ → ℕ → List (List X) → Type 0
AreLooseAt n before [] = Unit {0}
AreLooseAt zero before (page ∷ pages) = (64 < before + length page) × (length page ≤ 64) × AreLoose pages
AreLooseAt (suc n) before (page ∷ pages) = (64 < before + length page) × (length page ≤ 64) × AreLooseAt n (length page) pages

joined_are_at : {X : Type 0} (small : Bool) (before : ℕ) (page next : List X) (pages : List (List X)) → nat_le (length page + length next) 64 ≡ small
    → AreLooseAt 0 before (page ∷ next ∷ pages)
    → ArePages before (cond small ((page ++ next) ∷ pages) (page ∷ next ∷ pages))
joined_are_at true before page next pages is are =
    let a : 64 < before + length page = are.0 in
    let l : length (page ++ next) ≡ length page + length next = length-append page next in
    (omega arith, grind arith, behind_fuller pages (length next) (length (page ++ next)) (omega arith) are.2.1)
joined_are_at false before page next pages is are =
    (are.0, are.1, (grind arith, are.2.0, are.2.1))

-- joining mends the two
pub joined_are : {X : Type 0} (n before : ℕ) (pages : List (List X)) → AreLooseAt n before pages → ArePages before (joined n pages)
joined_are n before [] are = tt
joined_are (suc n) before (page ∷ pages) are = (are.0, are.1, joined_are n (length page) pages are.2)
joined_are zero before (page ∷ []) are = are
joined_are zero before (page ∷ next ∷ pages) are = joined_are_at (nat_le (length page + length next) 64) before page next pages refl are

pub loosened : {X : Type 0} (before : ℕ) (pages : List (List X)) → ArePages before pages → AreLoose pages
loosened before [] are = tt
loosened before (page ∷ pages) are = (are.1, are.2)

-- a fuller page in place of one
pub set_are : {X : Type 0} (n before : ℕ) (page : List X) (pages : List (List X)) → ArePages before pages → n < length pages
    → length (slice_index_or pages n []) ≤ length page → length page ≤ 64 → ArePages before (slice_set pages n page)
set_are n before page [] are within more most = absurd (omega arith)
set_are zero before page (first ∷ pages) are within more most =
    let a : 64 < before + length first = are.0 in
    (omega arith, most, behind_fuller pages (length first) (length page) more are.2)
set_are (suc n) before page (first ∷ pages) are within more most = (are.0, are.1, set_are n (length first) page pages are.2 (omega arith) more most)

-- each half of a page that was split, and what follows
half_are : {X : Type 0} (lower upper : List X) (pages : List (List X)) → length upper ≤ 64 → 64 < length lower + length upper → AreLoose pages
    → ArePages (length lower) (joined 0 (upper ∷ pages))
half_are lower upper pages most sum loose = joined_are 0 (length lower) (upper ∷ pages) (sum, most, loose)

split_loose : {X : Type 0} (n before : ℕ) (lower upper : List X) (pages : List (List X)) → ArePages before pages → suc n < length pages
    → length lower ≤ 64 → length upper ≤ 64 → 64 < length lower + length upper
    → AreLooseAt n before (joined (suc (suc n)) (parted (suc n) lower upper pages))
split_loose n before lower upper [] are within lower_most most sum = absurd (omega arith)
split_loose zero before lower upper (first ∷ []) are within lower_most most sum = absurd (omega arith)
split_loose zero before lower upper (first ∷ page ∷ pages) are within lower_most most sum =
    (are.0, are.1, (lower_most, half_are lower upper pages most sum (loosened (length page) pages are.2.2)))
split_loose (suc n) before lower upper (first ∷ pages) are within lower_most most sum =
    (are.0, are.1, split_loose n (length first) lower upper pages are.2 (omega arith) lower_most most sum)

-- after a split with its joins the sizes are right
pub split_are : {X : Type 0} (n : ℕ) (lower upper : List X) (pages : List (List X)) → ArePages 64 pages → n < length pages
    → length lower ≤ 64 → length upper ≤ 64 → 64 < length lower + length upper
    → ArePages 64 (settled_split n (parted n lower upper pages))
split_are n lower upper [] are within lower_most most sum = absurd (omega arith)
split_are zero lower upper (page ∷ pages) are within lower_most most sum =
    (omega arith, lower_most, half_are lower upper pages most sum (loosened (length page) pages are.2))
split_are (suc n) lower upper (page ∷ pages) are within lower_most most sum =
    joined_are n 64 (joined (suc (suc n)) (parted (suc n) lower upper (page ∷ pages)))
    (split_loose n 64 lower upper (page ∷ pages) are within lower_most most sum)

loss_loose_at : {X : Type 0} (small : Bool) (page next : List X) (pages : List (List X)) → nat_le (length page + length next) 64 ≡ small
    → length page ≤ 64 → AreLoose (next ∷ pages) → AreLoose (cond small ((page ++ next) ∷ pages) (page ∷ next ∷ pages))
loss_loose_at true page next pages is most loose =
    let l : length (page ++ next) ≡ length page + length next = length-append page next in
    (grind arith, behind_fuller pages (length next) (length (page ++ next)) (omega arith) loose.1)
loss_loose_at false page next pages is most loose = (most, (grind arith, loose.0, loose.1))

loss_loose : {X : Type 0} (page : List X) (pages : List (List X)) → length page ≤ 64 → AreLoose pages → AreLoose (joined 0 (page ∷ pages))
loss_loose page [] most loose = (most, tt)
loss_loose page (next ∷ pages) most loose = loss_loose_at (nat_le (length page + length next) 64) page next pages refl most loose

loss_loose_deep : {X : Type 0} (n before : ℕ) (page : List X) (pages : List (List X)) → ArePages before pages → suc n < length pages → length page ≤ 64
    → AreLooseAt n before (joined (suc n) (slice_set pages (suc n) page))
loss_loose_deep n before page [] are within most = absurd (omega arith)
loss_loose_deep zero before page (first ∷ []) are within most = absurd (omega arith)
loss_loose_deep zero before page (first ∷ next ∷ pages) are within most =
    (are.0, are.1, loss_loose page pages most (loosened (length next) pages are.2.2))
loss_loose_deep (suc n) before page (first ∷ pages) are within most =
    (are.0, are.1, loss_loose_deep n (length first) page pages are.2 (omega arith) most)

loose_without_empty : {X : Type 0} (pages : List (List X)) → AreLoose pages → ArePages 64 (without_empty pages)
loose_without_empty [] loose = tt
loose_without_empty ([] ∷ []) loose = tt
loose_without_empty ([] ∷ next ∷ pages) loose =
    let a : 64 < 0 + length next = loose.1.0 in
    let b : length next ≤ 64 = loose.1.1 in
    absurd (omega arith)
loose_without_empty ((row ∷ rows) ∷ pages) loose = (omega arith, loose.0, loose.1)

pub without_empty_kept : {X : Type 0} (pages : List (List X)) → ArePages 64 pages → without_empty pages ≡ pages
without_empty_kept [] are = refl
without_empty_kept ([] ∷ pages) are = let a : 64 < 64 + 0 = are.0 in absurd (omega arith)
without_empty_kept ((row ∷ rows) ∷ pages) are = refl

-- after a loss with its joins the sizes are right
pub loss_are : {X : Type 0} (n : ℕ) (page : List X) (pages : List (List X)) → ArePages 64 pages → n < length pages → length page ≤ 64
    → ArePages 64 (without_empty (settled_loss n (slice_set pages n page)))
loss_are n page [] are within most = absurd (omega arith)
loss_are zero page (first ∷ pages) are within most =
    loose_without_empty (joined 0 (page ∷ pages)) (loss_loose page pages most (loosened (length first) pages are.2))
loss_are (suc n) page (first ∷ pages) are within most =
    let kept : ArePages 64 (settled_loss (suc n) (slice_set (first ∷ pages) (suc n) page)) =
    joined_are n 64 (joined (suc n) (slice_set (first ∷ pages) (suc n) page)) (loss_loose_deep n 64 page (first ∷ pages) are within most) in
    subst (ArePages 64) (sym (without_empty_kept (settled_loss (suc n) (slice_set (first ∷ pages) (suc n) page)) kept)) kept

-- where rows are spare and no page is empty, no split can be due
pub room_for_split : (rows spare pages empties : ℕ) → HasRoom rows spare pages empties → 1 ≤ spare → 65 * pages ≤ 2 * rows + 64 → 1 ≤ empties
room_for_split rows spare pages empties (inl each) some few = omega arith
room_for_split rows spare pages empties (inr all) some few = omega arith

-- joining, by the writes that do it
pub joined_small : {X : Type 0} (n : ℕ) (page next : List X) (pages : List (List X)) → suc n < length pages
    → page ≡ slice_index_or pages n page → next ≡ slice_index_or pages (suc n) next → length page + length next ≤ 64
    → joined n pages ≡ slice_set (remove pages (suc n)) n (page ++ next)
joined_small n page next [] within is next_is small = absurd (omega arith)
joined_small (suc n) page next (first ∷ pages) within is next_is small =
    ap (λ (rest : List (List _)). first ∷ rest) (joined_small n page next pages (omega arith) is next_is small)
joined_small zero page next (first ∷ []) within is next_is small = absurd (omega arith)
joined_small zero page next (first ∷ second ∷ pages) within is next_is small =
    subst (λ (p : List _). joined 0 (p ∷ second ∷ pages) ≡ (page ++ next) ∷ pages) is
    (subst (λ (q : List _). joined 0 (page ∷ q ∷ pages) ≡ (page ++ next) ∷ pages) next_is (joined_small_at (nat_le (length page + length next) 64) page next pages refl small))
  where
    joined_small_at : {X : Type 0} (b : Bool) (page next : List X) (pages : List (List X)) → nat_le (length page + length next) 64 ≡ b → length page + length next ≤ 64
        → cond b ((page ++ next) ∷ pages) (page ∷ next ∷ pages) ≡ (page ++ next) ∷ pages
    joined_small_at true page next pages is small = refl
    joined_small_at false page next pages is small = absurd (grind arith)

pub joined_large : {X : Type 0} (n : ℕ) (page next : List X) (pages : List (List X)) → suc n < length pages
    → page ≡ slice_index_or pages n page → next ≡ slice_index_or pages (suc n) next → 64 < length page + length next
    → joined n pages ≡ pages
joined_large n page next [] within is next_is large = refl
joined_large (suc n) page next (first ∷ pages) within is next_is large =
    ap (λ (rest : List (List _)). first ∷ rest) (joined_large n page next pages (omega arith) is next_is large)
joined_large zero page next (first ∷ []) within is next_is large = refl
joined_large zero page next (first ∷ second ∷ pages) within is next_is large =
    subst (λ (p : List _). joined 0 (p ∷ second ∷ pages) ≡ p ∷ second ∷ pages) is
    (subst (λ (q : List _). joined 0 (page ∷ q ∷ pages) ≡ page ∷ q ∷ pages) next_is (joined_large_at (nat_le (length page + length next) 64) page next pages refl large))
  where
    joined_large_at : {X : Type 0} (b : Bool) (page next : List X) (pages : List (List X)) → nat_le (length page + length next) 64 ≡ b → 64 < length page + length next
        → cond b ((page ++ next) ∷ pages) (page ∷ next ∷ pages) ≡ page ∷ next ∷ pages
    joined_large_at true page next pages is large = absurd (grind arith)
    joined_large_at false page next pages is large = refl

pub joined_last : {X : Type 0} (n : ℕ) (pages : List (List X)) → length pages ≤ suc n → joined n pages ≡ pages
joined_last n [] last = refl
joined_last (suc n) (first ∷ pages) last = ap (λ (rest : List (List _)). first ∷ rest) (joined_last n pages (omega arith))
joined_last zero (first ∷ []) last = refl
joined_last zero (first ∷ second ∷ pages) last = absurd (omega arith)

-- the same, as the code reads and writes it
pub joined_written : {X : Type 0} (n : ℕ) (page next read_page read_next : List X) (pages removed : List (List X)) (n_next : ℕ) → n_next ≡ suc n → suc n < length pages
    → read_page ≡ slice_index_or pages n read_page → read_next ≡ slice_index_or pages n_next read_next → length read_page + length read_next ≤ 64
    → next ≡ slice_index_or pages n_next next → removed ≡ remove pages n_next → page ≡ slice_index_or removed n page
    → joined n pages ≡ slice_set removed n (page ++ next)
joined_written {X = X} n page next read_page read_next pages removed n_next at within page_is next_is small next_same removed_is same =
    let behind : read_next ≡ slice_index_or pages (suc n) read_next = subst (λ k. read_next ≡ slice_index_or pages k read_next) at next_is in
    let is_next : next ≡ read_next = next_same ∙ get_or_default pages n_next next read_next (omega arith) ∙ sym next_is in
    let below : page ≡ slice_index_or pages n page = same ∙ ap (λ (rest : List (List X)). slice_index_or rest n page) removed_is ∙ get_or-remove_below pages n_next page n (omega arith) (omega arith) in
    let is_page : page ≡ read_page = below ∙ get_or_default pages n page read_page (omega arith) ∙ sym page_is in
    joined_small n read_page read_next pages within page_is behind small
    ∙ ap (λ k. slice_set (remove pages k) n (read_page ++ read_next)) (sym at)
    ∙ ap (λ (rest : List (List X)). slice_set rest n (read_page ++ read_next)) (sym removed_is)
    ∙ ap (λ (rows : List X). slice_set removed n (rows ++ read_next)) (sym is_page)
    ∙ ap (λ (rows : List X). slice_set removed n (page ++ rows)) (sym is_next)

-- a page holds at most 64 rows
pub page_most : {X : Type 0} (n before : ℕ) (pages : List (List X)) → ArePages before pages → n < length pages → length (slice_index_or pages n []) ≤ 64
page_most n before [] are within = absurd (omega arith)
page_most zero before (page ∷ pages) are within = are.1
page_most (suc n) before (page ∷ pages) are within = page_most n (length page) pages are.2 (omega arith)

-- reserved capacity after a change
pub room_to : (rows spare pages empties new_rows new_spare new_pages new_empties : ℕ) → HasRoom rows spare pages empties → new_pages + new_empties ≡ pages + empties
    → new_rows + new_spare ≤ rows + spare → new_spare + empties ≤ spare + new_empties → HasRoom new_rows new_spare new_pages new_empties
room_to rows spare pages empties new_rows new_spare new_pages new_empties (inl each) same sum less = inl (omega arith)
room_to rows spare pages empties new_rows new_spare new_pages new_empties (inr all) same sum less = inr (omega arith)

-- a page has a row
pub page_least : {X : Type 0} (n before : ℕ) (pages : List (List X)) → before ≤ 64 → ArePages before pages → n < length pages → 1 ≤ length (slice_index_or pages n [])
page_least n before [] full are within = absurd (omega arith)
page_least zero before (page ∷ pages) full are within = let a : 64 < before + length page = are.0 in omega arith
page_least (suc n) before (page ∷ pages) full are within = page_least n (length page) pages are.1 are.2 (omega arith)

-- two neighbours hold together more than 64 rows
pub neighbours_more : {X : Type 0} (n before : ℕ) (pages : List (List X)) → ArePages before pages → suc n < length pages
    → 64 < length (slice_index_or pages n []) + length (slice_index_or pages (suc n) [])
neighbours_more n before [] are within = absurd (omega arith)
neighbours_more zero before (page ∷ []) are within = absurd (omega arith)
neighbours_more zero before (page ∷ next ∷ pages) are within = are.2.0
neighbours_more (suc n) before (page ∷ pages) are within = neighbours_more n (length page) pages are.2 (omega arith)

-- fewer spare rows need no more
pub room_less : (rows spare less pages empties : ℕ) → HasRoom rows spare pages empties → less ≤ spare → HasRoom rows less pages empties
room_less rows spare less pages empties (inl each) le = inl (omega arith)
room_less rows spare less pages empties (inr all) le = inr (omega arith)
