-- Rows in pages: their sizes, the rows of all pages, and how pages are split and joined.
use Rattle.std.specs.Prelude.{ℕ, zero, suc, ◌≡◌, ◌≤◌, ◌<◌, ◌+◌, cond, List, [], ◌∷◌, ◌++◌, length, slice_set, nat_le}
use Rattle.std.specs.List.{insert}

-- the rows of all pages, page after page
abbrev pub flat : {X : Type 0} → List (List X) → List X
flat [] = []
flat (page ∷ pages) = page ++ flat pages

-- Each page has at most 64 rows, and together with the page before it more than 64. The first one stands as
-- if after a page of this many rows; after a full page each page has a row.
abbrev pub ArePages : {X : Type 0} → ℕ → List (List X) → Type 0
ArePages before [] = Unit {0}
ArePages before (page ∷ pages) = (64 < before + length page) × (length page ≤ 64) × ArePages (length page) pages

-- each is more than this together with the next one
abbrev pub NeighboursExceed : ℕ → List ℕ → Type 0
NeighboursExceed most [] = Unit {0}
NeighboursExceed most (m ∷ []) = Unit {0}
NeighboursExceed most (m ∷ n ∷ ns) = (most < m + n) × NeighboursExceed most (n ∷ ns)

-- one page in place of two neighbours, where the two hold at most 64 rows
abbrev pub joined : {X : Type 0} → ℕ → List (List X) → List (List X)
joined n [] = []
joined (suc n) (page ∷ pages) = page ∷ joined n pages
joined zero (page ∷ []) = page ∷ []
joined zero (page ∷ next ∷ pages) = cond (nat_le (length page + length next) 64) ((page ++ next) ∷ pages) (page ∷ next ∷ pages)

-- two pages in place of one
abbrev pub parted : {X : Type 0} → ℕ → List X → List X → List (List X) → List (List X)
parted n lower upper pages = insert (slice_set pages n lower) (suc n) upper

-- after a split of the page of this number each half is joined with its outer neighbour
abbrev pub settled_split : {X : Type 0} → ℕ → List (List X) → List (List X)
settled_split zero pages = joined 1 pages
settled_split (suc n) pages = joined n (joined (suc (suc n)) pages)

-- after the page of this number lost a row it is joined with a neighbour
abbrev pub settled_loss : {X : Type 0} → ℕ → List (List X) → List (List X)
settled_loss zero pages = joined 0 pages
settled_loss (suc n) pages = joined n (joined (suc n) pages)

-- an empty page that stands alone is taken out
abbrev pub without_empty : {X : Type 0} → List (List X) → List (List X)
without_empty [] = []
without_empty ([] ∷ pages) = pages
without_empty ((row ∷ rows) ∷ pages) = (row ∷ rows) ∷ pages

-- there is no page, or the last one has 64 rows
abbrev pub IsLastFull : {X : Type 0} → List (List X) → Type 0
IsLastFull [] = Unit {0}
IsLastFull (page ∷ []) = length page ≡ 64
IsLastFull (page ∷ next ∷ pages) = IsLastFull (next ∷ pages)

-- it has a row
abbrev pub HasRow : {X : Type 0} → List X → Type 0
HasRow [] = ⊥
HasRow (row ∷ rows) = Unit {0}
