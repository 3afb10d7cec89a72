-- Which page has the place of a key.
use Rattle.std.specs.Prelude.{ℕ, suc, ◌≡◌, ◌<◌, List, [], length, take, drop, map, slice_index_or}
use Rattle.std.specs.List.{AllByRecursion}
use Rattle.std.specs.declared.cmp.Ordering.TheVariants.{Less, Greater}
use Rattle.row_types.specs.declared.values.Value.{Value}
use Rattle.row_types.specs.Order.{key_cmp}
use Rattle.ordered_table.specs.Pages.{flat}

-- the first row of each page
abbrev pub firsts : List (List (List Value)) → List (List Value)
firsts pages = map (λ (page : List (List Value)). slice_index_or page 0 []) pages

-- the key is above each of these rows' keys
abbrev pub IsAboveAll : ℕ → List Value → List (List Value) → Type 0
IsAboveAll key_len key = AllByRecursion (λ (row : List Value). key_cmp key (take key_len row) ≡ Greater)

-- the key is below each of these rows' keys
abbrev pub IsUnderAll : ℕ → List Value → List (List Value) → Type 0
IsUnderAll key_len key = AllByRecursion (λ (row : List Value). key_cmp key (take key_len row) ≡ Less)

-- the rows of the pages before this one are below the key, and those of the pages after it above
pub record IsPageOf (key_len : ℕ) (key : List Value) (pages : List (List (List Value))) (page : ℕ) : Type 0 where
  pub within : page < length pages
  pub before : IsAboveAll key_len key (flat (take page pages))
  pub behind : IsUnderAll key_len key (flat (drop (suc page) pages))
