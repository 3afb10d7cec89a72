-- What a split leaves.
use Rattle.std.specs.Prelude.{ℕ, ◌≡◌, ◌≤◌, ◌<◌, ◌+◌, List, ◌++◌, length}
use Rattle.row_types.specs.declared.values.Value.{Value}
use Rattle.ordered_table.specs.Pages.{parted}

-- two pages that hold these rows stand in place of the one of this number
pub record IsParted (n : ℕ) (rows : List (List Value)) (old new : List (List (List Value))) : Type 0 where
  pub lower : List (List Value)
  pub upper : List (List Value)
  pub same : lower ++ upper ≡ rows
  pub lower_most : length lower ≤ 64
  pub upper_most : length upper ≤ 64
  pub sum : 64 < length lower + length upper
  pub pages : new ≡ parted n lower upper old
