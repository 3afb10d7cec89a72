-- What rows that are still to come are made of, and what always holds of them.
use Rattle.std.specs.Prelude.{◌<◌, ◌^◌, ◌++◌, List, length}
use Rattle.std.specs.List.{AllByRecursion}
use Rattle.row_types.specs.KeyRows.{Rows}
use Rattle.ordered_table.specs.Pages.{flat, HasRow}

-- the rest of a page, whole pages, and the first rows of one more
abbrev pub ahead_rows : Rows → List Rows → Rows → Rows
ahead_rows first pages last = first ++ (flat pages ++ last)

-- each of the whole pages has a row, and the rows can be counted
pub record IsAhead (first : Rows) (pages : List Rows) (last : Rows) : Type 0 where
  pub full : AllByRecursion HasRow pages
  pub fits : length (first ++ (flat pages ++ last)) < 2 ^ 63
