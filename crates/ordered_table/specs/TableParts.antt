-- What a table keeps, and what always holds of it.
use Rattle.std.specs.Prelude.{◌≡◌, ◌≤◌, ◌<◌, ◌+◌, ◌^◌, length}
use Rattle.row_types.specs.KeyRows.{AreOrdered}
use Rattle.ordered_table.specs.TableView.{TableView}
use Rattle.ordered_table.specs.declared.tables.Table.TheInside.{Inside}
use Rattle.ordered_table.specs.Pages.{flat, ArePages}
use Rattle.ordered_table.specs.Room.{HasRoom}

abbrev pub table_view : Inside → TableView
table_view table = record { key_len = table.key_len; rows = flat table.store.pages; spare = table.spare }

-- the rows rise by key, the pages have their sizes, and there are pages for the spare rows
pub record IsKept (table : Inside) : Type 0 where
  pub key : 1 ≤ table.key_len
  pub most : table.key_len ≤ 2
  pub ordered : AreOrdered table.key_len (flat table.store.pages)
  pub sizes : ArePages 64 table.store.pages
  pub count : table.count ≡ length (flat table.store.pages)
  pub fits : table.count + table.spare < 2 ^ 62
  pub room : HasRoom table.count table.spare (length table.store.pages) table.store.empties
