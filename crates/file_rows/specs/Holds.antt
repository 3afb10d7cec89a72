-- What the tables and rows of the lines before a line are.
use Rattle.std.specs.Prelude.{◌≡◌, ◌≢◌, ◌≤◌, ℕ, suc, List, [], ◌∷◌, map, length}
use Rattle.std.specs.List.{AllByRecursion}
use Rattle.row_types.specs.declared.table_schema.Schema.{Schema}
use Rattle.row_types.specs.Fit.{IsSchema}
use Rattle.file_text.specs.Said.{Said}
use Rattle.file_text.specs.Context.{schemas_of, replicas_of}
use Rattle.file_text.specs.File.{table_in, nodes_from}
use Rattle.ordered_table.specs.TableView.{TableView}
use Rattle.file_rows.specs.declared.file_tables.FileTable.{FileTable}
use Rattle.file_rows.specs.NodeRows.{rows_of}

abbrev pub schemas_in : List FileTable → List Schema
schemas_in tables = map (λ (table : FileTable). table.schema) tables

abbrev pub IsOfKey : ℕ → TableView → Type 0
IsOfKey key_len table = table.key_len ≡ key_len

-- the table has the rows of these lines, on each node
pub record HoldsTable (before : List Said) (table : FileTable) : Type 0 where
  pub schema : IsSchema table.schema
  pub few : length table.schema.columns ≤ 16
  pub keys : AllByRecursion (IsOfKey table.schema.key_len) table.nodes.items
  pub rows : rows_of table.nodes.items ≡ map (λ (node : ℕ). table_in before node table.schema) (nodes_from 0 (suc (replicas_of before)))

-- no two have one name
abbrev pub AreDistinct : List FileTable → Type 0
AreDistinct [] = Unit {0}
AreDistinct (table ∷ tables) = AllByRecursion (λ (other : FileTable). table.schema.name ≢ other.schema.name) tables × AreDistinct tables

-- these are the tables of the lines before, with their rows
pub record HoldsRows (held : List FileTable) (before : List Said) : Type 0 where
  pub schemas : schemas_in held ≡ schemas_of before
  pub tables : AllByRecursion (HoldsTable before) held
  pub distinct : AreDistinct held
