-- A node's live tables as callers see them.
use Rattle.std.specs.Prelude.{ℕ, List, map, Option, option_and_then}
use Rattle.std.specs.List.{slice_get}
use Rattle.row_types.specs.declared.table_schema.Schema.{Schema}
use Rattle.row_types.specs.KeyRows.{Row, TableRows}
use Rattle.row_types.specs.Fit.{key_of}
use Rattle.ordered_table.specs.TableView.{TableView}
use Rattle.ptc_statement.specs.Effect.{row_at}
use Rattle.history.specs.Replay.{table_rows}

-- the schemas, and the rows of each table
pub record LiveView : Type 0 where
  pub schemas : List Schema
  pub tables : TableRows

-- the rows of each of these tables
abbrev pub rows_of_each : List TableView → TableRows
rows_of_each tables = map (λ (table : TableView). table.rows) tables

-- the row that a table has at the key of this one
abbrev pub row_in : List Schema → TableRows → ℕ → Row → Option Row
row_in schemas tables table row =
    option_and_then (λ (schema : Schema). row_at schema (key_of schema row) (table_rows tables table)) (slice_get schemas table)
