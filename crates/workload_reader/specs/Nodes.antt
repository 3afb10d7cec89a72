-- Tables by table and node, and by node and table.
use Rattle.std.specs.Prelude.{List, [], ◌∷◌, ◌++◌, map}
use Rattle.row_types.specs.KeyRows.{Rows}
use Rattle.file_rows.specs.declared.file_tables.FileTable.{FileTable}
use Rattle.file_rows.specs.NodeRows.{rows_of}

-- each node has its rows of one table more
abbrev pub with_table : List (List Rows) → List Rows → List (List Rows)
with_table [] rows = []
with_table (node ∷ nodes) [] = []
with_table (node ∷ nodes) (rows ∷ more) = (node ++ rows ∷ []) ∷ with_table nodes more

-- and of each of these tables, whose rows are given by node
abbrev pub with_tables : List (List Rows) → List (List Rows) → List (List Rows)
with_tables nodes [] = nodes
with_tables nodes (table ∷ tables) = with_tables (with_table nodes table) tables

-- the rows of each table, by node
abbrev pub tables_by_node : List FileTable → List (List Rows)
tables_by_node tables = map (λ (table : FileTable). rows_of table.nodes.items) tables
