-- A node: its schemas, what it began with, and its history.
use Rattle.std.specs.Prelude.{ℕ, List, [], ◌∷◌, ◌++◌, Option}
use Rattle.row_types.specs.KeyRows.{Row, TableRows}
use Rattle.row_types.specs.declared.table_schema.Schema.{Schema}
use Rattle.statement_log.specs.declared.entries.Entry.{Entry}
use Rattle.ptc_statement.specs.declared.statements.Statement.{Statement}
use Rattle.history.specs.Replay.{Replayed, after_statement, after_statements, fold}
use Rattle.cluster_core.specs.LiveTables.{row_in}

pub record NodeView : Type 0 where
  pub schemas : List Schema
  pub start : TableRows
  pub history : List Entry

-- its tables and check rows: the replay of its history
abbrev pub replayed_of : NodeView → Replayed
replayed_of node = fold node.schemas node.start node.history

-- the node with one more entry in its history
abbrev pub logged : NodeView → Entry → NodeView
logged node entry = record node { history = node.history ++ entry ∷ [] }

-- the row that a node has at a key of a table
abbrev pub row_on : NodeView → ℕ → Row → Option Row
row_on node table row = row_in node.schemas (replayed_of node).tables table row

-- what a node has at a point of its history: the rows of each table, and the check rows
pub record StateView : Type 0 where
  pub schemas : List Schema
  pub here : Replayed

-- after a statement, and after the statements of an entry, at the entry's position
abbrev pub after : ℕ → Statement → StateView → StateView
after position statement state = record state { here = after_statement state.schemas position statement state.here }

abbrev pub after_each : ℕ → List Statement → StateView → StateView
after_each position statements state = record state { here = after_statements state.schemas position statements state.here }
