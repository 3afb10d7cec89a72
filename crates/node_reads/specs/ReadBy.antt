-- A reading is what its transaction's statements read.
use Rattle.std.specs.Prelude.{ℕ, ◌≡◌, ◌⊎◌, true, List, [], Option, None, Some}
use Rattle.std.specs.List.{slice_get}
use Rattle.row_types.specs.declared.edges.Edge.{Edge}
use Rattle.row_types.specs.declared.edges.Span.{Span}
use Rattle.row_types.specs.declared.table_schema.Schema.{Schema}
use Rattle.row_types.specs.Order.{edge_le}
use Rattle.row_types.specs.KeyRows.{TableRows}
use Rattle.ptc_statement.specs.declared.statements.Statement.{Statement}
use Rattle.ptc_statement.specs.declared.statements.Statement.TheVariants.{Insert, Replace, Delete, Update, LockRead, Check, SetMaster, ClearChecks}
use Rattle.ptc_statement.specs.Reach.{reach_of}
use Rattle.ptc_statement.specs.Effect.{table_of}
use Rattle.row_digest.specs.Digest.{no_rows}
use Rattle.node_model.specs.declared.txns.Walk.{Walk}
use Rattle.node_model.specs.declared.txns.Txn.{Txn}
use Rattle.node_model.specs.Txns.{txn_of}
use Rattle.node_reads.specs.declared.readings.Reading.{Reading}
use Rattle.node_reads.specs.Readings.{reading_of}
use Rattle.node_reads.specs.Reads.{rows_met, rows_taken, sum_made, tables_after_all, last_read, sums_of}

-- a statement that reads: a locking read, a CHECKSUM
abbrev pub Reads : Statement → Type 0
Reads (Insert table row) = ⊥
Reads (Replace table row) = ⊥
Reads (Delete table where_true) = ⊥
Reads (Update table sets where_true) = ⊥
Reads (LockRead table mode span where_true) = Unit {0}
Reads (Check table chunk span kind) = Unit {0}
Reads (SetMaster table chunk kind master) = ⊥
Reads (ClearChecks table) = ⊥

-- a cursor stands where its walk began, or in its reach
abbrev pub IsOnWay : Span → Edge → Type 0
IsOnWay reach cursor = (cursor ≡ reach.lo) ⊎ ((edge_le reach.lo cursor ≡ true) × (edge_le cursor reach.hi ≡ true))

-- what a statement has read up to its cursor
pub record IsReadUpTo (schema : Schema) (tables : TableRows) (statement : Statement) (cursor : Edge) (reading : Reading) : Type 0 where
  pub taken : reading.taken.items ≡ rows_taken schema statement (rows_met schema tables statement cursor)
  pub sum : reading.sum ≡ sum_made statement (rows_met schema tables statement cursor)
  pub on_way : Reads statement → IsOnWay (reach_of schema statement) cursor

abbrev pub IsReadSoFar : List Schema → TableRows → Option Walk → Reading → Type 0
IsReadSoFar schemas tables None reading = (reading.taken.items ≡ []) × (reading.sum ≡ no_rows)
IsReadSoFar schemas tables (Some walk) reading =
    (schema : Schema) → slice_get schemas (table_of walk.statement) ≡ Some schema → IsReadUpTo schema tables walk.statement walk.cursor reading

-- what a transaction has read, where these tables are committed
pub record IsReading (schemas : List Schema) (tables : TableRows) (txn : Txn) (reading : Reading) : Type 0 where
  pub rows : reading.rows.items ≡ last_read schemas txn.done tables []
  pub sums : reading.sums.items ≡ sums_of schemas txn.done tables
  pub so_far : IsReadSoFar schemas (tables_after_all schemas txn.done tables) txn.current reading

-- each open transaction has its reading
abbrev pub IsReadBy : List Schema → TableRows → Option Txn → Option Reading → Type 0
IsReadBy schemas tables None None = Unit {0}
IsReadBy schemas tables None (Some reading) = ⊥
IsReadBy schemas tables (Some txn) None = ⊥
IsReadBy schemas tables (Some txn) (Some reading) = IsReading schemas tables txn reading

abbrev pub AllRead : List Schema → TableRows → List Txn → List Reading → Type 0
AllRead schemas tables txns readings = (owner : ℕ) → IsReadBy schemas tables (txn_of owner txns) (reading_of owner readings)
