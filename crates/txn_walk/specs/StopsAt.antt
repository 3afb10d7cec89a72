-- The stops of an owner, from a live table and what others have locked.
use Rattle.std.specs.Prelude.{ℕ, ◌++◌, Bool, List, map, take, is_some}
use Rattle.row_types.specs.declared.values.Value.{Value}
use Rattle.row_types.specs.declared.edges.Edge.{Edge}
use Rattle.row_types.specs.declared.table_schema.Schema.{Schema}
use Rattle.ptc_statement.specs.declared.statements.Statement.{Statement}
use Rattle.ptc_statement.specs.Effect.{table_of}
use Rattle.row_types.specs.KeyRows.{row_at}
use Rattle.ordered_table.specs.TableView.{TableView}
use Rattle.lock_table.specs.declared.wants.Holding.{Holding}
use Rattle.lock_table.specs.Locks.{foreign_keys}
use Rattle.txn_walk.specs.declared.plans.Plan.{Plan}
use Rattle.txn_walk.specs.Plans.{next_visit}

-- the keys of the table, and those that other owners have locked
abbrev pub stops_at : ℕ → ℕ → TableView → List Holding → List (List Value)
stops_at owner number table held = foreign_keys owner number held ++ map (take table.key_len) table.rows

abbrev pub is_live_in : TableView → List Value → Bool
is_live_in table key = is_some (row_at table.key_len key table.rows)

abbrev pub plan_at : Schema → Statement → Edge → ℕ → TableView → List Holding → Plan
plan_at schema statement cursor owner table held =
    next_visit schema statement cursor (stops_at owner (table_of statement) table held) (is_live_in table)
