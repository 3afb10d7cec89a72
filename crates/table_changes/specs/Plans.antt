-- What a change that is worked out is for.
use Rattle.std.specs.Prelude.{ℕ, ◌≡◌, ◌≤◌}
use Rattle.std.specs.List.{AllByRecursion}
use Rattle.row_types.specs.declared.table_schema.Schema.{Schema}
use Rattle.row_types.specs.KeyRows.{Rows}
use Rattle.row_types.specs.Fit.{IsSchema, IsTable}
use Rattle.ptc_statement.specs.declared.statements.Statement.{Statement}
use Rattle.ptc_statement.specs.Effect.{rows_after}
use Rattle.table_changes.specs.declared.table_changes.TableChange.{TableChange}
use Rattle.table_changes.specs.RowChanges.{ChangeHasKey, done, room_for}

-- the rows that it puts have their keys, and its room is that of those whose keys are absent from these rows
pub record ChangeFits (key_len : ℕ) (rows : Rows) (change : TableChange) : Type 0 where
  pub keys : AllByRecursion (ChangeHasKey key_len) change.rows
  pub room : change.room ≡ room_for key_len change.rows rows

-- a table of a schema, by the schema's key
pub record IsSound (schema : Schema) (key_len : ℕ) (rows : Rows) : Type 0 where
  pub is_schema : IsSchema schema
  pub is_table : IsTable schema rows
  pub same_key : key_len ≡ schema.key_len

-- the change that a statement makes to these rows, in the room of at most one row
pub record IsDue (key_len : ℕ) (schema : Schema) (statement : Statement) (before : Rows) (change : TableChange) : Type 0 where
  pub rows : done key_len change.rows before ≡ rows_after schema statement before
  pub fits : ChangeFits key_len before change
  pub room : change.room ≤ 1
