-- What a visit is to read.
use Rattle.std.specs.Prelude.{ℕ, ◌≡◌, List, Option, None, Some}
use Rattle.std.specs.List.{slice_get}
use Rattle.row_types.specs.declared.values.Value.{Value}
use Rattle.row_types.specs.declared.lock_modes.LockMode.{LockMode}
use Rattle.row_types.specs.declared.table_schema.Schema.{Schema}
use Rattle.row_types.specs.KeyRows.{row_at}
use Rattle.ordered_table.specs.TableView.{TableView}
use Rattle.ptc_statement.specs.Effect.{table_of}
use Rattle.node_model.specs.declared.txns.Walk.{Walk}
use Rattle.node_model.specs.declared.txns.Txn.{Txn}
use Rattle.node_model.specs.Txns.{txn_of}
use Rattle.node_model.specs.Node.{NodeView}
use Rattle.node_reads.specs.declared.gains.Gain.{Gain}
use Rattle.node_reads.specs.declared.readings.Reading.{Reading}
use Rattle.node_reads.specs.Gains.{gain_of, row_met}
use Rattle.node_reads.specs.Readings.{reading_of}

-- the row of a table at the key of a lock
abbrev pub row_under : Option (List Value × LockMode) → Option TableView → Option (List Value)
row_under None live = None
row_under (Some lock) None = None
row_under (Some lock) (Some live) = row_at live.key_len lock.0 live.rows

-- what the statement in progress of an owner reads at the key of its visit
pub record HasGain (owner : ℕ) (node : NodeView) (readings : List Reading) (on_key : Option (List Value × LockMode)) (gain : Gain) : Type 0 where
  pub txn : Txn
  pub walk : Walk
  pub schema : Schema
  pub reading : Reading
  pub found : txn_of owner node.txns ≡ Some txn
  pub current : txn.current ≡ Some walk
  pub there : slice_get node.schemas (table_of walk.statement) ≡ Some schema
  pub read : reading_of owner readings ≡ Some reading
  pub is : gain ≡ gain_of schema walk.statement (row_met node (table_of walk.statement) on_key) reading.sum
