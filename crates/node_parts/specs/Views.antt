-- What is seen of a node: an owner's statement in progress, and a live table.
use Rattle.std.specs.Prelude.{ℕ, ◌≡◌, List, Option, None, Some, option_and_then}
use Rattle.std.specs.List.{slice_get}
use Rattle.row_types.specs.declared.values.Value.{Value}
use Rattle.row_types.specs.KeyRows.{row_at}
use Rattle.ordered_table.specs.TableView.{TableView}
use Rattle.node_model.specs.declared.txns.Walk.{Walk}
use Rattle.node_model.specs.declared.txns.Txn.{Txn}
use Rattle.node_model.specs.Txns.{txn_of}
use Rattle.node_model.specs.Node.{NodeView, live_row}

-- the statement in progress of an owner
abbrev pub walk_of : ℕ → List Txn → Option Walk
walk_of owner txns = option_and_then (λ (txn : Txn). txn.current) (txn_of owner txns)

-- an owner has a transaction with a statement in progress
pub record IsUnderWay (owner : ℕ) (node : NodeView) : Type 0 where
  pub txn : Txn
  pub walk : Walk
  pub found : txn_of owner node.txns ≡ Some txn
  pub current : txn.current ≡ Some walk

-- an owner has a transaction without a statement in progress
pub record IsIdle (owner : ℕ) (node : NodeView) : Type 0 where
  pub txn : Txn
  pub found : txn_of owner node.txns ≡ Some txn
  pub idle : txn.current ≡ None

-- the live table of this number has the live row at each key; there is one for each schema
abbrev pub IsLiveTable : NodeView → ℕ → Option TableView → Type 0
IsLiveTable node number None = slice_get node.schemas number ≡ None
IsLiveTable node number (Some table) = (key : List Value) → row_at table.key_len key table.rows ≡ live_row node number key
