-- What was read stays so until its transaction ends, whatever others commit meanwhile.
use Rattle.std.specs.Prelude.{ℕ, ◌≡◌, List, [], Some}
use Rattle.std.specs.List.{AllByRecursion}
use Rattle.row_types.specs.declared.table_schema.Schema.{Schema}
use Rattle.row_types.specs.Fit.{IsSchema, AreTables}
use Rattle.row_types.specs.KeyRows.{TableRows}
use Rattle.history.specs.Replay.{fold}
use Rattle.node_model.specs.declared.txns.Txn.{Txn}
use Rattle.node_model.specs.Txns.{txn_of}
use Rattle.node_model.specs.Node.{NodeView}
use Rattle.node_model.specs.Calls.{Call, CallFits, IsNoCommitOf, after_call, after_calls, fresh_node}
use Rattle.node_reads.specs.Reads.{last_read, sums_of}

-- the tables that the replay of a node's history leaves
abbrev pub replayed_tables : NodeView → TableRows
replayed_tables node = (fold node.schemas node.start node.history).tables

-- an open transaction's statements that are done read the same before and after a call that is not its commit:
-- the rows of the last locking read, and the checksums of the CHECKSUMs
pub record ReadsStay (before after : NodeView) (txn : Txn) : Type 0 where
  pub rows : last_read after.schemas txn.done (replayed_tables after) [] ≡ last_read before.schemas txn.done (replayed_tables before) []
  pub sums : sums_of after.schemas txn.done (replayed_tables after) ≡ sums_of before.schemas txn.done (replayed_tables before)

abbrev pub ReadsStayAlways : Type 0
ReadsStayAlways =
    (schemas : List Schema) (start : TableRows) (calls : List Call) (call : Call) (owner : ℕ) (txn : Txn) → AllByRecursion IsSchema schemas → AreTables schemas start → AllByRecursion (CallFits schemas) calls → CallFits schemas call
    → IsNoCommitOf owner call → txn_of owner (after_calls calls (fresh_node schemas start)).txns ≡ Some txn
    → ReadsStay (after_calls calls (fresh_node schemas start)) (after_call call (after_calls calls (fresh_node schemas start))) txn
