-- The rows of an open transaction's last locking read.
use Rattle.std.specs.Prelude.{ℕ, [], Option, None, Some}
use Rattle.row_types.specs.KeyRows.{Rows}
use Rattle.history.specs.Replay.{fold}
use Rattle.node_model.specs.declared.txns.Txn.{Txn}
use Rattle.node_model.specs.Txns.{txn_of}
use Rattle.node_model.specs.Node.{NodeView}
use Rattle.node_reads.specs.Reads.{last_read}

abbrev pub read_by : NodeView → Option Txn → Rows
read_by node None = []
read_by node (Some txn) = last_read node.schemas txn.done (fold node.schemas node.start node.history).tables []

-- what the last locking read takes that is done: of the rows that the replay of the history leaves, with the
-- transaction's earlier statements applied
abbrev pub read_rows_of : ℕ → NodeView → Rows
read_rows_of owner node = read_by node (txn_of owner node.txns)
