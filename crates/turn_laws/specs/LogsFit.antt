-- The statements of a source's log fit its tables.
use Rattle.std.specs.Prelude.{ℕ, ◌≡◌, ◌<◌, length}
use Rattle.node_model.specs.Node.{NodeView}
use Rattle.node_model.specs.Kept.{IsKept}
use Rattle.session.specs.Sessions.{SessionView}
use Rattle.session.specs.Moves.{next_move}
use Rattle.applier.specs.Appliers.{LogFits}
use Rattle.checksum_tool.specs.Tools.{ToolView}
use Rattle.checksum_tool.specs.Moves.{next_move as tool_move}

abbrev pub HistoryFits : NodeView → Type 0
HistoryFits node = LogFits node.schemas node.history

abbrev pub SessionsLogWhatFits : Type 0
SessionsLogWhatFits =
    (retries : ℕ) (session : SessionView) (node : NodeView) → IsKept node → HistoryFits node
    → LogFits node.schemas (next_move retries session node).node.history

-- the tool goes through the node's tables, and has one of them
pub record IsAmongTables (tool : ToolView) (node : NodeView) : Type 0 where
  pub tables : tool.tables ≡ length node.schemas
  pub table : tool.table < tool.tables

abbrev pub ToolLogsWhatFits : Type 0
ToolLogsWhatFits =
    (tool : ToolView) (node : NodeView) → IsKept node → IsAmongTables tool node → HistoryFits node
    → LogFits node.schemas (tool_move tool node).node.history
    × ((tool_move tool node).tool.table < (tool_move tool node).tool.tables)
