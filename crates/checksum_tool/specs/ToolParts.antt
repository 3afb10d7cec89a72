-- What contracts see of the tool's parts, and what always holds of them.
use Rattle.std.specs.Prelude.{◌≤◌, ◌<◌, ◌+◌, ◌^◌}
use Rattle.node_model.specs.Node.{NodeView}
use Rattle.checksum_tool.specs.declared.parts.Parts.{Parts}
use Rattle.checksum_tool.specs.declared.tools.ChecksumTool.TheInside.{Inside}
use Rattle.checksum_tool.specs.declared.phases.ToolTurn.{ToolTurn}
use Rattle.checksum_tool.specs.Tools.{ToolView}
use Rattle.checksum_tool.specs.Moves.{Moved}

abbrev pub tool_view : Parts → ToolView
tool_view parts = record {
  tables = parts.tables;
  kind = parts.kind;
  retries = parts.retries;
  phase = parts.phase;
  table = parts.table;
  chunk = parts.chunk;
  after = parts.after;
  until = parts.until;
  rollbacks = parts.rollbacks;
  ended = parts.ended;
}

-- its table is one of the tables; one more rollback than are begun again can be counted
abbrev pub PartsKept : Parts → Type 0
PartsKept parts = (parts.table < parts.tables) × (parts.rollbacks ≤ parts.retries) × (parts.retries + 1 < 2 ^ 32)

abbrev pub moved : ToolTurn → Parts → NodeView → Moved
moved turn parts node = record { turn = turn; tool = tool_view parts; node = node }

abbrev pub view_of : Inside → ToolView
view_of tool = tool_view tool.parts

abbrev pub ToolKept : Inside → Type 0
ToolKept tool = PartsKept tool.parts
