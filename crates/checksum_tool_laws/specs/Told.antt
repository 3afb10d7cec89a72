-- What always holds of the checksum tool and its node.
use Rattle.std.specs.Prelude.{ℕ, ◌≡◌, ◌≤◌, ◌<◌, ◌+◌, List, ◌++◌}
use Rattle.std.specs.List.{AllByRecursion}
use Rattle.row_types.specs.declared.edges.Edge.{Edge}
use Rattle.row_types.specs.declared.edges.Edge.TheVariants.{Low, High}
use Rattle.row_types.specs.declared.edges.Span.{Span}
use Rattle.row_types.specs.declared.digests.DigestKind.{DigestKind}
use Rattle.row_types.specs.declared.table_schema.Schema.{Schema}
use Rattle.row_types.specs.KeyRows.{TableRows}
use Rattle.checksum_table.specs.declared.check_rows.CheckEntry.{CheckEntry}
use Rattle.history.specs.Replay.{fold}
use Rattle.history.specs.Headline.{EachIsWritten, MastersAreTrue}
use Rattle.node_model.specs.Node.{NodeView}
use Rattle.node_model.specs.Calls.{fresh_node}
use Rattle.checksum_tool.specs.declared.phases.ToolPhase.{ToolPhase}
use Rattle.checksum_tool.specs.declared.phases.ToolPhase.TheVariants.{Clear, Choose, Walk, Master, RetriesUsed, Finished}
use Rattle.checksum_tool.specs.Tools.{ToolView, new_tool}
use Rattle.checksum_tool_laws.specs.Courses.{Event, EventFits, after_events}
use Rattle.checksum_tool_laws.specs.Cover.{Reaches, Cover, mastered_at, span_at}
use Rattle.checksum_tool_laws.specs.Deeds.{deeds_in, tables_deeds, now_deeds}

abbrev pub checks_of : NodeView → List CheckEntry
checks_of node = (fold node.schemas node.start node.history).checks

-- how far the chunks of the tool's table reach
abbrev pub reached : ToolPhase → ToolView → Edge
reached Clear tool = tool.after
reached Choose tool = tool.after
reached Walk tool = tool.after
reached Master tool = tool.after
reached (RetriesUsed rollbacks) tool = tool.after
reached Finished tool = High

-- how many tables the tool has left behind it
abbrev pub tables_behind : ToolPhase → ToolView → ℕ
tables_behind Clear tool = tool.table
tables_behind Choose tool = tool.table
tables_behind Walk tool = tool.table
tables_behind Master tool = tool.table
tables_behind (RetriesUsed rollbacks) tool = tool.table
tables_behind Finished tool = tool.table + 1

pub record Told (tool : ToolView) (node : NodeView) : Type 0 where
  -- the spans of the chunks that have the source's checksum, of each table
  pub spans : ℕ → List Span
  pub rows : (table chunk : ℕ) → mastered_at table chunk (checks_of node) ≡ span_at chunk (spans table)
  -- those of the tool's table reach to where its next chunk begins
  pub now : Reaches Low (spans tool.table) (reached tool.phase tool)
  -- the tool's entries, each of one statement: for each table CLEARCHECKS, and then a CHECKSUM and a SETMASTER for
  -- each chunk
  pub entries : deeds_in node.history ≡ tables_deeds spans tool.table ++ now_deeds tool.phase tool (spans tool.table)
  -- each entry of the log is as its writer writes them, and each published checksum is the source's own
  pub written : EachIsWritten node.history
  pub masters : MastersAreTrue node.schemas (record { start = node.start; entries = node.history })
  -- cover holds for each table that the tool has left behind it: once it is finished, for all
  pub cover : (table : ℕ) → table < tables_behind tool.phase tool → Cover (checks_of node) table
  pub all : tool.phase ≡ Finished → tables_behind tool.phase tool ≡ tool.tables

-- whatever others do between its turns
abbrev pub ToolCovers : Type 0
ToolCovers =
    (tables : ℕ) (kind : DigestKind) (retries : ℕ) (schemas : List Schema) (start : TableRows) (events : List Event) → 1 ≤ tables → AllByRecursion EventFits events
    → Told (after_events events (record { tool = new_tool tables kind retries; node = fresh_node schemas start })).tool
    (after_events events (record { tool = new_tool tables kind retries; node = fresh_node schemas start })).node
