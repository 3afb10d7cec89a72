-- The world of a run, and what it begins from.
use Rattle.std.specs.Prelude.{ℕ, ◌+◌, List, [], ◌∷◌, length}
use Rattle.row_types.specs.KeyRows.{TableRows}
use Rattle.row_types.specs.declared.table_schema.Schema.{Schema}
use Rattle.ptc_statement.specs.declared.scripts.Script.{Script}
use Rattle.statement_log.specs.declared.origins.Origin.{Origin}
use Rattle.statement_log.specs.declared.origins.Origin.TheVariants.{Session, Local}
use Rattle.node_model.specs.Node.{NodeView}
use Rattle.node_model.specs.Calls.{fresh_node}
use Rattle.session.specs.Sessions.{SessionView, new_session}
use Rattle.applier.specs.Appliers.{ApplierView, new_applier}
use Rattle.checksum_tool.specs.Tools.{ToolView, new_tool}
use Rattle.workload.specs.declared.schedule.Item.{Item}
use Rattle.workload.specs.declared.workloads.Workload.{Workload}
use Rattle.trace_text.specs.declared.lines.JournalLine.{JournalLine}
use Rattle.world_model.specs.declared.options.RunOptions.{RunOptions}

-- a replica: its node, the sessions that write it locally, and the applier of the source's log
pub record ReplicaView : Type 0 where
  pub node : NodeView
  pub locals : List SessionView
  pub applier : ApplierView

-- the source with its sessions and the checksum tool, the replicas by number, the schedule, and a line for each of its
-- items that was played and for each further turn that moved
pub record WorldView : Type 0 where
  pub options : RunOptions
  pub source : NodeView
  pub sessions : List SessionView
  pub tool : ToolView
  pub replicas : List ReplicaView
  pub schedule : List Item
  pub journal : List JournalLine

-- the sessions of scripts, the first of this number; a session holds locks as the owner of its number
abbrev pub begun_sessions : (ℕ → Origin) → ℕ → List Script → List SessionView
begun_sessions origin number [] = []
begun_sessions origin number (script ∷ scripts) =
    new_session (record { 0 = number }) (origin number) script.lines ∷ begun_sessions origin (number + 1) scripts

abbrev pub begun_replica : RunOptions → List Schema → ℕ → TableRows → List Script → ReplicaView
begun_replica options schemas number start scripts = record {
  node = fresh_node schemas start;
  locals = begun_sessions Local 1 scripts;
  applier = new_applier number options.workers;
}

-- the replicas of start rows and local scripts, the first of this number
abbrev pub begun_replicas : RunOptions → List Schema → ℕ → List TableRows → List (List Script) → List ReplicaView
begun_replicas options schemas number [] locals = []
begun_replicas options schemas number (start ∷ copies) [] = []
begun_replicas options schemas number (start ∷ copies) (scripts ∷ locals) =
    begun_replica options schemas number start scripts ∷ begun_replicas options schemas (number + 1) copies locals

-- the world before its first move
abbrev pub begun : RunOptions → Workload → WorldView
begun options workload = record {
  options = options;
  source = fresh_node workload.schemas.tables workload.source;
  sessions = begun_sessions Session 1 workload.sessions;
  tool = new_tool (length workload.schemas.tables) options.kind options.retries;
  replicas = begun_replicas options workload.schemas.tables 1 workload.copies workload.locals;
  schedule = workload.schedule;
  journal = [];
}
