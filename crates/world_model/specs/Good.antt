-- What holds of each world of a workload that can be run: statements fit, and counts stay small.
use Rattle.std.specs.Prelude.{◌≡◌, ◌≤◌, List, length}
use Rattle.std.specs.List.{AllByRecursion}
use Rattle.row_types.specs.declared.table_schema.Schema.{Schema}
use Rattle.ptc_statement.specs.declared.scripts.ScriptLine.{ScriptLine}
use Rattle.session.specs.Sessions.{SessionView, RunFits}
use Rattle.applier.specs.Appliers.{LogFits}
use Rattle.world_model.specs.Worlds.{WorldView, ReplicaView}

-- the statements of a session's script fit
abbrev pub SessionFits : List Schema → SessionView → Type 0
SessionFits schemas session = AllByRecursion (λ (line : ScriptLine). RunFits schemas line.step) session.script

abbrev pub SessionsFit : List Schema → List SessionView → Type 0
SessionsFit schemas sessions = AllByRecursion (SessionFits schemas) sessions

pub record ReplicaFits (schemas : List Schema) (replica : ReplicaView) : Type 0 where
  pub same : replica.node.schemas ≡ schemas
  pub locals_fit : SessionsFit schemas replica.locals
  pub few_locals : length replica.locals ≤ 16
  pub few_workers : length replica.applier.workers ≤ 8

-- a world of these schemas
pub record WorldFits (schemas : List Schema) (world : WorldView) : Type 0 where
  pub same : world.source.schemas ≡ schemas
  pub few_tables : length schemas ≤ 16
  pub sessions_fit : SessionsFit schemas world.sessions
  pub few_sessions : length world.sessions ≤ 64
  pub tool_fits : world.tool.tables ≡ length schemas
  pub log_fits : LogFits schemas world.source.history
  pub replicas_fit : AllByRecursion (ReplicaFits schemas) world.replicas
  pub few_replicas : length world.replicas ≤ 8

abbrev pub IsGood : WorldView → Type 0
IsGood world = WorldFits world.source.schemas world
