-- What a world's workload, its sessions and its checksum tool leave in it for good: what it began from, and who wrote
-- the source's log.
use Rattle.std.specs.Prelude.{ℕ, ◌≡◌, ◌≤◌, List, length, map}
use Rattle.std.specs.List.{AllByRecursion}
use Rattle.row_types.specs.KeyRows.{TableRows}
use Rattle.ptc_statement.specs.declared.scripts.Script.{Script}
use Rattle.ptc_statement.specs.declared.scripts.ScriptLine.{ScriptLine}
use Rattle.statement_log.specs.declared.origins.Origin.{Origin}
use Rattle.statement_log.specs.declared.origins.Origin.TheVariants.{Session, Checksum, Sync, Local, Applied}
use Rattle.statement_log.specs.declared.entries.Entry.{Entry}
use Rattle.history.specs.Headline.{EachIsWritten, MastersAreTrue}
use Rattle.session.specs.Sessions.{SessionView}
use Rattle.workload.specs.declared.schedule.Item.{Item}
use Rattle.workload.specs.declared.workloads.Workload.{Workload}
use Rattle.world_model.specs.declared.options.RunOptions.{RunOptions}
use Rattle.world_model.specs.CanRun.{CanRun}
use Rattle.world_model.specs.Worlds.{WorldView, ReplicaView, begun}
use Rattle.world_model.specs.Turns.{played}
use Rattle.world_laws.specs.Clients.{AreClients, OfEachWorld}
use Rattle.world_laws.specs.Replicas.{log_of}

abbrev pub start_of : ReplicaView → TableRows
start_of replica = replica.node.start

abbrev pub script_of : SessionView → List ScriptLine
script_of session = session.script

abbrev pub local_scripts_of : ReplicaView → List (List ScriptLine)
local_scripts_of replica = map script_of replica.locals

abbrev pub lines_of : Script → List ScriptLine
lines_of script = script.lines

-- a world began from the workload, under these options: it has its schedule, its schemas, the start rows of its nodes, and
-- the scripts of their sessions
pub record BeganFrom (options : RunOptions) (workload : Workload) (world : WorldView) : Type 0 where
  pub under : world.options ≡ options
  pub schedule : world.schedule ≡ workload.schedule
  pub schemas : world.source.schemas ≡ workload.schemas.tables
  pub source_start : world.source.start ≡ workload.source
  pub replica_starts : map start_of world.replicas ≡ workload.copies
  pub replica_schemas : AllByRecursion (λ (replica : ReplicaView). replica.node.schemas ≡ workload.schemas.tables) world.replicas
  pub scripts : map script_of world.sessions ≡ map lines_of workload.sessions
  pub local_scripts : map local_scripts_of world.replicas ≡ map (map lines_of) workload.locals

-- who writes the source's log: its sessions, which are numbered from 1, and the checksum tool
abbrev pub IsLogWriter : ℕ → Origin → Type 0
IsLogWriter sessions (Session session) = (1 ≤ session) × (session ≤ sessions)
IsLogWriter sessions Checksum = Unit {0}
IsLogWriter sessions (Sync replica table span) = ⊥
IsLogWriter sessions (Local session) = ⊥
IsLogWriter sessions (Applied number) = ⊥

abbrev pub EachWroteHere : ℕ → List Entry → Type 0
EachWroteHere sessions log = AllByRecursion (λ (entry : Entry). IsLogWriter sessions entry.origin) log

-- each entry of the source's log is one of its sessions' or the checksum tool's, as its writer writes them, and each
-- SETMASTER publishes the source's own checksum
pub record LogHolds (world : WorldView) : Type 0 where
  pub writers : EachWroteHere (length world.sessions) world.source.history
  pub written : EachIsWritten world.source.history
  pub masters : MastersAreTrue world.source.schemas (log_of world.source)

abbrev pub EachWorldBegan : Type 0
EachWorldBegan =
    (options : RunOptions) (workload : Workload) (items : List Item) → CanRun options workload → AreClients workload
    → BeganFrom options workload (played items (begun options workload))

abbrev pub LogsAreWritten : Type 0
LogsAreWritten = OfEachWorld LogHolds
