-- The rules that a workload keeps.
use Rattle.std.specs.Prelude.{◌≡◌, ◌<◌, ◌≤◌, ℕ, IsTrue, List, [], ◌∷◌, length}
use Rattle.std.specs.List.{AllByRecursion}
use Rattle.row_types.specs.declared.table_schema.Schema.{Schema}
use Rattle.ptc_statement.specs.declared.scripts.Script.{Script}
use Rattle.ptc_statement.specs.declared.scripts.ScriptLine.{ScriptLine}
use Rattle.ptc_statement.specs.declared.scripts.ScriptStep.{ScriptStep}
use Rattle.ptc_statement.specs.declared.scripts.ScriptStep.TheVariants.{Begin, Commit, Rollback, Run}
use Rattle.ptc_statement.specs.Effect.{is_logged}
use Rattle.ptc_statement.specs.Fits.{IsClients, FitsSchemas}
use Rattle.row_types.specs.Fit.{IsSchema, AreTables}
use Rattle.workload_file.specs.declared.actors.Actor.{Actor}
use Rattle.workload_file.specs.declared.actors.Actor.TheVariants.{Session, Tool, Worker}
use Rattle.workload_file.specs.declared.schedule.Item.{Item}
use Rattle.workload_file.specs.declared.schedule.Item.TheVariants.{Turn}
use Rattle.workload_file.specs.declared.workload.Workload.{Workload}

-- a client's statement that is logged and fits; until transactions run row by row each is one of its
-- own, so a script has none of their words
abbrev pub StepFits : List Schema → ScriptStep → Type 0
StepFits schemas Begin = ⊥
StepFits schemas Commit = ⊥
StepFits schemas Rollback = ⊥
StepFits schemas (Run statement) = IsClients statement × FitsSchemas schemas statement × IsTrue (is_logged statement)

-- the line numbers rise
abbrev pub LinesRise : List ScriptLine → Type 0
LinesRise [] = Unit {0}
LinesRise (line ∷ lines) = AllByRecursion (λ (later : ScriptLine). line.line < later.line) lines × LinesRise lines

pub record ScriptFits (schemas : List Schema) (script : Script) : Type 0 where
  pub steps : AllByRecursion (λ (line : ScriptLine). StepFits schemas line.step) script.lines
  pub numbers : LinesRise script.lines

-- an actor of a world with so many sessions and replicas, which are numbered from 1. A replica has one
-- worker.
abbrev pub IsActor : ℕ → ℕ → Actor → Type 0
IsActor sessions replicas (Session session) = (1 ≤ session) × (session ≤ sessions)
IsActor sessions replicas Tool = Unit {0}
IsActor sessions replicas (Worker replica worker) = (1 ≤ replica) × (replica ≤ replicas) × (worker ≡ 1)

-- it names an actor
abbrev pub ItemFits : ℕ → ℕ → Item → Type 0
ItemFits sessions replicas (Turn actor) = IsActor sessions replicas actor

-- 1 to 16 tables, 1 to 8 replicas and up to 64 sessions; on each node a table for each schema;
-- and a schedule of their turns
pub record IsWorkload (w : Workload) : Type 0 where
  pub some_table : 1 ≤ length w.schemas.tables
  pub most_tables : length w.schemas.tables ≤ 16
  pub schemas : AllByRecursion IsSchema w.schemas.tables
  pub some_replica : 1 ≤ w.replicas
  pub most_replicas : w.replicas ≤ 8
  pub source : AreTables w.schemas.tables w.source
  pub copies : AllByRecursion (AreTables w.schemas.tables) w.copies
  pub most_sessions : length w.sessions ≤ 64
  pub scripts : AllByRecursion (ScriptFits w.schemas.tables) w.sessions
  pub each_copied : length w.copies ≡ w.replicas
  pub schedule : AllByRecursion (ItemFits (length w.sessions) w.replicas) w.schedule
