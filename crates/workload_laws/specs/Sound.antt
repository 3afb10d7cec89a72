-- What a run may rely on of the workload that a file is.
use Rattle.std.specs.Prelude.{◌≡◌, ◌≤◌, ◌-◌, ⊤, ℕ, true, false, List, Option, None, Some, length}
use Rattle.std.specs.List.{slice_get, AllByRecursion}
use Rattle.row_types.specs.declared.table_schema.Schema.{Schema}
use Rattle.row_types.specs.Fit.{IsSchema, AreTables}
use Rattle.ptc_statement.specs.declared.scripts.Script.{Script}
use Rattle.ptc_statement.specs.declared.scripts.ScriptLine.{ScriptLine}
use Rattle.ptc_statement.specs.declared.scripts.ScriptStep.{ScriptStep}
use Rattle.ptc_statement.specs.declared.scripts.ScriptStep.TheVariants.{Begin, Commit, Rollback, Run}
use Rattle.ptc_statement.specs.Fits.{IsClients}
use Rattle.session.specs.Sessions.{RunFits}
use Rattle.session_laws.specs.OwnCalls.{is_whole, LinesRise}
use Rattle.workload.specs.declared.actors.Actor.{Actor}
use Rattle.workload.specs.declared.actors.Actor.TheVariants as a
use Rattle.workload.specs.declared.schedule.Item.{Item}
use Rattle.workload.specs.declared.schedule.Item.TheVariants as i
use Rattle.workload.specs.declared.workloads.Workload.{Workload}
use Rattle.workload.specs.Gives.{IsWorkload}

-- a number from 1 on, of so many at most
abbrev pub IsOneOf : ℕ → ℕ → Type 0
IsOneOf count number = (1 ≤ number) × (number ≤ count)

-- ---- scripts

-- the statement that a step runs, if it runs one, is a client's
abbrev pub RunsClients : ScriptStep → Type 0
RunsClients Begin = ⊤
RunsClients Commit = ⊤
RunsClients Rollback = ⊤
RunsClients (Run statement) = IsClients statement

pub record IsStep (schemas : List Schema) (step : ScriptStep) : Type 0 where
  pub fits : RunFits schemas step
  pub clients : RunsClients step

-- its transactions follow one another, and each is ended; its lines are by rising number in the file
pub record IsScript (schemas : List Schema) (script : Script) : Type 0 where
  pub steps : AllByRecursion (λ (line : ScriptLine). IsStep schemas line.step) script.lines
  pub whole : is_whole false script.lines ≡ true
  pub rise : LinesRise script.lines

-- ---- the schedule

-- a session of these
abbrev pub IsLocalOf : Option (List Script) → ℕ → Type 0
IsLocalOf None session = ⊥
IsLocalOf (Some scripts) session = IsOneOf (length scripts) session

-- the actor is there; a replica has eight workers at most
abbrev pub IsDeclared : Workload → Actor → Type 0
IsDeclared workload (a.Session session) = IsOneOf (length workload.sessions) session
IsDeclared workload a.Tool = ⊤
IsDeclared workload (a.Sync replica) = IsOneOf (length workload.copies) replica
IsDeclared workload (a.Worker replica worker) = IsOneOf (length workload.copies) replica × IsOneOf 8 worker
IsDeclared workload (a.Local replica session) = IsOneOf (length workload.copies) replica × IsLocalOf (slice_get workload.locals (replica - 1)) session

abbrev pub IsItem : Workload → Item → Type 0
IsItem workload (i.Turn actor) = IsDeclared workload actor
IsItem workload i.StopTool = ⊤
IsItem workload i.ResumeTool = ⊤
IsItem workload (i.StopReplica replica) = IsOneOf (length workload.copies) replica
IsItem workload (i.StartReplica replica) = IsOneOf (length workload.copies) replica

-- ---- the whole

pub record IsSound (workload : Workload) : Type 0 where
  pub schemas : AllByRecursion IsSchema workload.schemas.tables
  pub tables : IsOneOf 16 (length workload.schemas.tables)
  pub source : AreTables workload.schemas.tables workload.source
  pub copies : AllByRecursion (AreTables workload.schemas.tables) workload.copies
  pub replicas : IsOneOf 8 (length workload.copies)
  pub counted : workload.replicas ≡ length workload.copies
  pub sessions : length workload.sessions ≤ 64
  -- a list of local sessions for each replica, of 16 at most
  pub locals : length workload.locals ≡ length workload.copies
  pub locals_most : AllByRecursion (λ (scripts : List Script). length scripts ≤ 16) workload.locals
  pub scripts : AllByRecursion (IsScript workload.schemas.tables) workload.sessions
  pub local_scripts : AllByRecursion (AllByRecursion (IsScript workload.schemas.tables)) workload.locals
  pub schedule : AllByRecursion (IsItem workload) workload.schedule

-- the workload that a file is, is sound
abbrev pub FilesAreSound : Type 0
FilesAreSound = (bytes : List ℕ) (workload : Workload) → IsWorkload bytes workload → IsSound workload
