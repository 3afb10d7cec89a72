-- Which workloads can be run, and under which options.
use Rattle.std.specs.Prelude.{◌≡◌, ◌≤◌, ◌<◌, ◌+◌, ◌^◌, List, length}
use Rattle.std.specs.List.{AllByRecursion}
use Rattle.row_types.specs.declared.table_schema.Schema.{Schema}
use Rattle.row_types.specs.Fit.{IsSchema, AreTables}
use Rattle.ptc_statement.specs.declared.scripts.Script.{Script}
use Rattle.ptc_statement.specs.declared.scripts.ScriptLine.{ScriptLine}
use Rattle.session.specs.Sessions.{RunFits}
use Rattle.workload.specs.declared.workloads.Workload.{Workload}
use Rattle.world_model.specs.declared.options.RunOptions.{RunOptions}

-- the statements of scripts fit

abbrev pub ScriptFits : List Schema → Script → Type 0
ScriptFits schemas script = AllByRecursion (λ (line : ScriptLine). RunFits schemas line.step) script.lines

abbrev pub ScriptsFit : List Schema → List Script → Type 0
ScriptsFit schemas scripts = AllByRecursion (ScriptFits schemas) scripts

abbrev pub LocalsFit : List Schema → List (List Script) → Type 0
LocalsFit schemas locals = AllByRecursion (λ (scripts : List Script). ScriptsFit schemas scripts × (length scripts ≤ 16)) locals

-- one to 16 tables whose rows are tables of their schemas on each of one to 8 replicas, as on the source, and scripts whose
-- statements fit, at most 64 on the source and 16 on each replica
pub record IsRunnable (workload : Workload) : Type 0 where
  pub some_table : 1 ≤ length workload.schemas.tables
  pub few_tables : length workload.schemas.tables ≤ 16
  pub schemas : AllByRecursion IsSchema workload.schemas.tables
  pub source : AreTables workload.schemas.tables workload.source
  pub copies : AllByRecursion (AreTables workload.schemas.tables) workload.copies
  pub replicas : length workload.copies ≡ workload.replicas
  pub some_replica : 1 ≤ workload.replicas
  pub few_replicas : workload.replicas ≤ 8
  pub scripts : ScriptsFit workload.schemas.tables workload.sessions
  pub few_sessions : length workload.sessions ≤ 64
  pub locals : LocalsFit workload.schemas.tables workload.locals
  pub each_local : length workload.locals ≡ workload.replicas

-- one to 8 workers, and a number of retries that can be counted on from
pub record AreOptions (options : RunOptions) : Type 0 where
  pub retries : options.retries + 1 < 2 ^ 32
  pub some_worker : 1 ≤ options.workers
  pub few_workers : options.workers ≤ 8

pub record CanRun (options : RunOptions) (workload : Workload) : Type 0 where
  pub options_fit : AreOptions options
  pub runnable : IsRunnable workload
