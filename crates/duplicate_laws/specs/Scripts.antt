-- The lines that are printed as DUPLICATE are lines of the workload's scripts, and run INSERTs.
use Rattle.std.specs.Prelude.{ℕ, ◌≡◌, ◌-◌, List, Option, None, Some}
use Rattle.std.specs.List.{AllByRecursion, slice_get}
use Rattle.row_types.specs.declared.values.Value.{Value}
use Rattle.ptc_statement.specs.declared.statements.Statement.TheVariants.{Insert}
use Rattle.ptc_statement.specs.declared.scripts.Script.{Script}
use Rattle.ptc_statement.specs.declared.scripts.ScriptLine.{ScriptLine}
use Rattle.ptc_statement.specs.declared.scripts.ScriptStep.TheVariants.{Run}
use Rattle.workload.specs.declared.actors.Actor.{Actor}
use Rattle.workload.specs.declared.actors.Actor.TheVariants.{Session, Tool, Sync, Worker, Local}
use Rattle.workload.specs.declared.schedule.Item.{Item}
use Rattle.workload.specs.declared.workloads.Workload.{Workload}
use Rattle.trace_text.specs.declared.lines.DuplicateLine.{DuplicateLine}
use Rattle.world_model.specs.declared.options.RunOptions.{RunOptions}
use Rattle.world_model.specs.CanRun.{CanRun}
use Rattle.world_model.specs.Worlds.{begun}
use Rattle.world_model.specs.Turns.{played}
use Rattle.world_model.specs.Summary.{duplicates_of}

abbrev pub local_script : ℕ → Option (List Script) → Option Script
local_script local None = None
local_script local (Some scripts) = slice_get scripts (local - 1)

-- the script of the session that an actor is
abbrev pub script_for : Actor → Workload → Option Script
script_for (Session number) workload = slice_get workload.sessions (number - 1)
script_for Tool workload = None
script_for (Sync number) workload = None
script_for (Worker number worker) workload = None
script_for (Local number local) workload = local_script local (slice_get workload.locals (number - 1))

-- a line of these has this number, and runs an INSERT
pub record HasInsert (lines : List ScriptLine) (number : ℕ) : Type 0 where
  pub place : ℕ
  pub line : ScriptLine
  pub found : slice_get lines place ≡ Some line
  pub numbered : line.line ≡ number
  pub table : ℕ
  pub row : List Value
  pub inserts : line.step ≡ Run (Insert table row)

pub record IsOfScript (workload : Workload) (line : DuplicateLine) : Type 0 where
  pub script : Script
  pub of_actor : script_for line.actor workload ≡ Some script
  pub has : HasInsert script.lines line.line

abbrev pub DuplicatesAreInserts : Type 0
DuplicatesAreInserts =
    (options : RunOptions) (workload : Workload) (items : List Item) → CanRun options workload → AllByRecursion (IsOfScript workload) (duplicates_of (played items (begun options workload)))
