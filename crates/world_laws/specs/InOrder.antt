-- Scripts are in order: their transactions follow one another and each is ended, and their lines rise.
use Rattle.std.specs.Prelude.{◌≡◌, true, false, List}
use Rattle.std.specs.List.{AllByRecursion}
use Rattle.ptc_statement.specs.declared.scripts.Script.{Script}
use Rattle.session_laws.specs.OwnCalls.{is_whole, LinesRise}
use Rattle.workload.specs.declared.schedule.Item.{Item}
use Rattle.workload.specs.declared.workloads.Workload.{Workload}
use Rattle.workload_laws.specs.Sound.{IsSound}
use Rattle.world_model.specs.declared.options.RunOptions.{RunOptions}
use Rattle.world_model.specs.CanRun.{CanRun}
use Rattle.world_model.specs.Worlds.{WorldView, begun}
use Rattle.world_model.specs.Turns.{played}
use Rattle.world_laws.specs.Clients.{AreClients}

pub record IsInOrder (script : Script) : Type 0 where
  pub whole : is_whole false script.lines ≡ true
  pub rise : LinesRise script.lines

-- on the source and on each replica
pub record AreInOrder (workload : Workload) : Type 0 where
  pub sessions : AllByRecursion IsInOrder workload.sessions
  pub locals : AllByRecursion (AllByRecursion IsInOrder) workload.locals

abbrev pub SoundScriptsAreInOrder : Type 0
SoundScriptsAreInOrder = (workload : Workload) → IsSound workload → AreInOrder workload

-- this holds of each world that items make of a workload that can be run and whose scripts are in order
abbrev pub OfEachOrderedWorld : (WorldView → Type 0) → Type 0
OfEachOrderedWorld P =
    (options : RunOptions) (workload : Workload) (items : List Item) → CanRun options workload → AreClients workload → AreInOrder workload
    → P (played items (begun options workload))
