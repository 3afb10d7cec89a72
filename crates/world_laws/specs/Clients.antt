-- Scripts run clients' statements alone; and the worlds that items make of such a workload.
use Rattle.std.specs.Prelude.{List}
use Rattle.std.specs.List.{AllByRecursion}
use Rattle.ptc_statement.specs.declared.scripts.Script.{Script}
use Rattle.ptc_statement.specs.declared.scripts.ScriptLine.{ScriptLine}
use Rattle.workload.specs.declared.schedule.Item.{Item}
use Rattle.workload.specs.declared.workloads.Workload.{Workload}
use Rattle.workload_laws.specs.Sound.{RunsClients}
use Rattle.world_model.specs.declared.options.RunOptions.{RunOptions}
use Rattle.world_model.specs.CanRun.{CanRun}
use Rattle.world_model.specs.Worlds.{WorldView, begun}
use Rattle.world_model.specs.Turns.{played}

-- the statements that lines run, if they run any, are clients'
abbrev pub LinesOfClients : List ScriptLine → Type 0
LinesOfClients lines = AllByRecursion (λ (line : ScriptLine). RunsClients line.step) lines

abbrev pub ScriptsOfClients : List Script → Type 0
ScriptsOfClients scripts = AllByRecursion (λ (script : Script). LinesOfClients script.lines) scripts

-- on the source and on each replica
pub record AreClients (workload : Workload) : Type 0 where
  pub sessions : ScriptsOfClients workload.sessions
  pub locals : AllByRecursion ScriptsOfClients workload.locals

-- this holds of each world that items make of a workload that can be run
abbrev pub OfEachWorld : (WorldView → Type 0) → Type 0
OfEachWorld P =
    (options : RunOptions) (workload : Workload) (items : List Item) → CanRun options workload → AreClients workload
    → P (played items (begun options workload))
