-- A sound workload can be run, and its scripts run clients' statements alone.
use Rattle.workload.specs.declared.workloads.Workload.{Workload}
use Rattle.workload_laws.specs.Sound.{IsSound}
use Rattle.world_model.specs.declared.options.RunOptions.{RunOptions}
use Rattle.world_model.specs.CanRun.{AreOptions, CanRun}
use Rattle.world_laws.specs.Clients.{AreClients}

abbrev pub SoundWorkloadsCanRun : Type 0
SoundWorkloadsCanRun = (options : RunOptions) (workload : Workload) → AreOptions options → IsSound workload → CanRun options workload × AreClients workload
