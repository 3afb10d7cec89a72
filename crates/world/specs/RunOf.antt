-- What always holds of a world.
use Rattle.workload.specs.declared.workloads.Workload.{Workload}
use Rattle.world_model.specs.Worlds.{WorldView}
use Rattle.world_model.specs.CanRun.{CanRun}
use Rattle.world_model.specs.Rounds.{IsReplayOf}

-- it is what the items of its journal make of a workload that can be run
pub record IsRun (world : WorldView) : Type 0 where
  pub workload : Workload
  pub can_run : CanRun world.options workload
  pub replays : IsReplayOf world.options workload world
