use Rattle.std.proofs.Common.{◌∷◌, ◌++◌, take}
use Rattle.cluster_core.specs.World.{sessions_from, workers_from}
use Rattle.cluster_core.specs.Turns.{TookTurns}
use Rattle.workload_file.specs.declared.actors.Actor.TheVariants.{Tool}
use Rattle.workload_file.specs.declared.schedule.Item.TheVariants.{Turn}
use Rattle.cluster_core.proofs.worlds.World.round.Given as goal

abbrev pub invariant-loop-place : goal.invariant-loop-place
invariant-loop-place l = TookTurns l.fn.self l.self (sessions_from 1 l.fn.self.sessions ++ Turn Tool ∷ workers_from 1 (take l.place l.fn.self.replicas)) l.moved
