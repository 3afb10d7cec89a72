use Rattle.cluster_core.specs.Turns.{turns_left}
use Rattle.cluster_core.proofs.RunLemmas.{RunsSoFar}
use Rattle.cluster_core.proofs.worlds.World.run.Given as goal

abbrev pub invariant-rounds : goal.invariant-rounds
invariant-rounds l = RunsSoFar l.fn.self l.self

abbrev pub decreases-rounds : goal.decreases-rounds
decreases-rounds l = turns_left l.self
