use Rattle.std.proofs.Common.{length}
use Rattle.cluster_core.proofs.RunLemmas.{PlaysSoFar}
use Rattle.cluster_core.proofs.worlds.World.play_schedule.Given as goal

abbrev pub invariant-loop-item : goal.invariant-loop-item
invariant-loop-item l = PlaysSoFar l.fn.self l.self

abbrev pub decreases-loop-item : goal.decreases-loop-item
decreases-loop-item l = length l.self.unplayed
