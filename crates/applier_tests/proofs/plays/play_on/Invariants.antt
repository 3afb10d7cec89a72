use Rattle.applier_tests.specs.Replicas.{ReplicaFits}
use Rattle.applier_tests.proofs.plays.play_on.Given as goal

abbrev pub invariant-loop-i : goal.invariant-loop-i
invariant-loop-i l = ReplicaFits l.replica.node.schemas l.replica.source.entries
