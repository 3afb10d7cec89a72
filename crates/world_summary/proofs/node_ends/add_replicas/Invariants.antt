use Rattle.std.proofs.Common.{◌≡◌, vec_len}
use Rattle.world_summary.specs.Told.{with_replicas}
use Rattle.world_summary.proofs.node_ends.add_replicas.Given as goal

abbrev pub invariant-loop-replicas : goal.invariant-loop-replicas
invariant-loop-replicas l = with_replicas l.replicas.items l.parts ≡ with_replicas l.fn.replicas.items l.fn.parts

abbrev pub decreases-loop-replicas : goal.decreases-loop-replicas
decreases-loop-replicas l = vec_len l.replicas
