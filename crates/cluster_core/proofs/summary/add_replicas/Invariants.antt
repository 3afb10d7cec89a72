use Rattle.std.proofs.Common.{◌≡◌, vec_len}
use Rattle.cluster_core.specs.SummaryParts.{with_replicas}
use Rattle.cluster_core.proofs.summary.add_replicas.Given as goal

abbrev pub invariant-loop-replicas : goal.invariant-loop-replicas
invariant-loop-replicas l = with_replicas l.replicas.items l.nodes ≡ with_replicas l.fn.replicas.items l.fn.nodes

abbrev pub decreases-loop-replicas : goal.decreases-loop-replicas
decreases-loop-replicas l = vec_len l.replicas
