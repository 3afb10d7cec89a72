use Rattle.std.proofs.Common.{◌≡◌, drop}
use Rattle.cluster_core.specs.SummaryParts.{with_replicas}
use Rattle.cluster_core.proofs.summary.add_copies.Given as goal

abbrev pub invariant-loop-replica : goal.invariant-loop-replica
invariant-loop-replica l = with_replicas (drop l.replica-index l.replicas) l.nodes ≡ with_replicas l.replicas l.initial.nodes
