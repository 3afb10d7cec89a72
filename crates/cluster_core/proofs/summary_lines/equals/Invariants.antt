use Rattle.std.proofs.Common.{◌≡◌, ◌<◌, ◌+◌, ◌^◌, ◌++◌, length}
use Rattle.cluster_core.specs.Summary.{equals_from}
use Rattle.cluster_core.proofs.summary_lines.equals.Given as goal

abbrev pub invariant-loop-node : goal.invariant-loop-node
invariant-loop-node l = record {
  lines : l.lines ++ equals_from l.replica l.source.tables l.rest ≡ equals_from 1 l.source.tables l.replicas;
  few : l.replica + length l.rest < 2 ^ 32;
}

abbrev pub decreases-loop-node : goal.decreases-loop-node
decreases-loop-node l = length l.rest
