use Rattle.std.proofs.Common.{◌≡◌, ◌<◌, ◌+◌, ◌^◌, ◌++◌, length}
use Rattle.cluster_core.specs.Summary.{verdicts_from}
use Rattle.cluster_core.proofs.summary_lines.verdicts.Given as goal

abbrev pub invariant-loop-node : goal.invariant-loop-node
invariant-loop-node l = record {
  lines : l.lines ++ verdicts_from l.replica l.source l.rest ≡ verdicts_from 1 l.source l.replicas;
  few : l.replica + length l.rest < 2 ^ 32;
}

abbrev pub decreases-loop-node : goal.decreases-loop-node
decreases-loop-node l = length l.rest
