use Rattle.std.proofs.Common.{◌≡◌, ◌<◌, ◌+◌, ◌^◌, ◌++◌, length}
use Rattle.world_model.specs.Summary.{verdicts_from}
use Rattle.world_summary.proofs.findings.verdicts.Given as goal

abbrev pub invariant-loop-replica : goal.invariant-loop-replica
invariant-loop-replica l = record {
  lines : l.lines ++ verdicts_from l.number l.source l.rest ≡ verdicts_from 1 l.source l.replicas;
  few : l.number + length l.rest < 2 ^ 32;
}

abbrev pub decreases-loop-replica : goal.decreases-loop-replica
decreases-loop-replica l = length l.rest
