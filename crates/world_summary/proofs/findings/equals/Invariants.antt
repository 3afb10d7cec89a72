use Rattle.std.proofs.Common.{◌≡◌, ◌<◌, ◌+◌, ◌^◌, ◌++◌, length}
use Rattle.world_model.specs.Summary.{equals_from}
use Rattle.world_summary.proofs.findings.equals.Given as goal

abbrev pub invariant-loop-tables : goal.invariant-loop-tables
invariant-loop-tables l = record {
  lines : l.lines ++ equals_from l.number l.source l.rest ≡ equals_from 1 l.source l.replicas;
  few : l.number + length l.rest < 2 ^ 32;
}

abbrev pub decreases-loop-tables : goal.decreases-loop-tables
decreases-loop-tables l = length l.rest
