use Rattle.std.proofs.Common.{◌≡◌, ◌<◌, ◌+◌, ◌^◌, ◌++◌, length}
use Rattle.std.specs.List.{AllByRecursion}
use Rattle.world_model.specs.Summary.{local_duplicates_from}
use Rattle.world_summary.specs.Told.{IsSmall}
use Rattle.world_summary.proofs.findings.add_local_duplicates.Given as goal

abbrev pub invariant-loop-replica : goal.invariant-loop-replica
invariant-loop-replica l = record {
  lines : l.lines ++ local_duplicates_from l.number l.rest ≡ l.initial.lines ++ local_duplicates_from 1 l.replicas;
  few : l.number + length l.rest < 2 ^ 32;
  small : AllByRecursion IsSmall l.rest;
}

abbrev pub decreases-loop-replica : goal.decreases-loop-replica
decreases-loop-replica l = length l.rest
