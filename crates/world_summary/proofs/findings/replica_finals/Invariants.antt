use Rattle.std.proofs.Common.{◌≡◌, ◌++◌, map, length}
use Rattle.std.specs.List.{AllByRecursion}
use Rattle.world_model.specs.Summary.{final_rows}
use Rattle.world_summary.specs.Told.{IsSmall}
use Rattle.world_summary.proofs.findings.replica_finals.Given as goal

abbrev pub invariant-loop-replica : goal.invariant-loop-replica
invariant-loop-replica l = record {
  finals : l.finals ++ map final_rows l.rest ≡ map final_rows l.replicas;
  small : AllByRecursion IsSmall l.rest;
}

abbrev pub decreases-loop-replica : goal.decreases-loop-replica
decreases-loop-replica l = length l.rest
