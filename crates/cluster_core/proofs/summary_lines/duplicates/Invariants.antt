use Rattle.std.proofs.Common.{◌≡◌, ◌<◌, ◌+◌, ◌^◌, ◌++◌, length}
use Rattle.cluster_core.specs.Summary.{duplicates_from}
use Rattle.cluster_core.proofs.summary_lines.duplicates.Given as goal

abbrev pub invariant-loop-one : goal.invariant-loop-one
invariant-loop-one l = record {
  lines : l.lines ++ duplicates_from l.session l.rest ≡ duplicates_from 1 l.sessions;
  few : l.session + length l.rest < 2 ^ 32;
}

abbrev pub decreases-loop-one : goal.decreases-loop-one
decreases-loop-one l = length l.rest
