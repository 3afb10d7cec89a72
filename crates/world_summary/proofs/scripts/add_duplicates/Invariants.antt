use Rattle.std.proofs.Common.{◌≡◌, ◌<◌, ◌+◌, ◌^◌, ◌++◌, length}
use Rattle.world_model.specs.Summary.{duplicates_from}
use Rattle.world_summary.specs.Scripts.{session_of}
use Rattle.world_summary.proofs.scripts.add_duplicates.Given as goal

abbrev pub invariant-loop-one : goal.invariant-loop-one
invariant-loop-one l = record {
  lines : l.lines ++ duplicates_from (session_of l.place) l.number l.rest ≡ l.initial.lines ++ duplicates_from (session_of l.place) 1 l.sessions;
  few : l.number + length l.rest < 2 ^ 32;
}

abbrev pub decreases-loop-one : goal.decreases-loop-one
decreases-loop-one l = length l.rest
