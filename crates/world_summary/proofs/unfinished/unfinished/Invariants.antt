use Rattle.std.proofs.Common.{◌≡◌, ◌++◌, length}
use Rattle.std.specs.List.{AllByRecursion}
use Rattle.world_model.specs.Ends.{unfinished_in, unfinished_of}
use Rattle.world_model.specs.Rounds.{IsStillAt}
use Rattle.world_summary.proofs.unfinished.unfinished.Given as goal

abbrev pub invariant-loop-item : goal.invariant-loop-item
invariant-loop-item l = record {
  same : l.world ≡ l.fn.world;
  still : AllByRecursion (IsStillAt l.fn.world) l.rest;
  lines : l.lines ++ unfinished_in l.fn.world l.rest ≡ unfinished_of l.fn.world;
}

abbrev pub decreases-loop-item : goal.decreases-loop-item
decreases-loop-item l = length l.rest
