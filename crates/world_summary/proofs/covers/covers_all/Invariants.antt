use Rattle.std.proofs.Common.{◌≡◌}
use Rattle.world_model.specs.Summary.{covers_all}
use Rattle.world_summary.proofs.covers.covers_all.Given as goal

abbrev pub invariant-loop-left : goal.invariant-loop-left
invariant-loop-left l = covers_all l.checks l.left ≡ covers_all l.checks l.count

abbrev pub decreases-loop-left : goal.decreases-loop-left
decreases-loop-left l = l.left
