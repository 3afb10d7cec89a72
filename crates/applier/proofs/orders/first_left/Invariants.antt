use Rattle.std.proofs.Common.{◌≡◌, ◌+◌}
use Rattle.applier.specs.Appliers.{first_left}
use Rattle.applier.proofs.orders.first_left.Given as goal

abbrev pub invariant-loop-left : goal.invariant-loop-left
invariant-loop-left l = (first_left l.left l.next l.fn.workers ≡ first_left l.fn.count l.fn.number l.fn.workers) × (l.next + l.left ≡ l.fn.number + l.fn.count)

abbrev pub decreases-loop-left : goal.decreases-loop-left
decreases-loop-left l = l.left
