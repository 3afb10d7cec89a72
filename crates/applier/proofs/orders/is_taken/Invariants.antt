use Rattle.std.proofs.Common.{◌≡◌, length}
use Rattle.applier.specs.Appliers.{is_taken}
use Rattle.applier.proofs.orders.is_taken.Given as goal

abbrev pub invariant-loop-first : goal.invariant-loop-first
invariant-loop-first l = is_taken l.fn.number l.rest ≡ is_taken l.fn.number l.fn.workers

abbrev pub decreases-loop-first : goal.decreases-loop-first
decreases-loop-first l = length l.rest
