use Rattle.std.proofs.Common.{◌≡◌, length}
use Rattle.lock_table.specs.Locks.{excluder, IsByOwner}
use Rattle.lock_table.proofs.exclusion.first_excluder.Given as goal

abbrev pub invariant-loop-holding : goal.invariant-loop-holding
invariant-loop-holding l = record {
  by_owner : IsByOwner l.rest;
  same : excluder l.fn.owner.0 l.fn.table l.fn.want l.rest ≡ excluder l.fn.owner.0 l.fn.table l.fn.want l.fn.held;
}

abbrev pub decreases-loop-holding : goal.decreases-loop-holding
decreases-loop-holding l = length l.rest
