use Rattle.std.proofs.Common.{◌≡◌, ◌≤◌, length, drop}
use Rattle.lock_table.specs.Locks.{held_on}
use Rattle.lock_table.proofs.strongest.held_in.Given as goal

abbrev pub invariant-loop-index : goal.invariant-loop-index
invariant-loop-index l = record {
  within : l.index ≤ length l.fn.held;
  strongest : l.strongest ≡ held_on l.fn.owner.0 l.fn.table l.fn.key (drop l.index l.fn.held);
}

abbrev pub decreases-loop-index : goal.decreases-loop-index
decreases-loop-index l = l.index
