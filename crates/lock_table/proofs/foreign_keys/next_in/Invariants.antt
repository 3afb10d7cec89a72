use Rattle.std.proofs.Common.{◌≡◌, ◌≤◌, length, drop}
use Rattle.std.specs.Prelude.{option_copied}
use Rattle.lock_table.specs.Locks.{foreign_keys}
use Rattle.lock_table.specs.Stops.{least_key_past}
use Rattle.lock_table.proofs.foreign_keys.next_in.Given as goal

abbrev pub invariant-loop-index : goal.invariant-loop-index
invariant-loop-index l = record {
  within : l.index ≤ length l.fn.held;
  least : option_copied l.least ≡ least_key_past l.fn.edge (foreign_keys l.fn.owner.0 l.fn.table (drop l.index l.fn.held));
}

abbrev pub decreases-loop-index : goal.decreases-loop-index
decreases-loop-index l = l.index
