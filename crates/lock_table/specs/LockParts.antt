-- What a lock table keeps, and what always holds of it.
use Rattle.std.specs.Prelude.{◌≤◌, ◌+◌, vec_len, vec_capacity}
use Rattle.lock_table.specs.declared.tables.LockTable.TheInside.{Inside}
use Rattle.lock_table.specs.LockView.{LockView}
use Rattle.lock_table.specs.Locks.{AreLocks, IsByOwner}

abbrev pub lock_view : Inside → LockView
lock_view table = record { held = table.held.items; spare = table.spare }

-- what is held are locks, by ascending owner; there is room for the spare wants
pub record IsKept (table : Inside) : Type 0 where
  pub by_owner : IsByOwner table.held.items
  pub locks : AreLocks table.held.items
  pub room : vec_len table.held + table.spare ≤ vec_capacity table.held
