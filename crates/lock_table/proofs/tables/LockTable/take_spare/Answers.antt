use Rattle.std.proofs.Common.{◌≤◌, arith, sym, subst}
use Rattle.lock_table.specs.declared.wants.Holding.{Holding}
use Rattle.lock_table.specs.LockView.{LockView}
use Rattle.lock_table.specs.Locks.{IsLock, AreLocks, IsByOwner}
use Rattle.lock_table.proofs.PlaceLemmas.{each_with, with_by_owner}
use Rattle.lock_table.proofs.tables.LockTable.take_spare.Goals as goal

pub invariant_of-self : goal.invariant_of-self
invariant_of-self c =
    let holding : Holding = record { owner = c.args.owner; table = c.args.table; want = c.args.want } in
    let len = c.put_behind.ensures.len in
    let capacity = c.put_behind.ensures.capacity in
    let room = c.self.invariant.room in
    let spare : 1 ≤ c.self.inside.spare = subst (λ (view : LockView). 1 ≤ view.spare) (sym c.self.view_is) c.requires.room in
    record {
      by_owner = subst IsByOwner (sym c.put_behind.ensures.items) (with_by_owner holding c.self.inside.held.items c.self.invariant.by_owner);
      locks = subst AreLocks (sym c.put_behind.ensures.items) (each_with (λ (h : Holding). IsLock h.want) holding c.self.inside.held.items c.requires.lock c.self.invariant.locks);
      room = omega (arith, len, capacity, room, spare);
    }
