use Rattle.std.proofs.Common.{arith, sym, subst}
use Rattle.lock_table.specs.declared.wants.Holding.{Holding}
use Rattle.lock_table.specs.Locks.{IsLock, AreLocks, IsByOwner}
use Rattle.lock_table.proofs.PlaceLemmas.{each_left, left_by_owner}
use Rattle.lock_table.proofs.tables.LockTable.release.Goals as goal

pub invariant_of-self : goal.invariant_of-self
invariant_of-self c =
    let len = c.take_out.ensures.len in
    let capacity = c.take_out.ensures.capacity in
    let room = c.self.invariant.room in
    record {
      by_owner = subst IsByOwner (sym c.take_out.ensures.items) (left_by_owner c.args.owner.0 c.self.inside.held.items c.self.invariant.by_owner);
      locks = subst AreLocks (sym c.take_out.ensures.items) (each_left (λ (holding : Holding). IsLock holding.want) c.args.owner.0 c.self.inside.held.items c.self.invariant.locks);
      room = omega (arith, len, capacity, room);
    }
