use Rattle.std.proofs.Common.{◌≡◌, ◌≤◌, ◌-◌}
use Rattle.ordered_table.proofs.tables.make_room.Given as goal

pub record IsGrown (l : goal.Live-loop-store) : Type 0 where
  pub pages : l.store.pages ≡ l.initial.store.pages
  pub more : l.initial.store.empties ≤ l.store.empties

abbrev pub invariant-loop-store : goal.invariant-loop-store
invariant-loop-store l = IsGrown l

abbrev pub decreases-loop-store : goal.decreases-loop-store
decreases-loop-store l = l.spare - l.store.empties
