use Rattle.std.proofs.Common.{length}
use Rattle.table_changes.proofs.DoneLemmas.{IsUnderWay}
use Rattle.table_changes.proofs.table_changes.perform.Given as goal

abbrev pub invariant-loop-change : goal.invariant-loop-change
invariant-loop-change l = IsUnderWay l.fn.change.rows l.fn.table l.changes l.table

abbrev pub decreases-loop-change : goal.decreases-loop-change
decreases-loop-change l = length l.changes
