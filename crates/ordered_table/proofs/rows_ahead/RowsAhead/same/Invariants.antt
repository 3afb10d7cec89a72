use Rattle.std.proofs.Common.{◌≡◌, ◌↔◌, length}
use Rattle.ordered_table.proofs.rows_ahead.RowsAhead.same.Given as goal

abbrev pub invariant-loop-row : goal.invariant-loop-row
invariant-loop-row l = (l.ours ≡ l.theirs) ↔ (l.fn.self ≡ l.fn.other)

abbrev pub decreases-loop-row : goal.decreases-loop-row
decreases-loop-row l = length l.ours
