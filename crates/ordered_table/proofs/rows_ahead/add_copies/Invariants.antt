use Rattle.std.proofs.Common.{◌≡◌, ◌++◌, length}
use Rattle.ordered_table.proofs.rows_ahead.add_copies.Given as goal

abbrev pub invariant-loop-row : goal.invariant-loop-row
invariant-loop-row l = l.items.items ++ l.rest ≡ l.initial.items.items ++ l.fn.rows

abbrev pub decreases-loop-row : goal.decreases-loop-row
decreases-loop-row l = length l.rest
