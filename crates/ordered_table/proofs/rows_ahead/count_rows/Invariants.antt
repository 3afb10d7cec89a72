use Rattle.std.proofs.Common.{◌≡◌, ◌+◌, length}
use Rattle.ordered_table.specs.Pages.{flat}
use Rattle.ordered_table.proofs.rows_ahead.count_rows.Given as goal

abbrev pub invariant-loop-page : goal.invariant-loop-page
invariant-loop-page l = l.count + length (flat l.rest) ≡ length (flat l.fn.pages)

abbrev pub decreases-loop-page : goal.decreases-loop-page
decreases-loop-page l = length l.rest
