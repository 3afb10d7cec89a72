use Rattle.std.proofs.Common.{◌≡◌, ◌++◌, length}
use Rattle.ordered_table.specs.Pages.{flat}
use Rattle.ordered_table.proofs.rows_ahead.add_page_copies.Given as goal

abbrev pub invariant-loop-page : goal.invariant-loop-page
invariant-loop-page l = l.items.items ++ flat l.rest ≡ l.initial.items.items ++ flat l.fn.pages

abbrev pub decreases-loop-page : goal.decreases-loop-page
decreases-loop-page l = length l.rest
