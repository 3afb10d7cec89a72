use Rattle.std.proofs.Common.{◌≡◌, ◌++◌, length}
use Rattle.std.specs.Prelude.{slice_get}
use Rattle.ordered_table.specs.Pages.{flat}
use Rattle.ordered_table.proofs.rows_ahead.row_among.Given as goal

abbrev pub invariant-loop-page : goal.invariant-loop-page
invariant-loop-page l = slice_get (flat l.rest ++ l.last) l.left ≡ slice_get (flat l.fn.pages ++ l.last) l.fn.index

abbrev pub decreases-loop-page : goal.decreases-loop-page
decreases-loop-page l = length l.rest
