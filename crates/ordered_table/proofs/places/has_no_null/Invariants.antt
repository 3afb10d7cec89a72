use Rattle.std.proofs.Common.{◌↔◌, length}
use Rattle.std.specs.List.{AllByRecursion}
use Rattle.row_types.specs.KeyRows.{IsNotNull}
use Rattle.ordered_table.proofs.places.has_no_null.Given as goal

abbrev pub invariant-loop-first : goal.invariant-loop-first
invariant-loop-first l = AllByRecursion IsNotNull l.rest ↔ AllByRecursion IsNotNull l.values

abbrev pub decreases-loop-first : goal.decreases-loop-first
decreases-loop-first l = length l.rest
