use Rattle.std.proofs.Common.{◌≡◌, ◌++◌, List, length, map}
use Rattle.row_types.specs.declared.values.Value.{Value}
use Rattle.ordered_table.proofs.page_lengths.lengths_of.Given as goal

abbrev pub invariant-loop-page : goal.invariant-loop-page
invariant-loop-page l = l.lengths.items ++ map (λ (page : List (List Value)). length page) l.rest ≡ map (λ (page : List (List Value)). length page) l.pages

abbrev pub decreases-loop-page : goal.decreases-loop-page
decreases-loop-page l = length l.rest
