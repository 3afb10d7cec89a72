use Rattle.std.proofs.Common.{◌≡◌, length}
use Rattle.line_values.specs.Values.{the_count}
use Rattle.line_values.proofs.words.count_in.Given as goal

abbrev pub invariant-loop-item : goal.invariant-loop-item
invariant-loop-item l = the_count l.rest ≡ the_count l.items

abbrev pub decreases-loop-item : goal.decreases-loop-item
decreases-loop-item l = length l.rest
