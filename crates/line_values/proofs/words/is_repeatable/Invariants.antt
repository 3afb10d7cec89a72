use Rattle.std.proofs.Common.{◌≡◌, length}
use Rattle.line_values.specs.Values.{repeatable_in}
use Rattle.line_values.proofs.words.is_repeatable.Given as goal

abbrev pub invariant-loop-item : goal.invariant-loop-item
invariant-loop-item l = repeatable_in l.rest ≡ repeatable_in l.items

abbrev pub decreases-loop-item : goal.decreases-loop-item
decreases-loop-item l = length l.rest
