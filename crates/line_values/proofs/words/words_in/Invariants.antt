use Rattle.std.proofs.Common.{◌≡◌, ◌++◌, length}
use Rattle.line_values.specs.Values.{the_words}
use Rattle.line_values.proofs.words.words_in.Given as goal

abbrev pub invariant-loop-item : goal.invariant-loop-item
invariant-loop-item l = l.words.items ++ the_words l.rest ≡ the_words l.items

abbrev pub decreases-loop-item : goal.decreases-loop-item
decreases-loop-item l = length l.rest
