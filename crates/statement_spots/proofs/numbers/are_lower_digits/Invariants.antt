use Rattle.std.proofs.Common.{◌≡◌, length}
use Rattle.statement_grammar.specs.Sentence.{are_lower_digits}
use Rattle.statement_spots.proofs.numbers.are_lower_digits.Given as goal

abbrev pub invariant-loop-byte : goal.invariant-loop-byte
invariant-loop-byte l = are_lower_digits l.rest ≡ are_lower_digits l.text

abbrev pub decreases-loop-byte : goal.decreases-loop-byte
decreases-loop-byte l = length l.rest
