use Rattle.std.proofs.Common.{◌≡◌, ◌≤◌, length}
use Rattle.ptc_words.specs.Words.{number_from}
use Rattle.ptc_words.proofs.numbers.digits_to.Given as goal

abbrev pub invariant-loop-byte : goal.invariant-loop-byte
invariant-loop-byte l = (number_from l.most l.number l.rest ≡ number_from l.most 0 l.text) × (l.number ≤ l.most)

abbrev pub decreases-loop-byte : goal.decreases-loop-byte
decreases-loop-byte l = length l.rest
