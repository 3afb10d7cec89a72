use Rattle.std.proofs.Common.{◌≡◌, ◌+◌, length}
use Rattle.file_scripts.specs.Counting.{turns_of}
use Rattle.file_scripts.proofs.counting.turns_of.Given as goal

abbrev pub invariant-loop-word : goal.invariant-loop-word
invariant-loop-word l = l.turns + turns_of l.rest ≡ turns_of l.words

abbrev pub decreases-loop-word : goal.decreases-loop-word
decreases-loop-word l = length l.rest
