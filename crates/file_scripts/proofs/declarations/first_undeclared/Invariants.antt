use Rattle.std.proofs.Common.{◌≡◌, ◌+◌, length}
use Rattle.file_scripts.specs.Declarations.{first_undeclared}
use Rattle.file_scripts.proofs.declarations.first_undeclared.Given as goal

abbrev pub invariant-loop-word : goal.invariant-loop-word
invariant-loop-word l =
    (first_undeclared l.counts l.replicas l.number l.rest ≡ first_undeclared l.counts l.replicas 0 l.words)
    × (l.number + length l.rest ≡ length l.words)

abbrev pub decreases-loop-word : goal.decreases-loop-word
decreases-loop-word l = length l.rest
