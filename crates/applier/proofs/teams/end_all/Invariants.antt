use Rattle.std.proofs.Common.{◌≡◌, length}
use Rattle.applier.specs.Moves.{all_ended}
use Rattle.applier.proofs.teams.end_all.Given as goal

abbrev pub invariant-loop-first : goal.invariant-loop-first
invariant-loop-first l = all_ended l.rest l.node ≡ all_ended l.fn.workers l.fn.node

abbrev pub decreases-loop-first : goal.decreases-loop-first
decreases-loop-first l = length l.rest
