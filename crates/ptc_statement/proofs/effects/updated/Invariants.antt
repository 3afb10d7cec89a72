use Rattle.std.proofs.Common.{◌≡◌, length}
use Rattle.ptc_statement.specs.Effect.{after_sets}
use Rattle.ptc_statement.proofs.effects.updated.Given as goal

abbrev pub invariant-loop-assignment : goal.invariant-loop-assignment
invariant-loop-assignment l = after_sets l.schema l.rest l.new ≡ after_sets l.schema l.sets l.row

abbrev pub decreases-loop-assignment : goal.decreases-loop-assignment
decreases-loop-assignment l = length l.rest
