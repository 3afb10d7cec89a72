use Rattle.std.proofs.Common.{◌≡◌, length}
use Rattle.line_values.specs.Values.{the_replica}
use Rattle.line_values.proofs.words.replica_in.Given as goal

abbrev pub invariant-loop-item : goal.invariant-loop-item
invariant-loop-item l = the_replica l.rest ≡ the_replica l.items

abbrev pub decreases-loop-item : goal.decreases-loop-item
decreases-loop-item l = length l.rest
