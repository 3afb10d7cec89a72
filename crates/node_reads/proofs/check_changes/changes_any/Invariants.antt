use Rattle.std.proofs.Common.{◌≡◌, length}
use Rattle.node_reads.specs.CheckChanges.{changes_any}
use Rattle.node_reads.proofs.check_changes.changes_any.Given as goal

abbrev pub invariant-loop-statement : goal.invariant-loop-statement
invariant-loop-statement l = changes_any l.rest ≡ changes_any l.fn.statements

abbrev pub decreases-loop-statement : goal.decreases-loop-statement
decreases-loop-statement l = length l.rest
