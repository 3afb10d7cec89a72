use Rattle.std.proofs.Common.{◌≡◌, length}
use Rattle.node_reads.specs.CheckChanges.{changes_once}
use Rattle.node_reads.proofs.check_changes.changes_once.Given as goal

abbrev pub invariant-loop-statement : goal.invariant-loop-statement
invariant-loop-statement l = changes_once l.rest ≡ changes_once l.fn.statements

abbrev pub decreases-loop-statement : goal.decreases-loop-statement
decreases-loop-statement l = length l.rest
