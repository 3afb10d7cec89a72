use Rattle.std.proofs.Common.{◌≡◌, length}
use Rattle.node_reads.specs.CheckChanges.{checks_with}
use Rattle.node_reads.proofs.check_changes.change_each.Given as goal

abbrev pub invariant-loop-statement : goal.invariant-loop-statement
invariant-loop-statement l = checks_with l.fn.position l.rest l.left l.checks ≡ checks_with l.fn.position l.fn.statements l.fn.sums l.fn.checks

abbrev pub decreases-loop-statement : goal.decreases-loop-statement
decreases-loop-statement l = length l.rest
