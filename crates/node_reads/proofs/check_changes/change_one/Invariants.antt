use Rattle.std.proofs.Common.{◌≡◌, true, length}
use Rattle.node_reads.specs.CheckChanges.{changes_once, checks_with}
use Rattle.node_reads.proofs.check_changes.change_one.Given as goal

abbrev pub invariant-loop-statement : goal.invariant-loop-statement
invariant-loop-statement l = record {
  once : changes_once l.rest ≡ true;
  same : l.checks ≡ l.fn.checks;
  left : checks_with l.fn.position l.rest l.fn.sums l.fn.checks ≡ checks_with l.fn.position l.fn.statements l.fn.sums l.fn.checks;
}

abbrev pub decreases-loop-statement : goal.decreases-loop-statement
decreases-loop-statement l = length l.rest
