use Rattle.std.proofs.Common.{rules}
use Rattle.node_reads.proofs.ChangeLemmas.{one_done}
use Rattle.node_reads.proofs.check_changes.change_one.Goals as goal

pub returns-then-changes_checks-clause-ok : goal.returns-then-changes_checks-clause-ok
returns-then-changes_checks-clause-ok c =
    one_done c.args.position c.in-Some.statement.now c.in-Some.more.now c.loop-statement.rest.now c.args.statements.now c.args.sums.now c.args.checks.now c.loop-statement.checks c.change.new.checks c.changes_checks.result
    (search rules) c.loop-statement.invariant.once c.loop-statement.invariant.same c.loop-statement.invariant.left c.changes_checks.ensures c.if-changes_checks.true c.in_ok-change.ensures.ok
