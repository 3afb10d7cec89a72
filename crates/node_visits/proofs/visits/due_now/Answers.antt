use Rattle.std.proofs.Common.{sym}
use Rattle.node_visits.proofs.PlanIsLemmas.{due_is}
use Rattle.node_visits.proofs.visits.due_now.Goals as goal

pub returns : goal.returns
returns c =
    due_is c.args.parts.now c.args.owner c.in-Some.txn.now c.in-Some-current.walk c.as_slice-tables.result.now c.table-number.result c.in_ok-plan.plan c.in_ok-by.by c.is_refused-refused.result
    c.in_ok-duplicate.duplicate c.in_ok-change.change c.requires.kept (sym c.in-Some.ensures) c.in-Some-current.is c.as_slice-tables.ensures.value c.table-number.ensures c.in_ok-plan.ensures c.in_ok-by.ensures
    c.is_refused-refused.ensures c.in_ok-duplicate.ensures c.in_ok-change.ensures
