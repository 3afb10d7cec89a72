use Rattle.table_changes.proofs.StayLemmas.{unchanged, not_deleted, not_updated, others_leave}
use Rattle.table_changes.proofs.table_changes.push_change.Goals as goal

pub returns-else-takes : goal.returns-else-takes
returns-else-takes c =
    unchanged c.args.schema.now c.args.row.now _ c.args.changes.now
    (not_deleted c.args.schema.now c.args.statement.now c.in-Delete.table c.in-Delete.cond c.args.row.now c.takes.result c.in-Delete.is c.takes.ensures c.if-takes.false)

pub returns-else-takes-2 : goal.returns-else-takes-2
returns-else-takes-2 c =
    unchanged c.args.schema.now c.args.row.now _ c.args.changes.now
    (not_updated c.args.schema.now c.args.statement.now c.in-Update.table c.in-Update.sets c.in-Update.cond c.args.row.now c.takes-in-Update.result c.in-Update.is
    c.takes-in-Update.ensures c.if-takes-2.false)

pub returns-in_default : goal.returns-in_default
returns-in_default c =
    unchanged c.args.schema.now c.args.row.now _ c.args.changes.now
    (others_leave c.args.schema.now c.args.statement.now c.args.row.now c.requires.absent c.in_default.not-Delete c.in_default.not-Update)
