use Rattle.world_summary.proofs.OrderLemmas.{rows_equal_is}
use Rattle.world_summary.proofs.tables.rows_equal.Goals as goal

pub returns : goal.returns
returns c = rows_equal_is c.same.result c.args.rows.now c.args.others.now c.same.ensures
