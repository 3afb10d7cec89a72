use Rattle.cluster_core.proofs.OrderLemmas.{rows_equal_is}
use Rattle.cluster_core.proofs.summary_lines.rows_equal.Goals as goal

pub returns : goal.returns
returns c = rows_equal_is c.same_rows.result c.args.ours.now.rows c.args.theirs.now.rows c.same_rows.ensures
