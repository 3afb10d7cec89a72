use Rattle.cluster_core.proofs.OrderLemmas.{rows_equal_exact}
use Rattle.cluster_laws.proofs.report_laws.equal_tables_have_the_same_rows.Goals as goal

pub returns : goal.returns
returns c = rows_equal_exact
