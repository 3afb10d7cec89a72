use Rattle.cluster_laws.proofs.HeadlineLemmas.{each_run}
use Rattle.cluster_laws.proofs.laws.each_run_holds.Goals as goal

pub returns : goal.returns
returns c = each_run
