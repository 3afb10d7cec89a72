use Rattle.cluster_laws.proofs.EndLemmas.{one_end}
use Rattle.cluster_laws.proofs.laws.each_run_has_one_end.Goals as goal

pub returns : goal.returns
returns c = one_end
