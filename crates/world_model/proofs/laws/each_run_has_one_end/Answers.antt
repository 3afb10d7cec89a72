use Rattle.world_model.proofs.RoundLemmas.{each_run_has_one_end as one_end}
use Rattle.world_model.proofs.laws.each_run_has_one_end.Goals as goal

pub returns : goal.returns
returns c = one_end
