use Rattle.applier_laws.proofs.RunLemmas.{appliers_follow}
use Rattle.applier_laws.proofs.appliers_follow.Goals as goal

pub returns : goal.returns
returns c = appliers_follow
