use Rattle.node_model.proofs.CallLemmas.{locks_keep_always}
use Rattle.node_model.proofs.laws.locks_keep_what_they_cover.Goals as goal

pub returns : goal.returns
returns c = locks_keep_always
