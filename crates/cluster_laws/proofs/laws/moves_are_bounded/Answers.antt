use Rattle.cluster_laws.proofs.EndLemmas.{few_moves}
use Rattle.cluster_laws.proofs.laws.moves_are_bounded.Goals as goal

pub returns : goal.returns
returns c = few_moves
