use Rattle.run_laws.proofs.EndLemmas.{actors_are_told}
use Rattle.run_laws.proofs.laws.still_actors_are_told.Goals as goal

pub returns : goal.returns
returns c = actors_are_told
