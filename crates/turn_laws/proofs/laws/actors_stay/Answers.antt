use Rattle.turn_laws.proofs.StayLemmas.{appliers_stay}
use Rattle.turn_laws.proofs.laws.actors_stay.Goals as goal

pub returns-clause-appliers : goal.returns-clause-appliers
returns-clause-appliers c = appliers_stay
