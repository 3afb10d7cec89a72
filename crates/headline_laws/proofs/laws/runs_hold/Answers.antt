use Rattle.headline_laws.proofs.RunLemmas.{runs_hold}
use Rattle.headline_laws.proofs.laws.runs_hold.Goals as goal

pub returns : goal.returns
returns c = runs_hold
