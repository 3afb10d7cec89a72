use Rattle.node_model.proofs.ReadLemmas.{guarded_rows_stay}
use Rattle.node_model.proofs.laws.locked_rows_stay.Goals as goal

pub returns : goal.returns
returns c = guarded_rows_stay
