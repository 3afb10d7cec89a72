use Rattle.headline_laws.proofs.SameLemmas.{same_tables}
use Rattle.headline_laws.proofs.laws.same_tables_are_equal.Goals as goal

pub returns : goal.returns
returns c = same_tables
