use Rattle.history.proofs.EqualLemmas.{stay_equal}
use Rattle.history.proofs.laws.equal_tables_stay_equal.Goals as goal

pub returns : goal.returns
returns c = stay_equal
