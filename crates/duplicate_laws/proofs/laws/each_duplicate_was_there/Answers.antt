use Rattle.duplicate_laws.proofs.RunLemmas.{each_was_there}
use Rattle.duplicate_laws.proofs.laws.each_duplicate_was_there.Goals as goal

pub returns : goal.returns
returns c = each_was_there
