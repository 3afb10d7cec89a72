use Rattle.duplicate_laws.proofs.ScriptLemmas.{each_is_insert}
use Rattle.duplicate_laws.proofs.laws.each_duplicate_is_an_insert.Goals as goal

pub returns : goal.returns
returns c = each_is_insert
