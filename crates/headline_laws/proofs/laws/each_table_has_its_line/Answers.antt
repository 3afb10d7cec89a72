use Rattle.headline_laws.proofs.EqualLemmas.{each_table_line_holds}
use Rattle.headline_laws.proofs.laws.each_table_has_its_line.Goals as goal

pub returns : goal.returns
returns c = each_table_line_holds
