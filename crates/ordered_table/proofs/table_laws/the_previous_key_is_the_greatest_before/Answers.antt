use Rattle.ordered_table.proofs.NeighbourLemmas.{greatest_is, none_before}
use Rattle.ordered_table.proofs.table_laws.the_previous_key_is_the_greatest_before.Goals as goal

pub returns-clause-some : goal.returns-clause-some
returns-clause-some c = greatest_is

pub returns-clause-none : goal.returns-clause-none
returns-clause-none c = none_before
