use Rattle.ordered_table.proofs.NeighbourLemmas.{least_is, none_past}
use Rattle.ordered_table.proofs.table_laws.the_next_key_is_the_least_past.Goals as goal

pub returns-clause-some : goal.returns-clause-some
returns-clause-some c = least_is

pub returns-clause-none : goal.returns-clause-none
returns-clause-none c = none_past
