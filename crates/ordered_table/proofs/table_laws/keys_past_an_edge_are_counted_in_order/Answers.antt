use Rattle.ordered_table.proofs.NeighbourLemmas.{further, no_further}
use Rattle.ordered_table.proofs.table_laws.keys_past_an_edge_are_counted_in_order.Goals as goal

pub returns-clause-further : goal.returns-clause-further
returns-clause-further c = further

pub returns-clause-end : goal.returns-clause-end
returns-clause-end c = no_further
