use Rattle.row_types.proofs.SpanLemmas.{between_neighbours}
use Rattle.row_types.proofs.order_laws.no_key_lies_between_neighbours.Goals as goal

pub returns : goal.returns
returns c = between_neighbours
