use Rattle.row_types.proofs.FaultLemmas.{clipped_is_nearest}
use Rattle.row_types.proofs.order_laws.clipped_numbers_are_nearest.Goals as goal

pub returns : goal.returns
returns c = clipped_is_nearest
