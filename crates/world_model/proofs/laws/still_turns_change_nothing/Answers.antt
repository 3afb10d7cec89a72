use Rattle.world_model.proofs.StillLemmas.{still_item}
use Rattle.world_model.proofs.laws.still_turns_change_nothing.Goals as goal

pub returns : goal.returns
returns c = still_item
