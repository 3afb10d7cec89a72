use Rattle.ptc_statement.proofs.ReachLemmas.{taken_is_left}
use Rattle.ptc_statement.proofs.effect_laws.no_taken_row_is_out_of_reach.Goals as goal

pub returns : goal.returns
returns c = taken_is_left
