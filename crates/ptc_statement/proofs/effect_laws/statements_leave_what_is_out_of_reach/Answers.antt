use Rattle.ptc_statement.proofs.ActLemmas.{effect_outside}
use Rattle.ptc_statement.proofs.effect_laws.statements_leave_what_is_out_of_reach.Goals as goal

pub returns : goal.returns
returns c = effect_outside
