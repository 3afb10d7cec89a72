use Rattle.limit_laws.proofs.MoveLemmas.{end_or_exceed}
use Rattle.limit_laws.proofs.laws.runs_end_within_their_limit_or_exceed_it.Goals as goal

pub returns : goal.returns
returns c = end_or_exceed
