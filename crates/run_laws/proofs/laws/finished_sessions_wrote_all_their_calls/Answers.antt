use Rattle.run_laws.proofs.CallLemmas.{finished_wrote_all}
use Rattle.run_laws.proofs.laws.finished_sessions_wrote_all_their_calls.Goals as goal

pub returns : goal.returns
returns c = finished_wrote_all c.sessions_write_their_own_calls.ensures
