use Rattle.world_laws.proofs.OwnRunLemmas.{sessions_wrote, locals_wrote}
use Rattle.world_laws.proofs.laws.sessions_wrote_their_own_calls.Goals as goal

pub returns-clause-sessions : goal.returns-clause-sessions
returns-clause-sessions c = sessions_wrote c.sessions_write_their_own_calls.ensures

pub returns-clause-locals : goal.returns-clause-locals
returns-clause-locals c = locals_wrote c.sessions_write_their_own_calls.ensures
