use Rattle.session_laws.proofs.TurnLemmas.{writes_own}
use Rattle.session_laws.proofs.sessions_write_their_own_calls.Goals as goal

pub returns : goal.returns
returns c = writes_own
