use Rattle.std.proofs.Common.{refl}
use Rattle.file_scripts.proofs.ScriptLemmas.{apart_stays, local_begun, locals_told, script_there, session_begun, sessions_told, step_taken}
use Rattle.file_scripts.proofs.laws.scripts_of_lines.Goals as goal

pub returns-clause-none : goal.returns-clause-none
returns-clause-none c = refl

pub returns-clause-session : goal.returns-clause-session
returns-clause-session c = session_begun

pub returns-clause-local : goal.returns-clause-local
returns-clause-local c = local_begun

pub returns-clause-step : goal.returns-clause-step
returns-clause-step c = step_taken

pub returns-clause-stay : goal.returns-clause-stay
returns-clause-stay c = apart_stays

pub returns-clause-some : goal.returns-clause-some
returns-clause-some c = script_there

pub returns-clause-sessions : goal.returns-clause-sessions
returns-clause-sessions c = sessions_told

pub returns-clause-locals : goal.returns-clause-locals
returns-clause-locals c = locals_told
