use Rattle.file_scripts.proofs.CountLemmas.{counts_stay, local_counted, session_counted, turns_counted, turns_kept}
use Rattle.file_scripts.proofs.laws.counts_of_lines.Goals as goal

pub returns-clause-session : goal.returns-clause-session
returns-clause-session c = session_counted

pub returns-clause-local : goal.returns-clause-local
returns-clause-local c = local_counted

pub returns-clause-turns : goal.returns-clause-turns
returns-clause-turns c = turns_counted

pub returns-clause-stay : goal.returns-clause-stay
returns-clause-stay c = counts_stay

pub returns-clause-kept : goal.returns-clause-kept
returns-clause-kept c = turns_kept
