use Rattle.file_scripts.proofs.LimitLemmas.{locals_few, sessions_few, turns_few}
use Rattle.file_scripts.proofs.laws.counts_within_limits.Goals as goal

pub returns-clause-sessions : goal.returns-clause-sessions
returns-clause-sessions c = sessions_few

pub returns-clause-locals : goal.returns-clause-locals
returns-clause-locals c = locals_few

pub returns-clause-turns : goal.returns-clause-turns
returns-clause-turns c = turns_few
