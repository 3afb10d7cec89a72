use Rattle.file_scripts.proofs.RuleLemmas.{lines_told, steps_told}
use Rattle.file_scripts.proofs.laws.what_breaks_scripts.Goals as goal

pub returns-clause-steps : goal.returns-clause-steps
returns-clause-steps c = steps_told

pub returns-clause-lines : goal.returns-clause-lines
returns-clause-lines c = lines_told
