use Rattle.file_laws.proofs.FitLemmas.{one_misfit, whole_fits}
use Rattle.file_laws.proofs.TotalLemmas.{total}
use Rattle.file_laws.proofs.SaidLemmas.{one_said}
use Rattle.file_laws.proofs.CauseLemmas.{one_cause}
use Rattle.file_laws.proofs.laws.one_line.Goals as goal

pub returns-clause-misfit : goal.returns-clause-misfit
returns-clause-misfit c = one_misfit

pub returns-clause-whole : goal.returns-clause-whole
returns-clause-whole c = whole_fits

pub returns-clause-total : goal.returns-clause-total
returns-clause-total c = total

pub returns-clause-said : goal.returns-clause-said
returns-clause-said c = one_said

pub returns-clause-cause : goal.returns-clause-cause
returns-clause-cause c = one_cause
