use Rattle.statement_fit_laws.proofs.RootLemmas.{read_is_sayable, read_again, sayable_has_text}
use Rattle.statement_fit_laws.proofs.laws.what_is_read_fits.Goals as goal

pub returns-clause-fits : goal.returns-clause-fits
returns-clause-fits c = read_is_sayable

pub returns-clause-again : goal.returns-clause-again
returns-clause-again c = read_again

pub returns-clause-exact : goal.returns-clause-exact
returns-clause-exact c = sayable_has_text
