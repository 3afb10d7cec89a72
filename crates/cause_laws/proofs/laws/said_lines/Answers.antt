use Rattle.cause_laws.proofs.SaidLemmas.{good_line, refused_line}
use Rattle.cause_laws.proofs.laws.said_lines.Goals as goal

pub returns-clause-good : goal.returns-clause-good
returns-clause-good c = good_line

pub returns-clause-refused : goal.returns-clause-refused
returns-clause-refused c = refused_line
