use Rattle.statement_grammar.proofs.FirstLemmas.{first_is_least}
use Rattle.statement_grammar.proofs.UniqueLemmas.{one_statement, one_first_fault, never_both}
use Rattle.statement_grammar.proofs.laws.one_reading.Goals as goal

pub returns-clause-statement : goal.returns-clause-statement
returns-clause-statement c = one_statement

pub returns-clause-fault : goal.returns-clause-fault
returns-clause-fault c = one_first_fault

pub returns-clause-never_both : goal.returns-clause-never_both
returns-clause-never_both c = never_both

pub returns-clause-least : goal.returns-clause-least
returns-clause-least c = first_is_least
