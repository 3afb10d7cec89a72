use Rattle.statement_text_laws.proofs.OneTextLemmas.{one_list, one_statement_of_text, one_fault_of_text, never_both_of_text}
use Rattle.statement_text_laws.proofs.laws.one_text.Goals as goal

pub returns-clause-tokens : goal.returns-clause-tokens
returns-clause-tokens c = one_list

pub returns-clause-statement : goal.returns-clause-statement
returns-clause-statement c = one_statement_of_text

pub returns-clause-fault : goal.returns-clause-fault
returns-clause-fault c = one_fault_of_text

pub returns-clause-never_both : goal.returns-clause-never_both
returns-clause-never_both c = never_both_of_text
