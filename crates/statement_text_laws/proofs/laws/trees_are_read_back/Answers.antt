use Rattle.statement_text_laws.proofs.CanonicalLemmas.{exprs_are_read_back}
use Rattle.statement_text_laws.proofs.ConditionLemmas.{conds_are_read_back}
use Rattle.statement_text_laws.proofs.laws.trees_are_read_back.Goals as goal

pub returns-clause-expressions : goal.returns-clause-expressions
returns-clause-expressions c = exprs_are_read_back

pub returns-clause-conditions : goal.returns-clause-conditions
returns-clause-conditions c = conds_are_read_back
