use Rattle.statement_text_laws.proofs.SpelledLemmas.{words_are_read}
use Rattle.statement_text_laws.proofs.ExprTextLemmas.{exprs_are_spelled}
use Rattle.statement_text_laws.proofs.CondTextLemmas.{conds_are_spelled}
use Rattle.statement_text_laws.proofs.StatementTextLemmas.{statements_are_spelled}
use Rattle.statement_text_laws.proofs.laws.texts_are_spelled.Goals as goal

pub returns-clause-words : goal.returns-clause-words
returns-clause-words c = words_are_read

pub returns-clause-expressions : goal.returns-clause-expressions
returns-clause-expressions c = exprs_are_spelled

pub returns-clause-conditions : goal.returns-clause-conditions
returns-clause-conditions c = conds_are_spelled

pub returns-clause-statements : goal.returns-clause-statements
returns-clause-statements c = statements_are_spelled
