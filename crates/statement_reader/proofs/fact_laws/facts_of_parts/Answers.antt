use Rattle.statement_reader.proofs.FactLemmas.{leaves, lowers, null_tests, pairs, parens, ranges, signed as signed_numbers, signs}
use Rattle.statement_reader.proofs.fact_laws.facts_of_parts.Goals as goal

pub returns-clause-gaps_and_leaves : goal.returns-clause-gaps_and_leaves
returns-clause-gaps_and_leaves c = leaves

pub returns-clause-signs : goal.returns-clause-signs
returns-clause-signs c = signs

pub returns-clause-two : goal.returns-clause-two
returns-clause-two c = pairs

pub returns-clause-lower : goal.returns-clause-lower
returns-clause-lower c = lowers

pub returns-clause-range : goal.returns-clause-range
returns-clause-range c = ranges

pub returns-clause-nullness : goal.returns-clause-nullness
returns-clause-nullness c = null_tests

pub returns-clause-paren : goal.returns-clause-paren
returns-clause-paren c = parens

pub returns-clause-signed : goal.returns-clause-signed
returns-clause-signed c = signed_numbers
