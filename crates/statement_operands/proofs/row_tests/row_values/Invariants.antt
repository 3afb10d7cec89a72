use Rattle.std.proofs.Common.{◌≡◌, length}
use Rattle.statement_grammar.specs.Kinds.{row_breaches_from, values_in}
use Rattle.statement_grammar.specs.Terms.{key_values}
use Rattle.statement_reader.specs.Facts.{least_of}
use Rattle.statement_operands.specs.RowTests.{all_values, least_breach}
use Rattle.statement_operands.proofs.row_tests.row_values.Given as goal

abbrev pub invariant-loop-token : goal.invariant-loop-token
invariant-loop-token l = record {
  values : all_values l.read l.rest ≡ key_values l.tokens;
  breach : least_breach l.schema l.read l.rest ≡ least_of (row_breaches_from l.schema 0 (values_in l.tokens));
}

abbrev pub decreases-loop-token : goal.decreases-loop-token
decreases-loop-token l = length l.rest
