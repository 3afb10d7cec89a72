use Rattle.std.proofs.Common.{◌≡◌, ◌+◌, length}
use Rattle.statement_grammar.specs.Kinds.{column_from, column_named}
use Rattle.statement_reader.proofs.columns.column_named.Given as goal

abbrev pub invariant-loop-column : goal.invariant-loop-column
invariant-loop-column l = record {
  left : column_from l.number l.rest l.name ≡ column_named l.schema l.name;
  count : l.number + length l.rest ≡ length l.schema.columns;
}

abbrev pub decreases-loop-column : goal.decreases-loop-column
decreases-loop-column l = length l.rest
