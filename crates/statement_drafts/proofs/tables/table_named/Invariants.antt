use Rattle.std.proofs.Common.{◌≡◌, ◌+◌, length}
use Rattle.std.specs.Option.{option_map}
use Rattle.row_types.specs.declared.table_schema.Schema.{Schema}
use Rattle.std.proofs.Common.{ℕ}
use Rattle.statement_grammar.specs.Draft.{table_from}
use Rattle.statement_drafts.proofs.tables.table_named.Given as goal

abbrev pub invariant-loop-schema : goal.invariant-loop-schema
invariant-loop-schema l = record {
  left : option_map (λ (found : ℕ × Schema). found.0) (table_from l.number l.rest l.name) ≡ option_map (λ (found : ℕ × Schema). found.0) (table_from 0 l.schemas.tables l.name);
  count : l.number + length l.rest ≡ length l.schemas.tables;
}

abbrev pub decreases-loop-schema : goal.decreases-loop-schema
decreases-loop-schema l = length l.rest
