use Rattle.std.proofs.Common.{◌≡◌, ◌++◌, length}
use Rattle.std.specs.List.{AllByRecursion}
use Rattle.row_types.specs.Fit.{IsSchema, AreTables}
use Rattle.node_parts.specs.Fresh.{fresh_tables}
use Rattle.node_parts.proofs.makes.fresh_tables.Given as goal

abbrev pub invariant-loop-schema : goal.invariant-loop-schema
invariant-loop-schema l = record {
  schemas : AllByRecursion IsSchema l.schemas;
  start : AreTables l.schemas l.start;
  tables : l.tables.items ++ fresh_tables l.schemas l.start ≡ fresh_tables l.fn.schemas l.fn.start;
}

abbrev pub decreases-loop-schema : goal.decreases-loop-schema
decreases-loop-schema l = length l.schemas
