use Rattle.std.proofs.Common.{◌≡◌, length}
use Rattle.statement_reads.specs.Reads.{columns_fit as all_fit}
use Rattle.statement_reads.proofs.tables.columns_fit.Given as goal

abbrev pub invariant-loop-schema : goal.invariant-loop-schema
invariant-loop-schema l = all_fit l.rest ≡ all_fit l.schemas

abbrev pub decreases-loop-schema : goal.decreases-loop-schema
decreases-loop-schema l = length l.rest
