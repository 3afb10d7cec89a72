use Rattle.std.proofs.Common.{◌≡◌, ◌++◌, drop}
use Rattle.cluster_core.specs.LiveTables.{rows_of_each}
use Rattle.cluster_core.proofs.live_tables.row_copies.Given as goal

abbrev pub invariant-loop-table : goal.invariant-loop-table
invariant-loop-table l = l.rows ++ rows_of_each (drop l.table-index l.tables) ≡ rows_of_each l.tables
