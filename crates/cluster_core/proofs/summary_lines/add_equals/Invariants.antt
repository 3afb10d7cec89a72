use Rattle.std.proofs.Common.{◌≡◌, ◌++◌, drop}
use Rattle.cluster_core.specs.LiveTables.{rows_of_each}
use Rattle.cluster_core.specs.Summary.{equals_on}
use Rattle.cluster_core.proofs.summary_lines.add_equals.Given as goal

abbrev pub invariant-loop-table : goal.invariant-loop-table
invariant-loop-table l =
    l.lines ++ equals_on l.replica l.table (rows_of_each (drop l.table l.source)) (rows_of_each (drop l.table l.own))
    ≡ l.initial.lines ++ equals_on l.replica 0 (rows_of_each l.source) (rows_of_each l.own)
