use Rattle.std.proofs.Common.{◌≡◌, ◌++◌, drop}
use Rattle.world_model.specs.Verdicts.{equals_on}
use Rattle.world_summary.proofs.tables.add_equals.Given as goal

abbrev pub invariant-loop-table : goal.invariant-loop-table
invariant-loop-table l =
    l.lines ++ equals_on l.replica l.table (drop l.table l.source) (drop l.table l.own)
    ≡ l.initial.lines ++ equals_on l.replica 0 l.source l.own
