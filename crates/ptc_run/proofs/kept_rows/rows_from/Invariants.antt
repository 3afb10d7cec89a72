use Rattle.std.proofs.Common.{◌≡◌, ◌++◌, map}
use Rattle.ptc_run.specs.KeptRows.{entry_values, rows_in}
use Rattle.ptc_run.proofs.kept_rows.rows_from.Given as goal

abbrev pub invariant-loop-key : goal.invariant-loop-key
invariant-loop-key l = l.rows ++ map entry_values l.key-iterator ≡ rows_in l.kept
