use Rattle.std.proofs.Common.{◌≡◌, drop}
use Rattle.row_types.specs.Faults.{first_fault}
use Rattle.row_types.proofs.row_checks.first_fault_of.Given as goal

abbrev pub invariant-loop-i : goal.invariant-loop-i
invariant-loop-i l = first_fault 0 l.columns l.values ≡ first_fault l.i (drop l.i l.columns) (drop l.i l.values)
