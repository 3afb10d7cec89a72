use Rattle.std.proofs.Common.{take}
use Rattle.ptc_run.specs.Lines.{IsFreeOf}
use Rattle.ptc_run.proofs.line_cuts.stop_of.Given as goal

abbrev pub invariant-loop-i : goal.invariant-loop-i
invariant-loop-i l = IsFreeOf l.stop (take l.i l.bytes)
