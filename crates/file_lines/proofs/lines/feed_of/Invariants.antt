use Rattle.std.proofs.Common.{take}
use Rattle.file_lines.specs.Ends.{IsFreeOf}
use Rattle.file_lines.proofs.lines.feed_of.Given as goal

abbrev pub invariant-loop-i : goal.invariant-loop-i
invariant-loop-i l = IsFreeOf 10 (take l.i l.bytes)
