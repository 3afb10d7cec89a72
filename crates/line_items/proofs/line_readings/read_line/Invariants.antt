use Rattle.std.proofs.Common.{length}
use Rattle.line_items.proofs.ReadLemmas.{Reading}
use Rattle.line_items.proofs.line_readings.read_line.Given as goal

abbrev pub invariant-loop-part : goal.invariant-loop-part
invariant-loop-part l = Reading l.section l.counts l.line l.walk l.place l.rest l.cutting

abbrev pub decreases-loop-part : goal.decreases-loop-part
decreases-loop-part l = length l.rest
