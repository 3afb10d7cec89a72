use Rattle.std.proofs.Common.{◌≡◌, length}
use Rattle.node_reads.specs.Readings.{reading_of}
use Rattle.node_reads.proofs.readings.read_in.Given as goal

abbrev pub invariant-loop-reading : goal.invariant-loop-reading
invariant-loop-reading l = reading_of l.fn.owner.0 l.rest ≡ reading_of l.fn.owner.0 l.fn.readings

abbrev pub decreases-loop-reading : goal.decreases-loop-reading
decreases-loop-reading l = length l.rest
