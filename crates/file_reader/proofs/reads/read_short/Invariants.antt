use Rattle.std.proofs.Common.{length}
use Rattle.file_reader.specs.Reads.{ReadTo}
use Rattle.file_reader.proofs.reads.read_short.Given as goal

abbrev pub invariant-loop-line : goal.invariant-loop-line
invariant-loop-line l = ReadTo l.bytes l.rest l.number l.state

abbrev pub decreases-loop-line : goal.decreases-loop-line
decreases-loop-line l = length l.rest
