use Rattle.std.proofs.Common.{◌≡◌, ◌+◌, drop}
use Rattle.node_reads.specs.Readings.{place_of}
use Rattle.node_reads.proofs.readings.place_of.Given as goal

abbrev pub invariant-loop-place : goal.invariant-loop-place
invariant-loop-place l = l.place + place_of l.owner.0 (drop l.place l.readings) ≡ place_of l.owner.0 l.readings
