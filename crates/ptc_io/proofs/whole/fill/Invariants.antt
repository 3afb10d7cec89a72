use Rattle.std.proofs.Common.{◌-◌, ◌<◌, ◌≤◌, length, vec_len}
use Rattle.ptc_io.specs.Bytes.{Loses}
use Rattle.ptc_io.proofs.whole.fill.Given as goal

abbrev pub invariant-loop-bytes : goal.invariant-loop-bytes
invariant-loop-bytes g l = record {
  lost : Loses (g.I.Source.left l.fn.input) (g.I.Source.left l.input) l.bytes.items;
  size : vec_len l.bytes ≤ l.most;
  room : 0 < length l.buffer;
  never_falls : g.I.Source.faults l.fn.input ≤ g.I.Source.faults l.input;
}

abbrev pub decreases-loop-bytes : goal.decreases-loop-bytes
decreases-loop-bytes g l = l.most - vec_len l.bytes
