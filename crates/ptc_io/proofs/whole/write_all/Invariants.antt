use Rattle.std.proofs.Common.{◌≡◌, ℕ, ◌≤◌, [], length, take, drop}
use Rattle.ptc_io.specs.Bytes.{Appends}
use Rattle.ptc_io.proofs.whole.write_all.Given as goal

abbrev pub invariant-loop-rest : goal.invariant-loop-rest
invariant-loop-rest g l = record {
  size : ℕ;
  within : size ≤ length l.text;
  is_rest : l.rest ≡ drop size l.text;
  appended : Appends (g.O.Sink.written l.fn.output) (g.O.Sink.written l.output) (take size l.text);
  never_falls : g.O.Sink.faults l.fn.output ≤ g.O.Sink.faults l.output;
  nothing : l.text ≡ [] → l.output ≡ l.fn.output;
}

abbrev pub decreases-loop-rest : goal.decreases-loop-rest
decreases-loop-rest g l = length l.rest
