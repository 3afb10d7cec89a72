use Rattle.std.proofs.Common.{length}
use Rattle.ptc_run.proofs.ReadLemmas.{RowsSoFar}
use Rattle.ptc_run.proofs.first_form.read_rows.Given as goal

abbrev pub invariant-loop-nodes : goal.invariant-loop-nodes
invariant-loop-nodes l = RowsSoFar l.fn.bytes l.nodes l.rest l.count

abbrev pub decreases-loop-nodes : goal.decreases-loop-nodes
decreases-loop-nodes l = length l.rest
