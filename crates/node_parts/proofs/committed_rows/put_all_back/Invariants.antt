use Rattle.node_parts.specs.PutAll.{IsPuttingBack}
use Rattle.node_parts.proofs.committed_rows.put_all_back.Given as goal

abbrev pub invariant-loop-index : goal.invariant-loop-index
invariant-loop-index l = IsPuttingBack l.fn.number l.fn.live l.fn.notes.notes l.table l.index

abbrev pub decreases-loop-index : goal.decreases-loop-index
decreases-loop-index l = l.index
