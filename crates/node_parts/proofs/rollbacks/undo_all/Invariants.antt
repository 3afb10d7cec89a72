use Rattle.node_parts.specs.Undone.{IsUndoing}
use Rattle.node_parts.proofs.rollbacks.undo_all.Given as goal

abbrev pub invariant-loop-index : goal.invariant-loop-index
invariant-loop-index l = IsUndoing l.fn._schemas.tables l.fn.owner.0 l.fn.tables.items l.fn.notes.notes l.tables.items l.notes.notes l.index

abbrev pub decreases-loop-index : goal.decreases-loop-index
decreases-loop-index l = l.index
