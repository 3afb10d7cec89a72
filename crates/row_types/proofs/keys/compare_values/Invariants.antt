use Rattle.std.proofs.Common.{◌≡◌, length}
use Rattle.row_types.specs.Order.{key_cmp}
use Rattle.row_types.proofs.keys.compare_values.Given as goal

abbrev pub invariant-loop-first : goal.invariant-loop-first
invariant-loop-first l = key_cmp l.ours l.theirs ≡ key_cmp l.fn.ours l.fn.theirs

abbrev pub decreases-loop-first : goal.decreases-loop-first
decreases-loop-first l = length l.ours
