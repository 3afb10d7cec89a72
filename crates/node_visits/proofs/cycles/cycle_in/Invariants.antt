use Rattle.std.proofs.Common.{◌≡◌}
use Rattle.node_model.specs.Waits.{next_wait, cycle_of}
use Rattle.node_parts.specs.Kept.{node_view}
use Rattle.node_visits.proofs.CycleLemmas.{whole_way}
use Rattle.node_visits.proofs.cycles.cycle_in.Given as goal

abbrev pub invariant-loop-left : goal.invariant-loop-left
invariant-loop-left l = whole_way (next_wait (node_view l.parts)) l.owner.0 l.way l.left l.at.0 ≡ cycle_of (node_view l.parts) l.owner.0

abbrev pub decreases-loop-left : goal.decreases-loop-left
decreases-loop-left l = l.left
