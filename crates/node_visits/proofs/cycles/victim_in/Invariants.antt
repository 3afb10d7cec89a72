use Rattle.std.proofs.Common.{◌≡◌, length}
use Rattle.node_model.specs.Waits.{first_client}
use Rattle.node_visits.specs.Cycles.{numbers_of}
use Rattle.node_visits.proofs.cycles.victim_in.Given as goal

abbrev pub invariant-loop-first : goal.invariant-loop-first
invariant-loop-first l = first_client l.fn.txns l.fn.owner.0 (numbers_of l.rest) ≡ first_client l.fn.txns l.fn.owner.0 (numbers_of l.fn.cycle)

abbrev pub decreases-loop-first : goal.decreases-loop-first
decreases-loop-first l = length l.rest
