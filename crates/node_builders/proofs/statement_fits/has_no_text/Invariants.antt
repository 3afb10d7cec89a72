use Rattle.std.proofs.Common.{◌≡◌, length}
use Rattle.node_builders.specs.Asked.{has_no_text}
use Rattle.node_builders.proofs.statement_fits.has_no_text.Given as goal

abbrev pub invariant-loop-first : goal.invariant-loop-first
invariant-loop-first l = has_no_text l.rest ≡ has_no_text l.fn.values

abbrev pub decreases-loop-first : goal.decreases-loop-first
decreases-loop-first l = length l.rest
