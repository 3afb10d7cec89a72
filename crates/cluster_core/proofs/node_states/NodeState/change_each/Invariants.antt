use Rattle.std.proofs.Common.{◌≡◌, length}
use Rattle.std.specs.List.{AllByRecursion}
use Rattle.ptc_statement.specs.Fits.{FitsSchemas}
use Rattle.cluster_core.specs.Node.{after_each}
use Rattle.cluster_core.proofs.node_states.NodeState.change_each.Given as goal

abbrev pub invariant-loop-statement : goal.invariant-loop-statement
invariant-loop-statement l = record {
  fit : AllByRecursion (FitsSchemas l.self.schemas) l.rest;
  after : after_each l.position l.rest l.self ≡ after_each l.position l.statements l.fn.self;
}

abbrev pub decreases-loop-statement : goal.decreases-loop-statement
decreases-loop-statement l = length l.rest
