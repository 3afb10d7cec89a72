use Rattle.std.proofs.Common.{◌≡◌, ◌≤◌, ◌+◌, ◌++◌, length}
use Rattle.std.specs.List.{AllByRecursion}
use Rattle.world_model.specs.Rounds.{replica_turns}
use Rattle.world.specs.Teams.{FewActors}
use Rattle.world.proofs.orders.push_replicas.Given as goal

abbrev pub invariant-loop-replica : goal.invariant-loop-replica
invariant-loop-replica l = record {
  left : l.items ++ replica_turns l.number l.rest ≡ l.fn.items ++ replica_turns 1 l.fn.replicas;
  few : l.number + length l.rest ≤ 9;
  actors : AllByRecursion FewActors l.rest;
}

abbrev pub decreases-loop-replica : goal.decreases-loop-replica
decreases-loop-replica l = length l.rest
