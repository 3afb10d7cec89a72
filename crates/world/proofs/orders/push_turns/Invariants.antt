use Rattle.std.proofs.Common.{◌≡◌, ◌++◌}
use Rattle.world_model.specs.Rounds.{turns_of}
use Rattle.world.specs.Teams.{actor_in}
use Rattle.world.proofs.orders.push_turns.Given as goal

abbrev pub invariant-loop-number : goal.invariant-loop-number
invariant-loop-number l = l.items ≡ l.fn.items ++ turns_of (actor_in l.team) l.number
