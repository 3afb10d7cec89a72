use Rattle.std.proofs.Common.{◌≡◌, ◌≤◌, ◌+◌, ◌++◌, map, length, vec_len, vec_capacity}
use Rattle.lock_table.specs.declared.wants.Owner.{Owner}
use Rattle.turn_notes.specs.Actors.{actor_of}
use Rattle.turn_notes.proofs.actors.actors_at.Given as goal

abbrev pub invariant-loop-owner : goal.invariant-loop-owner
invariant-loop-owner l =
    (l.actors.items ++ map (λ (owner : Owner). actor_of l.place owner.0) l.rest ≡ map (λ (owner : Owner). actor_of l.place owner.0) l.owners)
    × (vec_len l.actors + length l.rest ≤ vec_capacity l.actors)

abbrev pub decreases-loop-owner : goal.decreases-loop-owner
decreases-loop-owner l = length l.rest
