-- Who an owner of locks on a node is.
use Rattle.std.specs.Prelude.{ℕ, ◌-◌, ◌==◌, nat_lt, cond}
use Rattle.workload.specs.declared.actors.Actor.{Actor}
use Rattle.workload.specs.declared.actors.Actor.TheVariants as a
use Rattle.turn_notes.specs.declared.actors.Place.{Place}
use Rattle.turn_notes.specs.declared.actors.Place.TheVariants.{Source, Replica}

-- Sessions of the node have their own numbers, the checksum tool 100, the sync tool of a replica 100 and the replica's
-- number, the workers of a replica 200 and their own.
abbrev pub actor_of : Place → ℕ → Actor
actor_of Source owner = cond (nat_lt owner 100) (a.Session owner) (cond (owner == 100) a.Tool (a.Sync (owner - 100)))
actor_of (Replica replica) owner = cond (nat_lt owner 100) (a.Local replica owner) (cond (nat_lt 200 owner) (a.Worker replica (owner - 200)) (a.Sync (owner - 100)))
