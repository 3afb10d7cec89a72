-- Actors of one kind, by their numbers from 1.
use Rattle.std.specs.Prelude.{ℕ, ◌≤◌, length}
use Rattle.statement_log.specs.declared.origins.Origin.{Origin}
use Rattle.statement_log.specs.declared.origins.Origin.TheVariants as o
use Rattle.workload.specs.declared.actors.Actor.{Actor}
use Rattle.workload.specs.declared.actors.Actor.TheVariants as a
use Rattle.turn_notes.specs.declared.actors.Place.{Place}
use Rattle.turn_notes.specs.declared.actors.Place.TheVariants as p
use Rattle.world_model.specs.Worlds.{ReplicaView}
use Rattle.world.specs.declared.orders.Team.{Team}
use Rattle.world.specs.declared.orders.Team.TheVariants as t

abbrev pub actor_in : Team → ℕ → Actor
actor_in t.Sessions number = a.Session number
actor_in (t.Locals replica) number = a.Local replica number
actor_in (t.Workers replica) number = a.Worker replica number

abbrev pub FewActors : ReplicaView → Type 0
FewActors replica = (length replica.locals ≤ 16) × (length replica.applier.workers ≤ 8)

-- what the entries of a session on a node have as their origin
abbrev pub origin_of : Place → ℕ → Origin
origin_of p.Source number = o.Session number
origin_of (p.Replica replica) number = o.Local number
