-- What contracts see of a replica's parts.
use Rattle.world_model.specs.Worlds.{ReplicaView}
use Rattle.world.specs.declared.replicas.Replica.TheInside.{Inside}

abbrev pub replica_view : Inside → ReplicaView
replica_view replica = record { node = replica.node; locals = replica.locals.items; applier = replica.applier }
