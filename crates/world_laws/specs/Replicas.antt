-- What holds of the replicas of a run beside its source.
use Rattle.std.specs.List.{AllByRecursion}
use Rattle.history.specs.Replay.{NodeLog, Follows}
use Rattle.history.specs.Headline.{EachVerdictCompares}
use Rattle.node_model.specs.Node.{NodeView}
use Rattle.world_model.specs.Worlds.{WorldView, ReplicaView}
use Rattle.world_laws.specs.Clients.{OfEachWorld}

-- what a node started from, and what happened on it
abbrev pub log_of : NodeView → NodeLog
log_of node = record { start = node.start; entries = node.history }

abbrev pub OfEachReplica : (WorldView → ReplicaView → Type 0) → WorldView → Type 0
OfEachReplica P world = AllByRecursion (P world) world.replicas

-- its history follows the source's log
abbrev pub FollowsSource : WorldView → ReplicaView → Type 0
FollowsSource world replica = Follows world.source.history replica.node.history

-- each verdict of its check rows compares the source's rows and its own
abbrev pub VerdictsCompare : WorldView → ReplicaView → Type 0
VerdictsCompare world replica = EachVerdictCompares replica.node.schemas (log_of world.source) (log_of replica.node)

abbrev pub ReplicasFollow : Type 0
ReplicasFollow = OfEachWorld (OfEachReplica FollowsSource)

abbrev pub EachVerdictHolds : Type 0
EachVerdictHolds = OfEachWorld (OfEachReplica VerdictsCompare)
