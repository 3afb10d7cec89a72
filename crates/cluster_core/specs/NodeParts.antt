-- What a node keeps beside its history, and how the history gives it.
use Rattle.std.specs.Prelude.{◌≡◌}
use Rattle.history.specs.Replay.{fold, applied_of}
use Rattle.cluster_core.specs.Node.{NodeView}
use Rattle.cluster_core.specs.declared.nodes.Node.TheInside.{Inside}

abbrev pub node_view : Inside → NodeView
node_view node = record { schemas = node.state.schemas; start = node.start; history = node.history.entries }

pub record FollowsHistory (node : Inside) : Type 0 where
  pub here : fold node.state.schemas node.start node.history.entries ≡ node.state.here
  pub applied : applied_of node.history.entries ≡ node.applied
