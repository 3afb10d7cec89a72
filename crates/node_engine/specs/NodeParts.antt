-- A node is seen as its parts are, and keeps what they do.
use Rattle.node_model.specs.Node.{NodeView}
use Rattle.node_engine.specs.declared.nodes.Node.TheInside.{Inside}
use Rattle.node_parts.specs.Kept.{node_view, PartsKept}
use Rattle.node_parts.specs.KeptReads.{ReadsKept}

abbrev pub view_of : Inside → NodeView
view_of node = node_view node.parts

pub record NodeKept (node : Inside) : Type 0 where
  pub parts : PartsKept node.parts
  pub reads : ReadsKept node.parts
