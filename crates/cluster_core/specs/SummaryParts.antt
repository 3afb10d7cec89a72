-- The parts of a summary that nodes have, and the lines that are worked out from them.
use Rattle.std.specs.Prelude.{List, [], ◌∷◌, ◌++◌, map}
use Rattle.report_text.specs.declared.summaries.Summary.{Summary}
use Rattle.cluster_core.specs.Node.{NodeView, replayed_of}
use Rattle.cluster_core.specs.Sessions.{SessionView}
use Rattle.cluster_core.specs.Summary.{verdicts_from, status_from, equals_from, duplicates_from}
use Rattle.cluster_core.specs.declared.node_parts.NodeParts.{NodeParts}
use Rattle.cluster_core.specs.declared.node_parts.SummaryNodes.{SummaryNodes}
use Rattle.cluster_core.specs.declared.summary_lines.SummaryLines.{SummaryLines}

abbrev pub parts_of : NodeView → NodeParts
parts_of node = record {
  schemas = record { tables = node.schemas };
  start = node.start;
  history = node.history;
  finals = (replayed_of node).tables;
}

-- the source alone
abbrev pub source_nodes : NodeParts → SummaryNodes
source_nodes source = record {
  schemas = source.schemas;
  log = source.history;
  start = source.start ∷ [];
  histories = [];
  finals = source.finals ∷ [];
}

-- one replica more
abbrev pub with_replica : NodeParts → SummaryNodes → SummaryNodes
with_replica replica nodes = record nodes {
  start = nodes.start ++ replica.start ∷ [];
  histories = nodes.histories ++ replica.history ∷ [];
  finals = nodes.finals ++ replica.finals ∷ [];
}

-- these replicas more
abbrev pub with_replicas : List NodeView → SummaryNodes → SummaryNodes
with_replicas replicas nodes = record nodes {
  start = nodes.start ++ map (λ (node : NodeView). node.start) replicas;
  histories = nodes.histories ++ map (λ (node : NodeView). node.history) replicas;
  finals = nodes.finals ++ map (λ (node : NodeView). (replayed_of node).tables) replicas;
}

-- the lines of a world of these nodes and sessions
abbrev pub lines_of : NodeView → List NodeView → List SessionView → SummaryLines
lines_of source replicas sessions = record {
  verdicts = verdicts_from 1 (replayed_of source).checks replicas;
  equal = equals_from 1 (replayed_of source).tables replicas;
  duplicates = duplicates_from 1 sessions;
  status = status_from (verdicts_from 1 (replayed_of source).checks replicas);
}

abbrev pub with_lines : SummaryLines → SummaryNodes → Summary
with_lines lines nodes = record {
  schemas = nodes.schemas;
  start = nodes.start;
  log = nodes.log;
  histories = nodes.histories;
  verdicts = lines.verdicts;
  finals = nodes.finals;
  equal = lines.equal;
  duplicates = lines.duplicates;
  status = lines.status;
}
