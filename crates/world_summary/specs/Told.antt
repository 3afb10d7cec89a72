-- What is told of the parts of a world.
use Rattle.std.specs.Prelude.{◌<◌, ◌^◌, List, [], ◌∷◌, ◌++◌, map, length}
use Rattle.node_model.specs.Node.{NodeView}
use Rattle.session.specs.Sessions.{SessionView}
use Rattle.workload.specs.declared.actors.Actor.TheVariants.{Session}
use Rattle.workload.specs.declared.schedule.Item.{Item}
use Rattle.workload.specs.declared.schedule.Item.TheVariants as i
use Rattle.trace_text.specs.declared.notes.Note.{Note}
use Rattle.trace_text.specs.declared.lines.DuplicateLine.{DuplicateLine}
use Rattle.trace_text.specs.declared.lines.AbandonedLine.{AbandonedLine}
use Rattle.trace_text.specs.declared.lines.JournalLine.{JournalLine}
use Rattle.trace_text.specs.declared.lines.UnfinishedLine.{UnfinishedLine}
use Rattle.run_report.specs.declared.summaries.RunSummary.{RunSummary}
use Rattle.world_model.specs.Worlds.{ReplicaView}
use Rattle.world_model.specs.Ends.{why_of, unfinished_line}
use Rattle.world_model.specs.Summary.{replayed_of, verdicts_from, equals_from, final_rows, duplicates_from, local_duplicates_from, abandoned_from, local_abandoned_from, covers_all, status_from}
use Rattle.world_summary.specs.declared.findings.FinalRows.{FinalRows}
use Rattle.world_summary.specs.declared.findings.Findings.{Findings}
use Rattle.world_summary.specs.declared.node_ends.NodeParts.{NodeParts}

-- the numbers of its tables and its local sessions fit in 32 bits
pub record IsSmall (replica : ReplicaView) : Type 0 where
  pub few_tables : length replica.node.schemas < 2 ^ 31
  pub few_locals : length replica.locals < 2 ^ 31

-- the line on the actor of an item whose turn came to this note
abbrev pub line_for : Item → Note → List UnfinishedLine
line_for (i.Turn actor) note = unfinished_line actor (why_of note)
line_for i.StopTool note = []
line_for i.ResumeTool note = []
line_for (i.StopReplica number) note = []
line_for (i.StartReplica number) note = []

-- the rows that the histories of nodes leave, and which tables are equal
abbrev pub rows_of : NodeView → List ReplicaView → FinalRows
rows_of source replicas = record {
  finals = (replayed_of source).tables ∷ map final_rows replicas;
  equal = equals_from 1 (replayed_of source).tables (map final_rows replicas);
}

abbrev pub duplicates_in : List SessionView → List ReplicaView → List DuplicateLine
duplicates_in sessions replicas = duplicates_from Session 1 sessions ++ local_duplicates_from 1 replicas

abbrev pub abandoned_in : List SessionView → List ReplicaView → List AbandonedLine
abandoned_in sessions replicas = abandoned_from Session 1 sessions ++ local_abandoned_from 1 replicas

-- what is worked out from the nodes and the sessions
abbrev pub findings_of : NodeView → List SessionView → List ReplicaView → Findings
findings_of source sessions replicas = record {
  verdicts = verdicts_from 1 (replayed_of source).checks replicas;
  rows = rows_of source replicas;
  duplicates = duplicates_in sessions replicas;
  abandoned = abandoned_in sessions replicas;
  covered = covers_all (replayed_of source).checks (length source.schemas);
}

-- the parts of the source alone
abbrev pub source_parts : NodeView → NodeParts
source_parts source = record {
  schemas = record { tables = source.schemas };
  start = source.start ∷ [];
  log = source.history;
  histories = [];
}

-- with those of replicas
abbrev pub with_replicas : List ReplicaView → NodeParts → NodeParts
with_replicas replicas parts = record parts {
  start = parts.start ++ map (λ (replica : ReplicaView). replica.node.start) replicas;
  histories = parts.histories ++ map (λ (replica : ReplicaView). replica.node.history) replicas;
}

abbrev pub told : NodeView → List SessionView → List ReplicaView → List JournalLine → List UnfinishedLine → RunSummary
told source sessions replicas journal unfinished = record {
  schemas = record { tables = source.schemas };
  start = source.start ∷ map (λ (replica : ReplicaView). replica.node.start) replicas;
  journal = journal;
  log = source.history;
  histories = map (λ (replica : ReplicaView). replica.node.history) replicas;
  verdicts = (findings_of source sessions replicas).verdicts;
  finals = (rows_of source replicas).finals;
  equal = (rows_of source replicas).equal;
  duplicates = duplicates_in sessions replicas;
  abandoned = abandoned_in sessions replicas;
  unfinished = unfinished;
  status = status_from (findings_of source sessions replicas).verdicts unfinished (findings_of source sessions replicas).covered;
}
