-- What the report on a world says.
use Rattle.std.specs.Prelude.{ℕ, suc, zero, ◌+◌, ◌||◌, not, Bool, true, false, cond, List, [], ◌∷◌, ◌++◌, map, take, length}
use Rattle.std.specs.List.{list_any}
use Rattle.row_types.specs.KeyRows.{TableRows}
use Rattle.checksum_table.specs.declared.check_rows.CheckEntry.{CheckEntry}
use Rattle.history.specs.Replay.{Replayed, fold}
use Rattle.node_model.specs.Node.{NodeView}
use Rattle.session.specs.Sessions.{SessionView}
use Rattle.workload.specs.declared.actors.Actor.{Actor}
use Rattle.workload.specs.declared.actors.Actor.TheVariants.{Session, Local}
use Rattle.report_text.specs.declared.summaries.VerdictLine.{VerdictLine}
use Rattle.report_text.specs.declared.summaries.EqualLine.{EqualLine}
use Rattle.trace_text.specs.declared.lines.DuplicateLine.{DuplicateLine}
use Rattle.trace_text.specs.declared.lines.AbandonedLine.{AbandonedLine}
use Rattle.trace_text.specs.declared.lines.UnfinishedLine.{UnfinishedLine}
use Rattle.run_report.specs.declared.summaries.RunSummary.{RunSummary}
use Rattle.world_model.specs.Worlds.{WorldView, ReplicaView}
use Rattle.world_model.specs.Verdicts.{replica_verdicts, differs, pends, covers, equals_on}
use Rattle.world_model.specs.Ends.{unfinished_of}

-- what the history of a node leaves
abbrev pub replayed_of : NodeView → Replayed
replayed_of node = fold node.schemas node.start node.history

-- the verdicts on replicas, the first of this number
abbrev pub verdicts_from : ℕ → List CheckEntry → List ReplicaView → List VerdictLine
verdicts_from number source [] = []
verdicts_from number source (replica ∷ replicas) =
    replica_verdicts number source (replayed_of replica.node).checks ++ verdicts_from (number + 1) source replicas

abbrev pub verdicts_of : WorldView → List VerdictLine
verdicts_of world = verdicts_from 1 (replayed_of world.source).checks world.replicas

-- whether the tables of replicas are the source's, the first replica of this number
abbrev pub equals_from : ℕ → TableRows → List TableRows → List EqualLine
equals_from number source [] = []
equals_from number source (tables ∷ others) = equals_on number 0 source tables ++ equals_from (number + 1) source others

-- the rows that a replica's history leaves
abbrev pub final_rows : ReplicaView → TableRows
final_rows replica = (replayed_of replica.node).tables

abbrev pub equals_of : WorldView → List EqualLine
equals_of world = equals_from 1 (replayed_of world.source).tables (map final_rows world.replicas)

-- Sessions, the first of this number.

abbrev pub duplicates_from : (ℕ → Actor) → ℕ → List SessionView → List DuplicateLine
duplicates_from actor number [] = []
duplicates_from actor number (session ∷ sessions) =
    map (λ (line : ℕ). record { actor = actor number; line = line }) (take session.settled session.refused) ++ duplicates_from actor (number + 1) sessions

abbrev pub abandoned_from : (ℕ → Actor) → ℕ → List SessionView → List AbandonedLine
abandoned_from actor number [] = []
abandoned_from actor number (session ∷ sessions) =
    map (λ (txn : ℕ). record { actor = actor number; number = txn }) session.abandoned ++ abandoned_from actor (number + 1) sessions

-- on replicas, the first of this number

abbrev pub local_duplicates_from : ℕ → List ReplicaView → List DuplicateLine
local_duplicates_from number [] = []
local_duplicates_from number (replica ∷ replicas) = duplicates_from (Local number) 1 replica.locals ++ local_duplicates_from (number + 1) replicas

abbrev pub local_abandoned_from : ℕ → List ReplicaView → List AbandonedLine
local_abandoned_from number [] = []
local_abandoned_from number (replica ∷ replicas) = abandoned_from (Local number) 1 replica.locals ++ local_abandoned_from (number + 1) replicas

abbrev pub duplicates_of : WorldView → List DuplicateLine
duplicates_of world = duplicates_from Session 1 world.sessions ++ local_duplicates_from 1 world.replicas

abbrev pub abandoned_of : WorldView → List AbandonedLine
abandoned_of world = abandoned_from Session 1 world.sessions ++ local_abandoned_from 1 world.replicas

-- The status.

-- whether the check rows cover each of so many tables
abbrev pub covers_all : List CheckEntry → ℕ → Bool
covers_all checks zero = true
covers_all checks (suc count) = cond (covers checks count) (covers_all checks count) false

abbrev pub any_unfinished : List UnfinishedLine → Bool
any_unfinished [] = false
any_unfinished (line ∷ lines) = true

-- whether something is left to do: a verdict is open, an actor has not finished, or a table is not covered
abbrev pub is_incomplete : List VerdictLine → List UnfinishedLine → Bool → Bool
is_incomplete verdicts unfinished covered = list_any pends verdicts || any_unfinished unfinished || not covered

-- 16 where a verdict is DIFFER, and 32 where something is left to do
abbrev pub status_from : List VerdictLine → List UnfinishedLine → Bool → ℕ
status_from verdicts unfinished covered = cond (list_any differs verdicts) 16 0 + cond (is_incomplete verdicts unfinished covered) 32 0

abbrev pub status_of : WorldView → ℕ
status_of world =
    status_from (verdicts_of world) (unfinished_of world) (covers_all (replayed_of world.source).checks (length world.source.schemas))

-- the parts of a report, in the order in which they are printed
abbrev pub summary_of : WorldView → RunSummary
summary_of world = record {
  schemas = record { tables = world.source.schemas };
  start = world.source.start ∷ map (λ (replica : ReplicaView). replica.node.start) world.replicas;
  journal = world.journal;
  log = world.source.history;
  histories = map (λ (replica : ReplicaView). replica.node.history) world.replicas;
  verdicts = verdicts_of world;
  finals = (replayed_of world.source).tables ∷ map final_rows world.replicas;
  equal = equals_of world;
  duplicates = duplicates_of world;
  abandoned = abandoned_of world;
  unfinished = unfinished_of world;
  status = status_of world;
}
