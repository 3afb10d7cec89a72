-- What an EQUAL or UNEQUAL line of a world's report means, and which tables are EQUAL.
use Rattle.std.specs.Prelude.{ℕ, ◌≡◌, ◌≤◌, ◌<◌, ◌-◌, ◌↔◌, true, List, Some, length}
use Rattle.std.specs.List.{AllByRecursion, Contains, slice_get}
use Rattle.row_types.specs.declared.digests.DigestKind.{DigestKind}
use Rattle.row_types.specs.declared.values.Value.{Value}
use Rattle.row_types.specs.Order.{has}
use Rattle.ptc_statement.specs.declared.statements.Statement.TheVariants.{Check}
use Rattle.checksum_table.specs.declared.check_rows.Verdict.TheVariants.{Same}
use Rattle.history.specs.Replay.{applied_of}
use Rattle.history.specs.Headline.{HasStatementAt, DigestsDistinguish, NobodyElseWrites, AreEqualAtEnd}
use Rattle.report_text.specs.declared.summaries.VerdictLine.{VerdictLine}
use Rattle.report_text.specs.declared.summaries.EqualLine.{EqualLine}
use Rattle.checksum_tool.specs.declared.phases.ToolPhase.TheVariants.{Finished}
use Rattle.checksum_tool_laws.specs.Told.{tables_behind}
use Rattle.world_model.specs.Worlds.{WorldView, ReplicaView}
use Rattle.world_model.specs.Summary.{verdicts_of, equals_of}
use Rattle.world_laws.specs.Clients.{OfEachWorld}
use Rattle.world_laws.specs.Replicas.{log_of}
use Rattle.headline_laws.specs.Lines.{source_rows_at, replica_rows_at}

-- the line is about a table of a replica, which are numbered from 1, and it is EQUAL exactly where the replays of all
-- that happened on the source and on the replica leave the same rows of the table
pub record EqualLineHolds (world : WorldView) (line : EqualLine) : Type 0 where
  pub replica_from_one : 1 ≤ line.replica
  pub replica : ReplicaView
  pub found : slice_get world.replicas (line.replica - 1) ≡ Some replica
  pub in_tables : line.table < length world.source.schemas
  pub exact : (line.equal ≡ true) ↔ AreEqualAtEnd world.source.schemas (log_of world.source) (log_of replica.node) line.table

-- one of these lines is about this table on this replica
pub record HasEqualLine (lines : List EqualLine) (replica table : ℕ) : Type 0 where
  pub line : EqualLine
  pub among : Contains lines line
  pub of_replica : line.replica ≡ replica
  pub of_table : line.table ≡ table

-- no table of any replica is passed over, and each line is true
pub record EqualLinesHold (world : WorldView) : Type 0 where
  pub each_table : (replica table : ℕ) → 1 ≤ replica → replica ≤ length world.replicas → table < length world.source.schemas → HasEqualLine (equals_of world) replica table
  pub each_line : AllByRecursion (EqualLineHolds world) (equals_of world)

abbrev pub EachTableHasItsLine : Type 0
EachTableHasItsLine = OfEachWorld EqualLinesHold

-- Tables whose verdicts are all SAME.

-- one of these lines is about this table on this replica, and about a chunk that has the key
pub record HasLineOver (lines : List VerdictLine) (replica table : ℕ) (key : List Value) : Type 0 where
  pub line : VerdictLine
  pub among : Contains lines line
  pub of_replica : line.replica ≡ replica
  pub of_table : line.table ≡ table
  pub over : has line.span key ≡ true

-- the chunks of the table's verdicts on the replica cover all keys
abbrev pub LinesCover : WorldView → ℕ → ℕ → Type 0
LinesCover world replica table = (key : List Value) → HasLineOver (verdicts_of world) replica table key

-- the line is SAME, by digests that distinguish the rows that it compares, and behind its position nobody but the
-- replica's applier writes the table there
pub record IsSameForGood (world : WorldView) (replica : ReplicaView) (line : VerdictLine) : Type 0 where
  pub same : line.verdict ≡ Same
  pub distinguished : (kind : DigestKind)
      → HasStatementAt world.source.history line.position (Check line.table line.chunk line.span kind)
      → DigestsDistinguish kind (source_rows_at world line) (replica_rows_at replica line)
  pub alone : NobodyElseWrites line.table line.position replica.node.history

-- so is each verdict on the table on the replica, which has this number
abbrev pub AreAllSame : WorldView → ReplicaView → ℕ → ℕ → Type 0
AreAllSame world replica number table =
    (line : VerdictLine) → Contains (verdicts_of world) line → line.replica ≡ number → line.table ≡ table → IsSameForGood world replica line

-- the replica has applied the source's whole log
abbrev pub HasAppliedAll : WorldView → ReplicaView → Type 0
HasAppliedAll world replica = applied_of replica.node.history ≡ length world.source.history

-- where the replica has applied the whole log, and the table's verdicts there cover all keys and are SAME for good, its
-- line is EQUAL
abbrev pub SameIsEqual : WorldView → EqualLine → Type 0
SameIsEqual world line =
    (replica : ReplicaView) → slice_get world.replicas (line.replica - 1) ≡ Some replica → HasAppliedAll world replica → LinesCover world line.replica line.table
    → AreAllSame world replica line.replica line.table → line.equal ≡ true

-- where a replica has applied the whole log, its verdicts cover all keys of each table that the checksum tool has left
-- behind it
abbrev pub FinishedTablesAreCovered : WorldView → Type 0
FinishedTablesAreCovered world =
    (number table : ℕ) (replica : ReplicaView) → 1 ≤ number → slice_get world.replicas (number - 1) ≡ Some replica → HasAppliedAll world replica
    → table < tables_behind world.tool.phase world.tool → LinesCover world number table

-- once the tool is finished, it has left all tables behind it
pub record SameTablesEqual (world : WorldView) : Type 0 where
  pub finished : world.tool.phase ≡ Finished → tables_behind world.tool.phase world.tool ≡ length world.source.schemas
  pub covered : FinishedTablesAreCovered world
  pub same_is_equal : AllByRecursion (SameIsEqual world) (equals_of world)

abbrev pub SameTablesAreEqual : Type 0
SameTablesAreEqual = OfEachWorld SameTablesEqual
