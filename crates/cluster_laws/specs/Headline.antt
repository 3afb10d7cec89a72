-- What the report of a finished run says: its log and histories, and what each printed verdict means.
use Rattle.std.specs.Prelude.{ℕ, ◌≡◌, ◌≢◌, ◌≤◌, ◌<◌, ◌-◌, ◌↔◌, true, List, Some, length, map}
use Rattle.std.specs.List.{AllByRecursion, Contains, slice_get}
use Rattle.row_types.specs.KeyRows.{Rows}
use Rattle.row_types.specs.declared.digests.DigestKind.{DigestKind}
use Rattle.ptc_statement.specs.declared.statements.Statement.TheVariants.{Check}
use Rattle.ptc_statement.specs.declared.scripts.Script.{Script}
use Rattle.statement_log.specs.declared.origins.Origin.{Origin}
use Rattle.statement_log.specs.declared.origins.Origin.TheVariants.{Session, Checksum, Sync, Local, Applied}
use Rattle.statement_log.specs.declared.entries.Entry.{Entry}
use Rattle.checksum_table.specs.declared.check_rows.Verdict.TheVariants.{Same, Differ, Pending}
use Rattle.row_digest.specs.Digest.{digest_of}
use Rattle.history.specs.Replay.{NodeLog, chunk_rows, source_at, replica_at, applied_of, Follows}
use Rattle.history.specs.Headline.{MastersAreTrue, EachIsWritten, HasStatementAt, DigestsDistinguish}
use Rattle.cluster_core.specs.Node.{NodeView}
use Rattle.cluster_core.specs.Sessions.{SessionView}
use Rattle.cluster_core.specs.World.{WorldView, whole_table}
use Rattle.cluster_core.specs.Summary.{verdicts_of, equals_of}
use Rattle.report_text.specs.declared.summaries.VerdictLine.{VerdictLine}
use Rattle.report_text.specs.declared.summaries.EqualLine.{EqualLine}
use Rattle.cluster_core.specs.declared.actors.ToolPhase.TheVariants.{Finished}
use Rattle.workload_file.specs.declared.workload.Workload.{Workload}
use Rattle.cluster_laws.specs.OwnCalls.{EachOwnCalls}
use Rattle.cluster_laws.specs.Duplicates.{EachRefusedTruly, LoggedTruly}

-- a VERDICT line compares these two lists of rows, by digests of this kind
pub record LineCompares (line : VerdictLine) (kind : DigestKind) (source_rows replica_rows : Rows) : Type 0 where
  -- its counts are their lengths
  pub master_count : line.master ≡ Some (length source_rows)
  pub own_count : line.own ≡ Some (length replica_rows)
  -- it is DIFFER exactly where their digests differ
  pub differ : (line.verdict ≡ Differ) ↔ (digest_of kind source_rows ≢ digest_of kind replica_rows)
  -- so DIFFER means that they differ, and SAME that they are equal where digests distinguish them
  pub rows_differ : line.verdict ≡ Differ → source_rows ≢ replica_rows
  pub rows_same : line.verdict ≡ Same → DigestsDistinguish kind source_rows replica_rows → source_rows ≡ replica_rows

-- what a node started from and what happened on it
abbrev pub log_of : NodeView → NodeLog
log_of node = record { start = node.start; entries = node.history }

-- the rows that a line is about, on the source at the line's position
abbrev pub source_rows_at : WorldView → VerdictLine → Rows
source_rows_at w line =
    chunk_rows w.source.schemas (source_at w.source.schemas (log_of w.source) line.position).tables line.table line.span

-- and on a replica, at the same position
abbrev pub replica_rows_at : NodeView → VerdictLine → Rows
replica_rows_at node line =
    chunk_rows node.schemas (replica_at node.schemas (log_of node) line.position).tables line.table line.span

-- a VERDICT line of a world: at a position of its log, where the CHECKSUM of the line's chunk stands,
-- it compares the rows of the chunk on the source and on the line's replica, both replayed to there.
-- Replicas are numbered from 1.
pub record LineHolds (w : WorldView) (line : VerdictLine) : Type 0 where
  pub replica_from_one : 1 ≤ line.replica
  pub node : NodeView
  pub found : slice_get w.replicas (line.replica - 1) ≡ Some node
  pub kind : DigestKind
  pub from_one : 1 ≤ line.position
  pub in_log : line.position ≤ length w.source.history
  pub checked : HasStatementAt w.source.history line.position (Check line.table line.chunk line.span kind)
  pub compares : LineCompares line kind (source_rows_at w line) (replica_rows_at node line)

-- the one chunk that a line is about is the whole table
pub record IsOfWholeTable (line : VerdictLine) : Type 0 where
  pub only_chunk : line.chunk ≡ 1
  pub whole : line.span ≡ whole_table

-- one of these lines is about this table on this replica
pub record HasLine (lines : List VerdictLine) (replica table : ℕ) : Type 0 where
  pub line : VerdictLine
  pub among : Contains lines line
  pub of_replica : line.replica ≡ replica
  pub of_table : line.table ≡ table

-- an item of a replica's history that applies an entry of the log, and no other
abbrev pub IsApplying : Origin → Type 0
IsApplying (Session session) = ⊥
IsApplying Checksum = ⊥
IsApplying (Sync replica table span) = ⊥
IsApplying (Local session) = ⊥
IsApplying (Applied number) = Unit {0}

-- a replica's history: all entries of the log, in order and each once, and nobody else's items
pub record AppliedAll (log : List Entry) (node : NodeView) : Type 0 where
  pub follows : Follows log node.history
  pub all : applied_of node.history ≡ length log
  pub alone : AllByRecursion (λ (item : Entry). IsApplying item.origin) node.history

-- who writes the source's log: its sessions, which are numbered from 1, and the checksum tool
abbrev pub IsWriter : ℕ → Origin → Type 0
IsWriter sessions (Session session) = (1 ≤ session) × (session ≤ sessions)
IsWriter sessions Checksum = Unit {0}
IsWriter sessions (Sync replica table span) = ⊥
IsWriter sessions (Local session) = ⊥
IsWriter sessions (Applied number) = ⊥

-- digests distinguish the rows that a line compares, if these differ
abbrev pub IsDistinguished : WorldView → NodeView → VerdictLine → Type 0
IsDistinguished w node line =
    (kind : DigestKind)
    → HasStatementAt w.source.history line.position (Check line.table line.chunk line.span kind)
    → DigestsDistinguish kind (source_rows_at w line) (replica_rows_at node line)

-- each VERDICT line of a table on a replica is SAME, by digests that distinguish the rows it compares
abbrev pub IsAllSame : WorldView → ℕ → NodeView → ℕ → Type 0
IsAllSame w replica node table =
    (line : VerdictLine) → Contains (verdicts_of w) line → line.replica ≡ replica → line.table ≡ table
    → (line.verdict ≡ Same) × IsDistinguished w node line

-- the line of a table on a replica that says whether it is equal at the log's end
pub record HasEqualLine (lines : List EqualLine) (replica table : ℕ) : Type 0 where
  pub line : EqualLine
  pub among : Contains lines line
  pub of_replica : line.replica ≡ replica
  pub of_table : line.table ≡ table

-- where a table's verdicts on a replica are all SAME, by digests that distinguish, its line is EQUAL
abbrev pub SameIsEqual : WorldView → EqualLine → Type 0
SameIsEqual w line =
    (node : NodeView) → slice_get w.replicas (line.replica - 1) ≡ Some node → IsAllSame w line.replica node line.table → line.equal ≡ true

-- what holds of the world at the end of a run
pub record RunHolds (workload : Workload) (w : WorldView) : Type 0 where
  -- it began from the workload
  pub schemas : w.source.schemas ≡ workload.schemas.tables
  pub source_start : w.source.start ≡ workload.source
  pub replica_starts : map (λ (node : NodeView). node.start) w.replicas ≡ workload.copies
  pub replica_schemas : AllByRecursion (λ (node : NodeView). node.schemas ≡ workload.schemas.tables) w.replicas
  -- each entry of the log is a session's or the tool's, and as they write them: a session's has clients'
  -- statements, the tool's one statement of its own
  pub writers : AllByRecursion (λ (entry : Entry). IsWriter (length w.sessions) entry.origin) w.source.history
  pub written : EachIsWritten w.source.history
  -- each published checksum is the source's own
  pub masters : MastersAreTrue w.source.schemas (log_of w.source)
  -- the log's entries of each session are its own calls
  pub scripts : map (λ (view : SessionView). view.script) w.sessions ≡ map (λ (script : Script). script.lines) workload.sessions
  pub own_calls : EachOwnCalls w.source.history 1 w.sessions
  -- each line that was refused was a duplicate at its own turn, and no statement that a session logged
  -- was one where it stands
  pub refused_lines : EachRefusedTruly w.source 1 w.sessions
  pub logged_truly : LoggedTruly w.source
  -- each replica applied the whole log
  pub histories : AllByRecursion (AppliedAll w.source.history) w.replicas
  -- the tool is through all tables
  pub finished : w.phase ≡ Finished
  -- no verdict is pending, and each compares the source's and the replica's rows at one position
  pub none_pending : AllByRecursion (λ (line : VerdictLine). line.verdict ≢ Pending) (verdicts_of w)
  pub verdicts : AllByRecursion (LineHolds w) (verdicts_of w)
  -- each verdict is about a whole table, and no table of any replica is passed over
  pub whole_tables : AllByRecursion IsOfWholeTable (verdicts_of w)
  pub each_table : (replica table : ℕ) → 1 ≤ replica → replica ≤ length w.replicas → table < length w.source.schemas → HasLine (verdicts_of w) replica table
  -- each table of each replica has its line EQUAL or UNEQUAL at the log's end, and is EQUAL where it is SAME throughout
  pub each_equal_line : (replica table : ℕ) → 1 ≤ replica → replica ≤ length w.replicas → table < length w.source.schemas → HasEqualLine (equals_of w) replica table
  pub same_is_equal : AllByRecursion (SameIsEqual w) (equals_of w)
