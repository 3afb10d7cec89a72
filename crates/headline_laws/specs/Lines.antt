-- What a VERDICT line of a world's report means.
use Rattle.std.specs.Prelude.{◌≡◌, ◌≢◌, ◌≤◌, ◌-◌, ◌↔◌, Some, length}
use Rattle.std.specs.List.{AllByRecursion, slice_get}
use Rattle.row_types.specs.KeyRows.{Rows}
use Rattle.row_types.specs.declared.digests.DigestKind.{DigestKind}
use Rattle.ptc_statement.specs.declared.statements.Statement.TheVariants.{Check}
use Rattle.checksum_table.specs.declared.check_rows.Verdict.TheVariants.{Same, Differ, Pending}
use Rattle.row_digest.specs.Digest.{digest_of}
use Rattle.history.specs.Replay.{chunk_rows, source_at, replica_at, applied_of}
use Rattle.history.specs.Headline.{HasStatementAt, DigestsDistinguish}
use Rattle.report_text.specs.declared.summaries.VerdictLine.{VerdictLine}
use Rattle.world_model.specs.Worlds.{WorldView, ReplicaView}
use Rattle.world_model.specs.Summary.{verdicts_of}
use Rattle.world_laws.specs.Clients.{OfEachWorld}
use Rattle.world_laws.specs.Replicas.{log_of}

-- a VERDICT line compares these two lists of rows, by digests of this kind
pub record LineCompares (line : VerdictLine) (kind : DigestKind) (source_rows replica_rows : Rows) : Type 0 where
  -- its counts are their lengths
  pub master_count : line.master ≡ Some (length source_rows)
  pub own_count : line.own ≡ Some (length replica_rows)
  -- it is DIFFER exactly where their digests differ
  pub differ : (line.verdict ≡ Differ) ↔ (digest_of kind source_rows ≢ digest_of kind replica_rows)
  -- so DIFFER means that they differ, and SAME that they are equal where digests distinguish them
  pub rows_differ : line.verdict ≡ Differ → source_rows ≢ replica_rows
  pub rows_same : line.verdict ≡ Same → DigestsDistinguish kind source_rows replica_rows → source_rows ≡ replica_rows

-- the rows that a line is about, on the source at the line's position
abbrev pub source_rows_at : WorldView → VerdictLine → Rows
source_rows_at world line =
    chunk_rows world.source.schemas (source_at world.source.schemas (log_of world.source) line.position).tables line.table line.span

-- and on a replica, at the same position
abbrev pub replica_rows_at : ReplicaView → VerdictLine → Rows
replica_rows_at replica line =
    chunk_rows replica.node.schemas (replica_at replica.node.schemas (log_of replica.node) line.position).tables line.table line.span

-- a VERDICT line of a world: its replica, which are numbered from 1, has applied a position of the source's log, where
-- the CHECKSUM of the line's chunk stands, and the line compares the rows of the chunk on both, replayed to there
pub record LineHolds (world : WorldView) (line : VerdictLine) : Type 0 where
  pub replica_from_one : 1 ≤ line.replica
  pub replica : ReplicaView
  pub found : slice_get world.replicas (line.replica - 1) ≡ Some replica
  pub kind : DigestKind
  pub from_one : 1 ≤ line.position
  pub in_log : line.position ≤ length world.source.history
  pub applied : line.position ≤ applied_of replica.node.history
  pub checked : HasStatementAt world.source.history line.position (Check line.table line.chunk line.span kind)
  pub compares : LineCompares line kind (source_rows_at world line) (replica_rows_at replica line)

-- a PENDING line compares nothing
abbrev pub HoldsUnlessPending : WorldView → VerdictLine → Type 0
HoldsUnlessPending world line = line.verdict ≢ Pending → LineHolds world line

abbrev pub VerdictLinesHold : WorldView → Type 0
VerdictLinesHold world = AllByRecursion (HoldsUnlessPending world) (verdicts_of world)

abbrev pub EachPrintedVerdictCompares : Type 0
EachPrintedVerdictCompares = OfEachWorld VerdictLinesHold
