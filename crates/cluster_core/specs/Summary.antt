-- What a world's report says.
use Rattle.std.specs.Prelude.{ℕ, ◌+◌, Bool, true, false, cond, List, [], ◌∷◌, ◌++◌, Option, None, Some, map}
use Rattle.std.specs.List.{list_any}
use Rattle.std.specs.Option.{option_map}
use Rattle.std.specs.Ordering.{is_eq}
use Rattle.std.specs.Cmp.Lexicographic.{slice_cmp}
use Rattle.row_types.specs.declared.digests.Digest.{Digest}
use Rattle.row_types.specs.Order.{key_cmp}
use Rattle.row_types.specs.KeyRows.{Rows, TableRows}
use Rattle.checksum_table.specs.declared.check_rows.CheckRow.{CheckRow}
use Rattle.checksum_table.specs.declared.check_rows.CheckEntry.{CheckEntry}
use Rattle.checksum_table.specs.declared.check_rows.Verdict.{Verdict}
use Rattle.checksum_table.specs.declared.check_rows.Verdict.TheVariants.{Same, Differ, Pending}
use Rattle.checksum_table.specs.Checks.{check_at, with_absent, verdict_of_row}
use Rattle.workload_file.specs.declared.actors.Actor.TheVariants.{Session}
use Rattle.report_text.specs.declared.summaries.Summary.{Summary}
use Rattle.report_text.specs.declared.summaries.VerdictLine.{VerdictLine}
use Rattle.report_text.specs.declared.summaries.EqualLine.{EqualLine}
use Rattle.report_text.specs.declared.summaries.DuplicateLine.{DuplicateLine}
use Rattle.cluster_core.specs.declared.refusals.Refusal.{Refusal}
use Rattle.cluster_core.specs.Node.{NodeView, replayed_of}
use Rattle.cluster_core.specs.Sessions.{SessionView}
use Rattle.cluster_core.specs.World.{WorldView}

-- by the replica's row of the chunk; where it has none, by that of the source, with no counts
abbrev pub verdict_line : ℕ → CheckEntry → Option CheckRow → VerdictLine
verdict_line replica entry (Some own) = record {
  replica = replica;
  table = entry.table;
  chunk = entry.chunk;
  span = own.span;
  position = own.position;
  master = option_map (λ (master : Digest). master.count) own.master;
  own = Some own.this.count;
  verdict = verdict_of_row own;
}
verdict_line replica entry None = record {
  replica = replica;
  table = entry.table;
  chunk = entry.chunk;
  span = entry.row.span;
  position = entry.row.position;
  master = None;
  own = None;
  verdict = Pending;
}

-- the chunks that the replica or the source has a check row of, by table and chunk
abbrev pub all_chunks : List CheckEntry → List CheckEntry → List CheckEntry
all_chunks replica [] = replica
all_chunks replica (entry ∷ source) = all_chunks (with_absent entry replica) source

abbrev pub verdicts_on : ℕ → List CheckEntry → List CheckEntry → List VerdictLine
verdicts_on replica own entries = map (λ (entry : CheckEntry). verdict_line replica entry (check_at entry.table entry.chunk own)) entries

-- the verdicts on a replica, from the source's check rows and its own
abbrev pub replica_verdicts : ℕ → List CheckEntry → List CheckEntry → List VerdictLine
replica_verdicts replica source own = verdicts_on replica own (all_chunks own source)

-- the verdicts on the replicas, the first of this number
abbrev pub verdicts_from : ℕ → List CheckEntry → List NodeView → List VerdictLine
verdicts_from number source [] = []
verdicts_from number source (node ∷ nodes) = replica_verdicts number source (replayed_of node).checks ++ verdicts_from (number + 1) source nodes

-- the verdicts of a world
abbrev pub verdicts_of : WorldView → List VerdictLine
verdicts_of w = verdicts_from 1 (replayed_of w.source).checks w.replicas

abbrev pub is_differ : Verdict → Bool
is_differ Same = false
is_differ Differ = true
is_differ Pending = false

abbrev pub differs : VerdictLine → Bool
differs line = is_differ line.verdict

-- 16 where one of these is DIFFER, else 0
abbrev pub status_from : List VerdictLine → ℕ
status_from lines = cond (list_any differs lines) 16 0

abbrev pub status_of : WorldView → ℕ
status_of w = status_from (verdicts_of w)

abbrev pub rows_equal : Rows → Rows → Bool
rows_equal rows others = is_eq (slice_cmp key_cmp rows others)

-- whether the tables of a replica are the source's, the first table of this number
abbrev pub equals_on : ℕ → ℕ → TableRows → TableRows → List EqualLine
equals_on replica table [] others = []
equals_on replica table (rows ∷ tables) [] = []
equals_on replica table (rows ∷ tables) (own ∷ others) =
    record { replica = replica; table = table; equal = rows_equal rows own } ∷ equals_on replica (table + 1) tables others

-- and those of the replicas, the first of this number
abbrev pub equals_from : ℕ → TableRows → List NodeView → List EqualLine
equals_from number source [] = []
equals_from number source (node ∷ nodes) = equals_on number 0 source (replayed_of node).tables ++ equals_from (number + 1) source nodes

abbrev pub equals_of : WorldView → List EqualLine
equals_of w = equals_from 1 (replayed_of w.source).tables w.replicas

-- the lines of a session that were refused
abbrev pub duplicates_by : ℕ → List Refusal → List DuplicateLine
duplicates_by session refused = map (λ (refusal : Refusal). record { actor = Session session; line = refusal.line }) refused

-- and those of the sessions, the first of this number
abbrev pub duplicates_from : ℕ → List SessionView → List DuplicateLine
duplicates_from number [] = []
duplicates_from number (view ∷ views) = duplicates_by number view.refused ++ duplicates_from (number + 1) views

-- the parts of a report, in the order in which they are printed
abbrev pub summary_of : WorldView → Summary
summary_of w = record {
  schemas = record { tables = w.source.schemas };
  start = w.source.start ∷ map (λ (node : NodeView). node.start) w.replicas;
  log = w.source.history;
  histories = map (λ (node : NodeView). node.history) w.replicas;
  verdicts = verdicts_of w;
  finals = (replayed_of w.source).tables ∷ map (λ (node : NodeView). (replayed_of node).tables) w.replicas;
  equal = equals_of w;
  duplicates = duplicates_from 1 w.sessions;
  status = status_of w;
}
