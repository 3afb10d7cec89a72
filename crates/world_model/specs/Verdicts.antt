-- What check rows tell: a verdict on each chunk, and which tables' chunks hold each key.
use Rattle.std.specs.Prelude.{ℕ, ◌+◌, ◌==◌, ◌&&◌, Bool, true, false, cond, List, [], ◌∷◌, Option, None, Some, map, is_some}
use Rattle.std.specs.Option.{option_map}
use Rattle.std.specs.Ordering.{is_eq, is_lt}
use Rattle.std.specs.Cmp.Lexicographic.{slice_cmp}
use Rattle.row_types.specs.declared.digests.Digest.{Digest}
use Rattle.row_types.specs.declared.edges.Edge.{Edge}
use Rattle.row_types.specs.declared.edges.Edge.TheVariants.{Low, High}
use Rattle.row_types.specs.declared.edges.Span.{Span}
use Rattle.row_types.specs.Order.{key_cmp, edge_cmp}
use Rattle.row_types.specs.KeyRows.{Rows, TableRows}
use Rattle.checksum_table.specs.declared.check_rows.CheckRow.{CheckRow}
use Rattle.checksum_table.specs.declared.check_rows.CheckEntry.{CheckEntry}
use Rattle.checksum_table.specs.declared.check_rows.Verdict.{Verdict}
use Rattle.checksum_table.specs.declared.check_rows.Verdict.TheVariants.{Same, Differ, Pending}
use Rattle.checksum_table.specs.Checks.{check_at, with_absent, verdict_of_row}
use Rattle.report_text.specs.declared.summaries.VerdictLine.{VerdictLine}
use Rattle.report_text.specs.declared.summaries.EqualLine.{EqualLine}

-- by the replica's row of the chunk; where it has none, by that of the source, with no counts
abbrev pub verdict_line : ℕ → CheckEntry → Option CheckRow → VerdictLine
verdict_line replica entry (Some own) = record {
  replica = replica;
  table = entry.table;
  chunk = entry.chunk;
  span = own.span;
  position = own.position;
  master = option_map (λ (master : Digest). master.count) own.master;
  own = Some own.this.count;
  verdict = verdict_of_row own;
}
verdict_line replica entry None = record {
  replica = replica;
  table = entry.table;
  chunk = entry.chunk;
  span = entry.row.span;
  position = entry.row.position;
  master = None;
  own = None;
  verdict = Pending;
}

-- the chunks that the replica or the source has a check row of, by table and chunk
abbrev pub all_chunks : List CheckEntry → List CheckEntry → List CheckEntry
all_chunks replica [] = replica
all_chunks replica (entry ∷ source) = all_chunks (with_absent entry replica) source

abbrev pub verdicts_on : ℕ → List CheckEntry → List CheckEntry → List VerdictLine
verdicts_on replica own entries = map (λ (entry : CheckEntry). verdict_line replica entry (check_at entry.table entry.chunk own)) entries

-- the verdicts on a replica, from the source's check rows and its own
abbrev pub replica_verdicts : ℕ → List CheckEntry → List CheckEntry → List VerdictLine
replica_verdicts replica source own = verdicts_on replica own (all_chunks own source)

abbrev pub is_differ : Verdict → Bool
is_differ Same = false
is_differ Differ = true
is_differ Pending = false

abbrev pub is_pending : Verdict → Bool
is_pending Same = false
is_pending Differ = false
is_pending Pending = true

abbrev pub differs : VerdictLine → Bool
differs line = is_differ line.verdict

abbrev pub pends : VerdictLine → Bool
pends line = is_pending line.verdict

-- Cover.

abbrev pub edges_equal : Edge → Edge → Bool
edges_equal edge other = is_eq (edge_cmp edge other)

-- a chunk begins where the one before ended, and is not empty
abbrev pub goes_on : Edge → Span → Bool
goes_on reached span = edges_equal span.lo reached && is_lt (edge_cmp span.lo span.hi)

-- whether the chunks of a table that have the source's checksum are numbered from this one on and go from this edge
-- to the end, each behind the one before; of the other check rows nothing is said
abbrev pub covers_from : ℕ → ℕ → Edge → List CheckEntry → Bool
covers_from table chunk reached [] = edges_equal reached High
covers_from table chunk reached (entry ∷ entries) =
    cond ((entry.table == table) && is_some entry.row.master)
    ((entry.chunk == chunk) && goes_on reached entry.row.span && covers_from table (chunk + 1) entry.row.span.hi entries)
    (covers_from table chunk reached entries)

abbrev pub covers : List CheckEntry → ℕ → Bool
covers checks table = covers_from table 1 Low checks

-- Tables.

abbrev pub rows_equal : Rows → Rows → Bool
rows_equal rows others = is_eq (slice_cmp key_cmp rows others)

-- whether the tables of a replica are the source's, the first table of this number
abbrev pub equals_on : ℕ → ℕ → TableRows → TableRows → List EqualLine
equals_on replica table [] others = []
equals_on replica table (rows ∷ tables) [] = []
equals_on replica table (rows ∷ tables) (own ∷ others) =
    record { replica = replica; table = table; equal = rows_equal rows own } ∷ equals_on replica (table + 1) tables others
