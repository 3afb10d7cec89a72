-- The check rows are of whole tables, no table that the tool is through is without one, and so the
-- lines of a report have each table of each replica.
use Rattle.std.proofs.Common.{◌≡◌, ◌≢◌, ℕ, zero, suc, ◌+◌, ◌<◌, ◌≤◌, ◌==◌, ◌&&◌, Bool, true, false, cond, List, [], ◌∷◌, ◌++◌, length, Option, None, Some, option_map, refl, ◌∙◌, sym, subst, arith, nat_lt}
use Rattle.std.proofs.lemmas.Bool.Decides.{nat_tests}
use Rattle.std.proofs.lemmas.List.Elements.{Contains-append_left, Contains-append_right, Contains-push}
use Rattle.std.specs.List.{AllByRecursion}
use Rattle.std.specs.Ordering.{match_ordering}
use Rattle.std.specs.declared.cmp.Ordering.{Ordering}
use Rattle.std.specs.declared.cmp.Ordering.TheVariants.{Less, Equal, Greater}
use Rattle.row_types.specs.declared.digests.Digest.{Digest}
use Rattle.checksum_table.specs.declared.check_rows.CheckRow.{CheckRow}
use Rattle.checksum_table.specs.declared.check_rows.CheckEntry.{CheckEntry}
use Rattle.checksum_table.specs.Checks.{is_for, place_cmp, check_at, with_check, with_absent, with_master, without_table, mastered}
use Rattle.checksum_table.proofs.CheckLemmas.{check_at-with_check, check_at-with_master, check_at-without_table, check_at-without_table_other}
use Rattle.cluster_core.specs.Node.{NodeView, replayed_of}
use Rattle.cluster_core.specs.World.{whole_table}
use Rattle.cluster_core.specs.Summary.{verdict_line, all_chunks, verdicts_on, replica_verdicts, verdicts_from}
use Rattle.cluster_laws.specs.Headline.{HasLine}
use Rattle.report_text.specs.declared.summaries.VerdictLine.{VerdictLine}
use Rattle.cluster_core.specs.declared.actors.ToolPhase.{ToolPhase}
use Rattle.cluster_core.specs.declared.actors.ToolPhase.TheVariants.{Clear, Check, Master, Finished}
use Rattle.cluster_laws.proofs.MasterLemmas.{AllMastered, PhaseHolds, IsThere, told_in, there_either, cleared_row, none_mastered, cleared_mastered, checked_mastered, mastered_mastered}

-- a row of the one chunk that is a whole table
pub record IsWhole (chunk : ℕ) (row : CheckRow) : Type 0 where
  pub only_chunk : chunk ≡ 1
  pub whole : row.span ≡ whole_table

abbrev pub AllWhole : List CheckEntry → Type 0
AllWhole checks = (table chunk : ℕ) (row : CheckRow) → check_at table chunk checks ≡ Some row → IsWhole chunk row

-- each table before this one has a row of its first chunk
abbrev pub TablesBefore : ℕ → List CheckEntry → Type 0
TablesBefore t checks = (table : ℕ) → table < t → IsThere (check_at table 1 checks)

-- how many tables the tool has checked, of so many
abbrev pub checked_in : ToolPhase → ℕ → ℕ
checked_in (Clear t) tables = t
checked_in (Check t) tables = t
checked_in (Master t) tables = t + 1
checked_in Finished tables = tables

-- the source's check rows, by what the tool does next and how many tables there are
pub record RowsHold (phase : ToolPhase) (tables : ℕ) (checks : List CheckEntry) : Type 0 where
  pub mastered : PhaseHolds phase checks
  pub whole : AllWhole checks
  pub passed : TablesBefore (checked_in phase tables) checks

pub no_rows : (tables : ℕ) → RowsHold (Clear 0) tables []
no_rows tables = record {
  mastered = none_mastered;
  whole = λ table chunk row stands. absurd (cc);
  passed = λ table before. absurd (omega arith);
}

-- after CLEARCHECKS
pub cleared_rows : (t tables : ℕ) (checks : List CheckEntry) → RowsHold (Clear t) tables checks → RowsHold (Check t) tables (without_table t checks)
cleared_rows t tables checks rows = record {
  mastered = cleared_mastered t checks rows.mastered;
  whole = λ table chunk row stands.
      rows.whole table chunk row (cleared_row (table == t) (check_at table chunk checks) row (sym (check_at-without_table table chunk t checks) ∙ stands));
  passed = λ table before.
      let other : table ≢ t = λ same. omega arith in
      subst IsThere (sym (check_at-without_table_other table 1 t checks other)) (rows.passed table before);
}

-- after the CHECKSUM of a whole table
checked_whole : (here : Bool) (chunk : ℕ) (new : CheckRow) (old : Option CheckRow) (row : CheckRow)
    → (here ≡ true → chunk ≡ 1)
    → new.span ≡ whole_table
    → ((r : CheckRow) → old ≡ Some r → IsWhole chunk r)
    → cond here (Some new) old ≡ Some row
    → IsWhole chunk row
checked_whole true chunk new old row only span others stands =
    let same : new ≡ row = cc in
    subst (IsWhole chunk) same (record { only_chunk = only refl; whole = span })
checked_whole false chunk new old row only span others stands = others row stands

first_chunk : (table chunk t : ℕ) → ((table == t) && (chunk == 1)) ≡ true → chunk ≡ 1
first_chunk table chunk t is = grind (arith, nat_tests)

checked_there : (here : Bool) (new : CheckRow) (old : Option CheckRow) → (here ≡ false → IsThere old) → IsThere (cond here (Some new) old)
checked_there true new old there = (new, refl)
checked_there false new old there = there refl

earlier_table : (table t : ℕ) → ((table == t) && (1 == 1)) ≡ false → table < t + 1 → table < t
earlier_table table t is before = grind (arith, nat_tests)

pub checked_rows : (t tables : ℕ) (new : CheckRow) (checks : List CheckEntry)
    → new.span ≡ whole_table
    → RowsHold (Check t) tables checks
    → RowsHold (Master t) tables (with_check t 1 new checks)
checked_rows t tables new checks span rows = record {
  mastered = checked_mastered t new checks rows.mastered;
  whole = λ table chunk row stands.
      checked_whole ((table == t) && (chunk == 1)) chunk new (check_at table chunk checks) row (first_chunk table chunk t) span
      (rows.whole table chunk) (sym (check_at-with_check table chunk t 1 new checks) ∙ stands);
  passed = λ table before.
      subst IsThere (sym (check_at-with_check table 1 t 1 new checks))
      (checked_there ((table == t) && (1 == 1)) new (check_at table 1 checks) (λ is. rows.passed table (earlier_table table t is before)));
}

-- after SETMASTER
published_whole : (here : Bool) (chunk : ℕ) (master : Digest) (old : Option CheckRow) (row : CheckRow)
    → ((r : CheckRow) → old ≡ Some r → IsWhole chunk r)
    → cond here (option_map (λ r. mastered r master) old) old ≡ Some row
    → IsWhole chunk row
published_whole true chunk master None row before stands = absurd (cc)
published_whole true chunk master (Some r) row before stands =
    let same : mastered r master ≡ row = cc in
    let is = before r refl in
    subst (IsWhole chunk) same (record { only_chunk = is.only_chunk; whole = is.whole })
published_whole false chunk master old row before stands = before row stands

published_there : (here : Bool) (master : Digest) (old : Option CheckRow) → IsThere old → IsThere (cond here (option_map (λ r. mastered r master) old) old)
published_there true master None there = absurd (let no : None ≡ Some there.0 = there.1 in cc)
published_there true master (Some r) there = (mastered r master, refl)
published_there false master old there = there

-- the tool goes on to the next table, or ends after the last
next_rows : (more : Bool) (t tables : ℕ) (checks : List CheckEntry)
    → (more ≡ false → tables ≤ t + 1)
    → AllMastered checks
    → AllWhole checks
    → TablesBefore (t + 1) checks
    → RowsHold (cond more (Clear (t + 1)) Finished) tables checks
next_rows true t tables checks last mastered whole passed = record { mastered = mastered; whole = whole; passed = passed }
next_rows false t tables checks last mastered whole passed =
    let most : tables ≤ t + 1 = last refl in
    record { mastered = mastered; whole = whole; passed = λ table before. passed table (omega arith) }

last_table : (t tables : ℕ) → nat_lt (t + 1) tables ≡ false → tables ≤ t + 1
last_table t tables is = grind (arith, nat_tests)

pub published_rows : (t tables : ℕ) (master : Digest) (checks : List CheckEntry)
    → RowsHold (Master t) tables checks
    → RowsHold (cond (nat_lt (t + 1) tables) (Clear (t + 1)) Finished) tables (with_master t 1 master checks)
published_rows t tables master checks rows =
    next_rows (nat_lt (t + 1) tables) t tables (with_master t 1 master checks) (last_table t tables)
    (mastered_mastered t master checks rows.mastered.1)
    (λ table chunk row stands.
    published_whole ((table == t) && (chunk == 1)) chunk master (check_at table chunk checks) row (rows.whole table chunk)
    (sym (check_at-with_master table chunk t 1 master checks) ∙ stands))
    (λ table before.
    subst IsThere (sym (check_at-with_master table 1 t 1 master checks))
    (published_there ((table == t) && (1 == 1)) master (check_at table 1 checks) (rows.passed table before)))

-- a chunk that has a row on the source has one on a replica with the same
pub told_there : (source own : Option CheckRow) → told_in source ≡ told_in own → IsThere source → IsThere own
told_there None own same there = absurd (let no : None ≡ Some there.0 = there.1 in cc)
told_there (Some source) None same there = absurd (cc)
told_there (Some source) (Some row) same there = (row, refl)

-- the chunks of a report keep those of the replica
there_next : (here : Bool) (row : CheckRow) (rest more : Option CheckRow)
    → (IsThere rest → IsThere more)
    → IsThere (cond here (Some row) rest)
    → IsThere (cond here (Some row) more)
there_next true row rest more next there = (row, refl)
there_next false row rest more next there = next there

with_absent_there_at : (order : Ordering) (table chunk : ℕ) (new entry : CheckEntry) (entries more : List CheckEntry)
    → (IsThere (check_at table chunk entries) → IsThere (check_at table chunk more))
    → IsThere (check_at table chunk (entry ∷ entries))
    → IsThere (check_at table chunk (match_ordering order (new ∷ entry ∷ entries) (entry ∷ entries) (entry ∷ more)))
with_absent_there_at Less table chunk new entry entries more next there =
    there_either (is_for table chunk new) new.row (check_at table chunk (entry ∷ entries)) there
with_absent_there_at Equal table chunk new entry entries more next there = there
with_absent_there_at Greater table chunk new entry entries more next there =
    there_next (is_for table chunk entry) entry.row (check_at table chunk entries) (check_at table chunk more) next there

with_absent_there : (table chunk : ℕ) (new : CheckEntry) (entries : List CheckEntry)
    → IsThere (check_at table chunk entries)
    → IsThere (check_at table chunk (with_absent new entries))
with_absent_there table chunk new [] there = absurd (let no : None ≡ Some there.0 = there.1 in cc)
with_absent_there table chunk new (entry ∷ entries) there =
    with_absent_there_at (place_cmp new.table new.chunk entry) table chunk new entry entries (with_absent new entries)
    (with_absent_there table chunk new entries) there

all_chunks_there : (table chunk : ℕ) (own source : List CheckEntry)
    → IsThere (check_at table chunk own)
    → IsThere (check_at table chunk (all_chunks own source))
all_chunks_there table chunk own [] there = there
all_chunks_there table chunk own (entry ∷ source) there =
    all_chunks_there table chunk (with_absent entry own) source (with_absent_there table chunk entry own there)

-- the lines have one for each chunk
line_replica : (number : ℕ) (entry : CheckEntry) (own : Option CheckRow) → (verdict_line number entry own).replica ≡ number
line_replica number entry None = refl
line_replica number entry (Some row) = refl

line_table : (number : ℕ) (entry : CheckEntry) (own : Option CheckRow) → (verdict_line number entry own).table ≡ entry.table
line_table number entry None = refl
line_table number entry (Some row) = refl

has_first : (line : VerdictLine) (lines : List VerdictLine) (replica table : ℕ) → line.replica ≡ replica → line.table ≡ table → HasLine (line ∷ lines) replica table
has_first line lines replica table on_replica on_table = record {
  line = line;
  among = Contains-append_left (line ∷ []) lines line (Contains-push [] line);
  of_replica = on_replica;
  of_table = on_table;
}

has_later : (front lines : List VerdictLine) (replica table : ℕ) → HasLine lines replica table → HasLine (front ++ lines) replica table
has_later front lines replica table has = record {
  line = has.line;
  among = Contains-append_right front lines has.line has.among;
  of_replica = has.of_replica;
  of_table = has.of_table;
}

has_before : (lines more : List VerdictLine) (replica table : ℕ) → HasLine lines replica table → HasLine (lines ++ more) replica table
has_before lines more replica table has = record {
  line = has.line;
  among = Contains-append_left lines more has.line has.among;
  of_replica = has.of_replica;
  of_table = has.of_table;
}

of_table : (table chunk : ℕ) (entry : CheckEntry) → is_for table chunk entry ≡ true → entry.table ≡ table
of_table table chunk entry is = grind (arith, nat_tests)

chunk_has_line_at : (here : Bool) (number table : ℕ) (entry : CheckEntry) (line : VerdictLine) (lines : List VerdictLine) (rest : Option CheckRow)
    → line.replica ≡ number
    → line.table ≡ entry.table
    → (here ≡ true → entry.table ≡ table)
    → (IsThere rest → HasLine lines number table)
    → IsThere (cond here (Some entry.row) rest)
    → HasLine (line ∷ lines) number table
chunk_has_line_at true number table entry line lines rest on_replica on_table is later there =
    has_first line lines number table on_replica (on_table ∙ is refl)
chunk_has_line_at false number table entry line lines rest on_replica on_table is later there =
    has_later (line ∷ []) lines number table (later there)

chunk_has_line : (number table chunk : ℕ) (own entries : List CheckEntry)
    → IsThere (check_at table chunk entries)
    → HasLine (verdicts_on number own entries) number table
chunk_has_line number table chunk own [] there = absurd (let no : None ≡ Some there.0 = there.1 in cc)
chunk_has_line number table chunk own (entry ∷ entries) there =
    let row : Option CheckRow = check_at entry.table entry.chunk own in
    chunk_has_line_at (is_for table chunk entry) number table entry (verdict_line number entry row) (verdicts_on number own entries) (check_at table chunk entries)
    (line_replica number entry row) (line_table number entry row) (of_table table chunk entry)
    (chunk_has_line number table chunk own entries) there

-- the replica that stands k after the first, whose number is given
pub replica_has_line : (source : List CheckEntry) (number k replica table : ℕ) (nodes : List NodeView)
    → replica ≡ number + k
    → k < length nodes
    → AllByRecursion (λ (node : NodeView). IsThere (check_at table 1 (replayed_of node).checks)) nodes
    → HasLine (verdicts_from number source nodes) replica table
replica_has_line source number k replica table [] at within there = absurd (omega arith)
replica_has_line source number zero replica table (node ∷ nodes) at within there =
    let own : List CheckEntry = (replayed_of node).checks in
    let first : number ≡ replica = omega arith in
    has_before (replica_verdicts number source own) (verdicts_from (number + 1) source nodes) replica table
    (subst (λ n. HasLine (replica_verdicts number source own) n table) first
    (chunk_has_line number table 1 own (all_chunks own source) (all_chunks_there table 1 own source there.0)))
replica_has_line source number (suc k) replica table (node ∷ nodes) at within there =
    has_later (replica_verdicts number source (replayed_of node).checks) (verdicts_from (number + 1) source nodes) replica table
    (replica_has_line source (number + 1) k replica table nodes (omega arith) (omega arith) there.1)
