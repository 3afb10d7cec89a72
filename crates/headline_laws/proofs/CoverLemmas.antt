-- Where a replica has applied the whole log, its verdicts cover all keys of the tables that the tool has left behind it.
use Rattle.std.proofs.Common.{◌≡◌, ◌∙◌, ℕ, zero, suc, ◌+◌, ◌-◌, ◌≤◌, Bool, true, false, cond, List, [], ◌∷◌, ◌++◌, Option, None, Some, option_map, refl, ap, sym, subst, arith}
use Rattle.std.specs.List.{Contains, slice_get}
use Rattle.std.specs.Ordering.{match_ordering}
use Rattle.std.specs.declared.cmp.Ordering.{Ordering}
use Rattle.std.specs.declared.cmp.Ordering.TheVariants.{Less, Equal, Greater}
use Rattle.std.proofs.lemmas.Bool.Decides.{nat_tests}
use Rattle.std.proofs.lemmas.List.Elements.{Contains-append_left, Contains-append_right, Contains-push}
use Rattle.row_types.specs.declared.digests.Digest.{Digest}
use Rattle.row_types.specs.declared.edges.Span.{Span}
use Rattle.row_types.specs.declared.table_schema.Schema.{Schema}
use Rattle.row_types.specs.declared.values.Value.{Value}
use Rattle.row_types.specs.Order.{has}
use Rattle.checksum_table.specs.declared.check_rows.CheckRow.{CheckRow}
use Rattle.checksum_table.specs.declared.check_rows.CheckEntry.{CheckEntry}
use Rattle.checksum_table.specs.Checks.{is_for, place_cmp, check_at, with_absent}
use Rattle.history.specs.Replay.{fold, Follows}
use Rattle.report_text.specs.declared.summaries.VerdictLine.{VerdictLine}
use Rattle.checksum_tool_laws.specs.Cover.{holding, mastered_in, mastered_at, Cover}
use Rattle.checksum_tool_laws.specs.Told.{Told}
use Rattle.world_model.specs.Worlds.{WorldView, ReplicaView}
use Rattle.world_model.specs.Verdicts.{verdict_line, all_chunks, verdicts_on, replica_verdicts}
use Rattle.world_model.specs.Summary.{replayed_of, verdicts_from, verdicts_of}
use Rattle.headline_laws.specs.Equals.{HasAppliedAll, FinishedTablesAreCovered}
use Rattle.headline_laws.proofs.MirrorLemmas.{Told as RowTold, told, told_in, SameMasters, same_masters}

abbrev IsThere : Option CheckRow → Type 0
IsThere found = (row : CheckRow) × (found ≡ Some row)

-- The span that has a key.

record SpanOver (spans : List Span) (key : List Value) : Type 0 where
  place : ℕ
  span : Span
  found : slice_get spans place ≡ Some span
  over : has span key ≡ true

span_later : (key : List Value) (span : Span) (spans : List Span) → SpanOver spans key → SpanOver (span ∷ spans) key
span_later key span spans found = record { place = suc found.place; span = found.span; found = found.found; over = found.over }

span_over_first : (key : List Value) (span : Span) (spans : List Span) (b : Bool) → has span key ≡ b → (holding key spans ≡ 1 → SpanOver spans key)
    → cond b (holding key spans + 1) (holding key spans) ≡ 1 → SpanOver (span ∷ spans) key
span_over_first key span spans true e later once = record { place = 0; span = span; found = refl; over = e }
span_over_first key span spans false e later once = span_later key span spans (later once)

span_over : (key : List Value) (spans : List Span) → holding key spans ≡ 1 → SpanOver spans key
span_over key [] once = absurd (omega (arith, once))
span_over key (span ∷ spans) once = span_over_first key span spans (has span key) refl (λ rest. span_over key spans rest) once

-- The check row of that span, on the source and on the replica.

record RowOf (found : Option CheckRow) (span : Span) : Type 0 where
  row : CheckRow
  there : found ≡ Some row
  is : row.span ≡ span

of_master : (row : CheckRow) (master : Option Digest) (span : Span) → option_map (λ (m : Digest). row.span) master ≡ Some span → row.span ≡ span
of_master row None span is = absurd (let no : None ≡ Some span = is in cc)
of_master row (Some m) span is = cc

source_row : (found : Option CheckRow) (span : Span) → mastered_in found ≡ Some span → RowOf found span
source_row None span is = absurd (let no : None ≡ Some span = is in cc)
source_row (Some row) span is = record { row = row; there = refl; is = of_master row row.master span is }

own_row : (source own : Option CheckRow) (span : Span) → told_in source ≡ told_in own → RowOf source span → RowOf own span
own_row None own span same row = absurd (let no : None ≡ Some row.row = row.there in cc)
own_row (Some source) None span same row = absurd (let no : Some (told source) ≡ None = same in cc)
own_row (Some source) (Some one) span same row =
    let both : Some (told source) ≡ Some (told one) = same in
    let alike : told source ≡ told one = cc in
    let first : Some source ≡ Some row.row = row.there in
    let is_first : source ≡ row.row = cc in
    record { row = one; there = refl; is = sym (ap (λ (t : RowTold). t.span) alike) ∙ ap (λ (r : CheckRow). r.span) is_first ∙ row.is }

-- The chunks of a report keep those of the replica.

there_next : (here : Bool) (row : CheckRow) (rest more : Option CheckRow)
    → (IsThere rest → IsThere more)
    → IsThere (cond here (Some row) rest)
    → IsThere (cond here (Some row) more)
there_next true row rest more next there = (row, refl)
there_next false row rest more next there = next there

there_either : (here : Bool) (row : CheckRow) (rest : Option CheckRow) → IsThere rest → IsThere (cond here (Some row) rest)
there_either true row rest there = (row, refl)
there_either false row rest there = there

with_absent_there_at : (order : Ordering) (table chunk : ℕ) (new entry : CheckEntry) (entries more : List CheckEntry)
    → (IsThere (check_at table chunk entries) → IsThere (check_at table chunk more))
    → IsThere (check_at table chunk (entry ∷ entries))
    → IsThere (check_at table chunk (match_ordering order (new ∷ entry ∷ entries) (entry ∷ entries) (entry ∷ more)))
with_absent_there_at Less table chunk new entry entries more next there =
    there_either (is_for table chunk new) new.row (check_at table chunk (entry ∷ entries)) there
with_absent_there_at Equal table chunk new entry entries more next there = there
with_absent_there_at Greater table chunk new entry entries more next there =
    there_next (is_for table chunk entry) entry.row (check_at table chunk entries) (check_at table chunk more) next there

with_absent_there : (table chunk : ℕ) (new : CheckEntry) (entries : List CheckEntry)
    → IsThere (check_at table chunk entries)
    → IsThere (check_at table chunk (with_absent new entries))
with_absent_there table chunk new [] there = absurd (let no : None ≡ Some there.0 = there.1 in cc)
with_absent_there table chunk new (entry ∷ entries) there =
    with_absent_there_at (place_cmp new.table new.chunk entry) table chunk new entry entries (with_absent new entries)
    (with_absent_there table chunk new entries) there

all_chunks_there : (table chunk : ℕ) (own source : List CheckEntry)
    → IsThere (check_at table chunk own)
    → IsThere (check_at table chunk (all_chunks own source))
all_chunks_there table chunk own [] there = there
all_chunks_there table chunk own (entry ∷ source) there =
    all_chunks_there table chunk (with_absent entry own) source (with_absent_there table chunk entry own there)

-- The lines have one for each chunk.

-- a line of this table on this replica, with this span
record HasLineOf (lines : List VerdictLine) (replica table : ℕ) (span : Span) : Type 0 where
  line : VerdictLine
  among : Contains lines line
  of_replica : line.replica ≡ replica
  of_table : line.table ≡ table
  of_span : line.span ≡ span

has_later : (front lines : List VerdictLine) (replica table : ℕ) (span : Span) → HasLineOf lines replica table span → HasLineOf (front ++ lines) replica table span
has_later front lines replica table span has = record {
  line = has.line;
  among = Contains-append_right front lines has.line has.among;
  of_replica = has.of_replica;
  of_table = has.of_table;
  of_span = has.of_span;
}

has_before : (lines more : List VerdictLine) (replica table : ℕ) (span : Span) → HasLineOf lines replica table span → HasLineOf (lines ++ more) replica table span
has_before lines more replica table span has = record {
  line = has.line;
  among = Contains-append_left lines more has.line has.among;
  of_replica = has.of_replica;
  of_table = has.of_table;
  of_span = has.of_span;
}

of_table : (table chunk : ℕ) (entry : CheckEntry) → is_for table chunk entry ≡ true → entry.table ≡ table
of_table table chunk entry is = grind (arith, nat_tests)

of_chunk : (table chunk : ℕ) (entry : CheckEntry) → is_for table chunk entry ≡ true → entry.chunk ≡ chunk
of_chunk table chunk entry is = grind (arith, nat_tests)

-- the line of an entry of the chunk
chunk_line : (number table chunk : ℕ) (own : List CheckEntry) (entry : CheckEntry) (rest : List VerdictLine) (row : CheckRow) → check_at table chunk own ≡ Some row → is_for table chunk entry ≡ true
    → HasLineOf (verdict_line number entry (check_at entry.table entry.chunk own) ∷ rest) number table row.span
chunk_line number table chunk own entry rest row stands is =
    let here : check_at entry.table entry.chunk own ≡ Some row =
    ap (λ (t : ℕ). check_at t entry.chunk own) (of_table table chunk entry is) ∙ ap (λ (c : ℕ). check_at table c own) (of_chunk table chunk entry is) ∙ stands in
    let line : VerdictLine = verdict_line number entry (Some row) in
    subst (λ (o : Option CheckRow). HasLineOf (verdict_line number entry o ∷ rest) number table row.span) (sym here)
    (record {
      line = line;
      among = Contains-append_left (line ∷ []) rest line (Contains-push [] line);
      of_replica = refl;
      of_table = of_table table chunk entry is;
      of_span = refl;
    })

chunk_has_first : (number table chunk : ℕ) (own : List CheckEntry) (entry : CheckEntry) (entries : List CheckEntry) (row : CheckRow) (b : Bool) → check_at table chunk own ≡ Some row
    → is_for table chunk entry ≡ b
    → (IsThere (check_at table chunk entries) → HasLineOf (verdicts_on number own entries) number table row.span)
    → IsThere (cond b (Some entry.row) (check_at table chunk entries)) → HasLineOf (verdicts_on number own (entry ∷ entries)) number table row.span
chunk_has_first number table chunk own entry entries row true stands e later there = chunk_line number table chunk own entry (verdicts_on number own entries) row stands e
chunk_has_first number table chunk own entry entries row false stands e later there =
    has_later (verdict_line number entry (check_at entry.table entry.chunk own) ∷ []) (verdicts_on number own entries) number table row.span (later there)

chunk_has_line : (number table chunk : ℕ) (own entries : List CheckEntry) (row : CheckRow) → check_at table chunk own ≡ Some row
    → IsThere (check_at table chunk entries)
    → HasLineOf (verdicts_on number own entries) number table row.span
chunk_has_line number table chunk own [] row stands there = absurd (let no : None ≡ Some there.0 = there.1 in cc)
chunk_has_line number table chunk own (entry ∷ entries) row stands there =
    chunk_has_first number table chunk own entry entries row (is_for table chunk entry) stands refl (λ rest. chunk_has_line number table chunk own entries row stands rest) there

-- the replica that stands k after the first, whose number is given
replica_has_line : (source : List CheckEntry) (number k replica table chunk : ℕ) (replicas : List ReplicaView) (one : ReplicaView) (row : CheckRow)
    → replica ≡ number + k
    → slice_get replicas k ≡ Some one
    → check_at table chunk (replayed_of one.node).checks ≡ Some row
    → HasLineOf (verdicts_from number source replicas) replica table row.span
replica_has_line source number k replica table chunk [] one row at found stands = absurd (let no : None ≡ Some one = found in cc)
replica_has_line source number zero replica table chunk (first ∷ replicas) one row at found stands =
    let is : first ≡ one = cc in
    let own : List CheckEntry = (replayed_of first.node).checks in
    let here : check_at table chunk own ≡ Some row = subst (λ (r : ReplicaView). check_at table chunk (replayed_of r.node).checks ≡ Some row) (sym is) stands in
    let is_number : number ≡ replica = omega (arith, at) in
    has_before (replica_verdicts number source own) (verdicts_from (number + 1) source replicas) replica table row.span
    (subst (λ n. HasLineOf (replica_verdicts number source own) n table row.span) is_number
    (chunk_has_line number table chunk own (all_chunks own source) row here (all_chunks_there table chunk own source (row, here))))
replica_has_line source number (suc k) replica table chunk (first ∷ replicas) one row at found stands =
    has_later (replica_verdicts number source (replayed_of first.node).checks) (verdicts_from (number + 1) source replicas) replica table row.span
    (replica_has_line source (number + 1) k replica table chunk replicas one row (omega (arith, at)) found stands)

-- a chunk of the source has its line on the replica
span_has_line : (world : WorldView) (number table chunk : ℕ) (replica : ReplicaView) (span : Span)
    → 1 ≤ number
    → slice_get world.replicas (number - 1) ≡ Some replica
    → replica.node.schemas ≡ world.source.schemas
    → Follows world.source.history replica.node.history
    → HasAppliedAll world replica
    → mastered_at table chunk (replayed_of world.source).checks ≡ Some span
    → HasLineOf (verdicts_of world) number table span
span_has_line world number table chunk replica span from_one found same follows all is =
    let schemas : List Schema = world.source.schemas in
    let mirrored : SameMasters (fold schemas world.source.start world.source.history).checks (fold schemas replica.node.start replica.node.history).checks =
    same_masters schemas world.source.start replica.node.start world.source.history replica.node.history follows all in
    let alike : SameMasters (replayed_of world.source).checks (replayed_of replica.node).checks =
    subst (λ (s : List Schema). SameMasters (replayed_of world.source).checks (fold s replica.node.start replica.node.history).checks) (sym same) mirrored in
    let own : RowOf (check_at table chunk (replayed_of replica.node).checks) span =
    own_row (check_at table chunk (replayed_of world.source).checks) (check_at table chunk (replayed_of replica.node).checks) span (alike table chunk)
    (source_row (check_at table chunk (replayed_of world.source).checks) span is) in
    subst (HasLineOf (verdicts_of world) number table) own.is
    (replica_has_line (replayed_of world.source).checks 1 (number - 1) number table chunk world.replicas replica own.row (omega (arith, from_one)) found own.there)

-- what is known of a replica where its chunks are told
pub record FollowsHere (world : WorldView) (replica : ReplicaView) : Type 0 where
  pub same : replica.node.schemas ≡ world.source.schemas
  pub follows : Follows world.source.history replica.node.history

pub finished_covered : (world : WorldView) → Told world.tool world.source
    → ((place : ℕ) (replica : ReplicaView) → slice_get world.replicas place ≡ Some replica → FollowsHere world replica)
    → FinishedTablesAreCovered world
finished_covered world tool known number table replica from_one found all behind key =
    let cover : Cover (replayed_of world.source).checks table = tool.cover table behind in
    let one : SpanOver cover.spans key = span_over key cover.spans (cover.once key) in
    let here : FollowsHere world replica = known (number - 1) replica found in
    let has_line : HasLineOf (verdicts_of world) number table one.span =
    span_has_line world number table (suc one.place) replica one.span from_one found here.same here.follows all (cover.rows (suc one.place) ∙ one.found) in
    record {
      line = has_line.line;
      among = has_line.among;
      of_replica = has_line.of_replica;
      of_table = has_line.of_table;
      over = ap (λ (s : Span). has s key) has_line.of_span ∙ one.over;
    }
