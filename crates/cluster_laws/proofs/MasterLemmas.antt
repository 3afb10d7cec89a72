-- Which check rows have the source's checksum, on the source and on a replica that followed its log.
use Rattle.std.proofs.Common.{◌≡◌, ◌≢◌, ◌⊎◌, inl, inr, ℕ, ◌+◌, ◌==◌, ◌&&◌, Bool, true, false, cond, List, [], ◌∷◌, ◌++◌, length, take, append-nil, append_assoc, Option, None, Some, option_map, refl, ap, ◌∙◌, sym, subst, subst₂, arith}
use Rattle.std.proofs.lemmas.Bool.Decides.{nat_tests}
use Rattle.std.proofs.Math.Seq.{take-length}
use Rattle.std.specs.List.{AllByRecursion}
use Rattle.std.specs.Ordering.{match_ordering}
use Rattle.std.specs.declared.cmp.Ordering.{Ordering}
use Rattle.std.specs.declared.cmp.Ordering.TheVariants.{Less, Equal, Greater}
use Rattle.row_types.specs.KeyRows.{TableRows}
use Rattle.row_types.specs.declared.digests.Digest.{Digest}
use Rattle.row_types.specs.declared.edges.Span.{Span}
use Rattle.row_types.specs.declared.table_schema.Schema.{Schema}
use Rattle.ptc_statement.specs.declared.statements.Statement.{Statement}
use Rattle.ptc_statement.specs.declared.statements.Statement.TheVariants.{Insert, Replace, Delete, Update, LockRead, Check as CheckStatement, SetMaster, ClearChecks}
use Rattle.statement_log.specs.declared.origins.Origin.{Origin}
use Rattle.statement_log.specs.declared.origins.Origin.TheVariants.{Session, Checksum, Sync, Local, Applied}
use Rattle.statement_log.specs.declared.entries.Entry.{Entry}
use Rattle.checksum_table.specs.declared.check_rows.CheckRow.{CheckRow}
use Rattle.checksum_table.specs.declared.check_rows.CheckEntry.{CheckEntry}
use Rattle.checksum_table.specs.declared.check_rows.Verdict.TheVariants.{Same, Differ, Pending}
use Rattle.checksum_table.specs.Checks.{is_for, place_cmp, check_at, with_check, with_absent, with_master, without_table, mastered, digest_eq, verdict_against, verdict_of_row}
use Rattle.history.specs.Replay.{Replayed, checks_after, after_statement, after_statements, fold, position_of, applied_from, applied_of, IsNextOf, FollowsFrom, Follows}
use Rattle.checksum_table.proofs.CheckLemmas.{check_at-with_check, check_at-with_master, check_at-without_table, check_at-with_check_same, check_at-with_check_other}
use Rattle.history.proofs.ReplayLemmas.{fold_more, fold-take_more, applied_of-more, clients_keep_checks}
use Rattle.cluster_core.specs.Summary.{all_chunks}
use Rattle.cluster_core.proofs.EachLemmas.{each_more}
use Rattle.cluster_core.specs.declared.actors.ToolPhase.{ToolPhase}
use Rattle.cluster_core.specs.declared.actors.ToolPhase.TheVariants.{Clear, Check, Master, Finished}

abbrev pub IsMastered : CheckRow → Type 0
IsMastered row = (master : Digest) × (row.master ≡ Some master)

abbrev pub AllMastered : List CheckEntry → Type 0
AllMastered checks = (table chunk : ℕ) (row : CheckRow) → check_at table chunk checks ≡ Some row → IsMastered row

-- all but maybe the first chunk of this table
abbrev pub OthersMastered : ℕ → List CheckEntry → Type 0
OthersMastered t checks = (table chunk : ℕ) (row : CheckRow) → (table ≢ t) ⊎ (chunk ≢ 1) → check_at table chunk checks ≡ Some row → IsMastered row

-- the source's check rows, by what the tool does next
abbrev pub PhaseHolds : ToolPhase → List CheckEntry → Type 0
PhaseHolds (Clear t) checks = AllMastered checks
PhaseHolds (Check t) checks = AllMastered checks
PhaseHolds (Master t) checks = ((row : CheckRow) × (check_at t 1 checks ≡ Some row)) × OthersMastered t checks
PhaseHolds Finished checks = AllMastered checks

pub none_mastered : AllMastered []
none_mastered table chunk row stands = absurd (cc)

pub cleared_row : (here : Bool) (old : Option CheckRow) (row : CheckRow) → cond here None old ≡ Some row → old ≡ Some row
cleared_row true old row stands = absurd (cc)
cleared_row false old row stands = stands

pub cleared_mastered : (t : ℕ) (checks : List CheckEntry) → AllMastered checks → AllMastered (without_table t checks)
cleared_mastered t checks all table chunk row stands =
    all table chunk row (cleared_row (table == t) (check_at table chunk checks) row (sym (check_at-without_table table chunk t checks) ∙ stands))

pub checked_mastered : (t : ℕ) (new : CheckRow) (checks : List CheckEntry) → AllMastered checks → PhaseHolds (Master t) (with_check t 1 new checks)
checked_mastered t new checks all = (
  (new, check_at-with_check_same t 1 new checks),
  λ table chunk row other stands. all table chunk row (sym (check_at-with_check_other table chunk t 1 new checks other) ∙ stands),
)

mastered_row : (master : Digest) (old : Option CheckRow) (row : CheckRow) → option_map (λ r. mastered r master) old ≡ Some row → IsMastered row
mastered_row master None row stands = absurd (cc)
mastered_row master (Some r) row stands =
    let same : mastered r master ≡ row = cc in
    (master, ap (λ (x : CheckRow). x.master) (sym same))

other_place : (table chunk t : ℕ) → ((table == t) && (chunk == 1)) ≡ false → (table ≢ t) ⊎ (chunk ≢ 1)
other_place table chunk t is = grind (arith, nat_tests)

mastered_here : (here : Bool) (master : Digest) (old : Option CheckRow) (row : CheckRow)
    → (here ≡ false → old ≡ Some row → IsMastered row)
    → cond here (option_map (λ r. mastered r master) old) old ≡ Some row → IsMastered row
mastered_here true master old row other stands = mastered_row master old row stands
mastered_here false master old row other stands = other refl stands

pub mastered_mastered : (t : ℕ) (master : Digest) (checks : List CheckEntry) → OthersMastered t checks → AllMastered (with_master t 1 master checks)
mastered_mastered t master checks others table chunk row stands =
    mastered_here ((table == t) && (chunk == 1)) master (check_at table chunk checks) row
    (λ is old. others table chunk row (other_place table chunk t is) old)
    (sym (check_at-with_master table chunk t 1 master checks) ∙ stands)

-- what a check row says that is the same on each node: its span, and the published checksum
pub record Told : Type 0 where
  pub span : Span
  pub master : Option Digest

abbrev pub told : CheckRow → Told
told row = record { span = row.span; master = row.master }

-- whether a chunk has a row, and what it says that is the same on each node
abbrev pub told_in : Option CheckRow → Option Told
told_in found = option_map told found

-- two lists have rows of the same chunks, and the same span and published checksum in each
abbrev pub SameMasters : List CheckEntry → List CheckEntry → Type 0
SameMasters a b = (table chunk : ℕ) → told_in (check_at table chunk a) ≡ told_in (check_at table chunk b)

same_checked : (here : Bool) (new_a new_b : CheckRow) (a b : Option CheckRow)
    → told new_a ≡ told new_b
    → told_in a ≡ told_in b
    → told_in (cond here (Some new_a) a) ≡ told_in (cond here (Some new_b) b)
same_checked true new_a new_b a b new before = ap Some new
same_checked false new_a new_b a b new before = before

same_published : (master : Digest) (a b : Option CheckRow)
    → told_in a ≡ told_in b
    → told_in (option_map (λ r. mastered r master) a) ≡ told_in (option_map (λ r. mastered r master) b)
same_published master None None before = refl
same_published master None (Some b) before = absurd (cc)
same_published master (Some a) None before = absurd (cc)
same_published master (Some a) (Some b) before = ap (option_map (λ (t : Told). record t { master = Some master })) before

same_mastered : (here : Bool) (master : Digest) (a b : Option CheckRow)
    → told_in a ≡ told_in b
    → told_in (cond here (option_map (λ r. mastered r master) a) a) ≡ told_in (cond here (option_map (λ r. mastered r master) b) b)
same_mastered true master a b before = same_published master a b before
same_mastered false master a b before = before

same_cleared : (here : Bool) (a b : Option CheckRow)
    → told_in a ≡ told_in b
    → told_in (cond here None a) ≡ told_in (cond here None b)
same_cleared true a b before = refl
same_cleared false a b before = before

same_statement : (schemas : List Schema) (m n : ℕ) (statement : Statement) (a b : Replayed)
    → SameMasters a.checks b.checks → SameMasters (checks_after schemas m statement a) (checks_after schemas n statement b)
same_statement schemas m n (Insert t row) a b before table chunk = before table chunk
same_statement schemas m n (Replace t row) a b before table chunk = before table chunk
same_statement schemas m n (Delete t where_true) a b before table chunk = before table chunk
same_statement schemas m n (Update t sets where_true) a b before table chunk = before table chunk
same_statement schemas m n (LockRead t mode span where_true) a b before table chunk = before table chunk
same_statement schemas m n (CheckStatement t c span kind) a b before table chunk =
    subst₂ (λ x y. told_in x ≡ told_in y)
    (sym (check_at-with_check table chunk t c _ a.checks))
    (sym (check_at-with_check table chunk t c _ b.checks))
    (same_checked ((table == t) && (chunk == c)) _ _ (check_at table chunk a.checks) (check_at table chunk b.checks) refl (before table chunk))
same_statement schemas m n (SetMaster t c kind master) a b before table chunk =
    subst₂ (λ x y. told_in x ≡ told_in y)
    (sym (check_at-with_master table chunk t c master a.checks))
    (sym (check_at-with_master table chunk t c master b.checks))
    (same_mastered ((table == t) && (chunk == c)) master (check_at table chunk a.checks) (check_at table chunk b.checks) (before table chunk))
same_statement schemas m n (ClearChecks t) a b before table chunk =
    subst₂ (λ x y. told_in x ≡ told_in y)
    (sym (check_at-without_table table chunk t a.checks))
    (sym (check_at-without_table table chunk t b.checks))
    (same_cleared (table == t) (check_at table chunk a.checks) (check_at table chunk b.checks) (before table chunk))

same_statements : (schemas : List Schema) (m n : ℕ) (statements : List Statement) (a b : Replayed)
    → SameMasters a.checks b.checks → SameMasters (after_statements schemas m statements a).checks (after_statements schemas n statements b).checks
same_statements schemas m n [] a b before = before
same_statements schemas m n (statement ∷ statements) a b before =
    same_statements schemas m n statements (after_statement schemas m statement a) (after_statement schemas n statement b) (same_statement schemas m n statement a b before)

-- the next item of a replica's history
same_next : (schemas : List Schema) (source_start replica_start : TableRows) (log front : List Entry) (item : Entry) (origin : Origin)
    → item.origin ≡ origin
    → IsNextOf log (applied_of front) origin item.statements
    → SameMasters (fold schemas source_start (take (applied_of front) log)).checks (fold schemas replica_start front).checks
    → SameMasters (fold schemas source_start (take (position_of (applied_of front) origin) log)).checks (fold schemas replica_start (front ++ item ∷ [])).checks
same_next schemas source_start replica_start log front item (Session session) by next before = absurd next
same_next schemas source_start replica_start log front item Checksum by next before = absurd next
same_next schemas source_start replica_start log front item (Sync replica table span) by next before = absurd next
same_next schemas source_start replica_start log front item (Local session) by next before =
    subst (λ (checks : List CheckEntry). SameMasters (fold schemas source_start (take (applied_of front) log)).checks checks)
    (sym (ap (λ (x : Replayed). x.checks) (fold_more schemas replica_start front item)
    ∙ clients_keep_checks schemas (position_of (length front + 1) item.origin) item.statements (fold schemas replica_start front) next))
    before
same_next schemas source_start replica_start log front item (Applied number) by next before =
    let entry : Entry = next.0 in
    let done : ℕ = applied_of front in
    let place : ℕ = position_of (length front + 1) item.origin in
    subst₂ (λ (a b : Replayed). SameMasters a.checks b.checks)
    (sym (ap (λ n. fold schemas source_start (take n log)) next.2 ∙ fold-take_more schemas source_start log done entry next.1))
    (sym (fold_more schemas replica_start front item ∙ ap (λ (statements : List Statement). after_statements schemas place statements (fold schemas replica_start front)) next.3))
    (same_statements schemas (position_of (done + 1) entry.origin) place entry.statements (fold schemas source_start (take done log)) (fold schemas replica_start front) before)

same_on : (schemas : List Schema) (source_start replica_start : TableRows) (log front rest : List Entry)
    → FollowsFrom log (applied_of front) rest
    → SameMasters (fold schemas source_start (take (applied_of front) log)).checks (fold schemas replica_start front).checks
    → SameMasters (fold schemas source_start (take (applied_from (applied_of front) rest) log)).checks (fold schemas replica_start (front ++ rest)).checks
same_on schemas source_start replica_start log front [] follows before =
    subst (λ (items : List Entry). SameMasters (fold schemas source_start (take (applied_of front) log)).checks (fold schemas replica_start items).checks) (sym (append-nil front)) before
same_on schemas source_start replica_start log front (item ∷ rest) follows before =
    let more : List Entry = front ++ item ∷ [] in
    let number : applied_of more ≡ position_of (applied_of front) item.origin = applied_of-more front item in
    let now : SameMasters (fold schemas source_start (take (applied_of more) log)).checks (fold schemas replica_start more).checks =
    subst (λ n. SameMasters (fold schemas source_start (take n log)).checks (fold schemas replica_start more).checks) (sym number)
    (same_next schemas source_start replica_start log front item item.origin refl follows.0 before) in
    subst₂ (λ (n : ℕ) (items : List Entry). SameMasters (fold schemas source_start (take n log)).checks (fold schemas replica_start items).checks)
    (ap (λ n. applied_from n rest) number)
    (append_assoc front (item ∷ []) rest)
    (same_on schemas source_start replica_start log more rest (subst (λ n. FollowsFrom log n rest) (sym number) follows.1) now)

-- a replica that applied the whole log
pub same_masters : (schemas : List Schema) (source_start replica_start : TableRows) (log history : List Entry)
    → Follows log history
    → applied_of history ≡ length log
    → SameMasters (fold schemas source_start log).checks (fold schemas replica_start history).checks
same_masters schemas source_start replica_start log history follows all =
    let whole_log : take (applied_of history) log ≡ log = ap (λ n. take n log) all ∙ take-length log in
    subst (λ (entries : List Entry). SameMasters (fold schemas source_start entries).checks (fold schemas replica_start history).checks) whole_log
    (same_on schemas source_start replica_start log [] history follows (λ table chunk. refl))

-- where all rows of the source are mastered, so is a chunk's on the replica
abbrev pub IsThere : Option CheckRow → Type 0
IsThere found = (row : CheckRow) × (found ≡ Some row)

-- a replica's row of a chunk, mastered and of the same span as the source's
pub record IsMasteredAsOn (source own : Option CheckRow) : Type 0 where
  pub source_row : CheckRow
  pub on_source : source ≡ Some source_row
  pub row : CheckRow
  pub here : own ≡ Some row
  pub same_span : source_row.span ≡ row.span
  pub mastered : IsMastered row

pub mastered_there : (source own : Option CheckRow)
    → told_in source ≡ told_in own
    → ((row : CheckRow) → source ≡ Some row → IsMastered row)
    → IsThere own ⊎ IsThere source
    → IsMasteredAsOn source own
mastered_there None None same all (inl there) = absurd (let no : None ≡ Some there.0 = there.1 in cc)
mastered_there None None same all (inr there) = absurd (let no : None ≡ Some there.0 = there.1 in cc)
mastered_there None (Some row) same all there = absurd (cc)
mastered_there (Some source) None same all there = absurd (cc)
mastered_there (Some source) (Some row) same all there =
    let master = all source refl in
    let one : told source ≡ told row = cc in
    record {
      source_row = source;
      on_source = refl;
      row = row;
      here = refl;
      same_span = ap (λ (t : Told). t.span) one;
      mastered = (master.0, sym (ap (λ (t : Told). t.master) one) ∙ master.1);
    }

-- the chunks of a report
with_absent_at : (P : CheckEntry → Type 0) (order : Ordering) (new entry : CheckEntry) (entries more : List CheckEntry)
    → P new → P entry → AllByRecursion P entries → AllByRecursion P more
    → AllByRecursion P (match_ordering order (new ∷ entry ∷ entries) (entry ∷ entries) (entry ∷ more))
with_absent_at P Less new entry entries more holds head each rest = (holds, (head, each))
with_absent_at P Equal new entry entries more holds head each rest = (head, each)
with_absent_at P Greater new entry entries more holds head each rest = (head, rest)

with_absent_each : (P : CheckEntry → Type 0) (new : CheckEntry) (entries : List CheckEntry) → P new → AllByRecursion P entries → AllByRecursion P (with_absent new entries)
with_absent_each P new [] holds each = (holds, tt)
with_absent_each P new (entry ∷ entries) holds each =
    with_absent_at P (place_cmp new.table new.chunk entry) new entry entries (with_absent new entries) holds each.0 each.1 (with_absent_each P new entries holds each.1)

pub all_chunks_each : (P : CheckEntry → Type 0) (own source : List CheckEntry) → AllByRecursion P own → AllByRecursion P source → AllByRecursion P (all_chunks own source)
all_chunks_each P own [] each more = each
all_chunks_each P own (entry ∷ source) each more =
    all_chunks_each P (with_absent entry own) source (with_absent_each P entry own more.0 each) more.1

-- an entry's chunk has a row in the list that it is in
is_for_itself : (entry : CheckEntry) → is_for entry.table entry.chunk entry ≡ true
is_for_itself entry = grind (arith, nat_tests)

pub there_either : (here : Bool) (row : CheckRow) (rest : Option CheckRow) → IsThere rest → IsThere (cond here (Some row) rest)
there_either true row rest there = (row, refl)
there_either false row rest there = there

pub each_there : (entries : List CheckEntry) → AllByRecursion (λ (entry : CheckEntry). IsThere (check_at entry.table entry.chunk entries)) entries
each_there [] = tt
each_there (entry ∷ entries) = (
  (entry.row, ap (λ b. cond b (Some entry.row) (check_at entry.table entry.chunk entries)) (is_for_itself entry)),
  each_more
      (λ (e : CheckEntry). IsThere (check_at e.table e.chunk entries))
      (λ (e : CheckEntry). IsThere (check_at e.table e.chunk (entry ∷ entries)))
      entries
      (λ e there. there_either (is_for e.table e.chunk entry) entry.row (check_at e.table e.chunk entries) there)
      (each_there entries),
)

-- each chunk of a report has a row on the replica or on the source
pub each_placed : (own source : List CheckEntry)
    → AllByRecursion (λ (entry : CheckEntry). IsThere (check_at entry.table entry.chunk own) ⊎ IsThere (check_at entry.table entry.chunk source)) (all_chunks own source)
each_placed own source =
    all_chunks_each (λ (entry : CheckEntry). IsThere (check_at entry.table entry.chunk own) ⊎ IsThere (check_at entry.table entry.chunk source)) own source
    (each_more
    (λ (e : CheckEntry). IsThere (check_at e.table e.chunk own))
    (λ (e : CheckEntry). IsThere (check_at e.table e.chunk own) ⊎ IsThere (check_at e.table e.chunk source))
    own (λ e there. inl there) (each_there own))
    (each_more
    (λ (e : CheckEntry). IsThere (check_at e.table e.chunk source))
    (λ (e : CheckEntry). IsThere (check_at e.table e.chunk own) ⊎ IsThere (check_at e.table e.chunk source))
    source (λ e there. inr there) (each_there source))

-- a mastered row's verdict is not pending
verdict_known : (test : Bool) → cond test Same Differ ≢ Pending
verdict_known true = λ is. cc
verdict_known false = λ is. cc

pub mastered_known : (row : CheckRow) → IsMastered row → verdict_of_row row ≢ Pending
mastered_known row known =
    subst (λ (o : Option Digest). verdict_against o row.this ≢ Pending) (sym known.1) (verdict_known (digest_eq known.0 row.this))
