-- Whether a chunk has a check row without the source's checksum is told by the deeds of the tool's entries alone.
use Rattle.std.proofs.Common.{◌≡◌, ◌∙◌, ℕ, zero, suc, ◌+◌, ◌==◌, ◌&&◌, not, Bool, true, false, cond, map, List, [], ◌∷◌, ◌++◌, Option, None, Some, option_map, refl, ap}
use Rattle.std.specs.Prelude.{is_some}
use Rattle.std.specs.List.{AllByRecursion}
use Rattle.row_types.specs.KeyRows.{TableRows}
use Rattle.row_types.specs.declared.digests.Digest.{Digest}
use Rattle.row_types.specs.declared.edges.Span.{Span}
use Rattle.row_types.specs.declared.table_schema.Schema.{Schema}
use Rattle.ptc_statement.specs.declared.statements.Statement.{Statement}
use Rattle.ptc_statement.specs.declared.statements.Statement.TheVariants.{Insert, Replace, Delete, Update, LockRead, Check, SetMaster, ClearChecks}
use Rattle.ptc_statement.specs.Fits.{IsClients}
use Rattle.statement_log.specs.declared.origins.Origin.{Origin}
use Rattle.statement_log.specs.declared.origins.Origin.TheVariants.{Session, Checksum, Sync, Local, Applied}
use Rattle.statement_log.specs.declared.entries.Entry.{Entry}
use Rattle.checksum_table.specs.declared.check_rows.CheckRow.{CheckRow}
use Rattle.checksum_table.specs.declared.check_rows.CheckEntry.{CheckEntry}
use Rattle.checksum_table.specs.Checks.{check_at, mastered}
use Rattle.checksum_table.proofs.CheckLemmas.{check_at-with_check, check_at-with_master, check_at-without_table}
use Rattle.history.specs.Replay.{Replayed, position_of, checks_after, after_statement, after_statements, after_entry, replay_from, fold}
use Rattle.history.specs.Headline.{IsWrittenBy, EachIsWritten}
use Rattle.history.proofs.ReplayLemmas.{clients_keep_checks}
use Rattle.checksum_tool_laws.specs.Courses.{is_tools}
use Rattle.checksum_tool_laws.specs.Deeds.{Deed, Clears, Checks, Masters, Otherwise, deed_of, tool_entries, deeds_in, chunk_deeds, table_deeds, tables_deeds}

-- a check row that has not the source's checksum
abbrev pub is_open : Option CheckRow → Bool
is_open None = false
is_open (Some row) = not (is_some row.master)

-- whether the chunk has one after deeds

abbrev pub after_deed : ℕ → ℕ → Deed → Bool → Bool
after_deed table chunk (Clears t) before = cond (table == t) false before
after_deed table chunk (Checks t c span) before = cond ((table == t) && (chunk == c)) true before
after_deed table chunk (Masters t c) before = cond ((table == t) && (chunk == c)) false before
after_deed table chunk Otherwise before = before

abbrev pub after_deeds : ℕ → ℕ → List Deed → Bool → Bool
after_deeds table chunk [] before = before
after_deeds table chunk (deed ∷ deeds) before = after_deeds table chunk deeds (after_deed table chunk deed before)

abbrev pub after_all : ℕ → ℕ → List (List Deed) → Bool → Bool
after_all table chunk [] before = before
after_all table chunk (deeds ∷ more) before = after_all table chunk more (after_deeds table chunk deeds before)

-- Statements and entries.

open_cleared : (here : Bool) (found : Option CheckRow) → is_open (cond here None found) ≡ cond here false (is_open found)
open_cleared true found = refl
open_cleared false found = refl

open_checked : (here : Bool) (row : CheckRow) (found : Option CheckRow) → row.master ≡ None → is_open (cond here (Some row) found) ≡ cond here true (is_open found)
open_checked true row found none = ap (λ (m : Option Digest). not (is_some m)) none
open_checked false row found none = refl

open_published : (master : Digest) (found : Option CheckRow) → is_open (option_map (λ r. mastered r master) found) ≡ false
open_published master None = refl
open_published master (Some row) = refl

open_mastered : (here : Bool) (master : Digest) (found : Option CheckRow) → is_open (cond here (option_map (λ r. mastered r master) found) found) ≡ cond here false (is_open found)
open_mastered true master found = open_published master found
open_mastered false master found = refl

statement_open : (schemas : List Schema) (position table chunk : ℕ) (statement : Statement) (here : Replayed)
    → is_open (check_at table chunk (checks_after schemas position statement here)) ≡ after_deed table chunk (deed_of statement) (is_open (check_at table chunk here.checks))
statement_open schemas position table chunk (Insert t row) here = refl
statement_open schemas position table chunk (Replace t row) here = refl
statement_open schemas position table chunk (Delete t where_true) here = refl
statement_open schemas position table chunk (Update t sets where_true) here = refl
statement_open schemas position table chunk (LockRead t mode span where_true) here = refl
statement_open schemas position table chunk (Check t c span kind) here =
    ap is_open (check_at-with_check table chunk t c _ here.checks) ∙ open_checked ((table == t) && (chunk == c)) _ (check_at table chunk here.checks) refl
statement_open schemas position table chunk (SetMaster t c kind master) here =
    ap is_open (check_at-with_master table chunk t c master here.checks) ∙ open_mastered ((table == t) && (chunk == c)) master (check_at table chunk here.checks)
statement_open schemas position table chunk (ClearChecks t) here =
    ap is_open (check_at-without_table table chunk t here.checks) ∙ open_cleared (table == t) (check_at table chunk here.checks)

statements_open : (schemas : List Schema) (position table chunk : ℕ) (statements : List Statement) (here : Replayed)
    → is_open (check_at table chunk (after_statements schemas position statements here).checks) ≡ after_deeds table chunk (map deed_of statements) (is_open (check_at table chunk here.checks))
statements_open schemas position table chunk [] here = refl
statements_open schemas position table chunk (statement ∷ statements) here =
    statements_open schemas position table chunk statements (after_statement schemas position statement here)
    ∙ ap (after_deeds table chunk (map deed_of statements)) (statement_open schemas position table chunk statement here)

of_clients : (origin : Origin) (statements : List Statement) → is_tools origin ≡ false → IsWrittenBy origin statements → AllByRecursion IsClients statements
of_clients (Session session) statements is written = written
of_clients Checksum statements is written = absurd (let no : true ≡ false = is in cc)
of_clients (Sync replica table span) statements is written = written
of_clients (Local session) statements is written = written
of_clients (Applied number) statements is written = absurd written

abbrev deeds_of : List Entry → List (List Deed)
deeds_of entries = map (λ (entry : Entry). map deed_of entry.statements) entries

replay_open : (schemas : List Schema) (number table chunk : ℕ) (entries : List Entry) (here : Replayed) → EachIsWritten entries
    → is_open (check_at table chunk (replay_from schemas number entries here).checks) ≡ after_all table chunk (deeds_in entries) (is_open (check_at table chunk here.checks))
replay_open schemas number table chunk [] here written = refl
replay_open schemas number table chunk (entry ∷ entries) here written =
    replay_open schemas (number + 1) table chunk entries (after_entry schemas number entry here) written.1 ∙ at (is_tools entry.origin) refl
  where
    position : ℕ
    position = position_of number entry.origin

    at : (b : Bool) → is_tools entry.origin ≡ b
        → after_all table chunk (deeds_in entries) (is_open (check_at table chunk (after_entry schemas number entry here).checks))
        ≡ after_all table chunk (deeds_of (cond b (entry ∷ tool_entries entries) (tool_entries entries))) (is_open (check_at table chunk here.checks))
    at true is = ap (after_all table chunk (deeds_in entries)) (statements_open schemas position table chunk entry.statements here)
    at false is =
        ap (λ (checks : List CheckEntry). after_all table chunk (deeds_in entries) (is_open (check_at table chunk checks)))
        (clients_keep_checks schemas position entry.statements here (of_clients entry.origin entry.statements is written.0))

pub fold_open : (schemas : List Schema) (start : TableRows) (table chunk : ℕ) (entries : List Entry) → EachIsWritten entries
    → is_open (check_at table chunk (fold schemas start entries).checks) ≡ after_all table chunk (deeds_in entries) false
fold_open schemas start table chunk entries written = replay_open schemas 1 table chunk entries (record { tables = start; checks = [] }) written

-- The tool's deeds leave none.

all_joined : (table chunk : ℕ) (first second : List (List Deed)) (before : Bool) → after_all table chunk (first ++ second) before ≡ after_all table chunk second (after_all table chunk first before)
all_joined table chunk [] second before = refl
all_joined table chunk (deeds ∷ first) second before = all_joined table chunk first second (after_deeds table chunk deeds before)

closed_pair : (here : Bool) → cond here false (cond here true false) ≡ false
closed_pair true = refl
closed_pair false = refl

closed_clear : (here : Bool) → cond here false false ≡ false
closed_clear true = refl
closed_clear false = refl

chunks_close : (table chunk t number : ℕ) (spans : List Span) → after_all table chunk (chunk_deeds t number spans) false ≡ false
chunks_close table chunk t number [] = refl
chunks_close table chunk t number (span ∷ spans) =
    ap (after_all table chunk (chunk_deeds t (number + 1) spans)) (closed_pair ((table == t) && (chunk == number))) ∙ chunks_close table chunk t (number + 1) spans

table_closes : (table chunk t : ℕ) (spans : List Span) → after_all table chunk (table_deeds t spans) false ≡ false
table_closes table chunk t spans = ap (after_all table chunk (chunk_deeds t 1 spans)) (closed_clear (table == t)) ∙ chunks_close table chunk t 1 spans

tables_close : (table chunk : ℕ) (spans : ℕ → List Span) (tables : ℕ) → after_all table chunk (tables_deeds spans tables) false ≡ false
tables_close table chunk spans zero = refl
tables_close table chunk spans (suc tables) =
    all_joined table chunk (tables_deeds spans tables) (table_deeds tables (spans tables)) false
    ∙ ap (after_all table chunk (table_deeds tables (spans tables))) (tables_close table chunk spans tables)
    ∙ table_closes table chunk tables (spans tables)

-- a table more, as a tool that is finished has it
pub all_close : (table chunk : ℕ) (spans : ℕ → List Span) (tables : ℕ) → after_all table chunk (tables_deeds spans tables ++ table_deeds tables (spans tables)) false ≡ false
all_close table chunk spans tables = tables_close table chunk spans (suc tables)
