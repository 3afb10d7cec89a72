-- Tables that are equal at a position stay equal while the replica follows the log and nobody else
-- writes them.
use Rattle.std.proofs.Common.{◌≡◌, ◌≢◌, ℕ, zero, suc, ◌+◌, ◌≤◌, List, [], ◌∷◌, ◌++◌, length, take, Option, None, Some, slice_get, refl, ap, ◌∙◌, sym, subst, arith}
use Rattle.std.specs.Prelude.{slice_set}
use Rattle.std.specs.List.{AllByRecursion}
use Rattle.std.specs.Option.{option_map_or}
use Rattle.std.proofs.Math.Seq.{take-length}
use Rattle.std.proofs.Math.ListN.{length-set}
use Rattle.row_types.specs.declared.table_schema.Schema.{Schema}
use Rattle.row_types.specs.KeyRows.{Rows, TableRows}
use Rattle.ptc_statement.specs.declared.statements.Statement.{Statement}
use Rattle.ptc_statement.specs.Effect.{table_of, rows_after}
use Rattle.statement_log.specs.declared.origins.Origin.{Origin}
use Rattle.statement_log.specs.declared.origins.Origin.TheVariants.{Session, Checksum, Sync, Local, Applied}
use Rattle.statement_log.specs.declared.entries.Entry.{Entry}
use Rattle.history.specs.Replay.{NodeLog, Replayed, table_rows, tables_after, after_statement, after_statements, after_entry, position_of, replay_from, fold, applied_from, applied_of, up_to_applied, IsNextOf, FollowsFrom, Follows}
use Rattle.history.specs.Headline.{behind_applied, AreElsewhere, LeavesTable, NobodyElseWrites, AreEqualAt, AreEqualAtEnd}
use Rattle.history.proofs.ReplayLemmas.{fold-take_more, follows_behind, up_to_behind, up_to_applied_of, applied_from-append, replay_from-append}

-- two nodes have the same number of tables, and the same rows of this one
pub record HaveSame (table : ℕ) (one other : TableRows) : Type 0 where
  pub count : length one ≡ length other
  pub rows : table_rows one table ≡ table_rows other table

set_same : (place table : ℕ) (change : Rows → Rows) (one other : TableRows)
    → length one ≡ length other
    → table_rows one table ≡ table_rows other table
    → table_rows (slice_set one place (change (table_rows one place))) table ≡ table_rows (slice_set other place (change (table_rows other place))) table
set_same place table change [] [] count rows = refl
set_same place table change [] (y ∷ ys) count rows = absurd (omega (arith, count))
set_same place table change (x ∷ xs) [] count rows = absurd (omega (arith, count))
set_same zero zero change (x ∷ xs) (y ∷ ys) count rows = ap change rows
set_same zero (suc table) change (x ∷ xs) (y ∷ ys) count rows = rows
set_same (suc place) zero change (x ∷ xs) (y ∷ ys) count rows = rows
set_same (suc place) (suc table) change (x ∷ xs) (y ∷ ys) count rows = set_same place table change xs ys (omega (arith, count)) rows

set_elsewhere : (place table : ℕ) (new : Rows) (tables : TableRows) → place ≢ table → table_rows (slice_set tables place new) table ≡ table_rows tables table
set_elsewhere place table new [] apart = refl
set_elsewhere zero zero new (x ∷ xs) apart = absurd (apart refl)
set_elsewhere zero (suc table) new (x ∷ xs) apart = refl
set_elsewhere (suc place) zero new (x ∷ xs) apart = refl
set_elsewhere (suc place) (suc table) new (x ∷ xs) apart = set_elsewhere place table new xs (λ e. apart (ap suc e))

-- no statement makes a table or takes one away
pub count_after : (schemas : List Schema) (statement : Statement) (tables : TableRows) → length (tables_after schemas statement tables) ≡ length tables
count_after schemas statement tables =
    elim (slice_get schemas (table_of statement)) as (λ (o : Option Schema). length (option_map_or (λ (schema : Schema). slice_set tables (table_of statement) (rows_after schema statement (table_rows tables (table_of statement)))) o tables) ≡ length tables)
    [ None ↦ refl | Some schema ↦ length-set tables (table_of statement) (rows_after schema statement (table_rows tables (table_of statement))) ]

-- the same statement on both
same_after : (schemas : List Schema) (table : ℕ) (statement : Statement) (one other : TableRows)
    → HaveSame table one other → HaveSame table (tables_after schemas statement one) (tables_after schemas statement other)
same_after schemas table statement one other same = record {
  count = count_after schemas statement one ∙ same.count ∙ sym (count_after schemas statement other);
  rows = elim (slice_get schemas (table_of statement)) as (λ (o : Option Schema).
      table_rows (option_map_or (λ (schema : Schema). slice_set one (table_of statement) (rows_after schema statement (table_rows one (table_of statement)))) o one) table
      ≡ table_rows (option_map_or (λ (schema : Schema). slice_set other (table_of statement) (rows_after schema statement (table_rows other (table_of statement)))) o other) table)
      [ None ↦ same.rows | Some schema ↦ set_same (table_of statement) table (rows_after schema statement) one other same.count same.rows ];
}

same_after_all : (schemas : List Schema) (table position place : ℕ) (statements : List Statement) (one other : Replayed)
    → HaveSame table one.tables other.tables
    → HaveSame table (after_statements schemas position statements one).tables (after_statements schemas place statements other).tables
same_after_all schemas table position place [] one other same = same
same_after_all schemas table position place (statement ∷ statements) one other same =
    same_after_all schemas table position place statements (after_statement schemas position statement one) (after_statement schemas place statement other)
    (same_after schemas table statement one.tables other.tables same)

-- a statement on another table, on one of them
elsewhere_after : (schemas : List Schema) (table : ℕ) (statement : Statement) (one other : TableRows)
    → table_of statement ≢ table → HaveSame table one other → HaveSame table one (tables_after schemas statement other)
elsewhere_after schemas table statement one other apart same = record {
  count = same.count ∙ sym (count_after schemas statement other);
  rows = same.rows ∙ sym (elim (slice_get schemas (table_of statement)) as (λ (o : Option Schema).
      table_rows (option_map_or (λ (schema : Schema). slice_set other (table_of statement) (rows_after schema statement (table_rows other (table_of statement)))) o other) table ≡ table_rows other table)
      [ None ↦ refl | Some schema ↦ set_elsewhere (table_of statement) table (rows_after schema statement (table_rows other (table_of statement))) other apart ]);
}

elsewhere_after_all : (schemas : List Schema) (table place : ℕ) (statements : List Statement) (one : TableRows) (other : Replayed)
    → AreElsewhere table statements
    → HaveSame table one other.tables
    → HaveSame table one (after_statements schemas place statements other).tables
elsewhere_after_all schemas table place [] one other apart same = same
elsewhere_after_all schemas table place (statement ∷ statements) one other apart same =
    elsewhere_after_all schemas table place statements one (after_statement schemas place statement other) apart.1
    (elsewhere_after schemas table statement one other.tables apart.0 same)

-- the next item of the history, with the entry that it applies
next_same : (schemas : List Schema) (start : TableRows) (log : List Entry) (table done place : ℕ) (origin : Origin) (statements : List Statement) (here : Replayed)
    → IsNextOf log done origin statements
    → LeavesTable table origin statements
    → HaveSame table (fold schemas start (take done log)).tables here.tables
    → HaveSame table (fold schemas start (take (position_of done origin) log)).tables (after_statements schemas place statements here).tables
next_same schemas start log table done place (Session session) statements here next leaves same = absurd next
next_same schemas start log table done place Checksum statements here next leaves same = absurd next
next_same schemas start log table done place (Sync replica repaired span) statements here next leaves same = absurd next
next_same schemas start log table done place (Local session) statements here next leaves same =
    elsewhere_after_all schemas table place statements (fold schemas start (take done log)).tables here leaves same
next_same schemas start log table done place (Applied number) statements here next leaves same =
    let entry : Entry = next.0 in
    let more : fold schemas start (take number log) ≡ after_statements schemas (position_of (done + 1) entry.origin) statements (fold schemas start (take done log)) =
    ap (λ n. fold schemas start (take n log)) next.2
    ∙ fold-take_more schemas start log done entry next.1
    ∙ ap (λ (xs : List Statement). after_statements schemas (position_of (done + 1) entry.origin) xs (fold schemas start (take done log))) (sym next.3) in
    subst (λ (x : Replayed). HaveSame table x.tables (after_statements schemas place statements here).tables) (sym more)
    (same_after_all schemas table (position_of (done + 1) entry.origin) place statements (fold schemas start (take done log)) here same)

all_same : (schemas : List Schema) (start : TableRows) (log : List Entry) (table done number : ℕ) (items : List Entry) (here : Replayed)
    → FollowsFrom log done items
    → AllByRecursion (λ (item : Entry). LeavesTable table item.origin item.statements) items
    → HaveSame table (fold schemas start (take done log)).tables here.tables
    → HaveSame table (fold schemas start (take (applied_from done items) log)).tables (replay_from schemas number items here).tables
all_same schemas start log table done number [] here follows leaves same = same
all_same schemas start log table done number (item ∷ items) here follows leaves same =
    all_same schemas start log table (position_of done item.origin) (number + 1) items (after_entry schemas number item here) follows.1 leaves.1
    (next_same schemas start log table done (position_of number item.origin) item.origin item.statements here follows.0 leaves.0 same)

count_replayed : (schemas : List Schema) (number : ℕ) (entries : List Entry) (here : Replayed) → length (replay_from schemas number entries here).tables ≡ length here.tables
count_replayed schemas number [] here = refl
count_replayed schemas number (entry ∷ entries) here =
    count_replayed schemas (number + 1) entries (after_entry schemas number entry here) ∙ count_all schemas (position_of number entry.origin) entry.statements here
  where
    count_all : (schemas : List Schema) (position : ℕ) (statements : List Statement) (here : Replayed) → length (after_statements schemas position statements here).tables ≡ length here.tables
    count_all schemas position [] here = refl
    count_all schemas position (statement ∷ statements) here =
        count_all schemas position statements (after_statement schemas position statement here) ∙ count_after schemas statement here.tables

pub stay_equal : (schemas : List Schema) (source replica : NodeLog) (table position : ℕ)
    → length source.start ≡ length replica.start
    → Follows source.entries replica.entries
    → applied_of replica.entries ≡ length source.entries
    → AreEqualAt schemas source replica table position
    → NobodyElseWrites table position replica.entries
    → AreEqualAtEnd schemas source replica table
stay_equal schemas source replica table position count follows all equal leaves =
    let log : List Entry = source.entries in
    let front : List Entry = up_to_applied position replica.entries in
    let rest : List Entry = behind_applied position replica.entries in
    let parts : front ++ rest ≡ replica.entries = up_to_behind position replica.entries in
    let from_one : 1 ≤ position = equal.from_one in
    let reached : applied_of front ≡ position = up_to_applied_of log 0 position replica.entries follows (omega (arith, from_one)) equal.applied in
    let behind : FollowsFrom log position rest =
    subst (λ n. FollowsFrom log n rest) reached (follows_behind log 0 front rest (subst (Follows log) (sym parts) follows)) in
    let last : applied_from position rest ≡ length log =
    ap (λ n. applied_from n rest) (sym reached) ∙ sym (applied_from-append 0 front rest) ∙ ap applied_of parts ∙ all in
    let same : HaveSame table (fold schemas source.start (take position log)).tables (fold schemas replica.start front).tables = record {
      count = count_replayed schemas 1 (take position log) (record { tables = source.start; checks = [] })
          ∙ count
          ∙ sym (count_replayed schemas 1 front (record { tables = replica.start; checks = [] }));
      rows = equal.rows;
    } in
    let ended : HaveSame table (fold schemas source.start (take (applied_from position rest) log)).tables (replay_from schemas (length front + 1) rest (fold schemas replica.start front)).tables =
    all_same schemas source.start log table position (length front + 1) rest (fold schemas replica.start front) behind leaves same in
    ap (λ (entries : List Entry). table_rows (fold schemas source.start entries).tables table) (sym (ap (λ n. take n log) last ∙ take-length log))
    ∙ ended.rows
    ∙ ap (λ (x : Replayed). table_rows x.tables table) (sym (replay_from-append schemas 1 front rest (record { tables = replica.start; checks = [] })))
    ∙ ap (λ (entries : List Entry). table_rows (fold schemas replica.start entries).tables table) parts
