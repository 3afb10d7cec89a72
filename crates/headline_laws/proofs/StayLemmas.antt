-- A row that is the same on the source and on a replica at a position stays the same at its key, while the replica
-- applies the rest of the log and nobody else writes the table.
use Rattle.std.proofs.Common.{◌≡◌, ◌≢◌, ◌∙◌, ℕ, ◌+◌, ◌≤◌, ◌==◌, Bool, true, false, cond, List, [], ◌∷◌, ◌++◌, length, take, Option, None, Some, refl, ap, sym, subst, arith}
use Rattle.std.specs.Prelude.{option_and_then}
use Rattle.std.specs.List.{AllByRecursion, slice_get}
use Rattle.std.specs.Option.{option_map_or}
use Rattle.std.proofs.Math.Seq.{take-length}
use Rattle.row_types.specs.declared.values.Value.{Value}
use Rattle.row_types.specs.declared.edges.Span.{Span}
use Rattle.row_types.specs.declared.table_schema.Schema.{Schema}
use Rattle.row_types.specs.KeyRows.{Row, Rows, TableRows}
use Rattle.row_types.specs.Fit.{IsSchema, AreTables}
use Rattle.row_types.specs.Order.{has}
use Rattle.row_types.proofs.KeyRowLemmas.{part_at}
use Rattle.row_types.proofs.SameRowLemmas.{same_rows}
use Rattle.row_types.proofs.SchemaRowLemmas.{table_ordered}
use Rattle.ptc_statement.specs.declared.statements.Statement.{Statement}
use Rattle.ptc_statement.specs.Effect.{table_of, effect, row_at}
use Rattle.ptc_statement.specs.Fits.{FitsSchemas}
use Rattle.statement_log.specs.declared.origins.Origin.{Origin}
use Rattle.statement_log.specs.declared.origins.Origin.TheVariants.{Session, Checksum, Sync, Local, Applied}
use Rattle.statement_log.specs.declared.entries.Entry.{Entry}
use Rattle.row_digest.specs.Digest.{rows_in}
use Rattle.history.specs.Replay.{NodeLog, Replayed, table_rows, chunk_rows, after_statements, after_entry, position_of, replay_from, fold, source_at, replica_at, applied_from, applied_of, up_to_applied, IsNextOf, FollowsFrom, Follows}
use Rattle.history.specs.Headline.{behind_applied, AreElsewhere, LeavesTable, NobodyElseWrites}
use Rattle.history.proofs.ReplayLemmas.{fold-take_more, follows_behind, up_to_behind, up_to_applied_of, applied_from-append, replay_from-append}
use Rattle.lock_table.proofs.HoldLemmas.{number_is}
use Rattle.node_model.specs.Node.{acts}
use Rattle.node_model.proofs.CommitLemmas.{table_row, table_at, rows_after_all, tables_after_all}
use Rattle.applier.specs.Appliers.{LogFits}
use Rattle.headline_laws.proofs.ListLemmas.{each_at}
use Rattle.headline_laws.proofs.ReplayLemmas.{fold_are, take_fits, front_fits, rest_fits}

-- Statements on other tables leave the row.

apart_test : (one other : ℕ) → one ≢ other → (one == other) ≡ false
apart_test one other apart = at (one == other) refl
  where
    at : (b : Bool) → (one == other) ≡ b → b ≡ false
    at true e = absurd (apart (number_is one other e))
    at false e = refl

elsewhere_acts : (schemas : List Schema) (statements : List Statement) (table : ℕ) (key : List Value) (old : Option Row) → AreElsewhere table statements
    → acts schemas statements table key old ≡ old
elsewhere_acts schemas [] table key old are = refl
elsewhere_acts schemas (statement ∷ statements) table key old are =
    ap (acts schemas statements table key)
    (ap (λ (b : Bool). cond b (option_map_or (λ (schema : Schema). effect schema statement key old) (slice_get schemas table) old) old) (apart_test (table_of statement) table are.0))
    ∙ elsewhere_acts schemas statements table key old are.1

-- the source as far as an entry, with the row at the key the same as where a replica is
pub record AreSameAt (schemas : List Schema) (start : TableRows) (log : List Entry) (table : ℕ) (key : List Value) (done : ℕ) (here : Replayed) : Type 0 where
  pub are : AreTables schemas here.tables
  pub same : table_row schemas (fold schemas start (take done log)).tables table key ≡ table_row schemas here.tables table key

-- the next item of the history, with the entry that it applies
next_same : (schemas : List Schema) (start : TableRows) (log : List Entry) (table : ℕ) (key : List Value) (done place : ℕ) (origin : Origin) (statements : List Statement) (here : Replayed)
    → AreTables schemas start
    → LogFits schemas log
    → AllByRecursion (FitsSchemas schemas) statements
    → IsNextOf log done origin statements
    → LeavesTable table origin statements
    → AreSameAt schemas start log table key done here
    → AreSameAt schemas start log table key (position_of done origin) (after_statements schemas place statements here)
next_same schemas start log table key done place (Session session) statements here first logged fit next leaves known = absurd next
next_same schemas start log table key done place Checksum statements here first logged fit next leaves known = absurd next
next_same schemas start log table key done place (Sync replica repaired span) statements here first logged fit next leaves known = absurd next
next_same schemas start log table key done place (Local session) statements here first logged fit next leaves known = record {
  are = tables_after_all schemas place statements here known.are fit;
  same = known.same
      ∙ sym (rows_after_all schemas place statements here table key known.are fit
      ∙ elsewhere_acts schemas statements table key (table_row schemas here.tables table key) leaves);
}
next_same schemas start log table key done place (Applied number) statements here first logged fit next leaves known =
    let entry : Entry = next.0 in
    let before : Replayed = fold schemas start (take done log) in
    let more : fold schemas start (take number log) ≡ after_statements schemas (position_of (done + 1) entry.origin) statements before =
    ap (λ n. fold schemas start (take n log)) next.2
    ∙ fold-take_more schemas start log done entry next.1
    ∙ ap (λ (xs : List Statement). after_statements schemas (position_of (done + 1) entry.origin) xs before) (sym next.3) in
    record {
      are = tables_after_all schemas place statements here known.are fit;
      same = ap (λ (x : Replayed). table_row schemas x.tables table key) more
          ∙ rows_after_all schemas (position_of (done + 1) entry.origin) statements before table key (fold_are schemas start (take done log) first (take_fits schemas done log logged)) fit
          ∙ ap (acts schemas statements table key) known.same
          ∙ sym (rows_after_all schemas place statements here table key known.are fit);
    }

all_same : (schemas : List Schema) (start : TableRows) (log : List Entry) (table : ℕ) (key : List Value) (done number : ℕ) (items : List Entry) (here : Replayed)
    → AreTables schemas start
    → LogFits schemas log
    → LogFits schemas items
    → FollowsFrom log done items
    → AllByRecursion (λ (item : Entry). LeavesTable table item.origin item.statements) items
    → AreSameAt schemas start log table key done here
    → AreSameAt schemas start log table key (applied_from done items) (replay_from schemas number items here)
all_same schemas start log table key done number [] here first logged fit follows leaves known = known
all_same schemas start log table key done number (item ∷ items) here first logged fit follows leaves known =
    all_same schemas start log table key (position_of done item.origin) (number + 1) items (after_entry schemas number item here) first logged fit.1 follows.1 leaves.1
    (next_same schemas start log table key done (position_of number item.origin) item.origin item.statements here first logged fit.0 follows.0 leaves.0 known)

-- what is known of a source and a replica that has applied its whole log
pub record HasFollowed (schemas : List Schema) (source replica : NodeLog) : Type 0 where
  pub source_start : AreTables schemas source.start
  pub replica_start : AreTables schemas replica.start
  pub source_fits : LogFits schemas source.entries
  pub replica_fits : LogFits schemas replica.entries
  pub follows : Follows source.entries replica.entries
  pub all : applied_of replica.entries ≡ length source.entries

pub row_stays : (schemas : List Schema) (source replica : NodeLog) (table : ℕ) (key : List Value) (position : ℕ)
    → HasFollowed schemas source replica
    → 1 ≤ position
    → position ≤ applied_of replica.entries
    → NobodyElseWrites table position replica.entries
    → table_row schemas (source_at schemas source position).tables table key ≡ table_row schemas (replica_at schemas replica position).tables table key
    → table_row schemas (fold schemas source.start source.entries).tables table key ≡ table_row schemas (fold schemas replica.start replica.entries).tables table key
row_stays schemas source replica table key position known from_one applied leaves same =
    let log : List Entry = source.entries in
    let front : List Entry = up_to_applied position replica.entries in
    let rest : List Entry = behind_applied position replica.entries in
    let parts : front ++ rest ≡ replica.entries = up_to_behind position replica.entries in
    let fits : LogFits schemas (front ++ rest) = subst (LogFits schemas) (sym parts) known.replica_fits in
    let reached : applied_of front ≡ position = up_to_applied_of log 0 position replica.entries known.follows (omega (arith, from_one)) applied in
    let behind : FollowsFrom log position rest =
    subst (λ n. FollowsFrom log n rest) reached (follows_behind log 0 front rest (subst (Follows log) (sym parts) known.follows)) in
    let last : applied_from position rest ≡ length log =
    ap (λ n. applied_from n rest) (sym reached) ∙ sym (applied_from-append 0 front rest) ∙ ap applied_of parts ∙ known.all in
    let ended : AreSameAt schemas source.start log table key (applied_from position rest) (replay_from schemas (length front + 1) rest (fold schemas replica.start front)) =
    all_same schemas source.start log table key position (length front + 1) rest (fold schemas replica.start front) known.source_start known.source_fits
    (rest_fits schemas front rest fits) behind leaves
    (record { are = fold_are schemas replica.start front known.replica_start (front_fits schemas front rest fits); same = same }) in
    ap (λ (entries : List Entry). table_row schemas (fold schemas source.start entries).tables table key) (sym (ap (λ n. take n log) last ∙ take-length log))
    ∙ ended.same
    ∙ ap (λ (x : Replayed). table_row schemas x.tables table key) (sym (replay_from-append schemas 1 front rest (record { tables = replica.start; checks = [] })))
    ∙ ap (λ (entries : List Entry). table_row schemas (fold schemas replica.start entries).tables table key) parts

-- Chunks.

row_within : (schema : Schema) (span : Span) (key : List Value) (rows : Rows) → has span key ≡ true → row_at schema key (rows_in schema span rows) ≡ row_at schema key rows
row_within schema span key rows over =
    part_at schema.key_len (has span) key rows ∙ ap (λ (b : Bool). cond b (row_at schema key rows) None) over

-- chunks with the same rows have the same row at each of their keys
pub chunk_row : (schemas : List Schema) (one other : TableRows) (table : ℕ) (span : Span) (key : List Value) → has span key ≡ true
    → chunk_rows schemas one table span ≡ chunk_rows schemas other table span
    → table_row schemas one table key ≡ table_row schemas other table key
chunk_row schemas one other table span key over = at (slice_get schemas table)
  where
    at : (found : Option Schema)
        → option_map_or (λ schema. rows_in schema span (table_rows one table)) found [] ≡ option_map_or (λ schema. rows_in schema span (table_rows other table)) found []
        → option_and_then (λ (schema : Schema). row_at schema key (table_rows one table)) found ≡ option_and_then (λ (schema : Schema). row_at schema key (table_rows other table)) found
    at None same = refl
    at (Some schema) same =
        sym (row_within schema span key (table_rows one table) over) ∙ ap (row_at schema key) same ∙ row_within schema span key (table_rows other table) over

-- tables with the same row at each key have the same rows
pub rows_are : (schemas : List Schema) (one other : TableRows) (table : ℕ) (schema : Schema)
    → AllByRecursion IsSchema schemas
    → slice_get schemas table ≡ Some schema
    → AreTables schemas one
    → AreTables schemas other
    → ((key : List Value) → table_row schemas one table key ≡ table_row schemas other table key)
    → table_rows one table ≡ table_rows other table
rows_are schemas one other table schema are found first second both =
    let is : IsSchema schema = each_at IsSchema schemas table schema are found in
    same_rows schema.key_len (table_rows one table) (table_rows other table)
    (table_ordered schema (table_rows one table) is (table_at schemas one table schema first found).is_table)
    (table_ordered schema (table_rows other table) is (table_at schemas other table schema second found).is_table)
    (λ key. subst (λ (o : Option Schema).
    option_and_then (λ (s : Schema). row_at s key (table_rows one table)) o ≡ option_and_then (λ (s : Schema). row_at s key (table_rows other table)) o) found (both key))
