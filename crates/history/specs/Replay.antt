-- The replay of statements: the tables and check rows that a log or a history leaves.
use Rattle.std.specs.Prelude.{ℕ, ◌≡◌, ◌+◌, ◌==◌, Bool, false, cond, List, [], ◌∷◌, None, Some, take, slice_index_or, slice_set}
use Rattle.std.specs.List.{slice_get, AllByRecursion}
use Rattle.std.specs.Option.{option_map_or}
use Rattle.row_types.specs.declared.edges.Span.{Span}
use Rattle.row_types.specs.declared.table_schema.Schema.{Schema}
use Rattle.row_types.specs.KeyRows.{Rows, TableRows}
use Rattle.ptc_statement.specs.declared.statements.Statement.{Statement}
use Rattle.ptc_statement.specs.declared.statements.Statement.TheVariants.{Insert, Replace, Delete, Update, LockRead, Check, SetMaster, ClearChecks}
use Rattle.ptc_statement.specs.Effect.{table_of, rows_after}
use Rattle.ptc_statement.specs.Fits.{IsClients}
use Rattle.statement_log.specs.declared.origins.Origin.{Origin}
use Rattle.statement_log.specs.declared.origins.Origin.TheVariants.{Session, Checksum, Sync, Local, Applied}
use Rattle.statement_log.specs.declared.entries.Entry.{Entry}
use Rattle.checksum_table.specs.declared.check_rows.CheckEntry.{CheckEntry}
use Rattle.checksum_table.specs.Checks.{with_check, with_master, without_table}
use Rattle.row_digest.specs.Digest.{rows_in, digest_of}

-- what a node started from, and what happened on it: the entries of the source's log, or the items of
-- a replica's history
pub record NodeLog : Type 0 where
  pub start : TableRows
  pub entries : List Entry

-- what is there at a point: the rows of each table, and the check rows
pub record Replayed : Type 0 where
  pub tables : TableRows
  pub checks : List CheckEntry

-- the rows of the table of this number, none where there is no such table
abbrev pub table_rows : TableRows → ℕ → Rows
table_rows tables table = slice_index_or tables table []

-- the rows of a table with key in the span
abbrev pub chunk_rows : List Schema → TableRows → ℕ → Span → Rows
chunk_rows schemas tables table span = option_map_or (λ schema. rows_in schema span (table_rows tables table)) (slice_get schemas table) []

-- a statement changes its table by its effect at every key
abbrev pub tables_after : List Schema → Statement → TableRows → TableRows
tables_after schemas statement tables =
    option_map_or (λ (schema : Schema). slice_set tables (table_of statement) (rows_after schema statement (table_rows tables (table_of statement))))
    (slice_get schemas (table_of statement)) tables

-- CHECKSUM sums the rows as they are at that point; SETMASTER fills in the source's checksum where
-- the row stands; CLEARCHECKS forgets the table's rows
abbrev pub checks_after : List Schema → ℕ → Statement → Replayed → List CheckEntry
checks_after schemas position (Insert table row) here = here.checks
checks_after schemas position (Replace table row) here = here.checks
checks_after schemas position (Delete table where_true) here = here.checks
checks_after schemas position (Update table sets where_true) here = here.checks
checks_after schemas position (LockRead table mode span where_true) here = here.checks
checks_after schemas position (Check table chunk span kind) here =
    with_check table chunk
    (record { span = span; kind = kind; this = digest_of kind (chunk_rows schemas here.tables table span); master = None; position = position })
    here.checks
checks_after schemas position (SetMaster table chunk kind master) here = with_master table chunk master here.checks
checks_after schemas position (ClearChecks table) here = without_table table here.checks

abbrev pub after_statement : List Schema → ℕ → Statement → Replayed → Replayed
after_statement schemas position statement here =
    record { tables = tables_after schemas statement here.tables; checks = checks_after schemas position statement here }

abbrev pub after_statements : List Schema → ℕ → List Statement → Replayed → Replayed
after_statements schemas position [] here = here
after_statements schemas position (statement ∷ statements) here =
    after_statements schemas position statements (after_statement schemas position statement here)

-- the position of an item: the number of the source's entry that it applies, else its own number
abbrev pub position_of : ℕ → Origin → ℕ
position_of number (Session session) = number
position_of number Checksum = number
position_of number (Sync replica table span) = number
position_of number (Local session) = number
position_of number (Applied entry) = entry

abbrev pub after_entry : List Schema → ℕ → Entry → Replayed → Replayed
after_entry schemas number entry here = after_statements schemas (position_of number entry.origin) entry.statements here

-- the entries replayed in order, the first of them with this number
abbrev pub replay_from : List Schema → ℕ → List Entry → Replayed → Replayed
replay_from schemas number [] here = here
replay_from schemas number (entry ∷ entries) here = replay_from schemas (number + 1) entries (after_entry schemas number entry here)

-- the replay of all entries, from the start tables and no check rows
abbrev pub fold : List Schema → TableRows → List Entry → Replayed
fold schemas start entries = replay_from schemas 1 entries (record { tables = start; checks = [] })

-- the source at a position: its first entries replayed
abbrev pub source_at : List Schema → NodeLog → ℕ → Replayed
source_at schemas source position = fold schemas source.start (take position source.entries)

abbrev pub applies : ℕ → Origin → Bool
applies position (Session session) = false
applies position Checksum = false
applies position (Sync replica table span) = false
applies position (Local session) = false
applies position (Applied entry) = entry == position

-- a history's items up to and with the one that applies the source's entry of this number
abbrev pub up_to_applied : ℕ → List Entry → List Entry
up_to_applied position [] = []
up_to_applied position (item ∷ items) = cond (applies position item.origin) (item ∷ []) (item ∷ up_to_applied position items)

-- a replica at a position of the source's log
abbrev pub replica_at : List Schema → NodeLog → ℕ → Replayed
replica_at schemas replica position = fold schemas replica.start (up_to_applied position replica.entries)

-- the greatest number that a history applied, where the earlier items applied up to done
abbrev pub applied_from : ℕ → List Entry → ℕ
applied_from done [] = done
applied_from done (item ∷ items) = applied_from (position_of done item.origin) items

abbrev pub applied_of : List Entry → ℕ
applied_of history = applied_from 0 history

-- the item that applies an entry
abbrev pub applying : ℕ → Entry → Entry
applying number entry = record { origin = Applied number; statements = entry.statements }

-- what comes next in a history that applied the log's first entries, as many as done: the entry after
-- them, with its statements, or a transaction of a local session, of clients' statements
abbrev pub IsNextOf : List Entry → ℕ → Origin → List Statement → Type 0
IsNextOf log done (Session session) statements = ⊥
IsNextOf log done Checksum statements = ⊥
IsNextOf log done (Sync replica table span) statements = ⊥
IsNextOf log done (Local session) statements = AllByRecursion IsClients statements
IsNextOf log done (Applied number) statements =
    (entry : Entry) × (slice_get log done ≡ Some entry) × (number ≡ done + 1) × (statements ≡ entry.statements)

abbrev pub FollowsFrom : List Entry → ℕ → List Entry → Type 0
FollowsFrom log done [] = Unit {0}
FollowsFrom log done (item ∷ items) = IsNextOf log done item.origin item.statements × FollowsFrom log (position_of done item.origin) items

-- a replica's history: it applied entries 1, 2, .. of the log in order, each once and with its
-- statements; transactions of local sessions may stand between them
abbrev pub Follows : List Entry → List Entry → Type 0
Follows log history = FollowsFrom log 0 history
