-- What a printed verdict means: at a position that the replica has applied the log has a CHECKSUM of
-- its chunk, and it compares the source's and the replica's rows there, both replayed to that position.
-- And what equal rows at a position mean for the end of the log.
use Rattle.std.specs.Prelude.{ℕ, ◌≡◌, ◌≢◌, ◌≤◌, ◌+◌, ◌-◌, ◌↔◌, cond, List, [], ◌∷◌, Some, length, IfSome}
use Rattle.std.specs.List.{slice_get, AllByRecursion}
use Rattle.row_types.specs.declared.digests.DigestKind.{DigestKind}
use Rattle.row_types.specs.declared.table_schema.Schema.{Schema}
use Rattle.row_types.specs.KeyRows.{Rows}
use Rattle.ptc_statement.specs.declared.statements.Statement.{Statement}
use Rattle.ptc_statement.specs.declared.statements.Statement.TheVariants.{Insert, Replace, Delete, Update, LockRead, Check, SetMaster, ClearChecks}
use Rattle.ptc_statement.specs.Effect.{table_of}
use Rattle.ptc_statement.specs.Fits.{IsClients, IsTools}
use Rattle.statement_log.specs.declared.origins.Origin.{Origin}
use Rattle.statement_log.specs.declared.origins.Origin.TheVariants.{Session, Checksum, Sync, Local, Applied}
use Rattle.statement_log.specs.declared.entries.Entry.{Entry}
use Rattle.checksum_table.specs.declared.check_rows.CheckRow.{CheckRow}
use Rattle.checksum_table.specs.declared.check_rows.Verdict.TheVariants.{Same, Differ, Pending}
use Rattle.checksum_table.specs.Checks.{check_at, verdict_of_row}
use Rattle.row_digest.specs.Digest.{digest_of}
use Rattle.history.specs.Replay.{NodeLog, Replayed, table_rows, chunk_rows, after_entry, applies, fold, source_at, replica_at, applied_of}

-- a SETMASTER publishes the checksum that the check row of its chunk has there
abbrev pub IsTrueMaster : Statement → Replayed → Type 0
IsTrueMaster (Insert table row) here = Unit {0}
IsTrueMaster (Replace table row) here = Unit {0}
IsTrueMaster (Delete table where_true) here = Unit {0}
IsTrueMaster (Update table sets where_true) here = Unit {0}
IsTrueMaster (LockRead table mode span where_true) here = Unit {0}
IsTrueMaster (Check table chunk span kind) here = Unit {0}
IsTrueMaster (SetMaster table chunk kind master) here =
    (row : CheckRow) × (check_at table chunk here.checks ≡ Some row) × (row.this ≡ master) × (row.kind ≡ kind)
IsTrueMaster (ClearChecks table) here = Unit {0}

-- each SETMASTER of the entries publishes the source's own checksum, as it is before its entry
abbrev pub MastersAreTrueFrom : List Schema → ℕ → List Entry → Replayed → Type 0
MastersAreTrueFrom schemas number [] here = Unit {0}
MastersAreTrueFrom schemas number (entry ∷ entries) here =
    AllByRecursion (λ (statement : Statement). IsTrueMaster statement here) entry.statements
    × MastersAreTrueFrom schemas (number + 1) entries (after_entry schemas number entry here)

abbrev pub MastersAreTrue : List Schema → NodeLog → Type 0
MastersAreTrue schemas source = MastersAreTrueFrom schemas 1 source.entries (record { tables = source.start; checks = [] })

-- one statement, and it is the checksum tool's
pub record IsOneOfTools (statements : List Statement) : Type 0 where
  pub statement : Statement
  pub only : statements ≡ statement ∷ []
  pub tools : IsTools statement

-- what each writer's entries hold: the checksum tool's one statement of its own, the others' clients'
-- statements, any number of them and none too. What a replica applied is no entry of the source's log.
abbrev pub IsWrittenBy : Origin → List Statement → Type 0
IsWrittenBy (Session session) statements = AllByRecursion IsClients statements
IsWrittenBy Checksum statements = IsOneOfTools statements
IsWrittenBy (Sync replica table span) statements = AllByRecursion IsClients statements
IsWrittenBy (Local session) statements = AllByRecursion IsClients statements
IsWrittenBy (Applied number) statements = ⊥

-- each entry of the log is as its writer writes them
abbrev pub EachIsWritten : List Entry → Type 0
EachIsWritten log = AllByRecursion (λ (entry : Entry). IsWrittenBy entry.origin entry.statements) log

-- the digests of these two lists tell them apart, if they differ
abbrev pub DigestsDistinguish : DigestKind → Rows → Rows → Type 0
DigestsDistinguish kind source_rows replica_rows = digest_of kind source_rows ≡ digest_of kind replica_rows → source_rows ≡ replica_rows

-- a check row with the source's checksum compares these two lists of rows
pub record Compares (row : CheckRow) (source_rows replica_rows : Rows) : Type 0 where
  -- its counts are their lengths
  pub master_count : IfSome row.master (λ master. master.count ≡ length source_rows)
  pub own_count : row.this.count ≡ length replica_rows
  -- DIFFER stands exactly where their digests differ
  pub differ : (verdict_of_row row ≡ Differ) ↔ (digest_of row.kind source_rows ≢ digest_of row.kind replica_rows)
  -- so DIFFER means that they differ, and SAME that they are equal where digests distinguish them
  pub rows_differ : verdict_of_row row ≡ Differ → source_rows ≢ replica_rows
  pub rows_same : verdict_of_row row ≡ Same → DigestsDistinguish row.kind source_rows replica_rows → source_rows ≡ replica_rows

-- the log's entry at this position, the first being 1, has this statement alone
abbrev pub HasStatementAt : List Entry → ℕ → Statement → Type 0
HasStatementAt log position statement =
    (entry : Entry) × (slice_get log (position - 1) ≡ Some entry) × (entry.statements ≡ statement ∷ [])

-- a check row of a chunk is a verdict on the replica at the row's position
pub record IsVerdict (schemas : List Schema) (source replica : NodeLog) (table chunk : ℕ) (row : CheckRow) : Type 0 where
  -- that is a position of the log, whose first is 1, and the replica has applied the entry there
  pub from_one : 1 ≤ row.position
  pub in_log : row.position ≤ length source.entries
  pub applied : row.position ≤ applied_of replica.entries
  -- the entry there is the CHECKSUM of this chunk, over the row's span and of its kind
  pub checked : HasStatementAt source.entries row.position (Check table chunk row.span row.kind)
  -- the row compares the rows of its span on the source and on the replica, both at that position
  pub compares : Compares row
      (chunk_rows schemas (source_at schemas source row.position).tables table row.span)
      (chunk_rows schemas (replica_at schemas replica row.position).tables table row.span)

-- each check row of a replica that has the source's checksum is a verdict
abbrev pub EachVerdictCompares : List Schema → NodeLog → NodeLog → Type 0
EachVerdictCompares schemas source replica =
    (table chunk : ℕ) (row : CheckRow)
    → check_at table chunk (fold schemas replica.start replica.entries).checks ≡ Some row
    → verdict_of_row row ≢ Pending
    → IsVerdict schemas source replica table chunk row

-- the items of a history behind the one that applies the source's entry of this number
abbrev pub behind_applied : ℕ → List Entry → List Entry
behind_applied position [] = []
behind_applied position (item ∷ items) = cond (applies position item.origin) items (behind_applied position items)

-- none of these statements is on the table
abbrev pub AreElsewhere : ℕ → List Statement → Type 0
AreElsewhere table statements = AllByRecursion (λ (statement : Statement). table_of statement ≢ table) statements

-- an item of this origin has no statement on the table, unless it applies an entry of the source's log
abbrev pub LeavesTable : ℕ → Origin → List Statement → Type 0
LeavesTable table (Session session) statements = AreElsewhere table statements
LeavesTable table Checksum statements = AreElsewhere table statements
LeavesTable table (Sync replica repaired span) statements = AreElsewhere table statements
LeavesTable table (Local session) statements = AreElsewhere table statements
LeavesTable table (Applied number) statements = Unit {0}

-- behind the item that applies the source's entry of this number, nobody but the applier writes the table
abbrev pub NobodyElseWrites : ℕ → ℕ → List Entry → Type 0
NobodyElseWrites table position history =
    AllByRecursion (λ (item : Entry). LeavesTable table item.origin item.statements) (behind_applied position history)

-- the rows of a table are the same on both nodes, at a position that the replica has applied
pub record AreEqualAt (schemas : List Schema) (source replica : NodeLog) (table position : ℕ) : Type 0 where
  pub from_one : 1 ≤ position
  pub applied : position ≤ applied_of replica.entries
  pub rows : table_rows (source_at schemas source position).tables table ≡ table_rows (replica_at schemas replica position).tables table

-- the rows of a table are the same on both nodes, after all that happened on each
abbrev pub AreEqualAtEnd : List Schema → NodeLog → NodeLog → ℕ → Type 0
AreEqualAtEnd schemas source replica table =
    table_rows (fold schemas source.start source.entries).tables table ≡ table_rows (fold schemas replica.start replica.entries).tables table
