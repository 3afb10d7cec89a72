-- What statements read: the rows that a locking read takes, the checksum that a CHECKSUM makes.
use Rattle.std.specs.Prelude.{List, [], ◌∷◌, filter}
use Rattle.std.specs.List.{slice_get}
use Rattle.std.specs.Option.{option_map_or}
use Rattle.row_types.specs.declared.edges.Edge.{Edge}
use Rattle.row_types.specs.declared.digests.Digest.{Digest}
use Rattle.row_types.specs.declared.table_schema.Schema.{Schema}
use Rattle.row_types.specs.KeyRows.{Rows, TableRows}
use Rattle.ptc_statement.specs.declared.statements.Statement.{Statement}
use Rattle.ptc_statement.specs.declared.statements.Statement.TheVariants.{Insert, Replace, Delete, Update, LockRead, Check, SetMaster, ClearChecks}
use Rattle.ptc_statement.specs.Meaning.{is_taken}
use Rattle.ptc_statement.specs.Reach.{reach_of}
use Rattle.ptc_statement.specs.Effect.{table_of}
use Rattle.row_digest.specs.Digest.{rows_in, digest_of, no_rows}
use Rattle.history.specs.Replay.{table_rows, tables_after}

-- the rows of a statement's reach up to an edge
abbrev pub rows_met : Schema → TableRows → Statement → Edge → Rows
rows_met schema tables statement edge = rows_in schema (record { lo = (reach_of schema statement).lo; hi = edge }) (table_rows tables (table_of statement))

-- a locking read takes of the rows that it meets those of which its condition is true
abbrev pub rows_taken : Schema → Statement → Rows → Rows
rows_taken schema (Insert table row) met = []
rows_taken schema (Replace table row) met = []
rows_taken schema (Delete table where_true) met = []
rows_taken schema (Update table sets where_true) met = []
rows_taken schema (LockRead table mode span where_true) met = filter (is_taken schema where_true) met
rows_taken schema (Check table chunk span kind) met = []
rows_taken schema (SetMaster table chunk kind master) met = []
rows_taken schema (ClearChecks table) met = []

-- a CHECKSUM sums all rows that it meets
abbrev pub sum_made : Statement → Rows → Digest
sum_made (Insert table row) met = no_rows
sum_made (Replace table row) met = no_rows
sum_made (Delete table where_true) met = no_rows
sum_made (Update table sets where_true) met = no_rows
sum_made (LockRead table mode span where_true) met = no_rows
sum_made (Check table chunk span kind) met = digest_of kind met
sum_made (SetMaster table chunk kind master) met = no_rows
sum_made (ClearChecks table) met = no_rows

-- what a statement takes in its whole reach, and the checksum that it makes there
abbrev pub rows_read : List Schema → TableRows → Statement → Rows
rows_read schemas tables statement =
    option_map_or (λ (schema : Schema). rows_taken schema statement (rows_met schema tables statement (reach_of schema statement).hi)) (slice_get schemas (table_of statement)) []

abbrev pub sum_read : List Schema → TableRows → Statement → Digest
sum_read schemas tables statement =
    option_map_or (λ (schema : Schema). sum_made statement (rows_met schema tables statement (reach_of schema statement).hi)) (slice_get schemas (table_of statement)) no_rows

-- the tables after statements, one after the other
abbrev pub tables_after_all : List Schema → List Statement → TableRows → TableRows
tables_after_all schemas [] tables = tables
tables_after_all schemas (statement ∷ statements) tables = tables_after_all schemas statements (tables_after schemas statement tables)

-- the rows of a locking read take the place of those of an earlier one
abbrev pub read_after : List Schema → TableRows → Statement → Rows → Rows
read_after schemas tables (Insert table row) rows = rows
read_after schemas tables (Replace table row) rows = rows
read_after schemas tables (Delete table where_true) rows = rows
read_after schemas tables (Update table sets where_true) rows = rows
read_after schemas tables (LockRead table mode span where_true) rows = rows_read schemas tables (LockRead table mode span where_true)
read_after schemas tables (Check table chunk span kind) rows = rows
read_after schemas tables (SetMaster table chunk kind master) rows = rows
read_after schemas tables (ClearChecks table) rows = rows

-- the rows of the last locking read of these statements, each of which reads what the earlier ones left
abbrev pub last_read : List Schema → List Statement → TableRows → Rows → Rows
last_read schemas [] tables rows = rows
last_read schemas (statement ∷ statements) tables rows = last_read schemas statements (tables_after schemas statement tables) (read_after schemas tables statement rows)

abbrev pub with_sum : List Schema → TableRows → Statement → List Digest → List Digest
with_sum schemas tables (Insert table row) sums = sums
with_sum schemas tables (Replace table row) sums = sums
with_sum schemas tables (Delete table where_true) sums = sums
with_sum schemas tables (Update table sets where_true) sums = sums
with_sum schemas tables (LockRead table mode span where_true) sums = sums
with_sum schemas tables (Check table chunk span kind) sums = sum_read schemas tables (Check table chunk span kind) ∷ sums
with_sum schemas tables (SetMaster table chunk kind master) sums = sums
with_sum schemas tables (ClearChecks table) sums = sums

-- the checksums of the CHECKSUMs of these statements, in order
abbrev pub sums_of : List Schema → List Statement → TableRows → List Digest
sums_of schemas [] tables = []
sums_of schemas (statement ∷ statements) tables = with_sum schemas tables statement (sums_of schemas statements (tables_after schemas statement tables))
