-- How statements are written.
use Rattle.std.specs.Prelude.{ℕ, List, [], ◌∷◌, ◌++◌, codes, Option, None, Some}
use Rattle.std.specs.Fmt.{decimal}
use Rattle.row_types.specs.declared.edges.Span.{Span}
use Rattle.row_types.specs.declared.digests.Digest.{Digest}
use Rattle.row_types.specs.declared.digests.DigestKind.{DigestKind}
use Rattle.row_types.specs.declared.lock_modes.LockMode.{LockMode}
use Rattle.row_types.specs.declared.lock_modes.LockMode.TheVariants.{Shared, Exclusive}
use Rattle.row_types.specs.declared.table_schema.Schema.{Schema}
use Rattle.row_digest.specs.Digest.{crc_text}
use Rattle.ptc_statement.specs.declared.conditions.Cond.{Cond}
use Rattle.ptc_statement.specs.declared.assignments.Assignment.{Assignment}
use Rattle.ptc_statement.specs.declared.statements.Statement.{Statement}
use Rattle.ptc_statement.specs.declared.statements.Statement.TheVariants.{Insert, Replace, Delete, Update, LockRead, Check, SetMaster, ClearChecks}
use Rattle.statement_text.specs.Texts.{name_of, tuple_text, span_text, digest_kind_text}
use Rattle.statement_text.specs.ConditionTexts.{column_name, expr_text, cond_text}

unfoldable pub where_text : List Schema → ℕ → Option Cond → List ℕ
where_text schemas table None = []
where_text schemas table (Some condition) = codes " WHERE " ++ cond_text schemas table condition

unfoldable pub assignment_text : List Schema → ℕ → Assignment → List ℕ
assignment_text schemas table assignment =
    column_name schemas table assignment.column ++ codes " = " ++ expr_text schemas table assignment.expr

-- assignments, each after a comma
abbrev pub assignments_on : List Schema → ℕ → List Assignment → List ℕ
assignments_on schemas table [] = []
assignments_on schemas table (assignment ∷ assignments) =
    codes ", " ++ assignment_text schemas table assignment ++ assignments_on schemas table assignments

abbrev pub assignments_text : List Schema → ℕ → List Assignment → List ℕ
assignments_text schemas table [] = []
assignments_text schemas table (assignment ∷ assignments) =
    assignment_text schemas table assignment ++ assignments_on schemas table assignments

unfoldable pub insert_word : List ℕ
insert_word = codes "INSERT INTO "

unfoldable pub replace_word : List ℕ
replace_word = codes "REPLACE INTO "

unfoldable pub select_word : List ℕ
select_word = codes "SELECT * FROM "

-- how a locking read locks
unfoldable pub lock_text : LockMode → List ℕ
lock_text Shared = codes " FOR SHARE"
lock_text Exclusive = codes " FOR UPDATE"

unfoldable pub delete_word : List ℕ
delete_word = codes "DELETE FROM "

-- a table's name and the number of one of its chunks
unfoldable pub chunk_text : List Schema → ℕ → ℕ → List ℕ
chunk_text schemas table chunk = name_of schemas table ++ codes " CHUNK " ++ decimal chunk

-- what a CHECKSUM sums, and how
unfoldable pub summed_text : Span → DigestKind → List ℕ
summed_text span kind = codes " " ++ span_text span ++ codes " USING " ++ digest_kind_text kind

-- the source's checksum in a SETMASTER
unfoldable pub master_text : DigestKind → Digest → List ℕ
master_text kind master = codes " CNT " ++ decimal master.count ++ codes " CRC '" ++ crc_text kind master ++ codes "'"

unfoldable pub clear_word : List ℕ
clear_word = codes "CLEARCHECKS "

-- the canonical text of a statement
unfoldable pub statement_text : List Schema → Statement → List ℕ
statement_text schemas (Insert table row) = insert_word ++ name_of schemas table ++ codes " VALUES " ++ tuple_text row
statement_text schemas (Replace table row) = replace_word ++ name_of schemas table ++ codes " VALUES " ++ tuple_text row
statement_text schemas (Delete table where_true) = delete_word ++ name_of schemas table ++ where_text schemas table where_true
statement_text schemas (Update table sets where_true) =
    codes "UPDATE " ++ name_of schemas table ++ codes " SET " ++ assignments_text schemas table sets ++ where_text schemas table where_true
statement_text schemas (LockRead table mode span where_true) =
    select_word ++ name_of schemas table ++ where_text schemas table where_true ++ lock_text mode
statement_text schemas (Check table chunk span kind) = codes "CHECKSUM " ++ chunk_text schemas table chunk ++ summed_text span kind
statement_text schemas (SetMaster table chunk kind master) =
    codes "SETMASTER " ++ chunk_text schemas table chunk ++ master_text kind master
statement_text schemas (ClearChecks table) = clear_word ++ name_of schemas table
