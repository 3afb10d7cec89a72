-- The effect of a statement at a key, from the row there alone, and on the rows of its table.
use Rattle.std.specs.Prelude.{ℕ, pos, Bool, true, false, cond, is_some, List, [], ◌∷◌, Option, None, Some, take, slice_set}
use Rattle.std.specs.List.{slice_get}
use Rattle.std.specs.Option.{option_map_or}
use Rattle.row_types.specs.declared.values.Value.{Value}
use Rattle.row_types.specs.declared.values.Value.TheVariants.{Null, Int, Text}
use Rattle.row_types.specs.declared.lock_modes.LockMode.{LockMode}
use Rattle.row_types.specs.declared.lock_modes.LockMode.TheVariants.{Shared, Exclusive}
use Rattle.row_types.specs.declared.table_schema.ColumnKind.{ColumnKind}
use Rattle.row_types.specs.declared.table_schema.ColumnKind.TheVariants.{Int as IntColumn, BigInt, Text as TextColumn}
use Rattle.row_types.specs.declared.table_schema.Column.{Column}
use Rattle.row_types.specs.declared.table_schema.Schema.{Schema}
use Rattle.row_types.specs.Order.{has}
use Rattle.row_types.specs.Faults.{clipped}
use Rattle.row_types.specs.KeyRows.{Row, Rows, row_at as row_with_key}
use Rattle.row_types.specs.Fit.{key_of, with_row}
use Rattle.ptc_statement.specs.declared.assignments.Assignment.{Assignment}
use Rattle.ptc_statement.specs.declared.statements.Statement.{Statement}
use Rattle.ptc_statement.specs.declared.statements.Statement.TheVariants.{Insert, Replace, Delete, Update, LockRead, Check, SetMaster, ClearChecks}
use Rattle.ptc_statement.specs.Meaning.{value_of, is_taken}
use Rattle.ptc_statement.specs.Reach.{reach_of}

-- a locking read for share and CHECKSUM read with shared locks, the others with exclusive ones
abbrev pub mode_of : Statement → LockMode
mode_of (Insert table row) = Exclusive
mode_of (Replace table row) = Exclusive
mode_of (Delete table where_true) = Exclusive
mode_of (Update table sets where_true) = Exclusive
mode_of (LockRead table mode span where_true) = mode
mode_of (Check table chunk span kind) = Shared
mode_of (SetMaster table chunk kind master) = Exclusive
mode_of (ClearChecks table) = Exclusive

-- a locking read alone is not logged
abbrev pub is_logged : Statement → Bool
is_logged (Insert table row) = true
is_logged (Replace table row) = true
is_logged (Delete table where_true) = true
is_logged (Update table sets where_true) = true
is_logged (LockRead table mode span where_true) = false
is_logged (Check table chunk span kind) = true
is_logged (SetMaster table chunk kind master) = true
is_logged (ClearChecks table) = true

-- the table that the statement is on
abbrev pub table_of : Statement → ℕ
table_of (Insert table row) = table
table_of (Replace table row) = table
table_of (Delete table where_true) = table
table_of (Update table sets where_true) = table
table_of (LockRead table mode span where_true) = table
table_of (Check table chunk span kind) = table
table_of (SetMaster table chunk kind master) = table
table_of (ClearChecks table) = table

-- NULL in a column that takes none: 0, or the empty text
abbrev pub empty_of : ColumnKind → Value
empty_of IntColumn = Int (pos 0)
empty_of BigInt = Int (pos 0)
empty_of (TextColumn max) = Text []

-- a text is cut to its column's length
abbrev pub cut : ColumnKind → List ℕ → List ℕ
cut IntColumn text = text
cut BigInt text = text
cut (TextColumn max) text = take max text

-- what a column keeps of a value that is assigned to it
abbrev pub stored : Column → Value → Value
stored column Null = cond column.nullable Null (empty_of column.kind)
stored column (Int n) = Int (clipped column.kind n)
stored column (Text text) = Text (cut column.kind text)

abbrev pub assigned : Schema → Assignment → Row → Row
assigned schema assignment row =
    option_map_or (λ (column : Column). slice_set row assignment.column (stored column (value_of row assignment.expr)))
    (slice_get schema.columns assignment.column) row

-- assignments go from left to right: a later one sees the new value of an earlier column
abbrev pub after_sets : Schema → List Assignment → Row → Row
after_sets schema [] row = row
after_sets schema (assignment ∷ assignments) row = after_sets schema assignments (assigned schema assignment row)

-- INSERT gives its row at an absent key, REPLACE at every key; DELETE takes a row, UPDATE changes it
-- where the condition is true; a locking read and the tool's statements leave every row
abbrev pub effect_within : Schema → Statement → Option Row → Option Row
effect_within schema (Insert table row) None = Some row
effect_within schema (Insert table row) (Some old) = Some old
effect_within schema (Replace table row) old = Some row
effect_within schema (Delete table where_true) None = None
effect_within schema (Delete table where_true) (Some old) = cond (is_taken schema where_true old) None (Some old)
effect_within schema (Update table sets where_true) None = None
effect_within schema (Update table sets where_true) (Some old) = Some (cond (is_taken schema where_true old) (after_sets schema sets old) old)
effect_within schema (LockRead table mode span where_true) old = old
effect_within schema (Check table chunk span kind) old = old
effect_within schema (SetMaster table chunk kind master) old = old
effect_within schema (ClearChecks table) old = old

-- the row, or none, at a key after a statement, from the row there alone; outside its reach the old one
abbrev pub effect : Schema → Statement → List Value → Option Row → Option Row
effect schema statement key old = cond (has (reach_of schema statement) key) (effect_within schema statement old) old

abbrev pub with_front : Option Row → Rows → Rows
with_front None rows = rows
with_front (Some row) rows = row ∷ rows

-- each row changed by the effect at its key
abbrev pub changed : Schema → Statement → Rows → Rows
changed schema statement [] = []
changed schema statement (row ∷ rows) = with_front (effect schema statement (key_of schema row) (Some row)) (changed schema statement rows)

-- the row at a key, if there is one
abbrev pub row_at : Schema → List Value → Rows → Option Row
row_at schema = row_with_key schema.key_len

-- the rows with this one at its place by key, unless its key is there
abbrev pub with_new_row : Schema → Row → Rows → Rows
with_new_row schema row rows = cond (is_some (row_at schema (key_of schema row) rows)) rows (with_row schema row rows)

-- the rows of its table after the statement
abbrev pub rows_after : Schema → Statement → Rows → Rows
rows_after schema (Insert table row) rows = with_new_row schema row rows
rows_after schema (Replace table row) rows = with_row schema row rows
rows_after schema (Delete table where_true) rows = changed schema (Delete table where_true) rows
rows_after schema (Update table sets where_true) rows = changed schema (Update table sets where_true) rows
rows_after schema (LockRead table mode span where_true) rows = rows
rows_after schema (Check table chunk span kind) rows = rows
rows_after schema (SetMaster table chunk kind master) rows = rows
rows_after schema (ClearChecks table) rows = rows
