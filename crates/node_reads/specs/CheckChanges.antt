-- What statements make of check rows, where the CHECKSUMs among them made these checksums.
use Rattle.std.specs.Prelude.{ℕ, Bool, true, false, not, cond, List, [], ◌∷◌, None}
use Rattle.row_types.specs.declared.digests.Digest.{Digest}
use Rattle.ptc_statement.specs.declared.statements.Statement.{Statement}
use Rattle.ptc_statement.specs.declared.statements.Statement.TheVariants.{Insert, Replace, Delete, Update, LockRead, Check, SetMaster, ClearChecks}
use Rattle.checksum_table.specs.declared.check_rows.CheckEntry.{CheckEntry}
use Rattle.checksum_table.specs.Checks.{with_check, with_master, without_table}

-- whether a statement changes check rows
abbrev pub changes_checks : Statement → Bool
changes_checks (Insert table row) = false
changes_checks (Replace table row) = false
changes_checks (Delete table where_true) = false
changes_checks (Update table sets where_true) = false
changes_checks (LockRead table mode span where_true) = false
changes_checks (Check table chunk span kind) = true
changes_checks (SetMaster table chunk kind master) = true
changes_checks (ClearChecks table) = true

abbrev pub changes_any : List Statement → Bool
changes_any [] = false
changes_any (statement ∷ statements) = cond (changes_checks statement) true (changes_any statements)

-- whether at most one of them does
abbrev pub changes_once : List Statement → Bool
changes_once [] = true
changes_once (statement ∷ statements) = cond (changes_checks statement) (not (changes_any statements)) (changes_once statements)

-- one statement, where the first of the checksums is that of a CHECKSUM
abbrev pub checks_by : ℕ → Statement → List Digest → List CheckEntry → List CheckEntry
checks_by position (Insert table row) sums checks = checks
checks_by position (Replace table row) sums checks = checks
checks_by position (Delete table where_true) sums checks = checks
checks_by position (Update table sets where_true) sums checks = checks
checks_by position (LockRead table mode span where_true) sums checks = checks
checks_by position (Check table chunk span kind) [] checks = checks
checks_by position (Check table chunk span kind) (sum ∷ sums) checks =
    with_check table chunk (record { span = span; kind = kind; this = sum; master = None; position = position }) checks
checks_by position (SetMaster table chunk kind master) sums checks = with_master table chunk master checks
checks_by position (ClearChecks table) sums checks = without_table table checks

-- the checksums of the statements behind it
abbrev pub sums_left : Statement → List Digest → List Digest
sums_left (Insert table row) sums = sums
sums_left (Replace table row) sums = sums
sums_left (Delete table where_true) sums = sums
sums_left (Update table sets where_true) sums = sums
sums_left (LockRead table mode span where_true) sums = sums
sums_left (Check table chunk span kind) [] = []
sums_left (Check table chunk span kind) (sum ∷ sums) = sums
sums_left (SetMaster table chunk kind master) sums = sums
sums_left (ClearChecks table) sums = sums

abbrev pub checks_with : ℕ → List Statement → List Digest → List CheckEntry → List CheckEntry
checks_with position [] sums checks = checks
checks_with position (statement ∷ statements) sums checks = checks_with position statements (sums_left statement sums) (checks_by position statement sums checks)
