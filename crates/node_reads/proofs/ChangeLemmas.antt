-- What statements make of check rows is what their replay makes of them.
use Rattle.std.proofs.Common.{◌≡◌, ◌∙◌, ℕ, Bool, true, false, not, cond, List, [], ◌∷◌, Option, None, Some, refl, ap, sym}
use Rattle.std.specs.List.{slice_get}
use Rattle.std.specs.Option.{option_map_or}
use Rattle.row_types.specs.declared.digests.Digest.{Digest}
use Rattle.row_types.specs.declared.digests.DigestKind.{DigestKind}
use Rattle.row_types.specs.declared.edges.Span.{Span}
use Rattle.row_types.specs.declared.table_schema.Schema.{Schema}
use Rattle.row_types.specs.KeyRows.{TableRows}
use Rattle.ptc_statement.specs.declared.statements.Statement.{Statement}
use Rattle.ptc_statement.specs.declared.statements.Statement.TheVariants.{Insert, Replace, Delete, Update, LockRead, Check, SetMaster, ClearChecks}
use Rattle.row_digest.specs.Digest.{rows_in, digest_of, no_rows}
use Rattle.checksum_table.specs.declared.check_rows.CheckEntry.{CheckEntry}
use Rattle.checksum_table.specs.Checks.{with_check}
use Rattle.history.specs.Replay.{table_rows, chunk_rows, tables_after, after_statements}
use Rattle.node_model.specs.Node.{logged}
use Rattle.node_model.proofs.CommitLemmas.{tables_left}
use Rattle.node_reads.specs.Reads.{sum_read, sums_of}
use Rattle.node_reads.specs.CheckChanges.{changes_checks, changes_any, changes_once, checks_by, sums_left, checks_with}

-- a statement that changes no check row

by_none : (position : ℕ) (statement : Statement) (sums : List Digest) (checks : List CheckEntry) → changes_checks statement ≡ false → checks_by position statement sums checks ≡ checks
by_none position (Insert of row) sums checks e = refl
by_none position (Replace of row) sums checks e = refl
by_none position (Delete of where_true) sums checks e = refl
by_none position (Update of sets where_true) sums checks e = refl
by_none position (LockRead of mode span where_true) sums checks e = refl
by_none position (Check of chunk span kind) sums checks e = absurd (let q : true ≡ false = e in cc)
by_none position (SetMaster of chunk kind master) sums checks e = absurd (let q : true ≡ false = e in cc)
by_none position (ClearChecks of) sums checks e = absurd (let q : true ≡ false = e in cc)

left_none : (statement : Statement) (sums : List Digest) → changes_checks statement ≡ false → sums_left statement sums ≡ sums
left_none (Insert of row) sums e = refl
left_none (Replace of row) sums e = refl
left_none (Delete of where_true) sums e = refl
left_none (Update of sets where_true) sums e = refl
left_none (LockRead of mode span where_true) sums e = refl
left_none (Check of chunk span kind) sums e = absurd (let q : true ≡ false = e in cc)
left_none (SetMaster of chunk kind master) sums e = refl
left_none (ClearChecks of) sums e = refl

pub passed : (position : ℕ) (statement : Statement) (statements : List Statement) (sums : List Digest) (checks : List CheckEntry) → changes_checks statement ≡ false
    → checks_with position (statement ∷ statements) sums checks ≡ checks_with position statements sums checks
passed position statement statements sums checks none =
    λ i. checks_with position statements (left_none statement sums none i) (by_none position statement sums checks none i)

pub with_none : (position : ℕ) (statements : List Statement) (sums : List Digest) (checks : List CheckEntry) → changes_any statements ≡ false → checks_with position statements sums checks ≡ checks
with_none position [] sums checks none = refl
with_none position (statement ∷ statements) sums checks none = at (changes_checks statement) refl none (λ f. with_none position statements sums checks f)
  where
    at : (b : Bool) → changes_checks statement ≡ b → cond b true (changes_any statements) ≡ false → (changes_any statements ≡ false → checks_with position statements sums checks ≡ checks)
        → checks_with position (statement ∷ statements) sums checks ≡ checks
    at true e f more = absurd (let q : true ≡ false = f in cc)
    at false e f more = passed position statement statements sums checks e ∙ more f

-- behind the only change there is none
pub only_one : (position : ℕ) (statement : Statement) (statements : List Statement) (sums : List Digest) (checks : List CheckEntry) → changes_checks statement ≡ true → changes_once (statement ∷ statements) ≡ true
    → checks_by position statement sums checks ≡ checks_with position (statement ∷ statements) sums checks
only_one position statement statements sums checks one once =
    sym (with_none position statements (sums_left statement sums) (checks_by position statement sums checks)
    (turned (changes_any statements) (sym (ap (λ (b : Bool). cond b (not (changes_any statements)) (changes_once statements)) one) ∙ once)))
  where
    turned : (b : Bool) → not b ≡ true → b ≡ false
    turned true e = absurd (let q : false ≡ true = e in cc)
    turned false e = refl

-- with the checksums of the statements it is their replay

check_sum : (schemas : List Schema) (tables : TableRows) (of chunk : ℕ) (span : Span) (kind : DigestKind) → sum_read schemas tables (Check of chunk span kind) ≡ digest_of kind (chunk_rows schemas tables of span)
check_sum schemas tables of chunk span kind = at (slice_get schemas of)
  where
    at : (o : Option Schema) → option_map_or (λ (schema : Schema). digest_of kind (rows_in schema (record { lo = span.lo; hi = span.hi }) (table_rows tables of))) o no_rows
        ≡ digest_of kind (option_map_or (λ (schema : Schema). rows_in schema span (table_rows tables of)) o [])
    at None = refl
    at (Some schema) = refl

pub replayed : (schemas : List Schema) (position : ℕ) (statements : List Statement) (tables : TableRows) (checks : List CheckEntry)
    → checks_with position statements (sums_of schemas statements tables) checks ≡ (after_statements schemas position (logged statements) (record { tables = tables; checks = checks })).checks
replayed schemas position [] tables checks = refl
replayed schemas position (Insert of row ∷ statements) tables checks = replayed schemas position statements (tables_after schemas (Insert of row) tables) checks
replayed schemas position (Replace of row ∷ statements) tables checks = replayed schemas position statements (tables_after schemas (Replace of row) tables) checks
replayed schemas position (Delete of where_true ∷ statements) tables checks = replayed schemas position statements (tables_after schemas (Delete of where_true) tables) checks
replayed schemas position (Update of sets where_true ∷ statements) tables checks = replayed schemas position statements (tables_after schemas (Update of sets where_true) tables) checks
replayed schemas position (LockRead of mode span where_true ∷ statements) tables checks =
    ap (λ (t : TableRows). checks_with position statements (sums_of schemas statements t) checks) (tables_left schemas (LockRead of mode span where_true) tables tt)
    ∙ replayed schemas position statements tables checks
replayed schemas position (Check of chunk span kind ∷ statements) tables checks =
    ap (λ (d : Digest). checks_with position statements (sums_of schemas statements (tables_after schemas (Check of chunk span kind) tables))
    (with_check of chunk (record { span = span; kind = kind; this = d; master = None; position = position }) checks)) (check_sum schemas tables of chunk span kind)
    ∙ replayed schemas position statements (tables_after schemas (Check of chunk span kind) tables)
    (with_check of chunk (record { span = span; kind = kind; this = digest_of kind (chunk_rows schemas tables of span); master = None; position = position }) checks)
replayed schemas position (SetMaster of chunk kind master ∷ statements) tables checks =
    replayed schemas position statements (tables_after schemas (SetMaster of chunk kind master) tables) (checks_by position (SetMaster of chunk kind master) [] checks)
replayed schemas position (ClearChecks of ∷ statements) tables checks =
    replayed schemas position statements (tables_after schemas (ClearChecks of) tables) (checks_by position (ClearChecks of) [] checks)

-- for the code: the only change is made
pub one_done : (position : ℕ) (statement : Statement) (more rest statements : List Statement) (sums : List Digest) (start checks new : List CheckEntry) (test : Bool) → rest ≡ statement ∷ more → changes_once rest ≡ true
    → checks ≡ start → checks_with position rest sums start ≡ checks_with position statements sums start → test ≡ changes_checks statement → test ≡ true → new ≡ checks_by position statement sums checks
    → new ≡ checks_with position statements sums start
one_done position statement more rest statements sums start checks new test is once same left tested holds made =
    made
    ∙ ap (checks_by position statement sums) same
    ∙ only_one position statement more sums start (sym tested ∙ holds) (ap changes_once (sym is) ∙ once)
    ∙ ap (λ (ss : List Statement). checks_with position ss sums start) (sym is)
    ∙ left
