-- The rows that an entry leaves are, at each key, what its statements make of the row there.
use Rattle.std.proofs.Common.{◌≡◌, ◌≢◌, ◌⊎◌, inl, inr, ◌<◌, ◌+◌, ℕ, zero, suc, List, [], ◌∷◌, ◌++◌, ◌==◌, length, Bool, true, false, cond, Option, None, Some, refl, sym, ap, subst, ◌∙◌, arith, slice_get}
use Rattle.std.specs.Prelude.{slice_set, slice_index_or, option_and_then}
use Rattle.std.specs.List.{AllByRecursion}
use Rattle.std.specs.Option.{option_map_or}
use Rattle.std.proofs.lemmas.List.{get_or-set_same, get_or-set_other, set-get_or}
use Rattle.row_types.specs.declared.values.Value.{Value}
use Rattle.row_types.specs.declared.table_schema.Schema.{Schema}
use Rattle.row_types.specs.Fit.{IsTable, AreTables}
use Rattle.ptc_statement.specs.declared.statements.Statement.{Statement}
use Rattle.ptc_statement.specs.declared.statements.Statement.TheVariants.{Insert, Replace, Delete, Update, LockRead, Check, SetMaster, ClearChecks}
use Rattle.ptc_statement.specs.Effect.{table_of, effect, rows_after, row_at, is_logged}
use Rattle.ptc_statement.specs.Fits.{StatementFits, FitsSchemas}
use Rattle.ptc_statement.proofs.ActLemmas.{acts_at}
use Rattle.ptc_statement.proofs.TableLemmas.{rows_after_table}
use Rattle.statement_log.specs.declared.entries.Entry.{Entry}
use Rattle.history.specs.Replay.{Replayed, table_rows, tables_after, after_statement, after_statements, after_entry, position_of, fold}
use Rattle.history.proofs.ReplayLemmas.{fold_more}
use Rattle.lock_table.proofs.HoldLemmas.{number_is, number_apart}
use Rattle.node_model.specs.Kept.{TablesOf}
use Rattle.node_model.specs.Node.{NodeView, act, acts, committed_row, committed_rows, with_entries, logged}
use Rattle.node_model.proofs.ActLemmas.{ChangesNone, act_none_changed}

-- the row at a key of a table
abbrev pub table_row : List Schema → List (List (List Value)) → ℕ → List Value → Option (List Value)
table_row schemas tables table key = option_and_then (λ (schema : Schema). row_at schema key (table_rows tables table)) (slice_get schemas table)

pub record TableAt (tables : List (List (List Value))) (place : ℕ) (schema : Schema) : Type 0 where
  pub within : place < length tables
  pub is_table : IsTable schema (table_rows tables place)

pub table_at : (schemas : List Schema) (tables : List (List (List Value))) (place : ℕ) (schema : Schema) → AreTables schemas tables → slice_get schemas place ≡ Some schema → TableAt tables place schema
table_at [] tables place schema are found = absurd (let q : None ≡ Some schema = found in cc)
table_at (first ∷ schemas) [] place schema are found = absurd are
table_at (first ∷ schemas) (rows ∷ tables) zero schema are found =
    let same : first ≡ schema = cc in record { within = omega arith; is_table = subst (λ (s : Schema). IsTable s rows) same are.0 }
table_at (first ∷ schemas) (rows ∷ tables) (suc place) schema are found =
    let rest = table_at schemas tables place schema are.1 found in
    let lt = rest.within in
    record { within = omega arith; is_table = rest.is_table }

set_table : (schemas : List Schema) (tables : List (List (List Value))) (place : ℕ) (schema : Schema) (rows : List (List Value)) → AreTables schemas tables
    → slice_get schemas place ≡ Some schema → IsTable schema rows → AreTables schemas (slice_set tables place rows)
set_table [] [] place schema rows are found is = are
set_table [] (first ∷ tables) place schema rows are found is = absurd are
set_table (s ∷ schemas) [] place schema rows are found is = absurd are
set_table (s ∷ schemas) (first ∷ tables) zero schema rows are found is =
    let same : s ≡ schema = cc in (subst (λ (x : Schema). IsTable x rows) (sym same) is, are.1)
set_table (s ∷ schemas) (first ∷ tables) (suc place) schema rows are found is = (are.0, set_table schemas tables place schema rows are.1 found is)

-- a statement fits the schema of its table
pub fits_there : (schemas : List Schema) (statement : Statement) (schema : Schema) → FitsSchemas schemas statement → slice_get schemas (table_of statement) ≡ Some schema → StatementFits schema statement
fits_there schemas statement schema fits found =
    let e : Some fits.schema ≡ Some schema = sym fits.found ∙ found in
    let same : fits.schema ≡ schema = cc in subst (λ (s : Schema). StatementFits s statement) same fits.fits

pub tables_kept : (schemas : List Schema) (statement : Statement) (tables : List (List (List Value))) → AreTables schemas tables → FitsSchemas schemas statement
    → AreTables schemas (tables_after schemas statement tables)
tables_kept schemas statement tables are fits = at (slice_get schemas (table_of statement)) refl
  where
    at : (o : Option Schema) → slice_get schemas (table_of statement) ≡ o
        → AreTables schemas (option_map_or (λ (schema : Schema). slice_set tables (table_of statement) (rows_after schema statement (table_rows tables (table_of statement)))) o tables)
    at None e = are
    at (Some schema) e = set_table schemas tables (table_of statement) schema (rows_after schema statement (table_rows tables (table_of statement))) are e
        (rows_after_table schema statement (table_rows tables (table_of statement)) (fits_there schemas statement schema fits e) (table_at schemas tables (table_of statement) schema are e).is_table)

-- a statement acts at each key
pub row_after : (schemas : List Schema) (statement : Statement) (tables : List (List (List Value))) (table : ℕ) (key : List Value) → AreTables schemas tables → FitsSchemas schemas statement
    → table_row schemas (tables_after schemas statement tables) table key ≡ act schemas statement table key (table_row schemas tables table key)
row_after schemas statement tables table key are fits = at (table_of statement == table) refl
  where
    other : table ≢ table_of statement → (o : Option Schema) → table_rows (option_map_or (λ (schema : Schema). slice_set tables (table_of statement) (rows_after schema statement (table_rows tables (table_of statement)))) o tables) table ≡ table_rows tables table
    other apart None = refl
    other apart (Some schema) = get_or-set_other tables (table_of statement) table (rows_after schema statement (table_rows tables (table_of statement))) [] apart

    own : table_of statement ≡ table → (o : Option Schema) → slice_get schemas (table_of statement) ≡ o
        → option_and_then (λ (schema : Schema). row_at schema key (table_rows (option_map_or (λ (s : Schema). slice_set tables (table_of statement) (rows_after s statement (table_rows tables (table_of statement)))) o tables) (table_of statement))) o
        ≡ option_map_or (λ (schema : Schema). effect schema statement key (option_and_then (λ (s : Schema). row_at s key (table_rows tables (table_of statement))) o)) o (option_and_then (λ (s : Schema). row_at s key (table_rows tables (table_of statement))) o)
    own same None e = refl
    own same (Some schema) e =
        let there = table_at schemas tables (table_of statement) schema are e in
        ap (row_at schema key) (get_or-set_same tables (table_of statement) (rows_after schema statement (table_rows tables (table_of statement))) [] there.within)
        ∙ acts_at schema statement (table_rows tables (table_of statement)) key (fits_there schemas statement schema fits e) there.is_table

    at : (b : Bool) → (table_of statement == table) ≡ b → table_row schemas (tables_after schemas statement tables) table key
        ≡ cond b (option_map_or (λ (schema : Schema). effect schema statement key (table_row schemas tables table key)) (slice_get schemas table) (table_row schemas tables table key)) (table_row schemas tables table key)
    at true e =
        let same : table_of statement ≡ table = number_is (table_of statement) table e in
        subst (λ (t : ℕ). table_row schemas (tables_after schemas statement tables) t key ≡ option_map_or (λ (schema : Schema). effect schema statement key (table_row schemas tables t key)) (slice_get schemas t) (table_row schemas tables t key))
        same (own same (slice_get schemas (table_of statement)) refl)
    at false e =
        ap (λ (rows : List (List Value)). option_and_then (λ (schema : Schema). row_at schema key rows) (slice_get schemas table))
        (other (λ same. number_apart (table_of statement) table e (sym same)) (slice_get schemas (table_of statement)))

-- a statement that changes no row leaves all tables

left_tables : (tables : List (List (List Value))) (table : ℕ) (o : Option Schema) → option_map_or (λ (schema : Schema). slice_set tables table (table_rows tables table)) o tables ≡ tables
left_tables tables table None = refl
left_tables tables table (Some schema) = set-get_or tables table []

pub tables_left : (schemas : List Schema) (statement : Statement) (tables : List (List (List Value))) → ChangesNone statement → tables_after schemas statement tables ≡ tables
tables_left schemas (Insert of row) tables is = absurd is
tables_left schemas (Replace of row) tables is = absurd is
tables_left schemas (Delete of where_true) tables is = absurd is
tables_left schemas (Update of sets where_true) tables is = absurd is
tables_left schemas (LockRead of mode span where_true) tables is = left_tables tables of (slice_get schemas of)
tables_left schemas (Check of chunk span kind) tables is = left_tables tables of (slice_get schemas of)
tables_left schemas (SetMaster of chunk kind master) tables is = left_tables tables of (slice_get schemas of)
tables_left schemas (ClearChecks of) tables is = left_tables tables of (slice_get schemas of)

-- statements one after the other
pub rows_after_all : (schemas : List Schema) (position : ℕ) (statements : List Statement) (here : Replayed) (table : ℕ) (key : List Value) → AreTables schemas here.tables
    → AllByRecursion (FitsSchemas schemas) statements
    → table_row schemas (after_statements schemas position statements here).tables table key ≡ acts schemas statements table key (table_row schemas here.tables table key)
rows_after_all schemas position [] here table key are fit = refl
rows_after_all schemas position (statement ∷ statements) here table key are fit =
    rows_after_all schemas position statements (after_statement schemas position statement here) table key (tables_kept schemas statement here.tables are fit.0) fit.1
    ∙ ap (acts schemas statements table key) (row_after schemas statement here.tables table key are fit.0)

pub tables_after_all : (schemas : List Schema) (position : ℕ) (statements : List Statement) (here : Replayed) → AreTables schemas here.tables
    → AllByRecursion (FitsSchemas schemas) statements → AreTables schemas (after_statements schemas position statements here).tables
tables_after_all schemas position [] here are fit = are
tables_after_all schemas position (statement ∷ statements) here are fit =
    tables_after_all schemas position statements (after_statement schemas position statement here) (tables_kept schemas statement here.tables are fit.0) fit.1

-- an entry more acts at each committed row
pub appended_row : (node : NodeView) (entry : Entry) (table : ℕ) (key : List Value) → TablesOf node → AllByRecursion (FitsSchemas node.schemas) entry.statements
    → committed_row (with_entries (entry ∷ []) node) table key ≡ acts node.schemas entry.statements table key (committed_row node table key)
appended_row node entry table key are fit =
    ap (λ (r : Replayed). table_row node.schemas r.tables table key) (fold_more node.schemas node.start node.history entry)
    ∙ rows_after_all node.schemas (position_of (length node.history + 1) entry.origin) entry.statements (fold node.schemas node.start node.history) table key are fit

pub appended_tables : (node : NodeView) (entry : Entry) → TablesOf node → AllByRecursion (FitsSchemas node.schemas) entry.statements → TablesOf (with_entries (entry ∷ []) node)
appended_tables node entry are fit =
    subst (λ (r : Replayed). AreTables node.schemas r.tables) (sym (fold_more node.schemas node.start node.history entry))
    (tables_after_all node.schemas (position_of (length node.history + 1) entry.origin) entry.statements (fold node.schemas node.start node.history) are fit)

-- the statements that are not logged change nothing
pub logged_acts : (schemas : List Schema) (statements : List Statement) (table : ℕ) (key : List Value) (old : Option (List Value))
    → acts schemas (logged statements) table key old ≡ acts schemas statements table key old
logged_acts schemas [] table key old = refl
logged_acts schemas (Insert of row ∷ statements) table key old = logged_acts schemas statements table key (act schemas (Insert of row) table key old)
logged_acts schemas (Replace of row ∷ statements) table key old = logged_acts schemas statements table key (act schemas (Replace of row) table key old)
logged_acts schemas (Delete of where_true ∷ statements) table key old = logged_acts schemas statements table key (act schemas (Delete of where_true) table key old)
logged_acts schemas (Update of sets where_true ∷ statements) table key old = logged_acts schemas statements table key (act schemas (Update of sets where_true) table key old)
logged_acts schemas (LockRead of mode span where_true ∷ statements) table key old =
    logged_acts schemas statements table key old ∙ ap (acts schemas statements table key) (sym (act_none_changed schemas (LockRead of mode span where_true) table key old tt))
logged_acts schemas (Check of chunk span kind ∷ statements) table key old = logged_acts schemas statements table key (act schemas (Check of chunk span kind) table key old)
logged_acts schemas (SetMaster of chunk kind master ∷ statements) table key old = logged_acts schemas statements table key (act schemas (SetMaster of chunk kind master) table key old)
logged_acts schemas (ClearChecks of ∷ statements) table key old = logged_acts schemas statements table key (act schemas (ClearChecks of) table key old)

pub logged_fit : (schemas : List Schema) (statements : List Statement) → AllByRecursion (FitsSchemas schemas) statements → AllByRecursion (FitsSchemas schemas) (logged statements)
logged_fit schemas [] fit = tt
logged_fit schemas (statement ∷ statements) fit = at (is_logged statement) (logged_fit schemas statements fit.1)
  where
    at : (b : Bool) → AllByRecursion (FitsSchemas schemas) (logged statements) → AllByRecursion (FitsSchemas schemas) (cond b (statement ∷ logged statements) (logged statements))
    at true rest = (fit.0, rest)
    at false rest = rest
