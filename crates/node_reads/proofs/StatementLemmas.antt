-- What statements read, with one statement more.
use Rattle.std.proofs.Common.{◌≡◌, ◌∙◌, Bool, true, false, cond, List, [], ◌∷◌, ◌++◌, Option, None, Some, refl, ap}
use Rattle.std.specs.Prelude.{filter}
use Rattle.std.specs.List.{slice_get}
use Rattle.std.specs.Option.{option_map_or, option_to_list}
use Rattle.row_types.specs.declared.values.Value.{Value}
use Rattle.row_types.specs.declared.digests.Digest.{Digest}
use Rattle.row_types.specs.declared.digests.DigestKind.{DigestKind}
use Rattle.row_types.specs.declared.table_schema.Schema.{Schema}
use Rattle.row_types.specs.KeyRows.{TableRows}
use Rattle.ptc_statement.specs.declared.conditions.Cond.{Cond}
use Rattle.ptc_statement.specs.declared.statements.Statement.{Statement}
use Rattle.ptc_statement.specs.declared.statements.Statement.TheVariants.{Insert, Replace, Delete, Update, LockRead, Check, SetMaster, ClearChecks}
use Rattle.ptc_statement.specs.Meaning.{is_taken}
use Rattle.ptc_statement.specs.Reach.{reach_of}
use Rattle.ptc_statement.specs.Effect.{table_of}
use Rattle.row_digest.specs.Digest.{digest_of, no_rows}
use Rattle.row_digest.proofs.DigestLemmas.{added_rows-append}
use Rattle.history.specs.Replay.{tables_after}
use Rattle.node_reads.specs.Gains.{taken_at, sum_with}
use Rattle.node_reads.specs.Reads.{rows_met, rows_taken, sum_made, rows_read, sum_read, tables_after_all, read_after, last_read, with_sum, sums_of}

pub tables_more : (schemas : List Schema) (statements : List Statement) (last : Statement) (tables : TableRows)
    → tables_after_all schemas (statements ++ last ∷ []) tables ≡ tables_after schemas last (tables_after_all schemas statements tables)
tables_more schemas [] last tables = refl
tables_more schemas (statement ∷ statements) last tables = tables_more schemas statements last (tables_after schemas statement tables)

pub last_read_more : (schemas : List Schema) (statements : List Statement) (last : Statement) (tables : TableRows) (rows : List (List Value))
    → last_read schemas (statements ++ last ∷ []) tables rows ≡ read_after schemas (tables_after_all schemas statements tables) last (last_read schemas statements tables rows)
last_read_more schemas [] last tables rows = refl
last_read_more schemas (statement ∷ statements) last tables rows = last_read_more schemas statements last (tables_after schemas statement tables) (read_after schemas tables statement rows)

sum_joined : (schemas : List Schema) (tables : TableRows) (statement : Statement) (sums more : List Digest) → with_sum schemas tables statement (sums ++ more) ≡ with_sum schemas tables statement sums ++ more
sum_joined schemas tables (Insert of row) sums more = refl
sum_joined schemas tables (Replace of row) sums more = refl
sum_joined schemas tables (Delete of where_true) sums more = refl
sum_joined schemas tables (Update of sets where_true) sums more = refl
sum_joined schemas tables (LockRead of mode span where_true) sums more = refl
sum_joined schemas tables (Check of chunk span kind) sums more = refl
sum_joined schemas tables (SetMaster of chunk kind master) sums more = refl
sum_joined schemas tables (ClearChecks of) sums more = refl

pub sums_more : (schemas : List Schema) (statements : List Statement) (last : Statement) (tables : TableRows)
    → sums_of schemas (statements ++ last ∷ []) tables ≡ sums_of schemas statements tables ++ with_sum schemas (tables_after_all schemas statements tables) last []
sums_more schemas [] last tables = refl
sums_more schemas (statement ∷ statements) last tables =
    ap (with_sum schemas tables statement) (sums_more schemas statements last (tables_after schemas statement tables))
    ∙ sum_joined schemas tables statement (sums_of schemas statements (tables_after schemas statement tables))
    (with_sum schemas (tables_after_all schemas statements (tables_after schemas statement tables)) last [])

-- a row more

pub taken_more : (schema : Schema) (where_true : Option Cond) (rows : List (List Value)) (row : Option (List Value))
    → filter (is_taken schema where_true) (rows ++ option_to_list row) ≡ filter (is_taken schema where_true) rows ++ option_to_list (taken_at schema where_true row)
taken_more schema where_true [] None = refl
taken_more schema where_true [] (Some row) = at (is_taken schema where_true row)
  where
    at : (b : Bool) → cond b (row ∷ []) [] ≡ option_to_list (cond b (Some row) None)
    at true = refl
    at false = refl
taken_more schema where_true (first ∷ rows) row = at (is_taken schema where_true first) (taken_more schema where_true rows row)
  where
    at : (b : Bool) → filter (is_taken schema where_true) (rows ++ option_to_list row) ≡ filter (is_taken schema where_true) rows ++ option_to_list (taken_at schema where_true row)
        → cond b (first ∷ filter (is_taken schema where_true) (rows ++ option_to_list row)) (filter (is_taken schema where_true) (rows ++ option_to_list row))
        ≡ cond b (first ∷ filter (is_taken schema where_true) rows) (filter (is_taken schema where_true) rows) ++ option_to_list (taken_at schema where_true row)
    at true more = ap (λ (rs : List (List Value)). first ∷ rs) more
    at false more = more

pub sum_more : (kind : DigestKind) (rows : List (List Value)) (row : Option (List Value)) → digest_of kind (rows ++ option_to_list row) ≡ sum_with kind row (digest_of kind rows)
sum_more kind rows None = added_rows-append kind rows [] no_rows
sum_more kind rows (Some row) = added_rows-append kind rows (row ∷ []) no_rows

-- what is read of the whole reach

pub rows_read_is : (schemas : List Schema) (tables : TableRows) (statement : Statement) (schema : Schema) → slice_get schemas (table_of statement) ≡ Some schema
    → rows_read schemas tables statement ≡ rows_taken schema statement (rows_met schema tables statement (reach_of schema statement).hi)
rows_read_is schemas tables statement schema found =
    ap (λ (o : Option Schema). option_map_or (λ (s : Schema). rows_taken s statement (rows_met s tables statement (reach_of s statement).hi)) o []) found

pub sum_read_is : (schemas : List Schema) (tables : TableRows) (statement : Statement) (schema : Schema) → slice_get schemas (table_of statement) ≡ Some schema
    → sum_read schemas tables statement ≡ sum_made statement (rows_met schema tables statement (reach_of schema statement).hi)
sum_read_is schemas tables statement schema found =
    ap (λ (o : Option Schema). option_map_or (λ (s : Schema). sum_made statement (rows_met s tables statement (reach_of s statement).hi)) o no_rows) found
