-- Lists of tables, and tables that are written.
use Rattle.std.proofs.Common.{◌≡◌, ◌≢◌, ℕ, zero, suc, Bool, true, false, cond, not, List, [], ◌∷◌, Option, None, Some, filter, refl, ap, subst}
use Rattle.std.specs.Prelude.{slice_set}
use Rattle.std.specs.List.{slice_get}
use Rattle.row_types.specs.declared.values.Value.{Value}
use Rattle.row_types.specs.declared.table_schema.Schema.{Schema}
use Rattle.row_types.specs.Fit.{IsTable, IsBelowAll, RowFits}
use Rattle.ptc_statement.specs.declared.statements.Statement.TheVariants.{Replace}
use Rattle.ptc_statement.proofs.TableLemmas.{rows_after_table}
use Rattle.row_types.specs.KeyRows.{is_at}
use Rattle.row_types.proofs.SchemaRowLemmas.{with_is_put}
use Rattle.node_parts.specs.Written.{written}

pub get_set_same : {A : Type 0} (xs : List A) (i : ℕ) (x y : A) → slice_get xs i ≡ Some x → slice_get (slice_set xs i y) i ≡ Some y
get_set_same [] i x y found = absurd (cc)
get_set_same (z ∷ xs) zero x y found = refl
get_set_same (z ∷ xs) (suc i) x y found = get_set_same xs i x y found

pub get_set_other : {A : Type 0} (xs : List A) (i j : ℕ) (y : A) → j ≢ i → slice_get (slice_set xs i y) j ≡ slice_get xs j
get_set_other [] i j y apart = refl
get_set_other (z ∷ xs) zero zero y apart = absurd (apart refl)
get_set_other (z ∷ xs) zero (suc j) y apart = refl
get_set_other (z ∷ xs) (suc i) zero y apart = refl
get_set_other (z ∷ xs) (suc i) (suc j) y apart = get_set_other xs i j y (λ e. apart (ap suc e))

below_left : (schema : Schema) (row : List Value) (test : List Value → Bool) (rows : List (List Value)) → IsBelowAll schema row rows → IsBelowAll schema row (filter test rows)
below_left schema row test [] below = tt
below_left schema row test (other ∷ rows) below = at (test other) (below_left schema row test rows below.1)
  where
    at : (b : Bool) → IsBelowAll schema row (filter test rows) → IsBelowAll schema row (cond b (other ∷ filter test rows) (filter test rows))
    at true more = (below.0, more)
    at false more = more

pub table_left : (schema : Schema) (test : List Value → Bool) (rows : List (List Value)) → IsTable schema rows → IsTable schema (filter test rows)
table_left schema test [] table = tt
table_left schema test (row ∷ rows) table = at (test row) (table_left schema test rows table.2)
  where
    at : (b : Bool) → IsTable schema (filter test rows) → IsTable schema (cond b (row ∷ filter test rows) (filter test rows))
    at true more = (table.0, below_left schema row test rows table.1, more)
    at false more = more

-- a table with a row that fits at its key, or none, is a table
pub table_written : (schema : Schema) (key : List Value) (rows : List (List Value)) (new : Option (List Value)) → IsTable schema rows → ((row : List Value) → new ≡ Some row → RowFits schema row)
    → IsTable schema (written schema.key_len key new rows)
table_written schema key rows None table fits = table_left schema (λ (row : List Value). not (is_at schema.key_len key row)) rows table
table_written schema key rows (Some row) table fits =
    subst (IsTable schema) (with_is_put schema row rows) (rows_after_table schema (Replace 0 row) rows (fits row refl) table)
