-- What a statement that fits leaves of a row fits too, and keeps the row's key.
use Rattle.std.proofs.Common.{◌≡◌, ◌∙◌, ℕ, zero, suc, ◌≤◌, Bool, true, false, cond, Option, Some, None, List, [], ◌∷◌, length, take, refl, ap, sym, subst, arith, slice_get, ℤ, pos}
use Rattle.std.specs.Prelude.{slice_set}
use Rattle.std.specs.List.{AllByRecursion}
use Rattle.std.specs.Option.{option_map_or}
use Rattle.row_types.specs.declared.values.Value.{Value}
use Rattle.row_types.specs.declared.values.Value.TheVariants.{Null, Int, Text}
use Rattle.row_types.specs.declared.table_schema.ColumnKind.{ColumnKind}
use Rattle.row_types.specs.declared.table_schema.ColumnKind.TheVariants.{Int as IntColumn, BigInt, Text as TextColumn}
use Rattle.row_types.specs.declared.table_schema.Column.{Column}
use Rattle.row_types.specs.declared.table_schema.Schema.{Schema}
use Rattle.row_types.specs.Order.{has}
use Rattle.row_types.specs.Fit.{key_of, NumberFits, TextFits, ValueFits, ValuesFit, RowFits}
use Rattle.row_types.specs.Faults.{clipped}
use Rattle.row_types.proofs.FaultLemmas.{clipped_is_nearest}
use Rattle.ptc_statement.specs.declared.assignments.Assignment.{Assignment}
use Rattle.ptc_statement.specs.declared.statements.Statement.{Statement}
use Rattle.ptc_statement.specs.declared.statements.Statement.TheVariants.{Insert, Replace, Delete, Update, LockRead, Check, SetMaster, ClearChecks}
use Rattle.ptc_statement.specs.Meaning.{value_of, is_taken}
use Rattle.ptc_statement.specs.Reach.{just_key, reach_of}
use Rattle.ptc_statement.specs.Effect.{empty_of, cut, stored, assigned, after_sets, effect, effect_within}
use Rattle.ptc_statement.specs.Fits.{AssignmentFits, StatementFits}
use Rattle.ptc_statement.proofs.KindLemmas.{IsOfKind, value_of_kind}
use Rattle.ptc_statement.proofs.KeyLemmas.{itself_alone}

-- a number that is clipped fits
clipped_fits : (kind : ColumnKind) (n : ℤ) → IsOfKind kind (Int n) → NumberFits kind (clipped kind n)
clipped_fits IntColumn n of = (clipped_is_nearest IntColumn n tt).fits
clipped_fits BigInt n of = (clipped_is_nearest BigInt n tt).fits
clipped_fits (TextColumn max) n of = cc

take_bound : (count : ℕ) (text : List ℕ) → length (take count text) ≤ count
take_bound zero text = omega arith
take_bound (suc count) [] = omega arith
take_bound (suc count) (byte ∷ text) = let shorter = take_bound count text in omega arith

cut_fits : (kind : ColumnKind) (text : List ℕ) → IsOfKind kind (Text text) → TextFits kind (cut kind text)
cut_fits IntColumn text of = cc
cut_fits BigInt text of = cc
cut_fits (TextColumn max) text of = take_bound max text

empty_fits : (column : Column) (kind : ColumnKind) → column.kind ≡ kind → ValueFits column (empty_of kind)
empty_fits column IntColumn is = subst (λ (k : ColumnKind). NumberFits k (pos 0)) (sym is) (omega arith)
empty_fits column BigInt is = subst (λ (k : ColumnKind). NumberFits k (pos 0)) (sym is) (omega arith)
empty_fits column (TextColumn max) is = subst (λ (k : ColumnKind). TextFits k []) (sym is) (omega arith)

null_fits : (column : Column) (nullable : Bool) → column.nullable ≡ nullable → ValueFits column (cond nullable Null (empty_of column.kind))
null_fits column true is = is
null_fits column false is = empty_fits column column.kind refl

-- what a column keeps fits it
stored_fits : (column : Column) (value : Value) → IsOfKind column.kind value → ValueFits column (stored column value)
stored_fits column Null of = null_fits column column.nullable refl
stored_fits column (Int n) of = clipped_fits column.kind n of
stored_fits column (Text text) of = cut_fits column.kind text of

set_fits : (columns : List Column) (row : List Value) (place : ℕ) (column : Column) (value : Value) → ValuesFit columns row → slice_get columns place ≡ Some column
    → ValueFits column value → ValuesFit columns (slice_set row place value)
set_fits [] row place column value fits found new = absurd (cc)
set_fits (first ∷ columns) [] place column value fits found new = absurd fits
set_fits (first ∷ columns) (old ∷ row) zero column value fits found new =
    let same : column ≡ first = cc in
    (subst (λ (c : Column). ValueFits c value) same new, fits.1)
set_fits (first ∷ columns) (old ∷ row) (suc place) column value fits found new =
    (fits.0, set_fits columns row place column value fits.1 found new)

take_set : (count : ℕ) (row : List Value) (place : ℕ) (value : Value) → count ≤ place → take count (slice_set row place value) ≡ take count row
take_set zero row place value le = refl
take_set (suc count) [] place value le = refl
take_set (suc count) (old ∷ row) zero value le = absurd (omega arith)
take_set (suc count) (old ∷ row) (suc place) value le = ap (λ (rest : List Value). old ∷ rest) (take_set count row place value (omega arith))

-- a row that fits and has the key of another
pub record Keeps (schema : Schema) (old new : List Value) : Type 0 where
  pub fits : RowFits schema new
  pub key : key_of schema new ≡ key_of schema old

assigned_is : (schema : Schema) (assignment : Assignment) (row : List Value) (column : Column) → slice_get schema.columns assignment.column ≡ Some column
    → assigned schema assignment row ≡ slice_set row assignment.column (stored column (value_of row assignment.expr))
assigned_is schema assignment row column found =
    ap (λ (o : Option Column). option_map_or (λ (c : Column). slice_set row assignment.column (stored c (value_of row assignment.expr))) o row) found

assigned_keeps : (schema : Schema) (assignment : Assignment) (row : List Value) → RowFits schema row → AssignmentFits schema assignment → Keeps schema row (assigned schema assignment row)
assigned_keeps schema assignment row fits of =
    let column : Column = of.column in
    let value : Value = stored column (value_of row assignment.expr) in
    subst (Keeps schema row) (sym (assigned_is schema assignment row column of.found)) (record {
      fits = set_fits schema.columns row assignment.column column value fits of.found
          (stored_fits column (value_of row assignment.expr) (value_of_kind schema column.kind row assignment.expr fits of.kind));
      key = take_set schema.key_len row assignment.column value of.behind_key;
    })

after_sets_keeps : (schema : Schema) (sets : List Assignment) (row : List Value) → RowFits schema row → AllByRecursion (AssignmentFits schema) sets → Keeps schema row (after_sets schema sets row)
after_sets_keeps schema [] row fits of = record { fits = fits; key = refl }
after_sets_keeps schema (assignment ∷ sets) row fits of =
    let one = assigned_keeps schema assignment row fits of.0 in
    let rest = after_sets_keeps schema sets (assigned schema assignment row) one.fits of.1 in
    record { fits = rest.fits; key = rest.key ∙ one.key }

-- what is left of a row, if anything, keeps it
abbrev pub LeftKeeps : Schema → List Value → Option (List Value) → Type 0
LeftKeeps schema old None = Unit {0}
LeftKeeps schema old (Some new) = Keeps schema old new

itself : (schema : Schema) (row : List Value) → RowFits schema row → Keeps schema row row
itself schema row fits = record { fits = fits; key = refl }

delete_keeps : (schema : Schema) (taken : Bool) (row : List Value) → RowFits schema row → LeftKeeps schema row (cond taken None (Some row))
delete_keeps schema true row fits = tt
delete_keeps schema false row fits = itself schema row fits

update_keeps : (schema : Schema) (taken : Bool) (row new : List Value) → RowFits schema row → Keeps schema row new → LeftKeeps schema row (Some (cond taken new row))
update_keeps schema true row new fits keeps = keeps
update_keeps schema false row new fits keeps = itself schema row fits

replace_keeps : (schema : Schema) (row new : List Value) → RowFits schema new → has (just_key (key_of schema new)) (key_of schema row) ≡ true → Keeps schema row new
replace_keeps schema row new fits reached = record {
  fits = fits;
  key = sym (itself_alone (key_of schema new) (key_of schema row) reached);
}

within_keeps : (schema : Schema) (statement : Statement) (row : List Value) → RowFits schema row → StatementFits schema statement
    → has (reach_of schema statement) (key_of schema row) ≡ true → LeftKeeps schema row (effect_within schema statement (Some row))
within_keeps schema (Insert table new) row fits of reached = itself schema row fits
within_keeps schema (Replace table new) row fits of reached = replace_keeps schema row new of reached
within_keeps schema (Delete table where_true) row fits of reached = delete_keeps schema (is_taken schema where_true row) row fits
within_keeps schema (Update table sets where_true) row fits of reached =
    update_keeps schema (is_taken schema where_true row) row (after_sets schema sets row) fits (after_sets_keeps schema sets row fits of.0)
within_keeps schema (LockRead table mode span where_true) row fits of reached = itself schema row fits
within_keeps schema (Check table chunk span kind) row fits of reached = itself schema row fits
within_keeps schema (SetMaster table chunk kind master) row fits of reached = itself schema row fits
within_keeps schema (ClearChecks table) row fits of reached = itself schema row fits

choice_keeps : (schema : Schema) (row : List Value) (reached : Bool) (left : Option (List Value)) → RowFits schema row → (reached ≡ true → LeftKeeps schema row left)
    → LeftKeeps schema row (cond reached left (Some row))
choice_keeps schema row true left fits keeps = keeps refl
choice_keeps schema row false left fits keeps = itself schema row fits

-- what a statement makes of a row at its own key has that key
pub effect_keeps : (schema : Schema) (statement : Statement) (row : List Value) → RowFits schema row → StatementFits schema statement
    → LeftKeeps schema row (effect schema statement (key_of schema row) (Some row))
effect_keeps schema statement row fits of =
    choice_keeps schema row (has (reach_of schema statement) (key_of schema row)) (effect_within schema statement (Some row)) fits
    (within_keeps schema statement row fits of)
