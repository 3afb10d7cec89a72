-- Tables and columns are found by their names.
use Rattle.std.proofs.Common.{◌≡◌, ℕ, zero, suc, ◌+◌, Bool, true, false, List, [], ◌∷◌, Option, None, Some, refl, ◌∙◌, ap, subst, arith}
use Rattle.std.specs.Prelude.{◌==◌, is_some, if◌then◌else◌}
use Rattle.std.specs.List.{slice_get, AllByRecursion}
use Rattle.std.proofs.lemmas.Bool.Decides.{nat_tests}
use Rattle.row_types.specs.declared.table_schema.Column.{Column}
use Rattle.row_types.specs.declared.table_schema.Schema.{Schema}
use Rattle.statement_grammar.specs.Grammar.{same_bytes}
use Rattle.statement_grammar.specs.Kinds.{column_from, column_named}
use Rattle.statement_grammar.specs.Draft.{table_from}
use Rattle.statement_text_laws.specs.Canonical.{name_at, is_column, cell_reads}
use Rattle.statement_text_laws.proofs.ConditionLemmas.{same_name}
use Rattle.statement_round_trip.specs.RoundTrip.{HasOwnNames, AreNamed}
use Rattle.statement_grammar.proofs.BasicLemmas.{both, equal}

equal_names : (a b : List ℕ) → same_bytes a b ≡ true → a ≡ b
equal_names [] [] e = refl
equal_names [] (y ∷ ys) e = cc
equal_names (x ∷ xs) [] e = cc
equal_names (x ∷ xs) (y ∷ ys) e =
    let p = both (x == y) (same_bytes xs ys) e in
    ap (λ (n : ℕ). n ∷ xs) (equal x y p.0) ∙ ap (λ (l : List ℕ). y ∷ l) (equal_names xs ys p.1)

zero_suc : (n : ℕ) → zero ≡ suc n → ⊥
zero_suc n e = omega arith

lower : (m n : ℕ) → suc m ≡ suc n → m ≡ n
lower m n e = omega arith

column_found : (from n : ℕ) (columns : List Column) (column : Column) → slice_get columns n ≡ Some column
    → ((m : ℕ) (other : Column) → slice_get columns m ≡ Some other → other.name ≡ column.name → m ≡ n) → column_from from columns column.name ≡ Some (from + n)
column_found from n [] column e only = cc
column_found from zero (first ∷ columns) column e only =
    let h : first ≡ column = cc in
    ap (λ (b : Bool). if b then Some from else column_from (suc from) columns column.name) (ap (λ (c : Column). same_bytes c.name column.name) h ∙ same_name column.name) ∙ ap Some (let s : from ≡ from + zero = omega arith in s)
column_found from (suc n) (first ∷ columns) column e only = by_name (same_bytes first.name column.name) refl (column_found (suc from) n columns column e (λ m other f g. lower m n (only (suc m) other f g)))
  where
    by_name : (b : Bool) → same_bytes first.name column.name ≡ b → column_from (suc from) columns column.name ≡ Some (suc from + n) → column_from from (first ∷ columns) column.name ≡ Some (from + suc n)
    by_name true t later = absurd (zero_suc n (only zero first refl (equal_names first.name column.name t)))
    by_name false t later =
        ap (λ (b : Bool). if b then Some from else column_from (suc from) columns column.name) t
        ∙ later ∙ ap Some (let s : suc from + n ≡ from + suc n = omega arith in s)

table_found : (from n : ℕ) (schemas : List Schema) (schema : Schema) → slice_get schemas n ≡ Some schema
    → ((m : ℕ) (other : Schema) → slice_get schemas m ≡ Some other → other.name ≡ schema.name → m ≡ n) → table_from from schemas schema.name ≡ Some (from + n, schema)
table_found from n [] schema e only = cc
table_found from zero (first ∷ schemas) schema e only =
    let h : first ≡ schema = cc in
    ap (λ (b : Bool). if b then Some (from, first) else table_from (suc from) schemas schema.name) (ap (λ (s : Schema). same_bytes s.name schema.name) h ∙ same_name schema.name)
    ∙ ap (λ (s : Schema). Some (from, s)) h ∙ ap (λ (k : ℕ). Some (k, schema)) (let s : from ≡ from + zero = omega arith in s)
table_found from (suc n) (first ∷ schemas) schema e only = by_name (same_bytes first.name schema.name) refl (table_found (suc from) n schemas schema e (λ m other f g. lower m n (only (suc m) other f g)))
  where
    by_name : (b : Bool) → same_bytes first.name schema.name ≡ b → table_from (suc from) schemas schema.name ≡ Some (suc from + n, schema) → table_from from (first ∷ schemas) schema.name ≡ Some (from + suc n, schema)
    by_name true t later = absurd (zero_suc n (only zero first refl (equal_names first.name schema.name t)))
    by_name false t later =
        ap (λ (b : Bool). if b then Some (from, first) else table_from (suc from) schemas schema.name) t
        ∙ later ∙ ap (λ (k : ℕ). Some (k, schema)) (let s : suc from + n ≡ from + suc n = omega arith in s)

-- ---- by the names of schemas

pub named_column : (schema : Schema) (n : ℕ) (column : Column) → HasOwnNames schema → slice_get schema.columns n ≡ Some column → column_named schema column.name ≡ Some n
named_column schema n column names e =
    column_found 0 n schema.columns column e (λ m other f g. names.differ m n other column f e g) ∙ ap Some (let s : 0 + n ≡ n = omega arith in s)

pub name_is : (schema : Schema) (n : ℕ) (column : Column) → slice_get schema.columns n ≡ Some column → name_at schema n ≡ column.name
name_is schema n column e = rw e refl

pub own_column : (schema : Schema) (n : ℕ) → HasOwnNames schema → is_some (slice_get schema.columns n) ≡ true → column_named schema (name_at schema n) ≡ Some n
own_column schema n names e = by_column (slice_get schema.columns n) refl e
  where
    by_column : (o : Option Column) → slice_get schema.columns n ≡ o → is_some o ≡ true → column_named schema (name_at schema n) ≡ Some n
    by_column None f e = cc
    by_column (Some column) f e = ap (column_named schema) (name_is schema n column f) ∙ named_column schema n column names f

pub cell_is_read : (schema : Schema) (n : ℕ) → HasOwnNames schema → is_some (slice_get schema.columns n) ≡ true → cell_reads schema n ≡ true
cell_is_read schema n names e = ap (is_column n) (own_column schema n names e) ∙ same n
  where
    same : (n : ℕ) → (n == n) ≡ true
    same n = grind (arith, nat_tests)

pub named_table : (schemas : List Schema) (n : ℕ) (schema : Schema) → AreNamed schemas → slice_get schemas n ≡ Some schema → table_from 0 schemas schema.name ≡ Some (n, schema)
named_table schemas n schema names e =
    table_found 0 n schemas schema e (λ m other f g. names.differ m n other schema f e g) ∙ ap (λ (k : ℕ). Some (k, schema)) (let s : 0 + n ≡ n = omega arith in s)

pub each_at : (P : Schema → Type 0) (schemas : List Schema) (n : ℕ) (schema : Schema) → AllByRecursion P schemas → slice_get schemas n ≡ Some schema → P schema
each_at P [] n schema h e = cc
each_at P (first ∷ schemas) zero schema h e = let s : first ≡ schema = cc in subst P s h.0
each_at P (first ∷ schemas) (suc n) schema h e = each_at P schemas n schema h.1 e
