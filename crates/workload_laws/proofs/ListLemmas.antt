-- Lists of which each element is such, schemas by name, and what stays where lists grow.
use Rattle.std.proofs.Common.{◌≡◌, ℕ, zero, suc, Bool, true, false, List, [], ◌∷◌, ◌++◌, map, Some, None, refl, ap}
use Rattle.std.specs.Prelude.{bytes_eq, if◌then◌else◌}
use Rattle.std.specs.List.{slice_get, AllByRecursion}
use Rattle.row_types.specs.declared.table_schema.Schema.{Schema}
use Rattle.ptc_statement.specs.declared.statements.Statement.{Statement}
use Rattle.ptc_statement.specs.declared.scripts.ScriptStep.{ScriptStep}
use Rattle.ptc_statement.specs.declared.scripts.ScriptStep.TheVariants.{Begin, Commit, Rollback, Run}
use Rattle.ptc_statement.specs.Effect.{table_of}
use Rattle.ptc_statement.specs.Fits.{FitsSchemas}
use Rattle.session.specs.Sessions.{RunFits}
use Rattle.file_text.specs.Causes.{schema_named}
use Rattle.file_rows.proofs.HoldLemmas.{bytes_self}
use Rattle.workload_laws.specs.Sound.{IsStep}

pub all_append : {X : Type 0} (P : X → Type 0) (xs ys : List X) → AllByRecursion P xs → AllByRecursion P ys → AllByRecursion P (xs ++ ys)
all_append P [] ys h k = k
all_append P (x ∷ xs) ys h k = (h.0, all_append P xs ys h.1 k)

pub all_map : {X Y : Type 0} (P : Y → Type 0) (f : X → Y) (xs : List X) → AllByRecursion (λ (x : X). P (f x)) xs → AllByRecursion P (map f xs)
all_map P f [] h = tt
all_map P f (x ∷ xs) h = (h.0, all_map P f xs h.1)

pub all_weaker : {X : Type 0} (P Q : X → Type 0) (xs : List X) → ((x : X) → P x → Q x) → AllByRecursion P xs → AllByRecursion Q xs
all_weaker P Q [] w h = tt
all_weaker P Q (x ∷ xs) w h = (w x h.0, all_weaker P Q xs w h.1)

pub all_each : {X : Type 0} (P : X → Type 0) (xs : List X) → ((x : X) → P x) → AllByRecursion P xs
all_each P [] w = tt
all_each P (x ∷ xs) w = (w x, all_each P xs w)

pub get_more : {X : Type 0} (xs ys : List X) (place : ℕ) (x : X) → slice_get xs place ≡ Some x → slice_get (xs ++ ys) place ≡ Some x
get_more [] ys place x e = absurd cc
get_more (z ∷ xs) ys zero x e = e
get_more (z ∷ xs) ys (suc place) x e = get_more xs ys place x e

-- ---- schemas by name

pub named_more : (name : List ℕ) (schemas more : List Schema) (found : Schema) → schema_named name schemas ≡ Some found → schema_named name (schemas ++ more) ≡ Some found
named_more name [] more found e = absurd cc
named_more name (schema ∷ schemas) more found e = by_test (bytes_eq schema.name name) e (named_more name schemas more found)
  where
    by_test : (b : Bool) → (if b then Some schema else schema_named name schemas) ≡ Some found → (schema_named name schemas ≡ Some found → schema_named name (schemas ++ more) ≡ Some found)
        → (if b then Some schema else schema_named name (schemas ++ more)) ≡ Some found
    by_test true f go = f
    by_test false f go = go f

pub named_behind : (name : List ℕ) (schemas more : List Schema) → schema_named name schemas ≡ None → schema_named name (schemas ++ more) ≡ schema_named name more
named_behind name [] more e = refl
named_behind name (schema ∷ schemas) more e = by_test (bytes_eq schema.name name) e (named_behind name schemas more)
  where
    by_test : (b : Bool) → (if b then Some schema else schema_named name schemas) ≡ None → (schema_named name schemas ≡ None → schema_named name (schemas ++ more) ≡ schema_named name more)
        → (if b then Some schema else schema_named name (schemas ++ more)) ≡ schema_named name more
    by_test true f go = absurd cc
    by_test false f go = go f

pub named_self : (schema : Schema) (more : List Schema) → schema_named schema.name (schema ∷ more) ≡ Some schema
named_self schema more = ap (λ (b : Bool). if b then Some schema else schema_named schema.name more) (bytes_self schema.name)

-- ---- statements that fit, where schemas are added

pub fits_more : (schemas more : List Schema) (statement : Statement) → FitsSchemas schemas statement → FitsSchemas (schemas ++ more) statement
fits_more schemas more statement fits = record { schema = fits.schema; found = get_more schemas more (table_of statement) fits.schema fits.found; fits = fits.fits }

run_more : (schemas more : List Schema) (step : ScriptStep) → RunFits schemas step → RunFits (schemas ++ more) step
run_more schemas more Begin fits = tt
run_more schemas more Commit fits = tt
run_more schemas more Rollback fits = tt
run_more schemas more (Run statement) fits = fits_more schemas more statement fits

pub step_more : (schemas more : List Schema) (step : ScriptStep) → IsStep schemas step → IsStep (schemas ++ more) step
step_more schemas more step is = record { fits = run_more schemas more step is.fits; clients = is.clients }
