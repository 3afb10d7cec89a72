-- The tables of a workload file can be counted.
use Rattle.std.proofs.Common.{◌≡◌, ◌≤◌, true, List, [], ◌∷◌, length, refl, arith}
use Rattle.std.specs.Prelude.{IsTrue, nat_lt}
use Rattle.std.specs.List.{AllByRecursion}
use Rattle.std.proofs.lemmas.Bool.Decides.{nat_tests}
use Rattle.row_types.specs.declared.table_schema.Schema.{Schema}
use Rattle.statement_reads.specs.Reads.{are_countable, columns_fit}

columns_are_few : (schemas : List Schema) → AllByRecursion (λ (schema : Schema). length schema.columns ≤ 16) schemas → columns_fit schemas ≡ true
columns_are_few [] h = refl
columns_are_few (schema ∷ schemas) h =
    let few = h.0 in
    let t : nat_lt (length schema.columns) 4294967296 ≡ true = grind (arith, nat_tests, few) in
    rw t (columns_are_few schemas h.1)

pub few_are_countable : (schemas : List Schema) → length schemas ≤ 16 → AllByRecursion (λ (schema : Schema). length schema.columns ≤ 16) schemas → IsTrue (are_countable schemas)
few_are_countable schemas few h =
    let t : nat_lt (length schemas) 4294967296 ≡ true = grind (arith, nat_tests, few) in
    rw t (columns_are_few schemas h)
