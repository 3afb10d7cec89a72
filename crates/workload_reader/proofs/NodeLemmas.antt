-- Tables by node, of tables that hold the rows of a file's lines.
use Rattle.std.proofs.Common.{◌≡◌, ◌≤◌, ◌+◌, ℕ, length, zero, suc, List, [], ◌∷◌, ◌++◌, map, refl, sym, ap, ◌∙◌, arith, append_assoc, append-nil}
use Rattle.std.specs.Prelude.{replicate}
use Rattle.std.specs.List.{AllByRecursion}
use Rattle.row_types.specs.declared.table_schema.Schema.{Schema}
use Rattle.row_types.specs.KeyRows.{Rows}
use Rattle.file_text.specs.Said.{Said}
use Rattle.file_text.specs.Context.{replicas_of}
use Rattle.file_text.specs.File.{table_in, tables_of_node, nodes_from}
use Rattle.file_rows.specs.declared.file_tables.FileTable.{FileTable}
use Rattle.file_rows.specs.NodeRows.{rows_of}
use Rattle.file_rows.specs.Holds.{HoldsTable, HoldsRows, schemas_in}
use Rattle.workload_reader.specs.Nodes.{with_table, with_tables, tables_by_node}

pub map_same : {A B : Type 0} (f g : A → B) (xs : List A) → ((x : A) → f x ≡ g x) → map f xs ≡ map g xs
map_same f g [] e = refl
map_same {A} {B} f g (x ∷ xs) e = ap (λ (y : B). y ∷ map f xs) (e x) ∙ ap (λ (l : List B). g x ∷ l) (map_same f g xs e)

-- where one of both is empty, nothing is left to do
pub nodes_out : (done nodes all : List (List Rows)) (tables : List Rows) → done ++ with_table nodes tables ≡ all → length nodes ≤ 0 → done ≡ all
nodes_out done [] all tables e h = sym (append-nil done) ∙ e
nodes_out done (node ∷ nodes) all tables e h = absurd (omega (arith, h))

pub tables_out : (done nodes all : List (List Rows)) (tables : List Rows) → done ++ with_table nodes tables ≡ all → length tables ≤ 0 → done ≡ all
tables_out done [] all tables e h = sym (append-nil done) ∙ e
tables_out done (node ∷ nodes) all [] e h = sym (append-nil done) ∙ e
tables_out done (node ∷ nodes) all (rows ∷ more) e h = absurd (omega (arith, h))

one_more : (f : ℕ → List Rows) (g : ℕ → Rows) (nodes : List ℕ) → with_table (map f nodes) (map g nodes) ≡ map (λ (node : ℕ). f node ++ g node ∷ []) nodes
one_more f g [] = refl
one_more f g (node ∷ nodes) = ap (λ (l : List (List Rows)). (f node ++ g node ∷ []) ∷ l) (one_more f g nodes)

-- the tables of these schemas, at a node
abbrev tables_at : List Said → List Schema → ℕ → List Rows
tables_at said schemas node = map (table_in said node) schemas

schema_more : (said : List Said) (schemas : List Schema) (schema : Schema) (node : ℕ) → tables_at said schemas node ++ table_in said node schema ∷ [] ≡ tables_at said (schemas ++ schema ∷ []) node
schema_more said [] schema node = refl
schema_more said (first ∷ schemas) schema node = ap (λ (l : List Rows). table_in said node first ∷ l) (schema_more said schemas schema node)

all_more : (said : List Said) (done : List Schema) (tables : List FileTable) → AllByRecursion (HoldsTable said) tables
    → with_tables (map (tables_at said done) (nodes_from 0 (suc (replicas_of said)))) (tables_by_node tables) ≡ map (tables_at said (done ++ schemas_in tables)) (nodes_from 0 (suc (replicas_of said)))
all_more said done [] h = ap (λ (l : List Schema). map (tables_at said l) (nodes_from 0 (suc (replicas_of said)))) (sym (append-nil done))
all_more said done (table ∷ tables) h =
    ap (λ (l : List (List Rows)). with_tables l (tables_by_node tables)) one
    ∙ all_more said (done ++ table.schema ∷ []) tables h.1
    ∙ ap (λ (l : List Schema). map (tables_at said l) nodes) (append_assoc done (table.schema ∷ []) (schemas_in tables))
  where
    nodes : List ℕ
    nodes = nodes_from 0 (suc (replicas_of said))

    one : with_table (map (tables_at said done) nodes) (rows_of table.nodes.items) ≡ map (tables_at said (done ++ table.schema ∷ [])) nodes
    one =
        ap (with_table (map (tables_at said done) nodes)) h.0.rows
        ∙ one_more (tables_at said done) (λ (node : ℕ). table_in said node table.schema) nodes
        ∙ map_same (λ (node : ℕ). tables_at said done node ++ table_in said node table.schema ∷ []) (tables_at said (done ++ table.schema ∷ [])) nodes (schema_more said done table.schema)

no_tables : (first count : ℕ) (said : List Said) → replicate count [] ≡ map (tables_at said []) (nodes_from first count)
no_tables first zero said = refl
no_tables first (suc count) said = ap (λ (l : List (List Rows)). [] ∷ l) (no_tables (suc first) count said)

pub nodes_are : (said : List Said) (tables : List FileTable) (count : ℕ) → HoldsRows tables said → count ≡ suc (replicas_of said)
    → with_tables (replicate count []) (tables_by_node tables) ≡ tables_of_node said 0 ∷ map (tables_of_node said) (nodes_from 1 (replicas_of said))
nodes_are said tables count h e =
    ap (λ (n : ℕ). with_tables (replicate n []) (tables_by_node tables)) e
    ∙ ap (λ (l : List (List Rows)). with_tables l (tables_by_node tables)) (no_tables 0 (suc (replicas_of said)) said)
    ∙ all_more said [] tables h.tables
    ∙ ap (λ (l : List Schema). map (tables_at said l) (nodes_from 0 (suc (replicas_of said)))) h.schemas
