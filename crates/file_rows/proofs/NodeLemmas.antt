-- The rows of a table on its nodes, with one line more.
use Rattle.std.proofs.Common.{◌≡◌, ◌<◌, ◌+◌, ◌&&◌, ℕ, zero, suc, Bool, true, false, List, [], ◌∷◌, ◌++◌, map, refl, sym, ap, ◌∙◌, arith, append-nil}
use Rattle.std.specs.Prelude.{bytes_eq, if◌then◌else◌}
use Rattle.std.specs.List.{AllByRecursion, flat_map}
use Rattle.std.proofs.lemmas.Grind.{flat_map-append}
use Rattle.row_types.specs.declared.table_schema.Schema.{Schema}
use Rattle.row_types.specs.KeyRows.{Row, Rows, put_row}
use Rattle.row_types.specs.Fit.{with_row, with_rows}
use Rattle.ordered_table.specs.TableView.{TableView}
use Rattle.file_text.specs.Said.{Said, RowOf, Node, Literal, value_of}
use Rattle.file_text.specs.File.{row_said, table_in, nodes_from}
use Rattle.line_words.specs.Items.{kept_node}
use Rattle.file_laws.proofs.FitLemmas.{head_of, tail_of, onto}
use Rattle.file_rows.specs.NodeRows.{is_for_word, row_put, rows_put, rows_of}
use Rattle.file_rows.specs.Holds.{IsOfKey}
use Rattle.file_rows.proofs.NumberLemmas.{most, same_nodes}

with_rows_append : (schema : Schema) (rows xs ys : Rows) → with_rows schema rows (xs ++ ys) ≡ with_rows schema (with_rows schema rows xs) ys
with_rows_append schema rows [] ys = refl
with_rows_append schema rows (x ∷ xs) ys = with_rows_append schema (with_row schema x rows) xs ys

-- a table with the rows that one line more gives
pub table_more : (before : List Said) (said : Said) (node : ℕ) (schema : Schema) → table_in (before ++ said ∷ []) node schema ≡ with_rows schema (table_in before node schema) (row_said node schema.name said)
table_more before said node schema =
    ap (with_rows schema []) (flat_map-append (row_said node schema.name) before (said ∷ []))
    ∙ with_rows_append schema [] (flat_map (row_said node schema.name) before) (row_said node schema.name said ++ [])
    ∙ ap (with_rows schema (table_in before node schema)) (append-nil (row_said node schema.name said))

pub table_stays : (before : List Said) (said : Said) (node : ℕ) (schema : Schema) → row_said node schema.name said ≡ [] → table_in (before ++ said ∷ []) node schema ≡ table_in before node schema
table_stays before said node schema e = table_more before said node schema ∙ ap (with_rows schema (table_in before node schema)) e

pub tables_stay : (before : List Said) (said : Said) (schema : Schema) → ((node : ℕ) → row_said node schema.name said ≡ []) → (nodes : List ℕ) → map (λ (node : ℕ). table_in (before ++ said ∷ []) node schema) nodes ≡ map (λ (node : ℕ). table_in before node schema) nodes
tables_stay before said schema none [] = refl
tables_stay before said schema none (node ∷ nodes) = onto _ _ _ _ (table_stays before said node schema (none node)) (tables_stay before said schema none nodes)

row_here : (schema : Schema) (table : List ℕ) (row : Row) (rows : Rows) (named : Bool) (view : TableView) → bytes_eq schema.name table ≡ true → view.key_len ≡ schema.key_len → view.rows ≡ rows
    → row_put named row view ≡ with_rows schema rows (if named && bytes_eq schema.name table then row ∷ [] else [])
row_here schema table row rows true view e k r =
    ap (λ (n : ℕ). put_row n row view.rows) k ∙ ap (put_row schema.key_len row) r
    ∙ sym (ap (λ (b : Bool). with_rows schema rows (if b then row ∷ [] else [])) e)
row_here schema table row rows false view e k r = r

pub rows_more : (before : List Said) (which : Node) (table : List ℕ) (literals : List Literal) (schema : Schema) (node count : ℕ) (tables : List TableView)
    → bytes_eq schema.name table ≡ true → node + count < most → AllByRecursion (IsOfKey schema.key_len) tables
    → rows_of tables ≡ map (λ (n : ℕ). table_in before n schema) (nodes_from node count)
    → rows_put (kept_node which) (map value_of literals) node tables ≡ map (λ (n : ℕ). table_in (before ++ RowOf which table literals ∷ []) n schema) (nodes_from node count)
rows_more before which table literals schema node zero [] e lt k r = refl
rows_more before which table literals schema node zero (view ∷ tables) e lt k r = absurd cc
rows_more before which table literals schema node (suc count) [] e lt k r = absurd cc
rows_more before which table literals schema node (suc count) (view ∷ tables) e lt k r =
    onto _ _ _ _
    (row_here schema table (map value_of literals) (table_in before node schema) (is_for_word (kept_node which) node) view e k.0 (head_of _ _ _ _ r)
    ∙ ap (λ (b : Bool). with_rows schema (table_in before node schema) (if b && bytes_eq schema.name table then map value_of literals ∷ [] else [])) (same_nodes which node (omega (arith, lt)))
    ∙ sym (table_more before (RowOf which table literals) node schema))
    (rows_more before which table literals schema (suc node) count tables e (omega (arith, lt)) k.1 (tail_of _ _ _ _ r))
