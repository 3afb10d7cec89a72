-- The tables and rows of the lines before, with one line more.
use Rattle.std.proofs.Common.{length, ◌≡◌, ◌≢◌, ◌<◌, ◌≤◌, ◌+◌, ◌^◌, ℕ, zero, suc, Bool, true, false, List, [], ◌∷◌, ◌++◌, map, Some, None, refl, sym, ap, subst, ◌∙◌, arith, append-nil}
use Rattle.std.specs.Prelude.{◌&&◌, bytes_eq, if◌then◌else◌, replicate}
use Rattle.std.specs.List.{AllByRecursion, flat_map}
use Rattle.std.proofs.lemmas.Slice.Eq.{bytes_eq-Decides}
use Rattle.std.proofs.lemmas.List.{map-append}
use Rattle.row_types.specs.declared.values.Value.{Value}
use Rattle.row_types.specs.declared.table_schema.Schema.{Schema}
use Rattle.row_types.specs.Fit.{IsSchema, with_rows}
use Rattle.file_text.specs.Said.{Said, Replicas, TableOf, RowOf, Node, Literal, ColumnText, value_of}
use Rattle.file_text.specs.Context.{schema_of, schema_said, schemas_of, replicas_said, replicas_of}
use Rattle.file_text.specs.Causes.{is_for}
use Rattle.file_text.specs.File.{row_said, table_in, nodes_from}
use Rattle.line_words.specs.Items.{kept_node}
use Rattle.ordered_table.specs.TableView.{TableView}
use Rattle.cause_laws.proofs.MoreLemmas.{schemas_more, replicas_more}
use Rattle.file_rows.specs.declared.file_tables.FileTable.{FileTable}
use Rattle.file_rows.specs.NodeRows.{rows_of, key_lens}
use Rattle.file_rows.specs.Holds.{schemas_in, IsOfKey, HoldsTable, AreDistinct, HoldsRows}
use Rattle.file_rows.specs.Puts.{place_named, IsPut, IsPutAt}
use Rattle.file_rows.proofs.NodeLemmas.{tables_stay, rows_more}
use Rattle.file_laws.proofs.FitLemmas.{some_is, true_false, head_of, tail_of, onto}

pub none_held : HoldsRows [] []
none_held = record { schemas = refl; tables = tt; distinct = tt }

pub same_bytes : (xs ys : List ℕ) → bytes_eq xs ys ≡ true → xs ≡ ys
same_bytes xs ys = (bytes_eq-Decides xs ys).0

bytes_same : {xs ys : List ℕ} → xs ≡ ys → bytes_eq xs ys ≡ true
bytes_same {xs} {ys} = (bytes_eq-Decides xs ys).1

pub bytes_self : (xs : List ℕ) → bytes_eq xs xs ≡ true
bytes_self xs = (bytes_eq-Decides xs xs).1 refl

-- ---- lines that give no row

abbrev pub GivesNoRow : Said → Type 0
GivesNoRow said = (node : ℕ) (table : List ℕ) → row_said node table said ≡ []

same_replicas : (before : List Said) (said : Said) → replicas_said said ≡ 0 → replicas_of (before ++ said ∷ []) ≡ replicas_of before
same_replicas before said z = let e = replicas_more before said in omega (arith, e, z)

holds_on : (before : List Said) (said : Said) (table : FileTable) → ((node : ℕ) → row_said node table.schema.name said ≡ []) → replicas_said said ≡ 0 → HoldsTable before table → HoldsTable (before ++ said ∷ []) table
holds_on before said table none z h = record {
  schema = h.schema;
  few = h.few;
  keys = h.keys;
  rows =
      h.rows
      ∙ sym (tables_stay before said table.schema none (nodes_from 0 (suc (replicas_of before))))
      ∙ ap (λ (n : ℕ). map (λ (node : ℕ). table_in (before ++ said ∷ []) node table.schema) (nodes_from 0 (suc n))) (sym (same_replicas before said z));
}

all_on : (before : List Said) (said : Said) → GivesNoRow said → replicas_said said ≡ 0 → (tables : List FileTable) → AllByRecursion (HoldsTable before) tables → AllByRecursion (HoldsTable (before ++ said ∷ [])) tables
all_on before said none z [] h = tt
all_on before said none z (table ∷ tables) h = (holds_on before said table (λ node. none node table.schema.name) z h.0, all_on before said none z tables h.1)

pub rows_stay : (tables : List FileTable) (before : List Said) (said : Said) → GivesNoRow said → schema_said said ≡ [] → replicas_said said ≡ 0 → HoldsRows tables before → HoldsRows tables (before ++ said ∷ [])
rows_stay tables before said none s z h = record {
  schemas = h.schemas ∙ sym (schemas_more before said ∙ ap (λ (l : List Schema). schemas_of before ++ l) s ∙ append-nil (schemas_of before));
  tables = all_on before said none z tables h.tables;
  distinct = h.distinct;
}

-- a REPLICAS line, before all tables
pub replicas_held : (tables : List FileTable) (before : List Said) (count : ℕ) → tables ≡ [] → HoldsRows tables before → HoldsRows tables (before ++ Replicas count ∷ [])
replicas_held tables before count e h = record {
  schemas = h.schemas ∙ sym (schemas_more before (Replicas count) ∙ append-nil (schemas_of before));
  tables = subst (AllByRecursion (HoldsTable (before ++ Replicas count ∷ []))) (sym e) tt;
  distinct = h.distinct;
}

-- ---- a TABLE line

abbrev pub NoRows : List Said → Type 0
NoRows before = (node : ℕ) (table : List ℕ) → flat_map (row_said node table) before ≡ []

empty_nodes : (before : List Said) (schema : Schema) → NoRows before → (first count : ℕ) → map (λ (node : ℕ). table_in before node schema) (nodes_from first count) ≡ replicate count []
empty_nodes before schema none first zero = refl
empty_nodes before schema none first (suc count) = onto _ _ _ _ (ap (with_rows schema []) (none first schema.name)) (empty_nodes before schema none (suc first) count)

named_none : (name : List ℕ) (place : ℕ) (tables : List FileTable) → place_named name place tables ≡ None → AllByRecursion (λ (table : FileTable). table.schema.name ≢ name) tables
named_none name place [] e = tt
named_none name place (table ∷ tables) e = by_test (bytes_eq table.schema.name name) refl (λ g. named_none name (suc place) tables g)
  where
    by_test : (b : Bool) → bytes_eq table.schema.name name ≡ b → (place_named name (suc place) tables ≡ None → AllByRecursion (λ (table : FileTable). table.schema.name ≢ name) tables) → AllByRecursion (λ (table : FileTable). table.schema.name ≢ name) (table ∷ tables)
    by_test true f go = absurd (none_of (subst (λ (b : Bool). (if b then Some place else place_named name (suc place) tables) ≡ None) f e))
      where
        none_of : Some place ≡ None → ⊥
        none_of g = cc
    by_test false f go = (λ g. true_false (bytes_eq table.schema.name name) (same g) f, go (subst (λ (b : Bool). (if b then Some place else place_named name (suc place) tables) ≡ None) f e))
      where
        same : table.schema.name ≡ name → bytes_eq table.schema.name name ≡ true
        same g = bytes_same g

distinct_more : (tables : List FileTable) (table : FileTable) → AreDistinct tables → AllByRecursion (λ (other : FileTable). other.schema.name ≢ table.schema.name) tables → AreDistinct (tables ++ table ∷ [])
distinct_more [] table d n = (tt, tt)
distinct_more (first ∷ tables) table d n = (push tables d.0, distinct_more tables table d.1 n.1)
  where
    push : (tables : List FileTable) → AllByRecursion (λ (other : FileTable). first.schema.name ≢ other.schema.name) tables → AllByRecursion (λ (other : FileTable). first.schema.name ≢ other.schema.name) (tables ++ table ∷ [])
    push [] h = (n.0, tt)
    push (second ∷ tables) h = (h.0, push tables h.1)

all_push : {A : Type 0} (P : A → Type 0) (xs : List A) (x : A) → AllByRecursion P xs → P x → AllByRecursion P (xs ++ x ∷ [])
all_push P [] x h p = (p, tt)
all_push P (first ∷ xs) x h p = (h.0, all_push P xs x h.1 p)

pub table_held : (tables : List FileTable) (table : FileTable) (before : List Said) (name : List ℕ) (columns : List ColumnText)
    → HoldsRows tables before → NoRows before → place_named name 0 tables ≡ None → IsSchema (schema_of name columns) → length (schema_of name columns).columns ≤ 16 → table.schema ≡ schema_of name columns
    → rows_of table.nodes.items ≡ replicate (suc (replicas_of before)) [] → AllByRecursion (IsOfKey table.schema.key_len) table.nodes.items
    → HoldsRows (tables ++ table ∷ []) (before ++ TableOf name columns ∷ [])
table_held tables table before name columns h none free is most s r k = record {
  schemas = map-append (λ (t : FileTable). t.schema) tables (table ∷ []) ∙ ap (λ (l : List Schema). l ++ table.schema ∷ []) h.schemas ∙ ap (λ (x : Schema). schemas_of before ++ x ∷ []) s ∙ sym (schemas_more before (TableOf name columns));
  tables = all_push (HoldsTable (before ++ TableOf name columns ∷ [])) tables table (all_on before (TableOf name columns) (λ node t. refl) refl tables h.tables) (record {
    schema = subst IsSchema (sym s) is;
    few = subst (λ (x : Schema). length x.columns ≤ 16) (sym s) most;
    keys = k;
    rows =
        r
        ∙ sym (empty_nodes before table.schema none 0 (suc (replicas_of before)))
        ∙ sym (tables_stay before (TableOf name columns) table.schema (λ node. refl) (nodes_from 0 (suc (replicas_of before))))
        ∙ ap (λ (n : ℕ). map (λ (node : ℕ). table_in (before ++ TableOf name columns ∷ []) node table.schema) (nodes_from 0 (suc n))) (sym (same_replicas before (TableOf name columns) refl));
  });
  distinct = distinct_more tables table h.distinct (subst (λ (x : Schema). AllByRecursion (λ (other : FileTable). other.schema.name ≢ x.name) tables) (sym s) (named_none name 0 tables free));
}

-- ---- a ROW line

keys_same : (key_len : ℕ) (old new : List TableView) → key_lens new ≡ key_lens old → AllByRecursion (IsOfKey key_len) old → AllByRecursion (IsOfKey key_len) new
keys_same key_len [] [] e h = tt
keys_same key_len [] (n ∷ new) e h = absurd cc
keys_same key_len (o ∷ old) [] e h = absurd cc
keys_same key_len (o ∷ old) (n ∷ new) e h = (head_of _ _ _ _ e ∙ h.0, keys_same key_len old new (tail_of _ _ _ _ e) h.1)

put_holds : (before : List Said) (which : Node) (table : List ℕ) (literals : List Literal) (old new : FileTable) → replicas_of before < 2 ^ 32 → bytes_eq old.schema.name table ≡ true
    → IsPut (kept_node which) (map value_of literals) old new → HoldsTable before old → HoldsTable (before ++ RowOf which table literals ∷ []) new
put_holds before which table literals old new few e p h = record {
  schema = subst IsSchema (sym p.schema) h.schema;
  few = subst (λ (x : Schema). length x.columns ≤ 16) (sym p.schema) h.few;
  keys = subst (λ (s : Schema). AllByRecursion (IsOfKey s.key_len) new.nodes.items) (sym p.schema) (keys_same old.schema.key_len old.nodes.items new.nodes.items p.keys h.keys);
  rows =
      p.rows
      ∙ rows_more before which table literals old.schema 0 (suc (replicas_of before)) old.nodes.items e (omega (arith, few)) h.keys h.rows
      ∙ ap (λ (n : ℕ). map (λ (node : ℕ). table_in (before ++ RowOf which table literals ∷ []) node old.schema) (nodes_from 0 (suc n))) (sym (same_replicas before (RowOf which table literals) refl))
      ∙ ap (λ (s : Schema). map (λ (node : ℕ). table_in (before ++ RowOf which table literals ∷ []) node s) (nodes_from 0 (suc (replicas_of (before ++ RowOf which table literals ∷ []))))) (sym p.schema);
}

-- a row for another table
other_none : (which : Node) (table : List ℕ) (literals : List Literal) (name : List ℕ) → bytes_eq name table ≡ false → (node : ℕ) → row_said node name (RowOf which table literals) ≡ []
other_none which table literals name e node = by_named (is_for node which)
  where
    by_named : (b : Bool) → (if b && bytes_eq name table then map value_of literals ∷ [] else []) ≡ []
    by_named true = ap (λ (b : Bool). if b then map value_of literals ∷ [] else []) e
    by_named false = refl

others_on : (before : List Said) (which : Node) (table : List ℕ) (literals : List Literal) (tables : List FileTable) → AllByRecursion (λ (other : FileTable). bytes_eq other.schema.name table ≡ false) tables
    → AllByRecursion (HoldsTable before) tables → AllByRecursion (HoldsTable (before ++ RowOf which table literals ∷ [])) tables
others_on before which table literals [] n h = tt
others_on before which table literals (other ∷ tables) n h = (holds_on before (RowOf which table literals) other (other_none which table literals other.schema.name n.0) refl h.0, others_on before which table literals tables n.1 h.1)

differ : (table : List ℕ) (first : FileTable) (tables : List FileTable) → bytes_eq first.schema.name table ≡ true → AllByRecursion (λ (other : FileTable). first.schema.name ≢ other.schema.name) tables
    → AllByRecursion (λ (other : FileTable). bytes_eq other.schema.name table ≡ false) tables
differ table first [] e d = tt
differ table first (other ∷ tables) e d = (by_test (bytes_eq other.schema.name table) refl, differ table first tables e d.1)
  where
    by_test : (b : Bool) → bytes_eq other.schema.name table ≡ b → bytes_eq other.schema.name table ≡ false
    by_test true f = absurd (d.0 (same_bytes first.schema.name table e ∙ sym (same_bytes other.schema.name table f)))
    by_test false f = f

pub place_least : (name : List ℕ) (first place : ℕ) (tables : List FileTable) → place_named name first tables ≡ Some place → first ≤ place
place_least name first place [] e = absurd cc
place_least name first place (table ∷ tables) e = by_test (bytes_eq table.schema.name name) e (place_least name (suc first) place tables)
  where
    by_test : (b : Bool) → (if b then Some first else place_named name (suc first) tables) ≡ Some place → (place_named name (suc first) tables ≡ Some place → suc first ≤ place) → first ≤ place
    by_test true f go = let g = some_is first place f in omega (arith, g)
    by_test false f go = let g = go f in omega (arith, g)

at_place : (which : Node) (table : List ℕ) (literals : List Literal) (before : List Said) (first place found : ℕ) (tables new : List FileTable) → replicas_of before < 2 ^ 32
    → place_named table first tables ≡ Some found → found ≡ first + place → AreDistinct tables → AllByRecursion (HoldsTable before) tables → IsPutAt place (kept_node which) (map value_of literals) tables new
    → AllByRecursion (HoldsTable (before ++ RowOf which table literals ∷ [])) new
at_place which table literals before first place found [] new few e f d h p = absurd p
at_place which table literals before first place found (old ∷ tables) [] few e f d h p = absurd p
at_place which table literals before first zero found (old ∷ tables) (now ∷ new) few e f d h p = by_test (bytes_eq old.schema.name table) refl e
  where
    by_test : (b : Bool) → bytes_eq old.schema.name table ≡ b → (if b then Some first else place_named table (suc first) tables) ≡ Some found → AllByRecursion (HoldsTable (before ++ RowOf which table literals ∷ [])) (now ∷ new)
    by_test true t g = (
      put_holds before which table literals old now few t p.0 h.0,
      subst (AllByRecursion (HoldsTable (before ++ RowOf which table literals ∷ []))) (sym p.1) (others_on before which table literals tables (differ table old tables t d.0) h.1),
    )
    by_test false t g = let l = place_least table (suc first) found tables g in absurd (omega (arith, l, f))
at_place which table literals before first (suc place) found (old ∷ tables) (now ∷ new) few e f d h p =
    by_test (bytes_eq old.schema.name table) refl e (λ g. at_place which table literals before (suc first) place found tables new few g (omega (arith, f)) d.1 h.1 p.1)
  where
    by_test : (b : Bool) → bytes_eq old.schema.name table ≡ b → (if b then Some first else place_named table (suc first) tables) ≡ Some found
        → (place_named table (suc first) tables ≡ Some found → AllByRecursion (HoldsTable (before ++ RowOf which table literals ∷ [])) new)
        → AllByRecursion (HoldsTable (before ++ RowOf which table literals ∷ [])) (now ∷ new)
    by_test true t g go = let s = some_is first found g in absurd (omega (arith, s, f))
    by_test false t g go = (
      subst (HoldsTable (before ++ RowOf which table literals ∷ [])) (sym p.0) (holds_on before (RowOf which table literals) old (other_none which table literals old.schema.name t) refl h.0),
      go g,
    )

put_schemas : (place : ℕ) (which : Node) (row : List Value) (tables new : List FileTable) → IsPutAt place (kept_node which) row tables new → schemas_in new ≡ schemas_in tables
put_schemas place which row [] new p = absurd p
put_schemas place which row (old ∷ tables) [] p = absurd p
put_schemas zero which row (old ∷ tables) (now ∷ new) p = onto _ _ _ _ p.0.schema (ap schemas_in p.1)
put_schemas (suc place) which row (old ∷ tables) (now ∷ new) p = onto _ _ _ _ (ap (λ (t : FileTable). t.schema) p.0) (put_schemas place which row tables new p.1)

names_same : (name : List ℕ) (tables new : List FileTable) → schemas_in new ≡ schemas_in tables → AllByRecursion (λ (other : FileTable). name ≢ other.schema.name) tables → AllByRecursion (λ (other : FileTable). name ≢ other.schema.name) new
names_same name [] [] e h = tt
names_same name [] (now ∷ new) e h = absurd cc
names_same name (old ∷ tables) [] e h = absurd cc
names_same name (old ∷ tables) (now ∷ new) e h =
    ((λ g. h.0 (g ∙ ap (λ (s : Schema). s.name) (head_of now.schema old.schema (schemas_in new) (schemas_in tables) e))), names_same name tables new (tail_of now.schema old.schema (schemas_in new) (schemas_in tables) e) h.1)

distinct_same : (tables new : List FileTable) → schemas_in new ≡ schemas_in tables → AreDistinct tables → AreDistinct new
distinct_same [] [] e d = tt
distinct_same [] (now ∷ new) e d = absurd cc
distinct_same (old ∷ tables) [] e d = absurd cc
distinct_same (old ∷ tables) (now ∷ new) e d =
    let t = tail_of now.schema old.schema (schemas_in new) (schemas_in tables) e in (
      subst (λ (s : Schema). AllByRecursion (λ (other : FileTable). s.name ≢ other.schema.name) new) (sym (head_of now.schema old.schema (schemas_in new) (schemas_in tables) e)) (names_same old.schema.name tables new t d.0),
      distinct_same tables new t d.1,
    )

pub row_held : (tables new : List FileTable) (before : List Said) (which : Node) (table : List ℕ) (literals : List Literal) (place : ℕ) → HoldsRows tables before → replicas_of before < 2 ^ 32
    → place_named table 0 tables ≡ Some place → IsPutAt place (kept_node which) (map value_of literals) tables new → HoldsRows new (before ++ RowOf which table literals ∷ [])
row_held tables new before which table literals place h few e p = record {
  schemas = put_schemas place which (map value_of literals) tables new p ∙ h.schemas ∙ sym (schemas_more before (RowOf which table literals) ∙ append-nil (schemas_of before));
  tables = at_place which table literals before 0 place place tables new few e (omega arith) h.distinct h.tables p;
  distinct = distinct_same tables new (put_schemas place which (map value_of literals) tables new p) h.distinct;
}
