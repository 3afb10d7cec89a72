-- Whether a table, and a row, is there.
use Rattle.std.proofs.Common.{◌≡◌, ◌<◌, ◌≤◌, ◌+◌, ℕ, zero, suc, Bool, true, false, List, [], ◌∷◌, ◌++◌, map, length, take, Option, Some, None, refl, sym, ap, subst, ◌∙◌, arith, slice_index_or, inl, inr, leb, leb-true, leb-false, ◌^◌}
use Rattle.std.specs.Prelude.{◌&&◌, ◌||◌, bytes_eq, if◌then◌else◌, is_some, cond}
use Rattle.std.specs.List.{AllByRecursion, flat_map}
use Rattle.std.specs.Ordering.{is_eq}
use Rattle.row_types.specs.declared.values.Value.{Value}
use Rattle.row_types.specs.declared.table_schema.Schema.{Schema}
use Rattle.row_types.specs.KeyRows.{Row, Rows, is_at, row_at}
use Rattle.row_types.specs.Fit.{with_row, with_rows}
use Rattle.row_types.proofs.KeyRowLemmas.{same_key, put_at}
use Rattle.row_types.proofs.OrderLemmas.{key_tied}
use Rattle.ordered_table.specs.TableView.{TableView}
use Rattle.file_text.specs.Said.{Said, RowOf, Node, Literal, value_of}
use Rattle.file_text.specs.Context.{schemas_of, replicas_of}
use Rattle.file_text.specs.Causes.{is_for, key_in, HasKey, SomeSaid, schema_named, SchemaIs, RowIsThere}
use Rattle.file_text.specs.File.{row_said, table_in, nodes_from}
use Rattle.line_words.specs.Items.{kept_node}
use Rattle.file_laws.proofs.FitLemmas.{some_is, none_some, head_of, tail_of}
use Rattle.file_laws.proofs.TestLemmas.{either, or_right, or_left, both}
use Rattle.file_rows.specs.declared.file_tables.FileTable.{FileTable}
use Rattle.file_rows.specs.NodeRows.{is_for_word, rows_of, has_at, any_has}
use Rattle.file_rows.specs.Holds.{schemas_in, IsOfKey, HoldsTable, HoldsRows}
use Rattle.file_rows.specs.Puts.{place_named}
use Rattle.file_rows.proofs.NumberLemmas.{most, same_nodes}
use Rattle.file_rows.proofs.HoldLemmas.{place_least, same_bytes, bytes_self}

-- ---- the table of a name

none_named : (name : List ℕ) (place : ℕ) (tables : List FileTable) → place_named name place tables ≡ None → schema_named name (schemas_in tables) ≡ None
none_named name place [] e = refl
none_named name place (table ∷ tables) e = by_test (bytes_eq table.schema.name name) e (none_named name (suc place) tables)
  where
    by_test : (b : Bool) → (if b then Some place else place_named name (suc place) tables) ≡ None → (place_named name (suc place) tables ≡ None → schema_named name (schemas_in tables) ≡ None)
        → (if b then Some table.schema else schema_named name (schemas_in tables)) ≡ None
    by_test true f go = absurd cc
    by_test false f go = go f

pub no_table : (tables : List FileTable) (before : List Said) (name : List ℕ) → HoldsRows tables before → place_named name 0 tables ≡ None → (schema : Schema) → SchemaIs before name schema → ⊥
no_table tables before name h e schema s = none_some (schema_named name (schemas_of before)) schema (ap (schema_named name) (sym h.schemas) ∙ none_named name 0 tables e) s

some_named : (name : List ℕ) (first place : ℕ) (tables : List FileTable) → place_named name first tables ≡ Some place → (schema : Schema) × (schema_named name (schemas_in tables) ≡ Some schema)
some_named name first place [] e = absurd cc
some_named name first place (table ∷ tables) e = by_test (bytes_eq table.schema.name name) e (some_named name (suc first) place tables)
  where
    by_test : (b : Bool) → (if b then Some first else place_named name (suc first) tables) ≡ Some place → (place_named name (suc first) tables ≡ Some place → (schema : Schema) × (schema_named name (schemas_in tables) ≡ Some schema))
        → (schema : Schema) × ((if b then Some table.schema else schema_named name (schemas_in tables)) ≡ Some schema)
    by_test true f go = (table.schema, refl)
    by_test false f go = go f

pub name_there : (tables : List FileTable) (before : List Said) (name : List ℕ) (place : ℕ) → HoldsRows tables before → place_named name 0 tables ≡ Some place → (schema : Schema) × SchemaIs before name schema
name_there tables before name place h e = let s = some_named name 0 place tables e in (s.0, ap (schema_named name) (sym h.schemas) ∙ s.1)

-- the table at the place
pub record TableAt (before : List Said) (name : List ℕ) (table : FileTable) : Type 0 where
  pub schema : SchemaIs before name table.schema
  pub holds : HoldsTable before table

at_name : (name : List ℕ) (first place found : ℕ) (tables : List FileTable) (table : FileTable) (P : FileTable → Type 0) → place_named name first tables ≡ Some found → found ≡ first + place
    → table ≡ slice_index_or tables place table → AllByRecursion P tables → (schema_named name (schemas_in tables) ≡ Some table.schema) × P table
at_name name first place found [] table P e f t h = absurd cc
at_name name first zero found (one ∷ tables) table P e f t h = by_test (bytes_eq one.schema.name name) e
  where
    by_test : (b : Bool) → (if b then Some first else place_named name (suc first) tables) ≡ Some found → ((if b then Some one.schema else schema_named name (schemas_in tables)) ≡ Some table.schema) × P table
    by_test true g = (ap (λ (x : FileTable). Some x.schema) (sym t), subst P (sym t) h.0)
    by_test false g = let l = place_least name (suc first) found tables g in absurd (omega (arith, l, f))
at_name name first (suc place) found (one ∷ tables) table P e f t h = by_test (bytes_eq one.schema.name name) e (λ g. at_name name (suc first) place found tables table P g (omega (arith, f)) t h.1)
  where
    by_test : (b : Bool) → (if b then Some first else place_named name (suc first) tables) ≡ Some found
        → (place_named name (suc first) tables ≡ Some found → (schema_named name (schemas_in tables) ≡ Some table.schema) × P table)
        → ((if b then Some one.schema else schema_named name (schemas_in tables)) ≡ Some table.schema) × P table
    by_test true g go = let s = some_is first found g in absurd (omega (arith, s, f))
    by_test false g go = go g

pub table_at : (tables : List FileTable) (before : List Said) (name : List ℕ) (place : ℕ) (table : FileTable) → HoldsRows tables before → place_named name 0 tables ≡ Some place → table ≡ slice_index_or tables place table → TableAt before name table
table_at tables before name place table h e t =
    let p = at_name name 0 place place tables table (HoldsTable before) e (omega arith) t h.tables in
    record { schema = ap (schema_named name) (sym h.schemas) ∙ p.0; holds = p.1 }

pub place_within : (name : List ℕ) (first place : ℕ) (tables : List FileTable) → place_named name first tables ≡ Some place → place < first + length tables
place_within name first place [] e = absurd cc
place_within name first place (table ∷ tables) e = by_test (bytes_eq table.schema.name name) e (place_within name (suc first) place tables)
  where
    by_test : (b : Bool) → (if b then Some first else place_named name (suc first) tables) ≡ Some place → (place_named name (suc first) tables ≡ Some place → place < suc first + length tables) → place < first + suc (length tables)
    by_test true f go = let g = some_is first place f in omega (arith, g)
    by_test false f go = let g = go f in omega (arith, g)

-- ---- a row's key in a table

abbrev any_at : ℕ → List Value → Rows → Bool
any_at key_len key [] = false
any_at key_len key (row ∷ rows) = is_at key_len key row || any_at key_len key rows

or_turn : (a b c : Bool) → (b || (a || c)) ≡ ((a || b) || c)
or_turn true true c = refl
or_turn true false c = refl
or_turn false true c = refl
or_turn false false c = refl

cond_some : (b : Bool) (row : Row) (rest : Option Row) → is_some (cond b (Some row) rest) ≡ (b || is_some rest)
cond_some true row rest = refl
cond_some false row rest = refl

rows_at : (schema : Schema) (key : List Value) (start rows : Rows) → is_some (row_at schema.key_len key (with_rows schema start rows)) ≡ (any_at schema.key_len key rows || is_some (row_at schema.key_len key start))
rows_at schema key start [] = refl
rows_at schema key start (row ∷ rows) =
    rows_at schema key (with_row schema row start) rows
    ∙ ap (λ (b : Bool). any_at schema.key_len key rows || b) (ap is_some (put_at schema.key_len key row start) ∙ cond_some (is_at schema.key_len key row) row (row_at schema.key_len key start))
    ∙ or_turn (is_at schema.key_len key row) (any_at schema.key_len key rows) (is_some (row_at schema.key_len key start))

any_append : (key_len : ℕ) (key : List Value) (xs ys : Rows) → any_at key_len key (xs ++ ys) ≡ (any_at key_len key xs || any_at key_len key ys)
any_append key_len key [] ys = refl
any_append key_len key (x ∷ xs) ys = ap (λ (b : Bool). is_at key_len key x || b) (any_append key_len key xs ys) ∙ or_assoc (is_at key_len key x) (any_at key_len key xs) (any_at key_len key ys)
  where
    or_assoc : (a b c : Bool) → (a || (b || c)) ≡ ((a || b) || c)
    or_assoc true b c = refl
    or_assoc false b c = refl

-- ---- the line that said it

-- whether a line gives a row of this key
abbrev gives_key : Schema → List Value → ℕ → Said → Bool
gives_key schema key node said = any_at schema.key_len key (row_said node schema.name said)

gives_is : (schema : Schema) (key : List Value) (node : ℕ) (said : Said) → gives_key schema key node said ≡ true → HasKey schema schema.name key node said
gives_is schema key node (RowOf which other literals) e = by_named (is_for node which) (bytes_eq schema.name other) refl refl e
  where
    by_named : (b c : Bool) → is_for node which ≡ b → bytes_eq schema.name other ≡ c → any_at schema.key_len key (if b && c then map value_of literals ∷ [] else []) ≡ true → HasKey schema schema.name key node (RowOf which other literals)
    by_named true true f g h = record {
      which = which;
      literals = literals;
      is = ap (λ (t : List ℕ). RowOf which t literals) (sym (same_bytes schema.name other g));
      there = f;
      same = sym (same_key key (take schema.key_len (map value_of literals)) (or_none (is_at schema.key_len key (map value_of literals)) h));
    }
      where
        or_none : (a : Bool) → (a || false) ≡ true → a ≡ true
        or_none true e = refl
        or_none false e = absurd cc
    by_named true false f g h = absurd cc
    by_named false c f g h = absurd cc
gives_is schema key node _ e = absurd cc

is_gives : (schema : Schema) (key : List Value) (node : ℕ) (said : Said) → HasKey schema schema.name key node said → gives_key schema key node said ≡ true
is_gives schema key node said h = ap (gives_key schema key node) h.is ∙ ap (λ (b : Bool). any_at schema.key_len key (if b then map value_of h.literals ∷ [] else [])) named ∙ or_left (is_at schema.key_len key (map value_of h.literals)) false at_key
  where
    named : (is_for node h.which && bytes_eq schema.name schema.name) ≡ true
    named = ap (λ (b : Bool). b && bytes_eq schema.name schema.name) h.there ∙ bytes_self schema.name

    at_key : is_at schema.key_len key (map value_of h.literals) ≡ true
    at_key = ap is_eq (key_tied key (take schema.key_len (map value_of h.literals)) (sym h.same))

found : (schema : Schema) (key : List Value) (node : ℕ) (before : List Said) → any_at schema.key_len key (flat_map (row_said node schema.name) before) ≡ true → SomeSaid before (HasKey schema schema.name key node)
found schema key node [] e = absurd cc
found schema key node (said ∷ before) e =
    elim (either (gives_key schema key node said) (any_at schema.key_len key (flat_map (row_said node schema.name) before)) (sym (any_append schema.key_len key (row_said node schema.name said) (flat_map (row_said node schema.name) before)) ∙ e)) [
      | inl f ↦ record { front = []; said = said; back = before; is = refl; does = gives_is schema key node said f }
      | inr f ↦ let s = found schema key node before f in record { front = said ∷ s.front; said = s.said; back = s.back; is = ap (λ (l : List Said). said ∷ l) s.is; does = s.does }
    ]

at_front : (schema : Schema) (key : List Value) (node : ℕ) (front : List Said) (said : Said) (back : List Said) → HasKey schema schema.name key node said → any_at schema.key_len key (flat_map (row_said node schema.name) (front ++ said ∷ back)) ≡ true
at_front schema key node [] said back h =
    any_append schema.key_len key (row_said node schema.name said) (flat_map (row_said node schema.name) back) ∙ or_left (gives_key schema key node said) (any_at schema.key_len key (flat_map (row_said node schema.name) back)) (is_gives schema key node said h)
at_front schema key node (first ∷ front) said back h =
    any_append schema.key_len key (row_said node schema.name first) (flat_map (row_said node schema.name) (front ++ said ∷ back))
    ∙ or_right (gives_key schema key node first) (any_at schema.key_len key (flat_map (row_said node schema.name) (front ++ said ∷ back))) (at_front schema key node front said back h)

is_found : (schema : Schema) (key : List Value) (node : ℕ) (before : List Said) → SomeSaid before (HasKey schema schema.name key node) → any_at schema.key_len key (flat_map (row_said node schema.name) before) ≡ true
is_found schema key node before s = ap (λ (l : List Said). any_at schema.key_len key (flat_map (row_said node schema.name) l)) s.is ∙ at_front schema key node s.front s.said s.back s.does

or_none : (b : Bool) → (b || false) ≡ b
or_none true = refl
or_none false = refl

-- the table has a row at the key exactly where a line said it
in_table : (before : List Said) (node : ℕ) (schema : Schema) (key : List Value) → is_some (row_at schema.key_len key (table_in before node schema)) ≡ any_at schema.key_len key (flat_map (row_said node schema.name) before)
in_table before node schema key = rows_at schema key [] (flat_map (row_said node schema.name) before) ∙ or_none (any_at schema.key_len key (flat_map (row_said node schema.name) before))

-- ---- on the nodes that a word names

pub record IsThere (before : List Said) (which : Node) (schema : Schema) (key : List Value) (first count : ℕ) : Type 0 where
  pub node : ℕ
  pub least : first ≤ node
  pub within : node < first + count
  pub among : is_for node which ≡ true
  pub said : SomeSaid before (HasKey schema schema.name key node)

has_same : (before : List Said) (schema : Schema) (key : List Value) (node : ℕ) (view : TableView) → view.key_len ≡ schema.key_len → view.rows ≡ table_in before node schema
    → has_at key view ≡ any_at schema.key_len key (flat_map (row_said node schema.name) before)
has_same before schema key node view k r = ap (λ (n : ℕ). is_some (row_at n key view.rows)) k ∙ ap (λ (rows : Rows). is_some (row_at schema.key_len key rows)) r ∙ in_table before node schema key

any_there : (before : List Said) (which : Node) (schema : Schema) (key : List Value) (first count : ℕ) (tables : List TableView) → first + count < most → AllByRecursion (IsOfKey schema.key_len) tables
    → rows_of tables ≡ map (λ (n : ℕ). table_in before n schema) (nodes_from first count) → any_has (kept_node which) key first tables ≡ true → IsThere before which schema key first count
any_there before which schema key first zero [] lt k r e = absurd cc
any_there before which schema key first zero (view ∷ tables) lt k r e = absurd cc
any_there before which schema key first (suc count) [] lt k r e = absurd cc
any_there before which schema key first (suc count) (view ∷ tables) lt k r e =
    elim (either (is_for_word (kept_node which) first && has_at key view) (any_has (kept_node which) key (suc first) tables) e) [
      | inl f ↦
          let p = both (is_for_word (kept_node which) first) (has_at key view) f in
          record {
            node = first;
            least = omega arith;
            within = omega arith;
            among = sym (same_nodes which first (omega (arith, lt))) ∙ p.0;
            said = found schema key first before (sym (has_same before schema key first view k.0 (head_of _ _ _ _ r)) ∙ p.1);
          }
      | inr f ↦
          let t = any_there before which schema key (suc first) count tables (omega (arith, lt)) k.1 (tail_of _ _ _ _ r) f in
          let l = t.least in
          let w = t.within in
          record { node = t.node; least = omega (arith, l); within = omega (arith, w); among = t.among; said = t.said }
    ]

there_any : (before : List Said) (which : Node) (schema : Schema) (key : List Value) (first count : ℕ) (tables : List TableView) → first + count < most → AllByRecursion (IsOfKey schema.key_len) tables
    → rows_of tables ≡ map (λ (n : ℕ). table_in before n schema) (nodes_from first count) → IsThere before which schema key first count → any_has (kept_node which) key first tables ≡ true
there_any before which schema key first zero tables lt k r t = let l = t.least in let w = t.within in absurd (omega (arith, l, w))
there_any before which schema key first (suc count) [] lt k r t = absurd cc
there_any before which schema key first (suc count) (view ∷ tables) lt k r t =
    by_test (leb (suc first) t.node) refl (λ s. there_any before which schema key (suc first) count tables (omega (arith, lt)) k.1 (tail_of _ _ _ _ r) s)
  where
    by_test : (b : Bool) → leb (suc first) t.node ≡ b → (IsThere before which schema key (suc first) count → any_has (kept_node which) key (suc first) tables ≡ true)
        → ((is_for_word (kept_node which) first && has_at key view) || any_has (kept_node which) key (suc first) tables) ≡ true
    by_test true e go =
        let w = t.within in
        or_right (is_for_word (kept_node which) first && has_at key view) (any_has (kept_node which) key (suc first) tables)
        (go (record { node = t.node; least = leb-true (suc first) t.node e; within = omega (arith, w); among = t.among; said = t.said }))
    by_test false e go =
        let l = t.least in
        let g = leb-false (suc first) t.node e in
        let n : t.node ≡ first = omega (arith, l, g) in
        or_left (is_for_word (kept_node which) first && has_at key view) (any_has (kept_node which) key (suc first) tables)
        (ap (λ (b : Bool). b && has_at key view) (same_nodes which first (omega (arith, lt)) ∙ subst (λ (m : ℕ). is_for m which ≡ true) n t.among)
        ∙ has_same before schema key first view k.0 (head_of _ _ _ _ r)
        ∙ is_found schema key first before (subst (λ (m : ℕ). SomeSaid before (HasKey schema schema.name key m)) n t.said))

-- ---- the rule on keys that are there

small : (count : ℕ) → count < 2 ^ 32 → 0 + suc count < most
small count h = omega (arith, h)

same_name : (name : List ℕ) (schemas : List Schema) (schema : Schema) → schema_named name schemas ≡ Some schema → schema.name ≡ name
same_name name [] schema e = absurd cc
same_name name (first ∷ schemas) schema e = by_test (bytes_eq first.name name) refl e (same_name name schemas schema)
  where
    by_test : (b : Bool) → bytes_eq first.name name ≡ b → (if b then Some first else schema_named name schemas) ≡ Some schema → (schema_named name schemas ≡ Some schema → schema.name ≡ name) → schema.name ≡ name
    by_test true t f go = subst (λ (s : Schema). s.name ≡ name) (some_is first schema f) (same_bytes first.name name t)
    by_test false t f go = go f

pub said_there : (before : List Said) (which : Node) (name : List ℕ) (literals : List Literal) (table : FileTable) → TableAt before name table → replicas_of before < 2 ^ 32 → table.schema.key_len ≤ length literals
    → any_has (kept_node which) (key_in table.schema (map value_of literals)) 0 table.nodes.items ≡ true → RowIsThere before which name literals
said_there before which name literals table t few whole e =
    let s = any_there before which table.schema (key_in table.schema (map value_of literals)) 0 (suc (replicas_of before)) table.nodes.items (small (replicas_of before) few) t.holds.keys t.holds.rows e in
    let w = s.within in
    record {
      schema = table.schema;
      table_is = t.schema;
      whole = whole;
      node = s.node;
      among = s.among;
      declared = omega (arith, w);
      there = subst (λ (n : List ℕ). SomeSaid before (HasKey table.schema n (key_in table.schema (map value_of literals)) s.node)) (same_name name (schemas_of before) table.schema t.schema) s.said;
    }

pub there_said : (before : List Said) (which : Node) (name : List ℕ) (literals : List Literal) (table : FileTable) → TableAt before name table → replicas_of before < 2 ^ 32
    → RowIsThere before which name literals → (table.schema.key_len ≤ length literals) × (any_has (kept_node which) (key_in table.schema (map value_of literals)) 0 table.nodes.items ≡ true)
there_said before which name literals table t few r =
    let s : r.schema ≡ table.schema = some_is r.schema table.schema (sym r.table_is ∙ t.schema) in
    let d = r.declared in (
      subst (λ (x : Schema). x.key_len ≤ length literals) s r.whole,
      there_any before which table.schema (key_in table.schema (map value_of literals)) 0 (suc (replicas_of before)) table.nodes.items (small (replicas_of before) few) t.holds.keys t.holds.rows (record {
        node = r.node;
        least = omega arith;
        within = omega (arith, d);
        among = r.among;
        said = subst (λ (n : List ℕ). SomeSaid before (HasKey table.schema n (key_in table.schema (map value_of literals)) r.node)) (sym (same_name name (schemas_of before) table.schema t.schema))
            (subst (λ (x : Schema). SomeSaid before (HasKey x name (key_in x (map value_of literals)) r.node)) s r.there);
      }),
    )
