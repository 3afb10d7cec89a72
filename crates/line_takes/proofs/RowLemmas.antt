-- A row that breaks no rule has a table that takes it.
use Rattle.std.proofs.Common.{◌≡◌, ◌≤◌, ◌+◌, ℕ, zero, suc, Bool, true, false, List, [], ◌∷◌, map, length, Option, Some, None, cond, refl, sym, ap, subst, ◌∙◌, arith}
use Rattle.std.specs.Prelude.{if◌then◌else◌, bytes_eq, ◌==◌, Result, Ok, Err, OnOk, IfOk}
use Rattle.line_words.specs.Items.{kept_node}
use Rattle.std.specs.List.{AllByRecursion}
use Rattle.std.proofs.lemmas.Bool.Decides.{nat_tests}
use Rattle.row_types.specs.declared.values.Value.{Value}
use Rattle.row_types.specs.declared.row_faults.RowFault.{RowFault}
use Rattle.row_types.specs.declared.row_faults.RowFault.TheVariants.{Arity}
use Rattle.row_types.specs.declared.table_schema.Schema.{Schema}
use Rattle.row_types.specs.KeyRows.{HasKey}
use Rattle.row_types.specs.Fit.{RowFits as ValuesFit, IsSchema}
use Rattle.row_types.specs.Faults.{row_fault, first_fault}
use Rattle.row_types.proofs.FaultLemmas.{faultless_fits, as_long}
use Rattle.row_types.proofs.SchemaRowLemmas.{fitting_key}
use Rattle.ordered_table.specs.TableView.{TableView}
use Rattle.file_text.specs.declared.places.Section.TheVariants.{TableLines, RowLines}
use Rattle.file_text.specs.Said.{Said, RowOf, Node, Literal, value_of}
use Rattle.file_text.specs.Context.{schemas_of}
use Rattle.file_text.specs.Causes.{NodeIsDeclared, schema_named}
use Rattle.line_items.specs.declared.found_items.LineItem.{LineItem}
use Rattle.line_values.specs.declared.row_texts.RowText.{RowText}
use Rattle.line_values.specs.Tables.{schema_in}
use Rattle.line_values.specs.Rows.{row_in}
use Rattle.line_values.specs.Lines.{row_said, Gives}
use Rattle.cause_laws.specs.Clear.{RowFits, NamesDeclared}
use Rattle.file_laws.proofs.FitLemmas.{some_is}
use Rattle.file_rows.specs.declared.file_tables.FileTable.{FileTable}
use Rattle.file_rows.specs.NodeRows.{TakeRow}
use Rattle.file_rows.specs.Holds.{schemas_in, IsOfKey, HoldsTable, HoldsRows}
use Rattle.file_rows.specs.Puts.{place_named, TakesAt}
use Rattle.file_rows.proofs.HoldLemmas.{place_least}
use Rattle.file_rows.proofs.ThereLemmas.{no_table}
use Rattle.line_decisions.specs.Decides.{Decides}
use Rattle.file_state.specs.declared.states.FileState.{FileState}
use Rattle.file_state.specs.Keeps.{Keeps, LeadsTo}
use Rattle.line_takes.specs.Takes.{IsNext, HasPlace, IsPutOf}
use Rattle.line_takes.proofs.TakeLemmas.{said_of, table_only, row_only}

-- ---- a row without a fault fits

fits : (schema : Schema) (row : List Value) → row_fault schema row ≡ None → ValuesFit schema row
fits schema row e = by_length (length row == length schema.columns) refl
  where
    by_length : (b : Bool) → (length row == length schema.columns) ≡ b → ValuesFit schema row
    by_length true l =
        let same : length row ≡ length schema.columns = grind (arith, nat_tests, l) in
        faultless_fits schema row same (sym (as_long schema row same) ∙ e)
    by_length false l = absurd (some_none (subst (λ (b : Bool). cond b (first_fault 0 schema.columns row) (Some (Arity (length row) (length schema.columns))) ≡ None) l e))
      where
        some_none : Some (Arity (length row) (length schema.columns)) ≡ None → ⊥
        some_none f = cc

all_take : (schema : Schema) (row : List Value) (tables : List TableView) → HasKey schema.key_len row → AllByRecursion (IsOfKey schema.key_len) tables → TakeRow row tables
all_take schema row [] h k = tt
all_take schema row (table ∷ tables) h k = (subst (λ (n : ℕ). HasKey n row) (sym k.0) h, all_take schema row tables h k.1)

-- the table of the name takes what each table of that schema takes
takes_named : (before : List Said) (row : List Value) (name : List ℕ) (first place found : ℕ) (tables : List FileTable) → place_named name first tables ≡ Some found → found ≡ first + place → AllByRecursion (HoldsTable before) tables
    → ((table : FileTable) → HoldsTable before table → schema_named name (schemas_in tables) ≡ Some table.schema → TakeRow row table.nodes.items) → TakesAt place row tables
takes_named before row name first place found [] e f h t = absurd cc
takes_named before row name first zero found (table ∷ tables) e f h t = by_test (bytes_eq table.schema.name name) refl e
  where
    by_test : (b : Bool) → bytes_eq table.schema.name name ≡ b → (if b then Some first else place_named name (suc first) tables) ≡ Some found → TakeRow row table.nodes.items
    by_test true b g = t table h.0 (ap (λ (x : Bool). if x then Some table.schema else schema_named name (schemas_in tables)) b)
    by_test false b g = let l = place_least name (suc first) found tables g in absurd (omega (arith, l, f))
takes_named before row name first (suc place) found (table ∷ tables) e f h t =
    by_test (bytes_eq table.schema.name name) refl e (λ g u. takes_named before row name (suc first) place found tables g (omega (arith, f)) h.1 u)
  where
    by_test : (b : Bool) → bytes_eq table.schema.name name ≡ b → (if b then Some first else place_named name (suc first) tables) ≡ Some found
        → (place_named name (suc first) tables ≡ Some found → ((other : FileTable) → HoldsTable before other → schema_named name (schemas_in tables) ≡ Some other.schema → TakeRow row other.nodes.items) → TakesAt place row tables)
        → TakesAt place row tables
    by_test true b g go = let s = some_is first found g in absurd (omega (arith, s, f))
    by_test false b g go = go g (λ other k u. t other k (ap (λ (x : Bool). if x then Some table.schema else schema_named name (schemas_in tables)) b ∙ u))

-- ---- the row of a line that breaks no rule

takes_fitting : (before : List Said) (node : Node) (name : List ℕ) (literals : List Literal) (tables : List FileTable) → schemas_in tables ≡ schemas_of before → RowFits before (RowOf node name literals)
    → (table : FileTable) → HoldsTable before table → schema_named name (schemas_in tables) ≡ Some table.schema → TakeRow (map value_of literals) table.nodes.items
takes_fitting before node name literals tables s r table h e = by_fault (row_fault table.schema (map value_of literals)) refl
  where
    by_fault : (found : Option RowFault) → row_fault table.schema (map value_of literals) ≡ found → TakeRow (map value_of literals) table.nodes.items
    by_fault None f = all_take table.schema (map value_of literals) table.nodes.items (fitting_key table.schema (map value_of literals) h.schema (fits table.schema (map value_of literals) f)) h.keys
    by_fault (Some fault) f = absurd (r fault (record { schema = table.schema; table_is = ap (schema_named name) (sym s) ∙ e; fault_is = f }))

place_there : (before : List Said) (node : Node) (name : List ℕ) (literals : List Literal) (tables : List FileTable) → HoldsRows tables before → NamesDeclared before (RowOf node name literals) → (place : ℕ) × (place_named name 0 tables ≡ Some place)
place_there before node name literals tables h n = by_place (place_named name 0 tables) refl
  where
    by_place : (found : Option ℕ) → place_named name 0 tables ≡ found → (place : ℕ) × (place_named name 0 tables ≡ Some place)
    by_place (Some place) e = (place, e)
    by_place None e = absurd (n 0 (λ (d : NodeIsDeclared before node). n 1 (d, no_table tables before name h e)))

said_place : (state : FileState) (before : List Said) (line : List ℕ) (node : Node) (name : List ℕ) (literals : List Literal) → Keeps state before → Decides RowLines before line (RowOf node name literals) None → HasPlace state (row_said node name literals)
said_place state before line node name literals k d =
    let p = place_there before node name literals state.rows.tables.items k.rows d.actor in
    record {
      place = p.0;
      named = p.1;
      takes = takes_named before (map value_of literals) name 0 p.0 p.0 state.rows.tables.items p.1 (omega arith) k.rows.tables (takes_fitting before node name literals state.rows.tables.items k.rows.schemas d.row);
    }

pub has_place : (state : FileState) (line : List ℕ) (items : List LineItem) (row : RowText) → row ≡ row_in items → (n : IsNext RowLines state line items)
    → ((node : Node) (table : List ℕ) (literals : List Literal) → Gives (RowOf node table literals) items → Decides RowLines n.before line (RowOf node table literals) None) → HasPlace state row
has_place state line items row e n d =
    let s = said_of RowLines n.before line items n.is in
    row_only (λ (said : Said). Gives said items → HasPlace state row) s.said s.of
    (λ node table literals g. subst (HasPlace state) (sym (e ∙ g.is)) (said_place state n.before line node table literals n.keeps (d node table literals g))) s.gives

-- ---- the schema of a TABLE line

pub record TableSchema (items : List LineItem) : Type 0 where
  pub schema : IsSchema (schema_in items)
  pub few : length (schema_in items).columns ≤ 16

pub table_schema : (state : FileState) (line : List ℕ) (items : List LineItem) → IsNext TableLines state line items → TableSchema items
table_schema state line items n =
    let s = said_of TableLines n.before line items n.is in
    table_only (λ (said : Said). Gives said items → TableSchema items) s.said s.of
    (λ name columns g. record { schema = subst IsSchema (sym g.is) g.fits; few = subst (λ (x : Schema). length x.columns ≤ 16) (sym g.is) g.few }) s.gives

-- ---- a row that is put

ok_as : {T E : Type 0} (r : Result T E) (A B : Type 0) → OnOk r A → (A → B) → IfOk r (λ (done : T). B)
ok_as (Ok x) A B a f = f a
ok_as (Err x) A B a f = tt

pub is_put : {T E : Type 0} (r : Result T E) (row : RowText) (old new : FileState) (place : ℕ) → place_named row.table 0 old.rows.tables.items ≡ Some place
    → OnOk r ((node : Node) (table : List ℕ) (literals : List Literal) → row.node ≡ kept_node node → row.values ≡ map value_of literals → place_named table 0 old.rows.tables.items ≡ Some place → LeadsTo (RowOf node table literals) old new)
    → IfOk r (λ (done : T). IsPutOf row old new)
is_put r row old new place p a = ok_as r _ (IsPutOf row old new) a (λ f node table literals e.
    f node table literals (ap (λ (x : RowText). x.node) e) (ap (λ (x : RowText). x.values) e) (ap (λ (x : RowText). place_named x.table 0 old.rows.tables.items) (sym e) ∙ p))
