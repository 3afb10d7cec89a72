-- ROW lines: rows that are there, that do not fit, and nodes and tables that are not declared.
use Rattle.std.proofs.Common.{◌≡◌, ◌<◌, ◌≤◌, ◌^◌, ℕ, zero, suc, Bool, true, false, List, map, length, take, Option, Some, None, refl, sym, ap, subst, ◌∙◌, arith, leb, leb-true, slice_index_or}
use Rattle.std.specs.Prelude.{MatchOption, if◌then◌else◌}
use Rattle.std.specs.List.{AllByRecursion}
use Rattle.std.proofs.lemmas.List.{length-map}
use Rattle.row_types.specs.declared.table_schema.Schema.{Schema}
use Rattle.row_types.specs.declared.row_faults.RowFault.{RowFault}
use Rattle.row_types.specs.Faults.{IsShort, TextIsShort, row_fault}
use Rattle.file_text.specs.declared.places.Section.TheVariants.{RowLines}
use Rattle.file_text.specs.Said.{Said, RowOf, Node, Literal, value_of}
use Rattle.file_text.specs.Context.{replicas_of}
use Rattle.file_text.specs.Causes.{IsSaidAgain, SchemaIs, RowIsThere, Undeclared}
use Rattle.line_words.specs.Items.{kept_node}
use Rattle.line_values.specs.declared.row_texts.RowText.{RowText}
use Rattle.line_values.specs.Lines.{row_said}
use Rattle.cause_laws.specs.Clear.{MisfitsRow, RowFits, NamesDeclared}
use Rattle.line_checks.specs.declared.line_faults.LineFault.{LineFault}
use Rattle.line_checks.specs.declared.marks.Marks.{Marks}
use Rattle.line_checks.specs.MarksOf.{IsMarked}
use Rattle.file_laws.proofs.FitLemmas.{some_is, none_some, true_false}
use Rattle.file_laws.proofs.TestLemmas.{both, and_true, le_true}
use Rattle.file_rows.specs.declared.file_tables.FileTable.{FileTable}
use Rattle.file_rows.specs.NodeRows.{any_has}
use Rattle.file_rows.specs.Holds.{HoldsRows}
use Rattle.file_rows.specs.Puts.{place_named}
use Rattle.file_rows.proofs.ThereLemmas.{TableAt, no_table, table_at, said_there, there_said}
use Rattle.file_scripts.specs.Declarations.{declares_node}
use Rattle.file_scripts.specs.Laws.{Tells}
use Rattle.file_scripts.proofs.DeclareLemmas.{node_there, node_absent}
use Rattle.line_decisions.specs.Decides.{Decides}
use Rattle.line_decisions.specs.Tests.{first_broken, part_at}
use Rattle.line_decisions.specs.Rows.{node_actor, unknown_actor, row_twice, row_tests}
use Rattle.line_decisions.proofs.ToldLemmas.{NamesNobody, decided, script_told}

small : (n : ℕ) → n < 2 ^ 32 → n ≤ 2 ^ 64
small n h = omega (arith, h)

-- ---- no such table

unknown_told : (marks : Marks) (before : List Said) (line : List ℕ) (node : Node) (table : List ℕ) (literals : List Literal) → marks.replicas < 2 ^ 32 → IsMarked marks before → ((schema : Schema) → SchemaIs before table schema → ⊥)
    → MatchOption (unknown_actor marks.replicas line (kept_node node)) (NamesDeclared before (RowOf node table literals)) (λ place. NamesNobody RowLines before line (RowOf node table literals) place)
unknown_told marks before line node table literals few m never = by_test (declares_node marks.replicas (kept_node node)) refl
  where
    by_test : (b : Bool) → declares_node marks.replicas (kept_node node) ≡ b
        → MatchOption (if b then Some (part_at RowLines line 1) else Some (part_at RowLines line 0)) (NamesDeclared before (RowOf node table literals)) (λ place. NamesNobody RowLines before line (RowOf node table literals) place)
    by_test true t = record { number = 1; who = (node_there before marks.replicas node m.replicas (small marks.replicas few) t, never); is = refl }
    by_test false t = record { number = 0; who = node_absent before marks.replicas node m.replicas (small marks.replicas few) t; is = refl }

pub unknown_decided : (marks : Marks) (tables : List FileTable) (line : List ℕ) (row : RowText) (result : Option LineFault) → marks.replicas < 2 ^ 32 → place_named row.table 0 tables ≡ None
    → result ≡ first_broken (row_tests false None (unknown_actor marks.replicas line row.node) marks)
    → (before : List Said) (node : Node) (table : List ℕ) (literals : List Literal) → IsMarked marks before → HoldsRows tables before → row ≡ row_said node table literals → Decides RowLines before line (RowOf node table literals) result
unknown_decided marks tables line row result few p e before node table literals m h r =
    decided RowLines before line (RowOf node table literals) (row_tests false None (unknown_actor marks.replicas line (kept_node node)) marks) result
    (e ∙ ap (λ (x : RowText). first_broken (row_tests false None (unknown_actor marks.replicas line x.node) marks)) r) (record {
      twice = λ w. never w.schema w.table_is;
      level = λ w. w;
      row = λ fault w. never w.schema w.table_is;
      script = script_told RowLines before (RowOf node table literals) marks m refl;
      actor = unknown_told marks before line node table literals few m never;
    })
  where
    never : (schema : Schema) → SchemaIs before table schema → ⊥
    never = no_table tables before table h (ap (λ (x : RowText). place_named x.table 0 tables) (sym r) ∙ p)

-- ---- a table that is there

twice_told : (before : List Said) (table : FileTable) (node : Node) (name : List ℕ) (literals : List Literal) → replicas_of before < 2 ^ 32 → TableAt before name table → Tells (row_twice table (row_said node name literals)) (IsSaidAgain before (RowOf node name literals))
twice_told before table node name literals few t = by_test (row_twice table (row_said node name literals)) refl
  where
    by_test : (b : Bool) → row_twice table (row_said node name literals) ≡ b → Tells b (RowIsThere before node name literals)
    by_test true e =
        let p = both (leb table.schema.key_len (length (map value_of literals))) (any_has (kept_node node) (take table.schema.key_len (map value_of literals)) 0 table.nodes.items) e in
        said_there before node name literals table t few (subst (λ (n : ℕ). table.schema.key_len ≤ n) (length-map literals value_of) (leb-true table.schema.key_len (length (map value_of literals)) p.0)) p.1
    by_test false e = λ w.
        let p = there_said before node name literals table t few w in
        true_false (row_twice table (row_said node name literals))
        (and_true (leb table.schema.key_len (length (map value_of literals))) (any_has (kept_node node) (take table.schema.key_len (map value_of literals)) 0 table.nodes.items)
        (le_true table.schema.key_len (length (map value_of literals)) (subst (λ (n : ℕ). table.schema.key_len ≤ n) (sym (length-map literals value_of)) p.0)) p.1) e

row_told : (before : List Said) (table : FileTable) (node : Node) (name : List ℕ) (literals : List Literal) → TableAt before name table
    → MatchOption (row_fault table.schema (map value_of literals)) (RowFits before (RowOf node name literals)) (λ fault. MisfitsRow before (RowOf node name literals) fault)
row_told before table node name literals t = by_fault (row_fault table.schema (map value_of literals)) refl
  where
    by_fault : (found : Option RowFault) → row_fault table.schema (map value_of literals) ≡ found → MatchOption found (RowFits before (RowOf node name literals)) (λ fault. MisfitsRow before (RowOf node name literals) fault)
    by_fault None e = λ fault w.
        let s : w.schema ≡ table.schema = some_is w.schema table.schema (sym w.table_is ∙ t.schema) in
        none_some (row_fault table.schema (map value_of literals)) fault e (ap (λ (x : Schema). row_fault x (map value_of literals)) (sym s) ∙ w.fault_is)
    by_fault (Some fault) e = record { schema = table.schema; table_is = t.schema; fault_is = e }

actor_told : (marks : Marks) (before : List Said) (line : List ℕ) (table : FileTable) (node : Node) (name : List ℕ) (literals : List Literal) → marks.replicas < 2 ^ 32 → IsMarked marks before → TableAt before name table
    → MatchOption (node_actor marks.replicas line (kept_node node)) (NamesDeclared before (RowOf node name literals)) (λ place. NamesNobody RowLines before line (RowOf node name literals) place)
actor_told marks before line table node name literals few m t = by_test (declares_node marks.replicas (kept_node node)) refl
  where
    named : declares_node marks.replicas (kept_node node) ≡ true → (number : ℕ) → Undeclared before (RowOf node name literals) number → ⊥
    named e zero w = w (node_there before marks.replicas node m.replicas (small marks.replicas few) e)
    named e (suc zero) w = w.1 table.schema t.schema
    named e (suc (suc number)) w = w

    by_test : (b : Bool) → declares_node marks.replicas (kept_node node) ≡ b
        → MatchOption (if b then None else Some (part_at RowLines line 0)) (NamesDeclared before (RowOf node name literals)) (λ place. NamesNobody RowLines before line (RowOf node name literals) place)
    by_test true e = named e
    by_test false e = record { number = 0; who = node_absent before marks.replicas node m.replicas (small marks.replicas few) e; is = refl }

short_row : (schema : Schema) (literals : List Literal) → length schema.columns ≤ 16 → length (map value_of literals) ≤ 65535 → AllByRecursion TextIsShort (map value_of literals) → IsShort schema (map value_of literals)
short_row schema literals c l t = record { columns = omega (arith, c); values = omega (arith, l); texts = t }

pub table_decided : (marks : Marks) (tables : List FileTable) (place : ℕ) (table : FileTable) (line : List ℕ) (row : RowText) (result : Option LineFault) → marks.replicas < 2 ^ 32 → place_named row.table 0 tables ≡ Some place → table ≡ slice_index_or tables place table
    → (IsShort table.schema row.values → result ≡ first_broken (row_tests (row_twice table row) (row_fault table.schema row.values) (node_actor marks.replicas line row.node) marks))
    → (before : List Said) (node : Node) (name : List ℕ) (literals : List Literal) → IsMarked marks before → HoldsRows tables before → row ≡ row_said node name literals
    → length (map value_of literals) ≤ 65535 → AllByRecursion TextIsShort (map value_of literals) → Decides RowLines before line (RowOf node name literals) result
table_decided marks tables place table line row result few p a e before node name literals m h r l s =
    decided RowLines before line (RowOf node name literals) (row_tests (row_twice table (row_said node name literals)) (row_fault table.schema (map value_of literals)) (node_actor marks.replicas line (kept_node node)) marks) result
    (e short ∙ ap (λ (x : RowText). first_broken (row_tests (row_twice table x) (row_fault table.schema x.values) (node_actor marks.replicas line x.node) marks)) r) (record {
      twice = twice_told before table node name literals (subst (λ (n : ℕ). n < 2 ^ 32) m.replicas few) t;
      level = λ w. w;
      row = row_told before table node name literals t;
      script = script_told RowLines before (RowOf node name literals) marks m refl;
      actor = actor_told marks before line table node name literals few m t;
    })
  where
    t : TableAt before name table
    t = table_at tables before name place table h (ap (λ (x : RowText). place_named x.table 0 tables) (sym r) ∙ p) a

    short : IsShort table.schema row.values
    short = subst (λ (x : RowText). IsShort table.schema x.values) (sym r) (short_row table.schema literals t.holds.few l s)
