-- What good lines say is sound: tables, rows, statements and counts.
use Rattle.std.proofs.Common.{◌≡◌, ◌⊎◌, ◌≤◌, ◌<◌, ◌+◌, ℕ, Bool, true, false, List, [], ◌∷◌, ◌++◌, map, length, Option, Some, None, cond, refl, sym, subst, ◌∙◌, arith, inl, inr, leb, leb-true, leb-false, append-nil}
use Rattle.std.specs.Prelude.{⊤, ◌==◌, if◌then◌else◌}
use Rattle.std.specs.List.{AllByRecursion}
use Rattle.std.proofs.lemmas.Bool.Decides.{nat_tests}
use Rattle.row_types.specs.declared.values.Value.{Value}
use Rattle.row_types.specs.declared.row_faults.RowFault.{RowFault}
use Rattle.row_types.specs.declared.row_faults.RowFault.TheVariants.{Arity}
use Rattle.row_types.specs.declared.table_schema.Schema.{Schema}
use Rattle.row_types.specs.Fit.{RowFits, IsSchema}
use Rattle.row_types.specs.Faults.{row_fault, first_fault}
use Rattle.row_types.proofs.FaultLemmas.{faultless_fits, as_long}
use Rattle.ptc_statement.specs.declared.statements.Statement.{Statement}
use Rattle.ptc_statement.specs.declared.statements.Statement.TheVariants.{Insert, Replace, Delete, Update, LockRead, Check, SetMaster, ClearChecks}
use Rattle.ptc_statement.specs.declared.scripts.ScriptStep.{ScriptStep}
use Rattle.ptc_statement.specs.declared.scripts.ScriptStep.TheVariants.{Begin, Commit, Rollback, Run}
use Rattle.ptc_statement.specs.Fits.{FitsSchemas, IsClients}
use Rattle.statement_fit_laws.proofs.RootLemmas.{read_is_sayable}
use Rattle.file_text.specs.declared.places.Section.{Section}
use Rattle.file_text.specs.declared.places.Section.TheVariants.{ReplicaLines, TableLines, RowLines, SessionLines, EndLines}
use Rattle.file_text.specs.declared.places.Keyword.TheVariants.{First}
use Rattle.file_text.specs.declared.faults.LimitKind.TheVariants.{Bytes, LineBytes, Tables, Columns, Replicas as ReplicaLimit, Sessions, Locals, Schedule as ScheduleLimit}
use Rattle.file_text.specs.declared.faults.LineCause.TheVariants.{Order, Twice, Row as RowCause, Tool, Actor}
use Rattle.file_text.specs.Parts.{trimmed}
use Rattle.file_text.specs.Said.{Said, Skipped, Header, Isolation, Replicas, TableOf, RowOf, SessionOf, LocalOf, StepOf, Schedule, End, section_of, Node, All, Source, Replica, Literal, value_of, ColumnText, Word, Count}
use Rattle.file_text.specs.Context.{schema_of, schema_said, schemas_of, replicas_said, replicas_of, session_said, sessions_in, local_said, locals_in, is_end, is_ended, is_there, same_section}
use Rattle.file_text.specs.Rules.{AtFirst, unless, misplaced, Opens, IsWritten, parts_in}
use Rattle.file_text.specs.Causes.{OfLimit, OfLine, Passes, IsInOrder, IsGood, NodeIsDeclared, schema_named, SchemaIs, tables_said, tables_in}
use Rattle.file_laws.proofs.FitLemmas.{some_is, true_false}
use Rattle.file_laws.proofs.TestLemmas.{either, or_right}
use Rattle.cause_laws.proofs.MoreLemmas.{replicas_more, tables_more, schemas_more, ended_more, there_more}
use Rattle.line_items.specs.Readings.{IsUnder}
use Rattle.line_values.proofs.SchemaLemmas.{table_fits}
use Rattle.file_state.proofs.GoodLemmas.{opens_of, no_replicas, first_replicas, few_tables}
use Rattle.file_scripts.proofs.LimitLemmas.{sessions_few, locals_few}
use Rattle.workload_laws.specs.Sound.{IsStep}
use Rattle.workload_laws.proofs.ListLemmas.{all_append, all_weaker, named_more, named_behind, named_self, step_more}

-- a row that a line gives fits the table of its name
pub record RowSaid (schemas : List Schema) (table : List ℕ) (literals : List Literal) : Type 0 where
  pub schema : Schema
  pub named : schema_named table schemas ≡ Some schema
  pub fits : RowFits schema (map value_of literals)

abbrev pub LineFits : List Schema → Said → Type 0
LineFits schemas (Replicas count) = 1 ≤ count
LineFits schemas (RowOf which table literals) = RowSaid schemas table literals
LineFits schemas (StepOf step) = IsStep schemas step
LineFits schemas _ = ⊤

abbrev pub IsNamed : List Schema → Schema → Type 0
IsNamed schemas schema = schema_named schema.name schemas ≡ Some schema

-- what holds of good lines
pub record Sound (said : List Said) : Type 0 where
  pub schemas : AllByRecursion IsSchema (schemas_of said)
  pub named : AllByRecursion (IsNamed (schemas_of said)) (schemas_of said)
  pub tables : tables_in said ≤ 16
  pub replicas : replicas_of said ≤ 8
  pub sessions : sessions_in said ≤ 64
  pub locals : (replica : ℕ) → locals_in replica said ≤ 16
  pub fits : AllByRecursion (LineFits (schemas_of said)) said
  pub ended : is_ended said ≡ true → (is_there ReplicaLines said ≡ true) × (is_there TableLines said ≡ true)

pub none_sound : Sound []
none_sound = record { schemas = tt; named = tt; tables = omega arith; replicas = omega arith; sessions = omega arith; locals = λ replica. omega arith; fits = tt; ended = λ e. absurd (true_false false e refl) }

-- ---- counts

pub sessions_more : (before : List Said) (said : Said) → sessions_in (before ++ said ∷ []) ≡ sessions_in before + session_said said
sessions_more [] said = omega arith
sessions_more (first ∷ before) said = let e = sessions_more before said in omega (arith, e)

pub locals_more : (replica : ℕ) (before : List Said) (said : Said) → locals_in replica (before ++ said ∷ []) ≡ locals_in replica before + local_said replica said
locals_more replica [] said = omega arith
locals_more replica (first ∷ before) said = let e = locals_more replica before said in omega (arith, e)

written_in : (section own : Section) (before : List Said) (line : List ℕ) (said : Said) → Some own ≡ Some section → IsWritten section before line said → IsWritten own before line said
written_in section own before line said e w = subst (λ (x : Section). IsWritten x before line said) (sym (some_is own section e)) w

-- ---- tables

table_under : (before : List Said) (line : List ℕ) (name : List ℕ) (columns : List ColumnText) → IsGood before line (TableOf name columns) → Opens TableLines line → IsUnder TableLines before (parts_in TableLines line)
table_under before line name columns g o Columns e = g.good (OfLimit Columns) (record {
  section = TableLines;
  of = refl;
  opens = o;
  fitting = e.fitting;
  left = e.left;
  are = e.are;
  front = e.front;
  item = e.item;
  begins = e.begins;
  passes = e.passes;
})
table_under before line name columns g o Bytes e = let of = e.of in absurd cc
table_under before line name columns g o LineBytes e = let of = e.of in absurd cc
table_under before line name columns g o Tables e = let of = e.of in absurd cc
table_under before line name columns g o ReplicaLimit e = let of = e.of in absurd cc
table_under before line name columns g o Sessions e = let of = e.of in absurd cc
table_under before line name columns g o Locals e = let of = e.of in absurd cc
table_under before line name columns g o ScheduleLimit e = let of = e.of in absurd cc

table_schema : (before : List Said) (line : List ℕ) (name : List ℕ) (columns : List ColumnText) → IsGood before line (TableOf name columns) → IsSchema (schema_of name columns)
table_schema before line name columns g =
    let w = written_in g.says.0 TableLines before line (TableOf name columns) g.says.1.of g.says.1 in
    (table_fits before (parts_in TableLines line) name columns w.form w.spelled w.in_range (table_under before line name columns g w.opens)).0

-- no table of the name is there yet
table_new : (before : List Said) (line : List ℕ) (name : List ℕ) (columns : List ColumnText) → IsGood before line (TableOf name columns) → schema_named name (schemas_of before) ≡ None
table_new before line name columns g = by_option (schema_named name (schemas_of before)) refl
  where
    by_option : (o : Option Schema) → schema_named name (schemas_of before) ≡ o → schema_named name (schemas_of before) ≡ None
    by_option None e = e
    by_option (Some schema) e = absurd (g.good (OfLine Twice) (record { said = TableOf name columns; says = g.says; wrong = inl (schema, e) }))

new_schemas : (before : List Said) (line : List ℕ) (said : Said) → IsGood before line said → AllByRecursion IsSchema (schema_said said)
new_schemas before line (TableOf name columns) g = (table_schema before line name columns g, tt)
new_schemas before line Skipped g = tt
new_schemas before line (Header version) g = tt
new_schemas before line (Isolation level) g = tt
new_schemas before line (Replicas count) g = tt
new_schemas before line (RowOf which table literals) g = tt
new_schemas before line (SessionOf session) g = tt
new_schemas before line (LocalOf replica session) g = tt
new_schemas before line (StepOf step) g = tt
new_schemas before line (Schedule words) g = tt
new_schemas before line End g = tt

new_named : (before : List Said) (line : List ℕ) (said : Said) → IsGood before line said → AllByRecursion (IsNamed (schemas_of before ++ schema_said said)) (schema_said said)
new_named before line (TableOf name columns) g =
    (named_behind name (schemas_of before) (schema_of name columns ∷ []) (table_new before line name columns g) ∙ named_self (schema_of name columns) [], tt)
new_named before line Skipped g = tt
new_named before line (Header version) g = tt
new_named before line (Isolation level) g = tt
new_named before line (Replicas count) g = tt
new_named before line (RowOf which table literals) g = tt
new_named before line (SessionOf session) g = tt
new_named before line (LocalOf replica session) g = tt
new_named before line (StepOf step) g = tt
new_named before line (Schedule words) g = tt
new_named before line End g = tt

schemas_sound : (before : List Said) (line : List ℕ) (said : Said) → IsGood before line said → Sound before → AllByRecursion IsSchema (schemas_of before ++ schema_said said)
schemas_sound before line said g s = all_append IsSchema (schemas_of before) (schema_said said) s.schemas (new_schemas before line said g)

named_sound : (before : List Said) (line : List ℕ) (said : Said) → IsGood before line said → Sound before → AllByRecursion (IsNamed (schemas_of before ++ schema_said said)) (schemas_of before ++ schema_said said)
named_sound before line said g s =
    all_append (IsNamed (schemas_of before ++ schema_said said)) (schemas_of before) (schema_said said)
    (all_weaker (IsNamed (schemas_of before)) (IsNamed (schemas_of before ++ schema_said said)) (schemas_of before) (λ schema e. named_more schema.name (schemas_of before) (schema_said said) schema e) s.named)
    (new_named before line said g)

new_tables : (before : List Said) (line : List ℕ) (said : Said) → IsGood before line said → tables_in before ≤ 16 → tables_in before + tables_said said ≤ 16
new_tables before line (TableOf name columns) g h = let f = few_tables before line (TableOf name columns) refl g in omega (arith, f)
new_tables before line Skipped g h = omega (arith, h)
new_tables before line (Header version) g h = omega (arith, h)
new_tables before line (Isolation level) g h = omega (arith, h)
new_tables before line (Replicas count) g h = omega (arith, h)
new_tables before line (RowOf which table literals) g h = omega (arith, h)
new_tables before line (SessionOf session) g h = omega (arith, h)
new_tables before line (LocalOf replica session) g h = omega (arith, h)
new_tables before line (StepOf step) g h = omega (arith, h)
new_tables before line (Schedule words) g h = omega (arith, h)
new_tables before line End g h = omega (arith, h)

-- ---- replicas

replicas_pass : (before : List Said) (line : List ℕ) (count : ℕ) → IsWritten ReplicaLines before line (Replicas count) → 8 < count → Passes before line ReplicaLimit
replicas_pass before line count w l = record {
  section = ReplicaLines;
  of = refl;
  opens = w.opens;
  fitting = parts_in ReplicaLines line;
  left = [];
  are = sym (append-nil (parts_in ReplicaLines line));
  front = Word (First ReplicaLines) ∷ [];
  item = Count count;
  begins = record { may = record { back = []; line = record { said = Replicas count; of = refl; form = tt; written = refl } }; spelled = w.spelled; in_range = w.in_range };
  passes = l;
}

replica_limit : (before : List Said) (line : List ℕ) (count : ℕ) → IsGood before line (Replicas count) → count ≤ 8
replica_limit before line count g = by_test (leb count 8) refl
  where
    w : IsWritten ReplicaLines before line (Replicas count)
    w = written_in g.says.0 ReplicaLines before line (Replicas count) g.says.1.of g.says.1

    by_test : (b : Bool) → leb count 8 ≡ b → count ≤ 8
    by_test true t = leb-true count 8 t
    by_test false t = absurd (g.good (OfLimit ReplicaLimit) (replicas_pass before line count w (leb-false count 8 t)))

new_replicas : (before : List Said) (line : List ℕ) (said : Said) → IsGood before line said → replicas_of before ≤ 8 → replicas_of before + replicas_said said ≤ 8
new_replicas before line (Replicas count) g h =
    let z = no_replicas before (first_replicas before line count g) in
    let l = replica_limit before line count g in
    omega (arith, z, l)
new_replicas before line Skipped g h = omega (arith, h)
new_replicas before line (Header version) g h = omega (arith, h)
new_replicas before line (Isolation level) g h = omega (arith, h)
new_replicas before line (TableOf name columns) g h = omega (arith, h)
new_replicas before line (RowOf which table literals) g h = omega (arith, h)
new_replicas before line (SessionOf session) g h = omega (arith, h)
new_replicas before line (LocalOf replica session) g h = omega (arith, h)
new_replicas before line (StepOf step) g h = omega (arith, h)
new_replicas before line (Schedule words) g h = omega (arith, h)
new_replicas before line End g h = omega (arith, h)

-- ---- sessions

new_sessions : (before : List Said) (line : List ℕ) (said : Said) → IsGood before line said → sessions_in before ≤ 64 → sessions_in before + session_said said ≤ 64
new_sessions before line (SessionOf session) g h =
    let f = sessions_few before line (opens_of SessionLines before line (SessionOf session) refl g) (g.good (OfLimit Sessions)) in
    omega (arith, f)
new_sessions before line Skipped g h = omega (arith, h)
new_sessions before line (Header version) g h = omega (arith, h)
new_sessions before line (Isolation level) g h = omega (arith, h)
new_sessions before line (Replicas count) g h = omega (arith, h)
new_sessions before line (TableOf name columns) g h = omega (arith, h)
new_sessions before line (RowOf which table literals) g h = omega (arith, h)
new_sessions before line (LocalOf replica session) g h = omega (arith, h)
new_sessions before line (StepOf step) g h = omega (arith, h)
new_sessions before line (Schedule words) g h = omega (arith, h)
new_sessions before line End g h = omega (arith, h)

own_locals : (before : List Said) (replica other : ℕ) → locals_in other before < 16 → locals_in replica before ≤ 16 → locals_in replica before + (if other == replica then 1 else 0) ≤ 16
own_locals before replica other f h = by_test (other == replica) refl
  where
    by_test : (b : Bool) → (other == replica) ≡ b → locals_in replica before + (if b then 1 else 0) ≤ 16
    by_test true t =
        let e : other ≡ replica = grind (arith, nat_tests, t) in
        let l = subst (λ (n : ℕ). locals_in n before < 16) e f in
        omega (arith, l)
    by_test false t = omega (arith, h)

new_locals : (before : List Said) (line : List ℕ) (said : Said) (replica : ℕ) → IsGood before line said → locals_in replica before ≤ 16 → locals_in replica before + local_said replica said ≤ 16
new_locals before line (LocalOf other session) replica g h = own_locals before replica other (locals_few before line other session g.says (g.good (OfLimit Locals))) h
new_locals before line Skipped replica g h = omega (arith, h)
new_locals before line (Header version) replica g h = omega (arith, h)
new_locals before line (Isolation level) replica g h = omega (arith, h)
new_locals before line (Replicas count) replica g h = omega (arith, h)
new_locals before line (TableOf name columns) replica g h = omega (arith, h)
new_locals before line (RowOf which table literals) replica g h = omega (arith, h)
new_locals before line (SessionOf session) replica g h = omega (arith, h)
new_locals before line (StepOf step) replica g h = omega (arith, h)
new_locals before line (Schedule words) replica g h = omega (arith, h)
new_locals before line End replica g h = omega (arith, h)

-- ---- rows

pub within_told : (number most : ℕ) → ((1 ≤ number) × (number ≤ most)) ⊎ ((1 ≤ number) × (number ≤ most) → ⊥)
within_told number most = by_test (leb 1 number) (leb number most) refl refl
  where
    by_test : (a b : Bool) → leb 1 number ≡ a → leb number most ≡ b → ((1 ≤ number) × (number ≤ most)) ⊎ ((1 ≤ number) × (number ≤ most) → ⊥)
    by_test true true p q = inl (leb-true 1 number p, leb-true number most q)
    by_test false b p q = inr (λ h. let l = leb-false 1 number p in let k = h.0 in omega (arith, l, k))
    by_test true false p q = inr (λ h. let l = leb-false number most q in let k = h.1 in omega (arith, l, k))

node_told : (before : List Said) (which : Node) → NodeIsDeclared before which ⊎ (NodeIsDeclared before which → ⊥)
node_told before All = inl tt
node_told before Source = inl tt
node_told before (Replica replica) = within_told replica (replicas_of before)

row_node : (before : List Said) (line : List ℕ) (which : Node) (table : List ℕ) (literals : List Literal) → IsGood before line (RowOf which table literals) → NodeIsDeclared before which
row_node before line which table literals g = elim (node_told before which) [
  | inl d ↦ d
  | inr never ↦ absurd (g.good (OfLine (Actor _)) (record { said = RowOf which table literals; section = RowLines; of = refl; says = g.says; number = 0; who = never; is = refl }))
]

row_table : (before : List Said) (line : List ℕ) (which : Node) (table : List ℕ) (literals : List Literal) → IsGood before line (RowOf which table literals) → (schema : Schema) × SchemaIs before table schema
row_table before line which table literals g = by_option (schema_named table (schemas_of before)) refl
  where
    by_option : (o : Option Schema) → schema_named table (schemas_of before) ≡ o → (schema : Schema) × SchemaIs before table schema
    by_option (Some schema) e = (schema, e)
    by_option None e = absurd (g.good (OfLine (Actor _)) (record {
      said = RowOf which table literals;
      section = RowLines;
      of = refl;
      says = g.says;
      number = 1;
      who = (row_node before line which table literals g, λ schema f. none_is schema (sym e ∙ f));
      is = refl;
    }))
      where
        none_is : (schema : Schema) → None ≡ Some schema → ⊥
        none_is schema f = cc

faultless : (schema : Schema) (row : List Value) → row_fault schema row ≡ None → RowFits schema row
faultless schema row e = by_length (length row == length schema.columns) refl
  where
    by_length : (b : Bool) → (length row == length schema.columns) ≡ b → RowFits schema row
    by_length true l =
        let same : length row ≡ length schema.columns = grind (arith, nat_tests, l) in
        faultless_fits schema row same (sym (as_long schema row same) ∙ e)
    by_length false l = absurd (some_none (subst (λ (b : Bool). cond b (first_fault 0 schema.columns row) (Some (Arity (length row) (length schema.columns))) ≡ None) l e))
      where
        some_none : Some (Arity (length row) (length schema.columns)) ≡ None → ⊥
        some_none f = cc

sound_row : (before : List Said) (line : List ℕ) (which : Node) (table : List ℕ) (literals : List Literal) (schema : Schema) → IsGood before line (RowOf which table literals) → SchemaIs before table schema
    → RowFits schema (map value_of literals)
sound_row before line which table literals schema g named = by_option (row_fault schema (map value_of literals)) refl
  where
    by_option : (o : Option RowFault) → row_fault schema (map value_of literals) ≡ o → RowFits schema (map value_of literals)
    by_option None e = faultless schema (map value_of literals) e
    by_option (Some fault) e =
        absurd (g.good (OfLine (RowCause fault)) (record { said = RowOf which table literals; says = g.says; wrong = record { schema = schema; table_is = named; fault_is = e } }))

row_said_fits : (before : List Said) (line : List ℕ) (which : Node) (table : List ℕ) (literals : List Literal) → IsGood before line (RowOf which table literals) → RowSaid (schemas_of before) table literals
row_said_fits before line which table literals g =
    let t = row_table before line which table literals g in
    record { schema = t.0; named = t.1; fits = sound_row before line which table literals t.0 g t.1 }

-- ---- steps

client_told : (statement : Statement) → IsClients statement ⊎ (IsClients statement → ⊥)
client_told (Insert table row) = inl tt
client_told (Replace table row) = inl tt
client_told (Delete table where_true) = inl tt
client_told (Update table sets where_true) = inl tt
client_told (LockRead table mode span where_true) = inl tt
client_told (Check table chunk span kind) = inr (λ c. c)
client_told (SetMaster table chunk kind master) = inr (λ c. c)
client_told (ClearChecks table) = inr (λ c. c)

run_clients : (before : List Said) (line : List ℕ) (statement : Statement) → IsGood before line (StepOf (Run statement)) → IsClients statement
run_clients before line statement g = elim (client_told statement) [
  | inl c ↦ c
  | inr never ↦ absurd (g.good (OfLine Tool) (record { said = StepOf (Run statement); says = g.says; wrong = never }))
]

run_said_fits : (before : List Said) (line : List ℕ) (statement : Statement) → IsGood before line (StepOf (Run statement)) → FitsSchemas (schemas_of before) statement
run_said_fits before line statement g = (read_is_sayable (schemas_of before) (trimmed line) statement g.says.2.1).fits

step_said : (before : List Said) (line : List ℕ) (step : ScriptStep) → IsGood before line (StepOf step) → IsStep (schemas_of before) step
step_said before line Begin g = record { fits = tt; clients = tt }
step_said before line Commit g = record { fits = tt; clients = tt }
step_said before line Rollback g = record { fits = tt; clients = tt }
step_said before line (Run statement) g = record { fits = run_said_fits before line statement g; clients = run_clients before line statement g }

-- ---- each line

count_some : (before : List Said) (line : List ℕ) (count : ℕ) → IsGood before line (Replicas count) → 1 ≤ count
count_some before line count g = by_test (leb 1 count) refl
  where
    w : IsWritten ReplicaLines before line (Replicas count)
    w = written_in g.says.0 ReplicaLines before line (Replicas count) g.says.1.of g.says.1

    by_test : (b : Bool) → leb 1 count ≡ b → 1 ≤ count
    by_test true t = leb-true 1 count t
    by_test false t = absurd (none_misplaced t w.in_range.1.0)
      where
        none_misplaced : leb 1 count ≡ false → misplaced before (Word (First ReplicaLines) ∷ []) (Count count) ≡ None → ⊥
        none_misplaced f e = some_none (subst (λ (b : Bool). unless b AtFirst ≡ None) f e)
          where
            some_none : Some AtFirst ≡ None → ⊥
            some_none h = cc

new_fits : (before : List Said) (line : List ℕ) (said : Said) → IsGood before line said → LineFits (schemas_of before) said
new_fits before line (Replicas count) g = count_some before line count g
new_fits before line (RowOf which table literals) g = row_said_fits before line which table literals g
new_fits before line (StepOf step) g = step_said before line step g
new_fits before line Skipped g = tt
new_fits before line (Header version) g = tt
new_fits before line (Isolation level) g = tt
new_fits before line (TableOf name columns) g = tt
new_fits before line (SessionOf session) g = tt
new_fits before line (LocalOf replica session) g = tt
new_fits before line (Schedule words) g = tt
new_fits before line End g = tt

line_more : (schemas more : List Schema) (said : Said) → LineFits schemas said → LineFits (schemas ++ more) said
line_more schemas more (Replicas count) f = f
line_more schemas more (RowOf which table literals) f = record { schema = f.schema; named = named_more table schemas more f.schema f.named; fits = f.fits }
line_more schemas more (StepOf step) f = step_more schemas more step f
line_more schemas more Skipped f = tt
line_more schemas more (Header version) f = tt
line_more schemas more (Isolation level) f = tt
line_more schemas more (TableOf name columns) f = tt
line_more schemas more (SessionOf session) f = tt
line_more schemas more (LocalOf replica session) f = tt
line_more schemas more (Schedule words) f = tt
line_more schemas more End f = tt

all_fit : (before : List Said) (line : List ℕ) (said : Said) → IsGood before line said → Sound before → AllByRecursion (LineFits (schemas_of before ++ schema_said said)) (before ++ said ∷ [])
all_fit before line said g s =
    all_append (LineFits (schemas_of before ++ schema_said said)) before (said ∷ [])
    (all_weaker (LineFits (schemas_of before)) (LineFits (schemas_of before ++ schema_said said)) before (λ other f. line_more (schemas_of before) (schema_said said) other f) s.fits)
    (line_more (schemas_of before) (schema_said said) said (new_fits before line said g), tt)

-- ---- END

end_needs : (section : Section) (before : List Said) (line : List ℕ) → IsGood before line End → (IsInOrder before EndLines → is_there section before ≡ true) → is_there section before ≡ true
end_needs section before line g needed = by_test (is_there section before) refl
  where
    by_test : (b : Bool) → is_there section before ≡ b → is_there section before ≡ true
    by_test true t = t
    by_test false t = absurd (g.good (OfLine Order) (record { section = EndLines; opens = opens_of EndLines before line End refl g; breaks = λ o. true_false (is_there section before) (needed o) t }))

there_on : (section : Section) (before : List Said) (said : Said) → is_there section before ≡ true → is_there section (before ++ said ∷ []) ≡ true
there_on section before said t = there_more section before said ∙ or_right (same_section section (section_of said)) (is_there section before) t

ended_at : (before : List Said) (line : List ℕ) (said : Said) → IsGood before line said → is_end said ≡ true → (is_there ReplicaLines before ≡ true) × (is_there TableLines before ≡ true)
ended_at before line End g e = (end_needs ReplicaLines before line g (λ o. o.replicas refl), end_needs TableLines before line g (λ o. o.tables refl))
ended_at before line _ g e = absurd cc

ended_sound : (before : List Said) (line : List ℕ) (said : Said) → IsGood before line said → Sound before → is_ended (before ++ said ∷ []) ≡ true
    → (is_there ReplicaLines (before ++ said ∷ []) ≡ true) × (is_there TableLines (before ++ said ∷ []) ≡ true)
ended_sound before line said g s e = elim (either (is_end said) (is_ended before) (sym (ended_more before said) ∙ e)) [
  | inl now ↦ let t = ended_at before line said g now in (there_on ReplicaLines before said t.0, there_on TableLines before said t.1)
  | inr earlier ↦ let t = s.ended earlier in (there_on ReplicaLines before said t.0, there_on TableLines before said t.1)
]

pub sound_more : (before : List Said) (line : List ℕ) (said : Said) → IsGood before line said → Sound before → Sound (before ++ said ∷ [])
sound_more before line said g s =
    let all = sym (schemas_more before said) in
    record {
      schemas = subst (λ (schemas : List Schema). AllByRecursion IsSchema schemas) all (schemas_sound before line said g s);
      named = subst (λ (schemas : List Schema). AllByRecursion (IsNamed schemas) schemas) all (named_sound before line said g s);
      tables = let m = tables_more before said in let n = new_tables before line said g s.tables in omega (arith, m, n);
      replicas = let m = replicas_more before said in let n = new_replicas before line said g s.replicas in omega (arith, m, n);
      sessions = let m = sessions_more before said in let n = new_sessions before line said g s.sessions in omega (arith, m, n);
      locals = λ replica. let m = locals_more replica before said in let n = new_locals before line said replica g (s.locals replica) in omega (arith, m, n);
      fits = subst (λ (schemas : List Schema). AllByRecursion (LineFits schemas) (before ++ said ∷ [])) all (all_fit before line said g s);
      ended = ended_sound before line said g s;
    }
