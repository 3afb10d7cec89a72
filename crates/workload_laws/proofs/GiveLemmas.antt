-- What sound lines give: tables, scripts and the items of the schedule.
use Rattle.std.proofs.Common.{◌≡◌, ◌≤◌, ◌<◌, ◌+◌, ◌-◌, ℕ, zero, suc, Bool, true, false, List, [], ◌∷◌, map, length, Some, refl, sym, ap, subst, ◌∙◌, arith, inl, inr}
use Rattle.std.specs.Prelude.{◌==◌, ◌&&◌, if◌then◌else◌, bytes_eq, replicate}
use Rattle.std.specs.List.{slice_get, AllByRecursion, flat_map}
use Rattle.std.proofs.lemmas.List.{length-map}
use Rattle.row_types.specs.declared.values.Value.{Value}
use Rattle.row_types.specs.declared.table_schema.Schema.{Schema}
use Rattle.row_types.specs.Fit.{RowFits, IsTable, AreTables, with_row, with_rows}
use Rattle.ptc_statement.specs.declared.statements.Statement.TheVariants.{Replace}
use Rattle.ptc_statement.specs.declared.scripts.ScriptLine.{ScriptLine}
use Rattle.ptc_statement.specs.declared.scripts.Script.{Script}
use Rattle.ptc_statement.proofs.TableLemmas.{rows_after_table}
use Rattle.file_text.specs.declared.places.Section.TheVariants.{ReplicaLines, TableLines}
use Rattle.file_text.specs.Said.{Said, Skipped, Header, Isolation, Replicas, TableOf, RowOf, SessionOf, LocalOf, StepOf, Schedule, End, section_of, value_of, Literal, ScheduleWord, Once, Times, StopTool, ResumeTool, StopReplica, StartReplica}
use Rattle.file_text.specs.Context.{schemas_of, replicas_of, sessions_in, locals_in, is_there, same_section, step_opens, opened}
use Rattle.file_text.specs.Causes.{is_for, schema_named, tables_in}
use Rattle.file_text.specs.File.{row_said, table_in, nodes_from, steps_from, sessions_from, locals_from, words_said, played}
use Rattle.file_laws.proofs.FitLemmas.{some_is}
use Rattle.file_laws.proofs.TestLemmas.{both, either}
use Rattle.file_rows.proofs.HoldLemmas.{same_bytes}
use Rattle.session_laws.specs.OwnCalls.{is_whole}
use Rattle.workload_laws.specs.Sound.{IsStep, IsScript}
use Rattle.workload_laws.proofs.ListLemmas.{all_append}
use Rattle.workload_laws.proofs.SoundLemmas.{RowSaid, LineFits, IsNamed}
use Rattle.workload_laws.proofs.WholeLemmas.{Keeps, steps_whole, steps_rise}
use Rattle.workload_laws.proofs.DeclareLemmas.{WordSound, LineDeclares}

-- ---- tables

row_fits : (all : List Schema) (schema : Schema) (table : List ℕ) (literals : List Literal) → IsNamed all schema → schema.name ≡ table → RowSaid all table literals → RowFits schema (map value_of literals)
row_fits all schema table literals named e r =
    let same : Some schema ≡ Some r.schema = sym named ∙ ap (λ (name : List ℕ). schema_named name all) e ∙ r.named in
    subst (λ (s : Schema). RowFits s (map value_of literals)) (sym (some_is schema r.schema same)) r.fits

row_of_line : (all : List Schema) (schema : Schema) (node : ℕ) (said : Said) → IsNamed all schema → LineFits all said → AllByRecursion (RowFits schema) (row_said node schema.name said)
row_of_line all schema node (RowOf which table literals) named f = by_test (is_for node which && bytes_eq schema.name table) refl
  where
    by_test : (b : Bool) → (is_for node which && bytes_eq schema.name table) ≡ b → AllByRecursion (RowFits schema) (if b then map value_of literals ∷ [] else [])
    by_test true t = (row_fits all schema table literals named (same_bytes schema.name table (both (is_for node which) (bytes_eq schema.name table) t).1) f, tt)
    by_test false t = tt
row_of_line all schema node Skipped named f = tt
row_of_line all schema node (Header version) named f = tt
row_of_line all schema node (Isolation level) named f = tt
row_of_line all schema node (Replicas count) named f = tt
row_of_line all schema node (TableOf name columns) named f = tt
row_of_line all schema node (SessionOf session) named f = tt
row_of_line all schema node (LocalOf replica session) named f = tt
row_of_line all schema node (StepOf step) named f = tt
row_of_line all schema node (Schedule words) named f = tt
row_of_line all schema node End named f = tt

rows_fit : (all : List Schema) (schema : Schema) (node : ℕ) (said : List Said) → IsNamed all schema → AllByRecursion (LineFits all) said → AllByRecursion (RowFits schema) (flat_map (row_said node schema.name) said)
rows_fit all schema node [] named f = tt
rows_fit all schema node (first ∷ said) named f =
    all_append (RowFits schema) (row_said node schema.name first) (flat_map (row_said node schema.name) said)
    (row_of_line all schema node first named f.0) (rows_fit all schema node said named f.1)

table_is : (schema : Schema) (rows more : List (List Value)) → IsTable schema rows → AllByRecursion (RowFits schema) more → IsTable schema (with_rows schema rows more)
table_is schema rows [] t f = t
table_is schema rows (row ∷ more) t f = table_is schema (with_row schema row rows) more (rows_after_table schema (Replace 0 row) rows f.0 t) f.1

pub tables_are : (all schemas : List Schema) (node : ℕ) (said : List Said) → AllByRecursion (IsNamed all) schemas → AllByRecursion (LineFits all) said → AreTables schemas (map (table_in said node) schemas)
tables_are all [] node said named f = tt
tables_are all (schema ∷ schemas) node said named f =
    (table_is schema [] (flat_map (row_said node schema.name) said) tt (rows_fit all schema node said named.0 f), tables_are all schemas node said named.1 f)

pub tables_counted : (said : List Said) → tables_in said ≡ length (schemas_of said)
tables_counted [] = refl
tables_counted (TableOf name columns ∷ said) = let e = tables_counted said in omega (arith, e)
tables_counted (Skipped ∷ said) = let e = tables_counted said in omega (arith, e)
tables_counted (Header version ∷ said) = let e = tables_counted said in omega (arith, e)
tables_counted (Isolation level ∷ said) = let e = tables_counted said in omega (arith, e)
tables_counted (Replicas count ∷ said) = let e = tables_counted said in omega (arith, e)
tables_counted (RowOf which table literals ∷ said) = let e = tables_counted said in omega (arith, e)
tables_counted (SessionOf session ∷ said) = let e = tables_counted said in omega (arith, e)
tables_counted (LocalOf replica session ∷ said) = let e = tables_counted said in omega (arith, e)
tables_counted (StepOf step ∷ said) = let e = tables_counted said in omega (arith, e)
tables_counted (Schedule words ∷ said) = let e = tables_counted said in omega (arith, e)
tables_counted (End ∷ said) = let e = tables_counted said in omega (arith, e)

table_some : (said : Said) → same_section TableLines (section_of said) ≡ true → (said' : List Said) → 1 ≤ tables_in (said ∷ said')
table_some (TableOf name columns) e rest = omega arith
table_some _ e rest = absurd cc

pub tables_there : (said : List Said) → is_there TableLines said ≡ true → 1 ≤ tables_in said
tables_there [] e = absurd cc
tables_there (first ∷ said) e = elim (either (same_section TableLines (section_of first)) (is_there TableLines said) e) [
  | inl now ↦ table_some first now said
  | inr later ↦ let l = tables_there said later in omega (arith, l)
]

count_some : (schemas : List Schema) (said : Said) (rest : List Said) → LineFits schemas said → same_section ReplicaLines (section_of said) ≡ true → 1 ≤ replicas_of (said ∷ rest)
count_some schemas (Replicas count) rest f e = omega (arith, f)
count_some schemas _ rest f e = absurd cc

pub replicas_there : (schemas : List Schema) (said : List Said) → AllByRecursion (LineFits schemas) said → is_there ReplicaLines said ≡ true → 1 ≤ replicas_of said
replicas_there schemas [] f e = absurd cc
replicas_there schemas (first ∷ said) f e = elim (either (same_section ReplicaLines (section_of first)) (is_there ReplicaLines said) e) [
  | inl now ↦ count_some schemas first said f.0 now
  | inr later ↦ let l = replicas_there schemas said f.1 later in omega (arith, l)
]

-- ---- nodes

pub nodes_length : (first count : ℕ) → length (nodes_from first count) ≡ count
nodes_length first zero = refl
nodes_length first (suc count) = ap suc (nodes_length (suc first) count)

pub mapped_length : {X : Type 0} (f : ℕ → X) (count : ℕ) → length (map f (nodes_from 1 count)) ≡ count
mapped_length f count = length-map (nodes_from 1 count) f ∙ nodes_length 1 count

node_behind : {X : Type 0} (f : ℕ → X) (first count place : ℕ) → place < count → slice_get (map f (nodes_from first count)) place ≡ Some (f (first + place))
node_behind f first zero place l = absurd (omega (arith, l))
node_behind f first (suc count) zero l = let e : first ≡ first + 0 = omega arith in ap (λ (n : ℕ). Some (f n)) e
node_behind f first (suc count) (suc place) l =
    let e : suc first + place ≡ first + suc place = omega arith in
    node_behind f (suc first) count place (omega (arith, l)) ∙ ap (λ (n : ℕ). Some (f n)) e

pub node_at : {X : Type 0} (f : ℕ → X) (count number : ℕ) → 1 ≤ number → number ≤ count → slice_get (map f (nodes_from 1 count)) (number - 1) ≡ Some (f number)
node_at f count number some most =
    let e : 1 + (number - 1) ≡ number = omega (arith, some) in
    node_behind f 1 count (number - 1) (omega (arith, some, most)) ∙ ap (λ (n : ℕ). Some (f n)) e

-- ---- scripts

steps_fit : (schemas : List Schema) (number : ℕ) (said : List Said) → AllByRecursion (LineFits schemas) said → AllByRecursion (λ (line : ScriptLine). IsStep schemas line.step) (steps_from number said)
steps_fit schemas number [] f = tt
steps_fit schemas number (StepOf step ∷ said) f = (f.0, steps_fit schemas (suc number) said f.1)
steps_fit schemas number (Skipped ∷ said) f = steps_fit schemas (suc number) said f.1
steps_fit schemas number (Header version ∷ said) f = tt
steps_fit schemas number (Isolation level ∷ said) f = tt
steps_fit schemas number (Replicas count ∷ said) f = tt
steps_fit schemas number (TableOf name columns ∷ said) f = tt
steps_fit schemas number (RowOf which table literals ∷ said) f = tt
steps_fit schemas number (SessionOf session ∷ said) f = tt
steps_fit schemas number (LocalOf replica session ∷ said) f = tt
steps_fit schemas number (Schedule words ∷ said) f = tt
steps_fit schemas number (End ∷ said) f = tt

-- as many scripts as are counted, each of which is one
pub record Scripts (schemas : List Schema) (count : ℕ) (scripts : List Script) : Type 0 where
  pub number : length scripts ≡ count
  pub fit : AllByRecursion (IsScript schemas) scripts

one_more : (schemas : List Schema) (number count : ℕ) (within : Bool) (said : List Said) (scripts : List Script) → AllByRecursion (LineFits schemas) said → within ≡ false → Keeps within said → opened within said ≡ false → Scripts schemas count scripts
    → Scripts schemas (1 + count) (record { lines = steps_from number said } ∷ scripts)
one_more schemas number count within said scripts f e k c s = record {
  number = let n = s.number in omega (arith, n);
  fit = (
    record {
      steps = steps_fit schemas number said f;
      whole = subst (λ (b : Bool). is_whole b (steps_from number said) ≡ true) e (steps_whole within number said k c);
      rise = steps_rise number said;
    },
    s.fit,
  );
}

none_more : (schemas : List Schema) (count : ℕ) (scripts : List Script) → Scripts schemas count scripts → Scripts schemas (0 + count) scripts
none_more schemas count scripts s = let e : count ≡ 0 + count = omega arith in subst (λ (n : ℕ). Scripts schemas n scripts) e s

pub sessions_are : (schemas : List Schema) (number : ℕ) (within : Bool) (said : List Said) → AllByRecursion (LineFits schemas) said → Keeps within said → opened within said ≡ false → Scripts schemas (sessions_in said) (sessions_from number said)
sessions_are schemas number within [] f k c = record { number = refl; fit = tt }
sessions_are schemas number within (SessionOf session ∷ said) f k c =
    one_more schemas (suc number) (sessions_in said) within said (sessions_from (suc number) said) f.1 k.0 k.1 c (sessions_are schemas (suc number) within said f.1 k.1 c)
sessions_are schemas number within (Skipped ∷ said) f k c = none_more schemas (sessions_in said) (sessions_from (suc number) said) (sessions_are schemas (suc number) within said f.1 k.1 c)
sessions_are schemas number within (Header version ∷ said) f k c = none_more schemas (sessions_in said) (sessions_from (suc number) said) (sessions_are schemas (suc number) within said f.1 k.1 c)
sessions_are schemas number within (Isolation level ∷ said) f k c = none_more schemas (sessions_in said) (sessions_from (suc number) said) (sessions_are schemas (suc number) within said f.1 k.1 c)
sessions_are schemas number within (Replicas count ∷ said) f k c = none_more schemas (sessions_in said) (sessions_from (suc number) said) (sessions_are schemas (suc number) within said f.1 k.1 c)
sessions_are schemas number within (TableOf name columns ∷ said) f k c = none_more schemas (sessions_in said) (sessions_from (suc number) said) (sessions_are schemas (suc number) within said f.1 k.1 c)
sessions_are schemas number within (RowOf which table literals ∷ said) f k c = none_more schemas (sessions_in said) (sessions_from (suc number) said) (sessions_are schemas (suc number) within said f.1 k.1 c)
sessions_are schemas number within (LocalOf replica session ∷ said) f k c = none_more schemas (sessions_in said) (sessions_from (suc number) said) (sessions_are schemas (suc number) within said f.1 k.1 c)
sessions_are schemas number within (StepOf step ∷ said) f k c = none_more schemas (sessions_in said) (sessions_from (suc number) said) (sessions_are schemas (suc number) (step_opens within step) said f.1 k.1 c)
sessions_are schemas number within (Schedule words ∷ said) f k c = none_more schemas (sessions_in said) (sessions_from (suc number) said) (sessions_are schemas (suc number) within said f.1 k.1 c)
sessions_are schemas number within (End ∷ said) f k c = none_more schemas (sessions_in said) (sessions_from (suc number) said) (sessions_are schemas (suc number) within said f.1 k.1 c)

pub locals_are : (schemas : List Schema) (replica number : ℕ) (within : Bool) (said : List Said) → AllByRecursion (LineFits schemas) said → Keeps within said → opened within said ≡ false → Scripts schemas (locals_in replica said) (locals_from replica number said)
locals_are schemas replica number within [] f k c = record { number = refl; fit = tt }
locals_are schemas replica number within (LocalOf other session ∷ said) f k c = by_test (other == replica) (locals_are schemas replica (suc number) within said f.1 k.1 c)
  where
    by_test : (b : Bool) → Scripts schemas (locals_in replica said) (locals_from replica (suc number) said)
        → Scripts schemas ((if b then 1 else 0) + locals_in replica said) (if b then record { lines = steps_from (suc number) said } ∷ locals_from replica (suc number) said else locals_from replica (suc number) said)
    by_test true s = one_more schemas (suc number) (locals_in replica said) within said (locals_from replica (suc number) said) f.1 k.0 k.1 c s
    by_test false s = none_more schemas (locals_in replica said) (locals_from replica (suc number) said) s
locals_are schemas replica number within (Skipped ∷ said) f k c = none_more schemas (locals_in replica said) (locals_from replica (suc number) said) (locals_are schemas replica (suc number) within said f.1 k.1 c)
locals_are schemas replica number within (Header version ∷ said) f k c = none_more schemas (locals_in replica said) (locals_from replica (suc number) said) (locals_are schemas replica (suc number) within said f.1 k.1 c)
locals_are schemas replica number within (Isolation level ∷ said) f k c = none_more schemas (locals_in replica said) (locals_from replica (suc number) said) (locals_are schemas replica (suc number) within said f.1 k.1 c)
locals_are schemas replica number within (Replicas count ∷ said) f k c = none_more schemas (locals_in replica said) (locals_from replica (suc number) said) (locals_are schemas replica (suc number) within said f.1 k.1 c)
locals_are schemas replica number within (TableOf name columns ∷ said) f k c = none_more schemas (locals_in replica said) (locals_from replica (suc number) said) (locals_are schemas replica (suc number) within said f.1 k.1 c)
locals_are schemas replica number within (RowOf which table literals ∷ said) f k c = none_more schemas (locals_in replica said) (locals_from replica (suc number) said) (locals_are schemas replica (suc number) within said f.1 k.1 c)
locals_are schemas replica number within (SessionOf session ∷ said) f k c = none_more schemas (locals_in replica said) (locals_from replica (suc number) said) (locals_are schemas replica (suc number) within said f.1 k.1 c)
locals_are schemas replica number within (StepOf step ∷ said) f k c = none_more schemas (locals_in replica said) (locals_from replica (suc number) said) (locals_are schemas replica (suc number) (step_opens within step) said f.1 k.1 c)
locals_are schemas replica number within (Schedule words ∷ said) f k c = none_more schemas (locals_in replica said) (locals_from replica (suc number) said) (locals_are schemas replica (suc number) within said f.1 k.1 c)
locals_are schemas replica number within (End ∷ said) f k c = none_more schemas (locals_in replica said) (locals_from replica (suc number) said) (locals_are schemas replica (suc number) within said f.1 k.1 c)

-- ---- the schedule

words_declared : (all : List Said) (said : Said) → LineDeclares all said → AllByRecursion (WordSound all) (words_said said)
words_declared all (Schedule words) d = d
words_declared all Skipped d = tt
words_declared all (Header version) d = tt
words_declared all (Isolation level) d = tt
words_declared all (Replicas count) d = tt
words_declared all (TableOf name columns) d = tt
words_declared all (RowOf which table literals) d = tt
words_declared all (SessionOf session) d = tt
words_declared all (LocalOf replica session) d = tt
words_declared all (StepOf step) d = tt
words_declared all End d = tt

pub all_words : (all said : List Said) → AllByRecursion (LineDeclares all) said → AllByRecursion (WordSound all) (flat_map words_said said)
all_words all [] d = tt
all_words all (first ∷ said) d = all_append (WordSound all) (words_said first) (flat_map words_said said) (words_declared all first d.0) (all_words all said d.1)

all_replicas : {X : Type 0} (P : X → Type 0) (x : X) (count : ℕ) → P x → AllByRecursion P (replicate count x)
all_replicas P x zero h = tt
all_replicas P x (suc count) h = (h, all_replicas P x count h)

word_played : (all : List Said) (word : ScheduleWord) → WordSound all word → AllByRecursion (WordSound all) (played word)
word_played all (Times turn count) s = all_replicas (WordSound all) (Once turn) count (record { declared = s.declared; workers = s.workers })
word_played all (Once turn) s = (s, tt)
word_played all StopTool s = (s, tt)
word_played all ResumeTool s = (s, tt)
word_played all (StopReplica replica) s = (s, tt)
word_played all (StartReplica replica) s = (s, tt)

pub all_played : (all : List Said) (words : List ScheduleWord) → AllByRecursion (WordSound all) words → AllByRecursion (WordSound all) (flat_map played words)
all_played all [] s = tt
all_played all (word ∷ words) s = all_append (WordSound all) (played word) (flat_map played words) (word_played all word s.0) (all_played all words s.1)
