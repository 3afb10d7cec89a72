-- The state with one good line more.
use Rattle.std.proofs.Common.{◌≡◌, ◌<◌, ◌≤◌, ◌^◌, ℕ, suc, true, List, [], ◌∷◌, ◌++◌, map, length, Option, Some, None, refl, sym, ap, subst, ◌∙◌, arith, inl, append-nil}
use Rattle.std.specs.List.{AllByRecursion, flat_map}
use Rattle.row_types.specs.declared.table_schema.Schema.{Schema}
use Rattle.file_text.specs.declared.places.Section.{Section}
use Rattle.file_text.specs.declared.places.Section.TheVariants.{ReplicaLines, TableLines, RowLines, SessionLines, LocalLines, ScheduleLines}
use Rattle.file_text.specs.declared.faults.LineCause.TheVariants.{Twice}
use Rattle.file_text.specs.Said.{Said, Skipped, Header, Isolation, Replicas, TableOf, RowOf, SessionOf, LocalOf, StepOf, Schedule, End, section_of}
use Rattle.file_text.specs.Context.{schema_said, schemas_of, replicas_said, replicas_of, scheduled_said, scheduled_in, is_there}
use Rattle.file_text.specs.Rules.{Says}
use Rattle.file_text.specs.Causes.{OfLimit, OfLine, IsGood, tables_said, tables_in}
use Rattle.cause_laws.proofs.MoreLemmas.{replicas_more, tables_more, scheduled_more, schemas_more}
use Rattle.line_checks.specs.declared.marks.Marks.{Marks}
use Rattle.line_checks.specs.MarksOf.{IsMarked}
use Rattle.std.specs.Prelude.{◌-◌, get_or, replicate}
use Rattle.std.proofs.Math.Nat.{min-eq_left}
use Rattle.row_types.specs.declared.values.Value.{Value}
use Rattle.row_types.specs.Fit.{IsSchema}
use Rattle.ptc_statement.specs.declared.scripts.ScriptLine.{ScriptLine}
use Rattle.file_text.specs.Said.{Word, Turns, ScheduleWord, ColumnText, Node, Literal, value_of}
use Rattle.file_text.specs.declared.places.Keyword.TheVariants.{First}
use Rattle.file_text.specs.declared.faults.LimitKind.TheVariants.{Sessions, Locals, Schedule as ScheduleLimit}
use Rattle.file_text.specs.declared.faults.LineCause.TheVariants.{Actor}
use Rattle.file_text.specs.Context.{is_script, schema_of, in_script}
use Rattle.file_text.specs.Rules.{InRange}
use Rattle.file_text.specs.Causes.{AllDeclared}
use Rattle.line_words.specs.Actors.{kept}
use Rattle.line_words.specs.Items.{kept_node, kept_word}
use Rattle.line_words.specs.declared.items.ItemWord.{ItemWord}
use Rattle.line_words.specs.declared.nodes.NodeWord.{NodeWord}
use Rattle.line_items.specs.declared.counts.Counts.{Counts}
use Rattle.line_items.specs.Counted.{IsCounted}
use Rattle.line_checks.specs.MarksOf.{none_marked, marked, with_replicas, with_step}
use Rattle.line_checks.proofs.MarkLemmas.{section_marked, replicas_marked, step_marked, skipped_marked, none_is_marked}
use Rattle.file_rows.specs.declared.file_tables.FileTable.{FileTable}
use Rattle.file_rows.specs.NodeRows.{rows_of}
use Rattle.file_rows.specs.Holds.{IsOfKey, HoldsRows, schemas_in}
use Rattle.file_rows.specs.Puts.{place_named, IsPutAt}
use Rattle.file_rows.proofs.HoldLemmas.{GivesNoRow, rows_stay, replicas_held, table_held, row_held}
use Rattle.file_rows.proofs.ThereLemmas.{name_there}
use Rattle.file_scripts.specs.declared.scripts.OwnScript.{OwnScript}
use Rattle.file_scripts.specs.declared.scripts.Owner.TheVariants as o
use Rattle.file_scripts.specs.Scripts.{AreScripts, IsApart, begun, with_line}
use Rattle.file_scripts.specs.Counting.{turns_of, CountsSession, CountsLocal, CountsTurns}
use Rattle.file_scripts.specs.Declarations.{first_undeclared}
use Rattle.file_scripts.specs.Schedules.{items_in, IsScheduleOf}
use Rattle.file_scripts.specs.Laws.{IsUncounted, IsNoSchedule, AreWords, Knows}
use Rattle.file_scripts.proofs.ScriptLemmas.{session_begun, local_begun, apart_stays, step_taken, script_there}
use Rattle.file_scripts.proofs.CountLemmas.{counts_stay, session_counted, local_counted, turns_counted}
use Rattle.file_scripts.proofs.LimitLemmas.{sessions_few, locals_few, turns_few}
use Rattle.file_scripts.proofs.DeclareLemmas.{first_found, none_found}
use Rattle.file_scripts.proofs.ScheduleLemmas.{items_more, items_stay}
use Rattle.workload.specs.declared.schedule.Item.{Item as ScheduleItem}
use Rattle.row_types.specs.declared.table_schema.Schemas.{Schemas}
use Rattle.file_rows.specs.declared.file_rows.FileRows.{FileRows}
use Rattle.file_state.specs.declared.states.FileState.{FileState}
use Rattle.file_state.specs.Keeps.{Keeps, IsKept, LeadsTo, IsPlain}
use Rattle.file_state.proofs.GoodLemmas.{opens_of, good_order, rising_more, rising_stays, none_there, no_rows, no_schemas, no_replicas, first_replicas, few_tables}

pub none_kept : (state : FileState) → state.marks ≡ none_marked → IsCounted state.counts [] → state.schemas.tables ≡ [] → HoldsRows state.rows.tables.items [] → state.scripts ≡ [] → state.schedule ≡ [] → Keeps state []
none_kept state m c s r k p = record {
  marked = subst (λ (x : Marks). IsMarked x []) (sym m) none_is_marked;
  counted = c;
  schemas = s;
  rows = r;
  scripts = k;
  schedule = p;
  rising = λ section e. absurd (no_line section e);
  few_tables = omega arith;
  few_replicas = omega arith;
  few_turns = omega arith;
}
  where
    no_line : (section : Section) → is_there section [] ≡ true → ⊥
    no_line section e = cc

-- ---- what stays

-- it gives no table, no replicas and no turns
record IsLight (said : Said) : Type 0 where
  schema : schema_said said ≡ []
  replicas : replicas_said said ≡ 0
  tables : tables_said said ≡ 0
  turns : scheduled_said said ≡ 0

schemas_on : (before : List Said) (said : Said) (schemas : List Schema) → schema_said said ≡ [] → schemas ≡ schemas_of before → schemas ≡ schemas_of (before ++ said ∷ [])
schemas_on before said schemas e s = s ∙ sym (schemas_more before said ∙ ap (λ (l : List Schema). schemas_of before ++ l) e ∙ append-nil (schemas_of before))

tables_on : (before : List Said) (said : Said) → tables_said said ≡ 0 → tables_in before ≤ 16 → tables_in (before ++ said ∷ []) ≤ 16
tables_on before said e h = let m = tables_more before said in omega (arith, m, e, h)

replicas_on : (before : List Said) (said : Said) → replicas_said said ≡ 0 → replicas_of before ≤ 8 → replicas_of (before ++ said ∷ []) ≤ 8
replicas_on before said e h = let m = replicas_more before said in omega (arith, m, e, h)

turns_on : (before : List Said) (said : Said) → scheduled_said said ≡ 0 → scheduled_in before ≤ 10000000 → scheduled_in (before ++ said ∷ []) ≤ 10000000
turns_on before said e h = let m = scheduled_more before said in omega (arith, m, e, h)

-- ---- lines without effect on what is kept beside the marks

abbrev pub with_marks : Marks → FileState → FileState
with_marks marks state = record { marks = marks; counts = state.counts; schemas = state.schemas; rows = state.rows; scripts = state.scripts; schedule = state.schedule }

pub skipped_kept : (state : FileState) → LeadsTo Skipped state state
skipped_kept state before line k g = record {
  marked = skipped_marked state.marks before k.marked;
  counted = counts_stay state.counts before Skipped tt k.counted;
  schemas = schemas_on before Skipped state.schemas.tables refl k.schemas;
  rows = rows_stay state.rows.tables.items before Skipped (λ node table. refl) refl refl k.rows;
  scripts = apart_stays state.scripts before Skipped tt k.scripts;
  schedule = items_stay state.schedule before Skipped tt k.schedule;
  rising = rising_stays before Skipped refl k.rising;
  few_tables = tables_on before Skipped refl k.few_tables;
  few_replicas = replicas_on before Skipped refl k.few_replicas;
  few_turns = turns_on before Skipped refl k.few_turns;
}

plain_kept_at : (state : FileState) (section : Section) (said : Said) → section_of said ≡ Some section → IsLight said → GivesNoRow said → IsUncounted said → IsApart said → IsNoSchedule said → LeadsTo said state (with_marks (marked section state.marks) state)
plain_kept_at state section said e l n u a p before line k g = record {
  marked = section_marked state.marks before said section e l.replicas k.marked;
  counted = counts_stay state.counts before said u k.counted;
  schemas = schemas_on before said state.schemas.tables l.schema k.schemas;
  rows = rows_stay state.rows.tables.items before said n l.schema l.replicas k.rows;
  scripts = apart_stays state.scripts before said a k.scripts;
  schedule = items_stay state.schedule before said p k.schedule;
  rising = rising_more before said section e k.rising (good_order section before line said state.marks k.marked e g);
  few_tables = tables_on before said l.tables k.few_tables;
  few_replicas = replicas_on before said l.replicas k.few_replicas;
  few_turns = turns_on before said l.turns k.few_turns;
}

pub plain_kept : (state : FileState) (section : Section) (said : Said) → IsPlain said → section_of said ≡ Some section → LeadsTo said state (with_marks (marked section state.marks) state)
plain_kept state section (Header version) i e = plain_kept_at state section (Header version) e (record { schema = refl; replicas = refl; tables = refl; turns = refl }) (λ node table. refl) tt tt tt
plain_kept state section (Isolation level) i e = plain_kept_at state section (Isolation level) e (record { schema = refl; replicas = refl; tables = refl; turns = refl }) (λ node table. refl) tt tt tt
plain_kept state section End i e = plain_kept_at state section End e (record { schema = refl; replicas = refl; tables = refl; turns = refl }) (λ node table. refl) tt tt tt
plain_kept state section _ i e = absurd i

-- ---- a REPLICAS line

map_none : (tables : List FileTable) → schemas_in tables ≡ [] → tables ≡ []
map_none [] e = refl
map_none (table ∷ tables) e = absurd cc

pub replicas_kept : (state : FileState) (count : ℕ) → count ≤ 8 → LeadsTo (Replicas count) state (with_marks (with_replicas count (marked ReplicaLines state.marks)) state)
replicas_kept state count few before line k g =
    let i = good_order ReplicaLines before line (Replicas count) state.marks k.marked refl g in
    let none = no_schemas before (none_there before ReplicaLines TableLines k.rising i (omega arith)) in
    let zero_before = no_replicas before (first_replicas before line count g) in
    record {
      marked = replicas_marked state.marks before count k.marked;
      counted = counts_stay state.counts before (Replicas count) tt k.counted;
      schemas = schemas_on before (Replicas count) state.schemas.tables refl k.schemas;
      rows = replicas_held state.rows.tables.items before count (map_none state.rows.tables.items (k.rows.schemas ∙ none)) k.rows;
      scripts = apart_stays state.scripts before (Replicas count) tt k.scripts;
      schedule = items_stay state.schedule before (Replicas count) tt k.schedule;
      rising = rising_more before (Replicas count) ReplicaLines refl k.rising i;
      few_tables = tables_on before (Replicas count) refl k.few_tables;
      few_replicas = let m = replicas_more before (Replicas count) in omega (arith, m, zero_before, few);
      few_turns = turns_on before (Replicas count) refl k.few_turns;
    }

-- ---- a TABLE line

abbrev pub with_table : FileTable → Schema → FileState → FileState → Type 0
with_table table schema old new =
    (new.marks ≡ marked TableLines old.marks) × (new.counts ≡ old.counts) × (new.schemas.tables ≡ old.schemas.tables ++ schema ∷ []) × (new.rows.tables.items ≡ old.rows.tables.items ++ table ∷ []) × (new.scripts ≡ old.scripts) × (new.schedule ≡ old.schedule)

not_named : (before : List Said) (line : List ℕ) (name : List ℕ) (columns : List ColumnText) (tables : List FileTable) → HoldsRows tables before → IsGood before line (TableOf name columns) → place_named name 0 tables ≡ None
not_named before line name columns tables h g = by_place (place_named name 0 tables) refl
  where
    by_place : (place : Option ℕ) → place_named name 0 tables ≡ place → place_named name 0 tables ≡ None
    by_place None e = e
    by_place (Some place) e = absurd (g.good (OfLine Twice) (record { said = TableOf name columns; says = g.says; wrong = inl (name_there tables before name place h e) }))

pub table_kept : (old new : FileState) (table : FileTable) (schema : Schema) → with_table table schema old new → IsSchema schema → length schema.columns ≤ 16 → table.schema ≡ schema → rows_of table.nodes.items ≡ replicate (suc old.marks.replicas) []
    → AllByRecursion (IsOfKey table.schema.key_len) table.nodes.items → (name : List ℕ) (columns : List ColumnText) → schema ≡ schema_of name columns → LeadsTo (TableOf name columns) old new
table_kept old new table schema w is few same rows keys name columns e before line k g =
    let said = TableOf name columns in
    let i = good_order TableLines before line said old.marks k.marked refl g in
    record {
      marked = subst (λ (m : Marks). IsMarked m (before ++ said ∷ [])) (sym w.0) (section_marked old.marks before said TableLines refl refl k.marked);
      counted = subst (λ (c : Counts). IsCounted c (before ++ said ∷ [])) (sym w.1) (counts_stay old.counts before said tt k.counted);
      schemas = w.2 ∙ ap (λ (l : List Schema). l ++ schema ∷ []) k.schemas ∙ ap (λ (x : Schema). schemas_of before ++ x ∷ []) e ∙ sym (schemas_more before said);
      rows = subst (λ (l : List FileTable). HoldsRows l (before ++ said ∷ [])) (sym w.3)
          (table_held old.rows.tables.items table before name columns k.rows (no_rows before (none_there before TableLines RowLines k.rising i (omega arith))) (not_named before line name columns old.rows.tables.items k.rows g)
          (subst IsSchema e is) (subst (λ (x : Schema). length x.columns ≤ 16) e few) (same ∙ e) (rows ∙ ap (λ (n : ℕ). replicate (suc n) []) k.marked.replicas) keys);
      scripts = subst (λ (l : List OwnScript). AreScripts l (before ++ said ∷ [])) (sym w.4) (apart_stays old.scripts before said tt k.scripts);
      schedule = subst (λ (l : List ScheduleItem). IsScheduleOf l (before ++ said ∷ [])) (sym w.5) (items_stay old.schedule before said tt k.schedule);
      rising = rising_more before said TableLines refl k.rising i;
      few_tables = let m = tables_more before said in let f = few_tables before line said refl g in omega (arith, m, f);
      few_replicas = replicas_on before said refl k.few_replicas;
      few_turns = turns_on before said refl k.few_turns;
    }

-- ---- a ROW line

abbrev pub with_row : List FileTable → FileState → FileState → Type 0
with_row tables old new =
    (new.marks ≡ marked RowLines old.marks) × (new.counts ≡ old.counts) × (new.schemas ≡ old.schemas) × (new.rows.tables.items ≡ tables) × (new.scripts ≡ old.scripts) × (new.schedule ≡ old.schedule)

pub row_kept : (old new : FileState) (place : ℕ) (which : NodeWord) (row : List Value) (tables : List FileTable) → with_row tables old new → IsPutAt place which row old.rows.tables.items tables
    → (node : Node) (table : List ℕ) (literals : List Literal) → which ≡ kept_node node → row ≡ map value_of literals → place_named table 0 old.rows.tables.items ≡ Some place → LeadsTo (RowOf node table literals) old new
row_kept old new place which row tables w p node table literals e f n before line k g =
    let said = RowOf node table literals in
    record {
      marked = subst (λ (m : Marks). IsMarked m (before ++ said ∷ [])) (sym w.0) (section_marked old.marks before said RowLines refl refl k.marked);
      counted = subst (λ (c : Counts). IsCounted c (before ++ said ∷ [])) (sym w.1) (counts_stay old.counts before said tt k.counted);
      schemas = ap (λ (x : Schemas). x.tables) w.2 ∙ schemas_on before said old.schemas.tables refl k.schemas;
      rows = subst (λ (l : List FileTable). HoldsRows l (before ++ said ∷ [])) (sym w.3)
          (row_held old.rows.tables.items tables before node table literals place k.rows (let h = k.few_replicas in omega (arith, h)) n
          (subst (λ (l : List Value). IsPutAt place (kept_node node) l old.rows.tables.items tables) f (subst (λ (x : NodeWord). IsPutAt place x row old.rows.tables.items tables) e p)));
      scripts = subst (λ (l : List OwnScript). AreScripts l (before ++ said ∷ [])) (sym w.4) (apart_stays old.scripts before said tt k.scripts);
      schedule = subst (λ (l : List ScheduleItem). IsScheduleOf l (before ++ said ∷ [])) (sym w.5) (items_stay old.schedule before said tt k.schedule);
      rising = rising_more before said RowLines refl k.rising (good_order RowLines before line said old.marks k.marked refl g);
      few_tables = tables_on before said refl k.few_tables;
      few_replicas = replicas_on before said refl k.few_replicas;
      few_turns = turns_on before said refl k.few_turns;
    }

-- ---- SESSION and LOCAL lines

abbrev pub with_script : Section → List OwnScript → Counts → FileState → FileState → Type 0
with_script section scripts counts old new =
    (new.marks ≡ marked section old.marks) × (new.counts ≡ counts) × (new.schemas ≡ old.schemas) × (new.rows ≡ old.rows) × (new.scripts ≡ scripts) × (new.schedule ≡ old.schedule)

script_kept : (old new : FileState) (section : Section) (scripts : List OwnScript) (counts : Counts) (said : Said) → with_script section scripts counts old new → section_of said ≡ Some section → IsLight said → GivesNoRow said → IsNoSchedule said
    → (before : List Said) (line : List ℕ) → Keeps old before → IsGood before line said → IsCounted counts (before ++ said ∷ []) → AreScripts scripts (before ++ said ∷ []) → Keeps new (before ++ said ∷ [])
script_kept old new section scripts counts said w e l n p before line k g c s = record {
  marked = subst (λ (m : Marks). IsMarked m (before ++ said ∷ [])) (sym w.0) (section_marked old.marks before said section e l.replicas k.marked);
  counted = subst (λ (x : Counts). IsCounted x (before ++ said ∷ [])) (sym w.1) c;
  schemas = ap (λ (x : Schemas). x.tables) w.2 ∙ schemas_on before said old.schemas.tables l.schema k.schemas;
  rows = subst (λ (x : FileRows). HoldsRows x.tables.items (before ++ said ∷ [])) (sym w.3) (rows_stay old.rows.tables.items before said n l.schema l.replicas k.rows);
  scripts = subst (λ (x : List OwnScript). AreScripts x (before ++ said ∷ [])) (sym w.4) s;
  schedule = subst (λ (x : List ScheduleItem). IsScheduleOf x (before ++ said ∷ [])) (sym w.5) (items_stay old.schedule before said p k.schedule);
  rising = rising_more before said section e k.rising (good_order section before line said old.marks k.marked e g);
  few_tables = tables_on before said l.tables k.few_tables;
  few_replicas = replicas_on before said l.replicas k.few_replicas;
  few_turns = turns_on before said l.turns k.few_turns;
}

pub session_kept : (old new : FileState) (scripts : List OwnScript) (counts : Counts) → with_script SessionLines scripts counts old new → CountsSession old.counts counts → scripts ≡ begun o.Session old.scripts
    → (session : ℕ) → LeadsTo (SessionOf session) old new
session_kept old new scripts counts w c s session before line k g =
    script_kept old new SessionLines scripts counts (SessionOf session) w refl (record { schema = refl; replicas = refl; tables = refl; turns = refl }) (λ node table. refl) tt before line k g
    (session_counted old.counts counts before session c (sessions_few before line (opens_of SessionLines before line (SessionOf session) refl g) (g.good (OfLimit Sessions))) k.counted)
    (subst (λ (x : List OwnScript). AreScripts x (before ++ SessionOf session ∷ [])) (sym s) (session_begun old.scripts before session k.scripts))

pub local_kept : (old new : FileState) (replica : ℕ) (scripts : List OwnScript) (counts : Counts) → with_script LocalLines scripts counts old new → replica < 2 ^ 32 → CountsLocal replica old.counts counts → scripts ≡ begun (o.Local replica) old.scripts
    → (session : ℕ) → LeadsTo (LocalOf replica session) old new
local_kept old new replica scripts counts w small c s session before line k g =
    script_kept old new LocalLines scripts counts (LocalOf replica session) w refl (record { schema = refl; replicas = refl; tables = refl; turns = refl }) (λ node table. refl) tt before line k g
    (local_counted old.counts counts before replica session small c (locals_few before line replica session g.says (g.good (OfLimit Locals))) k.counted)
    (subst (λ (x : List OwnScript). AreScripts x (before ++ LocalOf replica session ∷ [])) (sym s) (local_begun old.scripts before replica session k.scripts))

-- ---- a SCHEDULE line

all_there : (state : FileState) (before : List Said) (line : List ℕ) (words : List ScheduleWord) → Keeps state before → IsGood before line (Schedule words) → AllByRecursion (AllDeclared before) words
all_there state before line words k g = by_first (first_undeclared state.counts state.marks.replicas 0 (map kept_word words)) refl
  where
    knows : Knows state.counts state.marks.replicas before
    knows = record { counted = k.counted; number = k.marked.replicas; few = let e = k.marked.replicas in let h = k.few_replicas in omega (arith, e, h) }

    by_first : (found : Option ℕ) → first_undeclared state.counts state.marks.replicas 0 (map kept_word words) ≡ found → AllByRecursion (AllDeclared before) words
    by_first None e = none_found state.counts before state.marks.replicas words knows e
    by_first (Some number) e =
        absurd (g.good (OfLine (Actor _)) (record {
          said = Schedule words;
          section = ScheduleLines;
          of = refl;
          says = g.says;
          number = number;
          who = first_found state.counts before state.marks.replicas words number knows e;
          is = refl;
        }))

range_said : (before : List Said) (line : List ℕ) (words : List ScheduleWord) → Says before line (Schedule words) → (section : Section) × InRange before [] (Word (First section) ∷ map Turns words)
range_said before line words s = (s.0, s.1.in_range)

pub words_are : (state : FileState) (before : List Said) (line : List ℕ) (words : List ScheduleWord) → Keeps state before → IsGood before line (Schedule words) → AreWords before words
words_are state before line words k g =
    let r = range_said before line words g.says in
    record {
      declared = all_there state before line words k g;
      few_replicas = k.few_replicas;
      few_sessions = k.counted.few_sessions;
      few_locals = k.counted.few_locals;
      front = Word (First r.0) ∷ [];
      in_range = r.1.1;
      turns = let t = turns_few before line words g.says (g.good (OfLimit ScheduleLimit)) k.few_turns in omega (arith, t);
    }

abbrev pub with_schedule : List ScheduleItem → Counts → FileState → FileState → Type 0
with_schedule items counts old new =
    (new.marks ≡ marked ScheduleLines old.marks) × (new.counts ≡ counts) × (new.schemas ≡ old.schemas) × (new.rows ≡ old.rows) × (new.scripts ≡ old.scripts) × (new.schedule ≡ items)

pub schedule_kept : (old new : FileState) (words : List ItemWord) (items : List ScheduleItem) (counts : Counts) → with_schedule items counts old new → CountsTurns (turns_of words) old.counts counts → items ≡ old.schedule ++ flat_map items_in words
    → (said : List ScheduleWord) → words ≡ map kept_word said → LeadsTo (Schedule said) old new
schedule_kept old new words items counts w c s said e before line k g =
    let are = words_are old before line said k g in
    let t = turns_few before line said g.says (g.good (OfLimit ScheduleLimit)) k.few_turns in
    record {
      marked = subst (λ (m : Marks). IsMarked m (before ++ Schedule said ∷ [])) (sym w.0) (section_marked old.marks before (Schedule said) ScheduleLines refl refl k.marked);
      counted = subst (λ (x : Counts). IsCounted x (before ++ Schedule said ∷ [])) (sym w.1)
          (turns_counted old.counts counts before said are.turns (subst (λ (l : List ItemWord). CountsTurns (turns_of l) old.counts counts) e c) k.counted);
      schemas = ap (λ (x : Schemas). x.tables) w.2 ∙ schemas_on before (Schedule said) old.schemas.tables refl k.schemas;
      rows = subst (λ (x : FileRows). HoldsRows x.tables.items (before ++ Schedule said ∷ [])) (sym w.3) (rows_stay old.rows.tables.items before (Schedule said) (λ node table. refl) refl refl k.rows);
      scripts = subst (λ (x : List OwnScript). AreScripts x (before ++ Schedule said ∷ [])) (sym w.4) (apart_stays old.scripts before (Schedule said) tt k.scripts);
      schedule = subst (λ (x : List ScheduleItem). IsScheduleOf x (before ++ Schedule said ∷ [])) (sym (w.5 ∙ s ∙ ap (λ (l : List ItemWord). old.schedule ++ flat_map items_in l) e)) (items_more old.schedule before said are k.schedule);
      rising = rising_more before (Schedule said) ScheduleLines refl k.rising (good_order ScheduleLines before line (Schedule said) old.marks k.marked refl g);
      few_tables = tables_on before (Schedule said) refl k.few_tables;
      few_replicas = replicas_on before (Schedule said) refl k.few_replicas;
      few_turns = let m = scheduled_more before (Schedule said) in omega (arith, m, t);
    }

-- ---- a step of a script

abbrev pub with_line_more : List OwnScript → ScriptLine → FileState → FileState → Type 0
with_line_more scripts line old new =
    (new.marks ≡ with_step line.step old.marks) × (new.counts ≡ old.counts) × (new.schemas ≡ old.schemas) × (new.rows ≡ old.rows) × (new.scripts ≡ scripts) × (new.schedule ≡ old.schedule)

pub step_kept : (old new : FileState) (scripts : List OwnScript) (step : ScriptLine) → with_line_more scripts step old new → scripts ≡ with_line step old.scripts
    → (before : List Said) (line : List ℕ) → Keeps old before → in_script before ≡ true → step.line ≡ suc (length before) → IsGood before line (StepOf step.step) → Keeps new (before ++ StepOf step.step ∷ [])
step_kept old new scripts step w s before line k i n g = record {
  marked = subst (λ (m : Marks). IsMarked m (before ++ StepOf step.step ∷ [])) (sym w.0) (step_marked old.marks before step.step k.marked);
  counted = subst (λ (x : Counts). IsCounted x (before ++ StepOf step.step ∷ [])) (sym w.1) (counts_stay old.counts before (StepOf step.step) tt k.counted);
  schemas = ap (λ (x : Schemas). x.tables) w.2 ∙ schemas_on before (StepOf step.step) old.schemas.tables refl k.schemas;
  rows = subst (λ (x : FileRows). HoldsRows x.tables.items (before ++ StepOf step.step ∷ [])) (sym w.3) (rows_stay old.rows.tables.items before (StepOf step.step) (λ node table. refl) refl refl k.rows);
  scripts = subst (λ (x : List OwnScript). AreScripts x (before ++ StepOf step.step ∷ [])) (sym (w.4 ∙ s)) (step_taken old.scripts before step i n k.scripts);
  schedule = subst (λ (x : List ScheduleItem). IsScheduleOf x (before ++ StepOf step.step ∷ [])) (sym w.5) (items_stay old.schedule before (StepOf step.step) tt k.schedule);
  rising = rising_stays before (StepOf step.step) refl k.rising;
  few_tables = tables_on before (StepOf step.step) refl k.few_tables;
  few_replicas = replicas_on before (StepOf step.step) refl k.few_replicas;
  few_turns = turns_on before (StepOf step.step) refl k.few_turns;
}

-- ---- what the calls ask for

kept_small : (n : ℕ) → n < 2 ^ 32 → kept n ≡ n
kept_small n h = min-eq_left (omega (arith, h))

pub local_small : (state : FileState) (replica : ℕ) → replica < 2 ^ 32 → IsKept state → get_or state.counts.locals.items replica 0 < 2 ^ 32 - 1
local_small state replica small k =
    let e = ap (λ (n : ℕ). get_or state.counts.locals.items n 0) (sym (kept_small replica small)) ∙ k.keeps.counted.locals replica in
    let f = k.keeps.counted.few_locals replica in
    omega (arith, e, f)

pub some_script : (state : FileState) → IsKept state → is_script state.marks.last ≡ true → 0 < length state.scripts
some_script state k e = script_there state.scripts k.before (ap is_script (sym k.keeps.marked.last) ∙ e) k.keeps.scripts
