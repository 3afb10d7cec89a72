-- The workload of allowed rows, an allowed script and an allowed schedule keeps the rules.
use Rattle.std.proofs.Common.{◌≡◌, ◌<◌, ◌≤◌, ◌+◌, ℕ, ℤ, Option, None, Some, true, false, arith, List, [], ◌∷◌, map, length, refl, sym, ap, subst, ◌∙◌, Ordering, Less, Equal, Greater, int_cmp, FitsSigned, w64, lit≤}
use Rattle.std.specs.Ordering.{match_ordering, ordering_then, ordering_reverse}
use Rattle.std.specs.List.{AllByRecursion, slice_get}
use Rattle.std.specs.Prelude.{codes, is_some, IsTrue}
use Rattle.std.specs.BTreeMap.{insert_entry}
use Rattle.std.specs.Cmp.{int_cmp_total}
use Rattle.row_types.specs.declared.values.Value.{Value}
use Rattle.row_types.specs.declared.values.Value.TheVariants.{Int}
use Rattle.row_types.specs.Fit.{with_rows, IsTable, IsBelowAll, IsSchema}
use Rattle.workload_file.specs.declared.workload.Workload.{Workload}
use Rattle.workload_file.specs.Workload.{IsWorkload, ScriptFits, StepFits, LinesRise, ItemFits}
use Rattle.row_types.specs.declared.table_schema.Schema.{Schema}
use Rattle.row_types.specs.declared.table_schema.ColumnKind.TheVariants.{BigInt}
use Rattle.ptc_statement.specs.declared.scripts.ScriptLine.{ScriptLine}
use Rattle.ptc_statement.specs.declared.expressions.Expr.TheVariants.{Lit}
use Rattle.ptc_statement.specs.declared.expressions.Op.TheVariants.{Eq}
use Rattle.ptc_statement.specs.Effect.{is_logged}
use Rattle.ptc_statement.specs.Effect.{table_of as table_number}
use Rattle.ptc_statement.specs.Fits.{IsClients, FitsSchemas, AssignmentFits, WhereFits, StatementFits}
use Rattle.ptc_statement.proofs.FitLemmas.{comparison_fits, literal_height, literal_is_number}
use Rattle.ptc_run.specs.declared.script_lines.ScriptText.{ScriptText}
use Rattle.ptc_run.specs.declared.script_lines.ScriptText.TheVariants.{Insert, Update, Delete}
use Rattle.ptc_run.specs.ScriptLines.{NumbersFitScript, AllowedScript, has_key, statement_of, numbered, sessions_of}
use Rattle.ptc_run.specs.declared.schedule_lines.ScheduleWord.{ScheduleWord}
use Rattle.ptc_run.specs.declared.schedule_lines.ScheduleWord.TheVariants.{Session, Tool, Worker}
use Rattle.ptc_run.specs.ScheduleLines.{AllowedWord, AllowedWords, AllowedSchedule, item_of, items_of, schedule_of}
use Rattle.ptc_run.specs.declared.row_lines.RowLine.{RowLine}
use Rattle.ptc_run.specs.RowLines.{NumbersFit, is_for_source, is_for_replica}
use Rattle.ptc_run.specs.FirstForm.{first_schema, values_of, table_of, source_rows, replica_rows, workload_of, Allowed, IsWorkloadText}
use Rattle.ptc_run.specs.KeptRows.{entry_values}
use Rattle.ptc_run.proofs.ListLemmas.{all_append, all_weaker, all_filter}
use Rattle.ptc_run.proofs.TableLemmas.{insert_is}

-- rows of two numbers as entries, put in one after the other
entries_onto : List (ℤ × ℤ) → List RowLine → List (ℤ × ℤ)
entries_onto entries [] = entries
entries_onto entries (row ∷ rows) = entries_onto (insert_entry int_cmp entries row.key row.value) rows

table_onto : (entries : List (ℤ × ℤ)) (rows : List RowLine) → with_rows first_schema (map entry_values entries) (map values_of rows) ≡ map entry_values (entries_onto entries rows)
unfolding entries_onto
table_onto entries [] = refl
table_onto entries (row ∷ rows) = ap (λ (table : List (List Value)). with_rows first_schema table (map values_of rows)) (sym (insert_is row.key row.value entries)) ∙ table_onto (insert_entry int_cmp entries row.key row.value) rows

-- ---- entries by rising key

abbrev EntryFits : ℤ × ℤ → Type 0
EntryFits entry = FitsSigned w64 entry.0 × FitsSigned w64 entry.1

abbrev IsBelow : ℤ → List (ℤ × ℤ) → Type 0
IsBelow key = AllByRecursion (λ (entry : ℤ × ℤ). int_cmp key entry.0 ≡ Less)

abbrev AreEntries : List (ℤ × ℤ) → Type 0
AreEntries [] = Unit {0}
AreEntries (entry ∷ entries) = EntryFits entry × IsBelow entry.0 entries × AreEntries entries

below_at : (o : Ordering) (low key value : ℤ) (entry : ℤ × ℤ) (entries rest : List (ℤ × ℤ)) → int_cmp low key ≡ Less → IsBelow low (entry ∷ entries) → IsBelow low rest → IsBelow low (match_ordering o ((key, value) ∷ entry ∷ entries) ((entry.0, value) ∷ entries) (entry ∷ rest))
below_at Less low key value entry entries rest lt h ih = (lt, h)
below_at Equal low key value entry entries rest lt h ih = h
below_at Greater low key value entry entries rest lt h ih = (h.0, ih)

below_insert : (low key value : ℤ) (entries : List (ℤ × ℤ)) → int_cmp low key ≡ Less → IsBelow low entries → IsBelow low (insert_entry int_cmp entries key value)
below_insert low key value [] lt h = (lt, tt)
below_insert low key value (entry ∷ entries) lt h = below_at (int_cmp key entry.0) low key value entry entries (insert_entry int_cmp entries key value) lt h (below_insert low key value entries lt h.1)

entries_at : (o : Ordering) (key value : ℤ) (entry : ℤ × ℤ) (entries rest : List (ℤ × ℤ)) → int_cmp key entry.0 ≡ o → EntryFits (key, value) → AreEntries (entry ∷ entries) → (int_cmp entry.0 key ≡ Less → IsBelow entry.0 rest) → AreEntries rest
    → AreEntries (match_ordering o ((key, value) ∷ entry ∷ entries) ((entry.0, value) ∷ entries) (entry ∷ rest))
entries_at Less key value entry entries rest e fits h below ih =
    (fits, (e, all_weaker (λ (other : ℤ × ℤ). int_cmp entry.0 other.0 ≡ Less) (λ (other : ℤ × ℤ). int_cmp key other.0 ≡ Less) (λ other lt. int_cmp_total.trans key entry.0 other.0 e lt) entries h.1), h)
entries_at Equal key value entry entries rest e fits h below ih = ((h.0.0, fits.1), h.1, h.2)
entries_at Greater key value entry entries rest e fits h below ih = (h.0, below (int_cmp_total.antisymm entry.0 key ∙ ap ordering_reverse e), ih)

entries_insert : (key value : ℤ) (entries : List (ℤ × ℤ)) → EntryFits (key, value) → AreEntries entries → AreEntries (insert_entry int_cmp entries key value)
entries_insert key value [] fits h = (fits, tt, tt)
entries_insert key value (entry ∷ entries) fits h =
    entries_at (int_cmp key entry.0) key value entry entries (insert_entry int_cmp entries key value) refl fits h (λ lt. below_insert entry.0 key value entries lt h.1) (entries_insert key value entries fits h.2)

entries_all : (entries : List (ℤ × ℤ)) (rows : List RowLine) → AllByRecursion NumbersFit rows → AreEntries entries → AreEntries (entries_onto entries rows)
unfolding entries_onto
entries_all entries [] fits h = h
entries_all entries (row ∷ rows) fits h = entries_all (insert_entry int_cmp entries row.key row.value) rows fits.1 (entries_insert row.key row.value entries fits.0 h)

-- ---- tables

below_rows : (key value : ℤ) (entries : List (ℤ × ℤ)) → IsBelow key entries → IsBelowAll first_schema (Int key ∷ Int value ∷ []) (map entry_values entries)
unfolding first_schema
below_rows key value [] h = tt
below_rows key value (entry ∷ entries) h = (ap (λ (o : Ordering). ordering_then o Equal) h.0, below_rows key value entries h.1)

entries_table : (entries : List (ℤ × ℤ)) → AreEntries entries → IsTable first_schema (map entry_values entries)
unfolding first_schema
entries_table [] h = tt
entries_table (entry ∷ entries) h = ((h.0.0, (h.0.1, tt)), below_rows entry.0 entry.1 entries h.1, entries_table entries h.2)

pub table_of-IsTable : (rows : List RowLine) → AllByRecursion NumbersFit rows → IsTable first_schema (table_of rows)
table_of-IsTable rows fits = subst (IsTable first_schema) (sym (table_onto [] rows)) (entries_table (entries_onto [] rows) (entries_all [] rows fits tt))

pub first_schema-IsSchema : IsSchema first_schema
unfolding first_schema
first_schema-IsSchema = record {
  key = lit≤ tt;
  most = lit≤ tt;
  within = lit≤ tt;
  lengths = (tt, (tt, tt));
  not_null = (refl, tt);
}

-- ---- the script

numbers_later : (texts : List ScriptText) (low number : ℕ) → low < number → AllByRecursion (λ (later : ScriptLine). low < later.line) (numbered number texts)
numbers_later [] low number lt = tt
numbers_later (text ∷ texts) low number lt = (lt, numbers_later texts low (number + 1) (omega arith))

lines_rise : (texts : List ScriptText) (number : ℕ) → LinesRise (numbered number texts)
lines_rise [] number = tt
lines_rise (text ∷ texts) number = (numbers_later texts number (number + 1) (omega arith), lines_rise texts (number + 1))

has_key_fits : (key : ℤ) → WhereFits first_schema (has_key key)
unfolding first_schema
has_key_fits key = comparison_fits first_schema Eq 0 (Int key) refl refl

statement_fits : (text : ScriptText) → NumbersFitScript text → StatementFits first_schema (statement_of text)
unfolding first_schema
statement_fits (Insert key value) f = (f.0, (f.1, tt))
statement_fits (Update key value) f =
    let assignment : AssignmentFits first_schema (record { column = 1; expr = Lit (Int value) }) = record {
      behind_key = lit≤ tt;
      column = record { name = codes "v"; kind = BigInt; nullable = true };
      found = refl;
      kind = literal_is_number first_schema (Int value);
      height = omega (arith, literal_height (Int value));
    } in
    ((assignment, tt), has_key_fits key)
statement_fits (Delete key) f = has_key_fits key

is_clients : (text : ScriptText) → IsClients (statement_of text)
is_clients (Insert key value) = tt
is_clients (Update key value) = tt
is_clients (Delete key) = tt

is_written : (text : ScriptText) → IsTrue (is_logged (statement_of text))
is_written (Insert key value) = refl
is_written (Update key value) = refl
is_written (Delete key) = refl

on_first : (text : ScriptText) → table_number (statement_of text) ≡ 0
on_first (Insert key value) = refl
on_first (Update key value) = refl
on_first (Delete key) = refl

fits_first : (text : ScriptText) → NumbersFitScript text → FitsSchemas (first_schema ∷ []) (statement_of text)
fits_first text f = record {
  schema = first_schema;
  found = ap (slice_get (first_schema ∷ [])) (on_first text);
  fits = statement_fits text f;
}

steps_fit : (texts : List ScriptText) (number : ℕ) → AllByRecursion NumbersFitScript texts → AllByRecursion (λ (line : ScriptLine). StepFits (first_schema ∷ []) line.step) (numbered number texts)
steps_fit [] number f = tt
steps_fit (text ∷ texts) number f = ((is_clients text, fits_first text f.0, is_written text), steps_fit texts (number + 1) f.1)

few_sessions : (script : Option (List ScriptText)) (number : ℕ) → length (sessions_of number script) ≤ 64
few_sessions None number = lit≤ tt
few_sessions (Some texts) number = lit≤ tt

scripts_fit : (script : Option (List ScriptText)) (number : ℕ) → AllowedScript script → AllByRecursion (ScriptFits (first_schema ∷ [])) (sessions_of number script)
scripts_fit None number f = tt
scripts_fit (Some texts) number f = (record { steps = steps_fit texts number f; numbers = lines_rise texts number }, tt)

-- ---- the schedule

word_fits : (script : Option (List ScriptText)) (number : ℕ) (word : ScheduleWord) → AllowedWord (is_some script) word → ItemFits (length (sessions_of number script)) 1 (item_of word)
word_fits None number Session f = absurd (let no : false ≡ true = f in cc)
word_fits (Some texts) number Session f = (lit≤ tt, lit≤ tt)
word_fits script number Tool f = tt
word_fits script number Worker f = (lit≤ tt, lit≤ tt, refl)

words_fit : (script : Option (List ScriptText)) (number : ℕ) (words : List ScheduleWord) → AllowedWords (is_some script) words → AllByRecursion (ItemFits (length (sessions_of number script)) 1) (items_of words)
words_fit script number [] f = tt
words_fit script number (word ∷ words) f = (word_fits script number word f.0, words_fit script number words f.1)

schedule_fits : (script : Option (List ScriptText)) (number : ℕ) (schedule : List (List ScheduleWord)) → AllowedSchedule (is_some script) schedule → AllByRecursion (ItemFits (length (sessions_of number script)) 1) (schedule_of schedule)
schedule_fits script number [] f = tt
schedule_fits script number (words ∷ schedule) f =
    all_append (ItemFits (length (sessions_of number script)) 1) (items_of words) (schedule_of schedule) (words_fit script number words f.0) (schedule_fits script number schedule f.1)

-- ---- the workload

pub workload_of-IsWorkload : (rows : List RowLine) (script : Option (List ScriptText)) (schedule : List (List ScheduleWord)) → Allowed rows script schedule → IsWorkload (workload_of rows script schedule)
workload_of-IsWorkload rows script schedule h = record {
  some_table = lit≤ tt;
  most_tables = lit≤ tt;
  schemas = (first_schema-IsSchema, tt);
  some_replica = lit≤ tt;
  most_replicas = lit≤ tt;
  source = (table_of-IsTable (source_rows rows) (all_filter NumbersFit (λ (row : RowLine). is_for_source row.node) rows h.of_rows.numbers), tt);
  copies = ((table_of-IsTable (replica_rows rows) (all_filter NumbersFit (λ (row : RowLine). is_for_replica row.node) rows h.of_rows.numbers), tt), tt);
  most_sessions = few_sessions script (length rows + 5);
  scripts = scripts_fit script (length rows + 5) h.of_script;
  each_copied = refl;
  schedule = schedule_fits script (length rows + 5) schedule h.of_schedule;
}

pub text-IsWorkload : (bytes : List ℕ) (w : Workload) → IsWorkloadText bytes w → IsWorkload w
text-IsWorkload bytes w h = subst IsWorkload (sym h.workload) (workload_of-IsWorkload h.rows h.script h.schedule h.allowed)
