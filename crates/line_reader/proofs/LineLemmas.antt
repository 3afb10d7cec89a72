-- Lines of sections, steps of scripts, skipped lines.
use Rattle.std.proofs.Common.{◌≡◌, ◌≤◌, ℕ, true, false, List, [], ◌∷◌, length, Option, Some, None, refl, sym, ap, subst, ◌∙◌, arith}
use Rattle.std.specs.Prelude.{IsTrue, Result, Ok, Err, IfOk}
use Rattle.std.specs.List.{AllByRecursion}
use Rattle.row_types.specs.declared.table_schema.Schema.{Schema}
use Rattle.ptc_statement.specs.declared.scripts.ScriptStep.{ScriptStep}
use Rattle.statement_grammar.specs.declared.text_faults.TextFault.{TextFault}
use Rattle.file_text.specs.declared.faults.LineCause.TheVariants.{Statement as StatementCause}
use Rattle.file_text.specs.Said.{Said, Skipped, Header, Isolation, Replicas, TableOf, RowOf, SessionOf, LocalOf, StepOf, Schedule, End}
use Rattle.file_text.specs.Context.{schemas_of, is_script}
use Rattle.file_text.specs.Rules.{OpensNone, IsSkipped}
use Rattle.file_text.specs.Causes.{tables_in}
use Rattle.cause_laws.specs.Clear.{Clear}
use Rattle.cause_laws.proofs.LimitLemmas.{none_clear}
use Rattle.cause_laws.proofs.LineLemmas.{not_ended, skipped_good}
use Rattle.cause_laws.proofs.StepLemmas.{inside_clear, statement_refused}
use Rattle.line_checks.specs.declared.line_faults.LineFault.{LineFault}
use Rattle.line_checks.specs.declared.line_faults.LineFault.TheVariants.{Cause}
use Rattle.statement_reads.specs.Reads.{are_countable}
use Rattle.script_steps.specs.declared.step_readings.StepReading.TheVariants.{Step, Fault}
use Rattle.script_steps.specs.StepReadings.{IsStepReading}
use Rattle.script_steps.proofs.CountLemmas.{few_are_countable}
use Rattle.file_rows.specs.declared.file_tables.FileTable.{FileTable}
use Rattle.file_rows.specs.Holds.{schemas_in, HoldsTable}
use Rattle.file_state.specs.declared.states.FileState.{FileState}
use Rattle.file_state.specs.Keeps.{Keeps, IsKept, LeadsTo}
use Rattle.line_reader.specs.Reads.{Reads, StepTaken}

pub ok_weaker : {T E : Type 0} (r : Result T E) (P Q : T → Type 0) → IfOk r P → ((x : T) → P x → Q x) → IfOk r Q
ok_weaker (Ok x) P Q h f = f x h
ok_weaker (Err x) P Q h f = tt

-- ---- skipped lines

pub skipped_read : (number : ℕ) (line : List ℕ) (old new : FileState) → length line ≤ 65535 → IsSkipped line → LeadsTo Skipped old new → Reads number line old new None
skipped_read number line old new short s l before k n =
    let g = skipped_good before line short s in
    record { said = Skipped; good = g; keeps = l before line k g }

-- ---- lines that begin no section

clear_9 : (state : FileState) (before : List Said) (line : List ℕ) → Keeps state before → OpensNone line → length line ≤ 65535 → state.marks.ended ≡ false → Clear 9 before line
clear_9 state before line k o short e = not_ended before line (none_clear before line o short) (sym k.marked.ended ∙ e)

inside_14 : (state : FileState) (before : List Said) (line : List ℕ) → Keeps state before → OpensNone line → length line ≤ 65535 → state.marks.ended ≡ false → is_script state.marks.last ≡ true → Clear 14 before line
inside_14 state before line k o short e i = inside_clear before line o (clear_9 state before line k o short e) (ap is_script (sym k.marked.last) ∙ i)

pub fault_read : (number : ℕ) (line : List ℕ) (old new : FileState) (fault : TextFault) → length line ≤ 65535 → OpensNone line → old.marks.ended ≡ false → is_script old.marks.last ≡ true
    → ((before : List Said) → old.schemas.tables ≡ schemas_of before → IsStepReading before line (Fault fault)) → Reads number line old new (Some (Cause (StatementCause fault)))
fault_read number line old new fault short o e i r before k n =
    let f = r before k.schemas in
    statement_refused before line fault o (inside_14 old before line k o short e i) (ap is_script (sym k.marked.last) ∙ i) f.0 f.1

pub step_read : (number : ℕ) (line : List ℕ) (old new : FileState) (step : ScriptStep) (fault : Option LineFault) → length line ≤ 65535 → OpensNone line → old.marks.ended ≡ false → is_script old.marks.last ≡ true
    → ((before : List Said) → old.schemas.tables ≡ schemas_of before → IsStepReading before line (Step step)) → StepTaken number step old new fault → Reads number line old new fault
step_read number line old new step fault short o e i r t before k n =
    t before line k n o (ap is_script (sym k.marked.last) ∙ i) (inside_14 old before line k o short e i) (r before k.schemas)

-- ---- tables can be counted

tables_counted : (before : List Said) → length (schemas_of before) ≡ tables_in before
tables_counted [] = refl
tables_counted (TableOf name columns ∷ before) = let h = tables_counted before in omega (arith, h)
tables_counted (Skipped ∷ before) = let h = tables_counted before in omega (arith, h)
tables_counted (Header version ∷ before) = let h = tables_counted before in omega (arith, h)
tables_counted (Isolation level ∷ before) = let h = tables_counted before in omega (arith, h)
tables_counted (Replicas count ∷ before) = let h = tables_counted before in omega (arith, h)
tables_counted (RowOf node table literals ∷ before) = let h = tables_counted before in omega (arith, h)
tables_counted (SessionOf session ∷ before) = let h = tables_counted before in omega (arith, h)
tables_counted (LocalOf replica session ∷ before) = let h = tables_counted before in omega (arith, h)
tables_counted (StepOf step ∷ before) = let h = tables_counted before in omega (arith, h)
tables_counted (Schedule words ∷ before) = let h = tables_counted before in omega (arith, h)
tables_counted (End ∷ before) = let h = tables_counted before in omega (arith, h)

few_columns : (before : List Said) (tables : List FileTable) → AllByRecursion (HoldsTable before) tables → AllByRecursion (λ (schema : Schema). length schema.columns ≤ 16) (schemas_in tables)
few_columns before [] h = tt
few_columns before (table ∷ tables) h = (h.0.few, few_columns before tables h.1)

pub countable : (state : FileState) → IsKept state → IsTrue (are_countable state.schemas.tables)
countable state k =
    let same = k.keeps.schemas in
    let few = k.keeps.few_tables in
    let count = tables_counted k.before in
    subst (λ (l : List Schema). IsTrue (are_countable l)) (sym same)
    (few_are_countable (schemas_of k.before) (omega (arith, count, few)) (subst (AllByRecursion (λ (schema : Schema). length schema.columns ≤ 16)) k.keeps.rows.schemas (few_columns k.before state.rows.tables.items k.keeps.rows.tables)))
