-- How a line is read.
use Rattle.std.proofs.Common.{◌≡◌, ℕ, List, Some, None, sym, subst, inl, inr}
use Rattle.std.specs.Prelude.{◌⊎◌, Result, Ok, Err, IfOk, IfErr}
use Rattle.row_types.specs.declared.table_schema.Schema.{Schema}
use Rattle.ptc_statement.specs.declared.statements.Statement.{Statement}
use Rattle.ptc_statement.specs.declared.scripts.ScriptStep.{ScriptStep}
use Rattle.statement_grammar.specs.declared.text_faults.TextFault.{TextFault}
use Rattle.statement_grammar.specs.declared.text_faults.TextFault.TheVariants as fault
use Rattle.statement_grammar.specs.FirstFault.{IsText, IsFirstFault}
use Rattle.file_text.specs.Parts.{words_of, trimmed}
use Rattle.file_text.specs.Said.{Said}
use Rattle.file_text.specs.Context.{schemas_of}
use Rattle.file_text.specs.Rules.{word_step, IsStep}
use Rattle.file_lines.specs.declared.openings.StepWord.{StepWord}
use Rattle.file_lines.specs.declared.openings.StepWord.TheVariants as w
use Rattle.file_lines.specs.Openings.{step_of}
use Rattle.script_steps.specs.declared.step_readings.StepReading.{StepReading}
use Rattle.script_steps.specs.StepReadings.{IsStepReading, IsTold}

word_is : (before : List Said) (line : List ℕ) (word : StepWord) → Some (step_of word) ≡ word_step (words_of line) → IsStep before line (step_of word)
word_is before line w.Begin e = sym e
word_is before line w.Commit e = sym e
word_is before line w.Rollback e = sym e

pub word_read : (before : List Said) (line : List ℕ) (word : StepWord) (step : ScriptStep) → Some (step_of word) ≡ word_step (words_of line) → step ≡ step_of word → IsStep before line step
word_read before line word step e is = subst (IsStep before line) (sym is) (word_is before line word e)

pub statement_read : (schemas : List Schema) (before : List Said) (line text : List ℕ) (read : Result Statement TextFault) (reading : StepReading)
    → None ≡ word_step (words_of line) → text ≡ trimmed line → schemas ≡ schemas_of before
    → IfOk read (λ statement. IsText schemas text statement) → IfErr read (λ f. (f ≡ fault.Memory) ⊎ IsFirstFault schemas text f)
    → IsTold read reading → IsStepReading before line reading
statement_read schemas before line text (Ok statement) reading e t s found refused told =
    subst (IsStepReading before line) (sym told) (sym e, subst (λ (l : List ℕ). IsText (schemas_of before) l statement) t (subst (λ (l : List Schema). IsText l text statement) s found))
statement_read schemas before line text (Err f) reading e t s found (inl m) told = absurd (told.0 m)
statement_read schemas before line text (Err f) reading e t s found (inr h) told =
    subst (IsStepReading before line) (sym told.1) (sym e, subst (λ (l : List ℕ). IsFirstFault (schemas_of before) l f) t (subst (λ (l : List Schema). IsFirstFault l text f) s h))
