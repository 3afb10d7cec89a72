-- What a line that stands in a script is read as.
use Rattle.std.specs.Prelude.{◌≡◌, ◌≢◌, ℕ, List, None, Result, Ok, Err}
use Rattle.ptc_statement.specs.declared.statements.Statement.{Statement}
use Rattle.ptc_statement.specs.declared.scripts.ScriptStep.TheVariants.{Run}
use Rattle.statement_grammar.specs.declared.text_faults.TextFault.{TextFault}
use Rattle.statement_grammar.specs.declared.text_faults.TextFault.TheVariants.{Memory}
use Rattle.statement_grammar.specs.FirstFault.{IsFirstFault}
use Rattle.file_text.specs.Parts.{words_of, trimmed}
use Rattle.file_text.specs.Said.{Said}
use Rattle.file_text.specs.Context.{schemas_of}
use Rattle.file_text.specs.Rules.{word_step, IsStep}
use Rattle.script_steps.specs.declared.step_readings.StepReading.{StepReading}
use Rattle.script_steps.specs.declared.step_readings.StepReading.TheVariants.{Step, Fault}

-- behind these lines, the line is this step, or it is none and its statement has this first fault
abbrev pub IsStepReading : List Said → List ℕ → StepReading → Type 0
IsStepReading before line (Step step) = IsStep before line step
IsStepReading before line (Fault fault) = (word_step (words_of line) ≡ None) × IsFirstFault (schemas_of before) (trimmed line) fault

-- what is told of the answer to a statement's text
abbrev pub IsTold : Result Statement TextFault → StepReading → Type 0
IsTold (Ok statement) reading = reading ≡ Step (Run statement)
IsTold (Err fault) reading = (fault ≢ Memory) × (reading ≡ Fault fault)
