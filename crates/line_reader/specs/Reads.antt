-- What a line of a number is read as.
use Rattle.std.specs.Prelude.{◌≡◌, ℕ, suc, true, List, length, Option}
use Rattle.ptc_statement.specs.declared.scripts.ScriptStep.{ScriptStep}
use Rattle.file_text.specs.Context.{in_script}
use Rattle.file_text.specs.Rules.{OpensNone, IsStep}
use Rattle.cause_laws.specs.Clear.{Clear}
use Rattle.file_text.specs.Said.{Said}
use Rattle.line_checks.specs.declared.line_faults.LineFault.{LineFault}
use Rattle.file_state.specs.declared.states.FileState.{FileState}
use Rattle.file_state.specs.Keeps.{Keeps}
use Rattle.line_takes.specs.Takes.{Takes}

-- behind any lines that the state is of, where it has this number, the line is good and leads to the new state, or is
-- refused for this
abbrev pub Reads : ℕ → List ℕ → FileState → FileState → Option LineFault → Type 0
Reads number line old new fault = (before : List Said) → Keeps old before → number ≡ suc (length before) → Takes before line new fault

-- the step of a line in a script, whose rules up to that on statements hold
abbrev pub StepTaken : ℕ → ScriptStep → FileState → FileState → Option LineFault → Type 0
StepTaken number step old new fault =
    (before : List Said) (line : List ℕ) → Keeps old before → number ≡ suc (length before) → OpensNone line → in_script before ≡ true → Clear 14 before line → IsStep before line step → Takes before line new fault
