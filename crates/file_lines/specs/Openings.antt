-- What the first word of a line begins.
use Rattle.std.specs.Prelude.{◌≡◌, ℕ, List}
use Rattle.ptc_statement.specs.declared.scripts.ScriptStep.{ScriptStep}
use Rattle.ptc_statement.specs.declared.scripts.ScriptStep.TheVariants as s
use Rattle.file_text.specs.Parts.{words_of, past_end}
use Rattle.file_text.specs.Rules.{IsSkipped, Opens, OpensNone, next_place}
use Rattle.file_lines.specs.declared.openings.Opening.{Opening}
use Rattle.file_lines.specs.declared.openings.Opening.TheVariants as o
use Rattle.file_lines.specs.declared.openings.StepWord.{StepWord}
use Rattle.file_lines.specs.declared.openings.StepWord.TheVariants as w

abbrev pub IsOpening : List ℕ → Opening → Type 0
IsOpening line o.Skipped = IsSkipped line
IsOpening line (o.Opened section) = Opens section line
IsOpening line (o.Unopened place) = OpensNone line × (place ≡ next_place (past_end line) (words_of line))

abbrev pub step_of : StepWord → ScriptStep
step_of w.Begin = s.Begin
step_of w.Commit = s.Commit
step_of w.Rollback = s.Rollback
