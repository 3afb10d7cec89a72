-- What may not come within a transaction, and what may come in one alone.
use Rattle.std.specs.Prelude.{not, Bool, true, false}
use Rattle.ptc_statement.specs.declared.scripts.ScriptStep.{ScriptStep}
use Rattle.ptc_statement.specs.declared.scripts.ScriptStep.TheVariants.{Begin, Commit, Rollback, Run}
use Rattle.file_text.specs.declared.places.Section.{Section}
use Rattle.file_text.specs.declared.places.Section.TheVariants.{SessionLines, LocalLines, ScheduleLines, EndLines}

-- BEGIN outside a transaction, and the end of one within it
abbrev pub may_come : Bool → ScriptStep → Bool
may_come within Begin = not within
may_come within Commit = within
may_come within Rollback = within
may_come within (Run statement) = true

abbrev pub ends_script : Section → Bool
ends_script SessionLines = true
ends_script LocalLines = true
ends_script ScheduleLines = true
ends_script EndLines = true
ends_script section = false
