-- The rules on a step of a script.
use Rattle.std.specs.Prelude.{Bool, true, false, Option, None, Some, if◌then◌else◌}
use Rattle.ptc_statement.specs.declared.statements.Statement.{Statement}
use Rattle.ptc_statement.specs.declared.statements.Statement.TheVariants as s
use Rattle.ptc_statement.specs.declared.scripts.ScriptStep.{ScriptStep}
use Rattle.ptc_statement.specs.declared.scripts.ScriptStep.TheVariants.{Run}
use Rattle.file_text.specs.declared.faults.LineCause.TheVariants.{Tool, Script}
use Rattle.line_checks.specs.declared.line_faults.LineFault.{LineFault}
use Rattle.line_checks.specs.declared.line_faults.LineFault.TheVariants.{Cause}
use Rattle.file_scripts.specs.ScriptRules.{may_come}

abbrev pub is_clients : Statement → Bool
is_clients (s.Check table chunk span kind) = false
is_clients (s.SetMaster table chunk kind master) = false
is_clients (s.ClearChecks table) = false
is_clients statement = true

-- a client's statement, or a word
abbrev pub is_clients_step : ScriptStep → Bool
is_clients_step (Run statement) = is_clients statement
is_clients_step step = true

abbrev pub step_broken : Bool → ScriptStep → Option LineFault
step_broken within step = if is_clients_step step then (if may_come within step then None else Some (Cause Script)) else Some (Cause Tool)
