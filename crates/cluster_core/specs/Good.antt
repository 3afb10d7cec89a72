-- Statements that nodes can do: those of scripts, those that a log holds, and those of the checksum tool.
use Rattle.std.specs.Prelude.{ℕ, ◌≡◌, ◌<◌, List}
use Rattle.std.specs.List.{AllByRecursion}
use Rattle.row_types.specs.declared.table_schema.Schema.{Schema}
use Rattle.ptc_statement.specs.declared.scripts.ScriptLine.{ScriptLine}
use Rattle.ptc_statement.specs.Fits.{FitsSchemas}
use Rattle.statement_log.specs.declared.entries.Entry.{Entry}
use Rattle.cluster_core.specs.Node.{NodeView}
use Rattle.workload_file.specs.Workload.{StepFits}
use Rattle.cluster_core.specs.Sessions.{SessionView}
use Rattle.cluster_core.specs.declared.actors.ToolPhase.{ToolPhase}
use Rattle.cluster_core.specs.declared.actors.ToolPhase.TheVariants.{Clear, Check, Master, Finished}

-- each statement of an entry fits
abbrev pub EntryFits : List Schema → Entry → Type 0
EntryFits schemas entry = AllByRecursion (FitsSchemas schemas) entry.statements

-- each step of a session's script fits
abbrev pub StepsFit : List Schema → SessionView → Type 0
StepsFit schemas view = AllByRecursion (λ (line : ScriptLine). StepFits schemas line.step) view.script

-- the table that the tool is at is one of these
abbrev pub PhaseFits : ℕ → ToolPhase → Type 0
PhaseFits tables (Clear table) = table < tables
PhaseFits tables (Check table) = table < tables
PhaseFits tables (Master table) = table < tables
PhaseFits tables Finished = Unit {0}

abbrev pub HasSchemas : List Schema → NodeView → Type 0
HasSchemas schemas node = node.schemas ≡ schemas
