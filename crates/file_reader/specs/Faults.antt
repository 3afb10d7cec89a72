-- The fault of a file whose line of a number is refused.
use Rattle.std.specs.Prelude.{◌+◌, ℕ}
use Rattle.file_text.specs.declared.faults.FileFault.{FileFault}
use Rattle.file_text.specs.declared.faults.FileFault.TheVariants as f
use Rattle.file_text.specs.declared.faults.LimitKind.{LimitKind}
use Rattle.file_text.specs.Causes.{most}
use Rattle.line_checks.specs.declared.line_faults.LineFault.{LineFault}
use Rattle.line_checks.specs.declared.line_faults.LineFault.TheVariants as l

abbrev pub fault_at : ℕ → LineFault → FileFault
fault_at number (l.Limit which) = f.Limit which (most which + 1)
fault_at number (l.Cause cause) = f.Line number cause
fault_at number l.Isolation = f.Isolation number
