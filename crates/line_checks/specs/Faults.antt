-- The causes of the definition, as the reader tells them.
use Rattle.file_text.specs.Causes.{Cause, OfLimit, OfLine, OfIsolation}
use Rattle.line_checks.specs.declared.line_faults.LineFault.{LineFault}
use Rattle.line_checks.specs.declared.line_faults.LineFault.TheVariants.{Limit, Cause as CauseOf, Isolation}

abbrev pub cause_of : LineFault → Cause
cause_of (Limit which) = OfLimit which
cause_of (CauseOf cause) = OfLine cause
cause_of Isolation = OfIsolation
