use Rattle.ptc_run.specs.ScriptLines.{script_line}
use Rattle.ptc_run.proofs.LineLemmas.{no_line}
use Rattle.ptc_run.proofs.script_lines.first_statement.Goals as goal

pub returns-in_default : goal.returns-in_default
returns-in_default c = λ text more f e. no_line c.args.bytes.now (script_line text) more c.in_default.ensures e
