use Rattle.ptc_run.specs.ScheduleLines.{schedule_line}
use Rattle.ptc_run.proofs.LineLemmas.{no_line}
use Rattle.ptc_run.proofs.schedule_lines.first_words.Goals as goal

pub returns-in_default : goal.returns-in_default
returns-in_default c = λ words more allowed e. no_line c.args.bytes.now (schedule_line words) more c.in_default.ensures e
