use Rattle.std.proofs.Common.{length}
use Rattle.ptc_run.proofs.ReadLemmas.{ScheduleSoFar}
use Rattle.ptc_run.proofs.schedule_lines.read_schedule.Given as goal

abbrev pub invariant-loop-schedule : goal.invariant-loop-schedule
invariant-loop-schedule l = ScheduleSoFar l.fn.bytes l.fn.some_session l.fn.before l.schedule l.rest l.count

abbrev pub decreases-loop-schedule : goal.decreases-loop-schedule
decreases-loop-schedule l = length l.rest
