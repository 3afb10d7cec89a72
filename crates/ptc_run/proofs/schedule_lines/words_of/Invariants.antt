use Rattle.std.proofs.Common.{length}
use Rattle.ptc_run.proofs.ScheduleLemmas.{WordsSoFar}
use Rattle.ptc_run.proofs.schedule_lines.words_of.Given as goal

abbrev pub invariant-loop-word : goal.invariant-loop-word
invariant-loop-word l = WordsSoFar l.initial.rest l.fn.some_session l.words.items l.rest

abbrev pub decreases-loop-word : goal.decreases-loop-word
decreases-loop-word l = length l.rest
