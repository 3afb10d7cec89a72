use Rattle.std.proofs.Common.{◌≡◌, ◌++◌, take}
use Rattle.ptc_run.specs.ScheduleLines.{items_of}
use Rattle.ptc_run.proofs.schedule_lines.push_items.Given as goal

abbrev pub invariant-loop-word : goal.invariant-loop-word
invariant-loop-word l = l.schedule ≡ l.fn.schedule ++ items_of (take l.word-index l.words)
