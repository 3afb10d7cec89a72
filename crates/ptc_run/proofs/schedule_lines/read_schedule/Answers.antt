use Rattle.std.proofs.Common.{List, ◌++◌, ap, ◌∙◌}
use Rattle.std.proofs.lemmas.Option.{MatchOption-at_some}
use Rattle.workload_file.specs.declared.schedule.Item.{Item}
use Rattle.ptc_run.specs.declared.schedule_lines.ScheduleWord.{ScheduleWord}
use Rattle.ptc_run.specs.ScheduleLines.{items_of}
use Rattle.ptc_run.proofs.ReadLemmas.{words_taken}
use Rattle.ptc_run.proofs.schedule_lines.read_schedule.Goals as goal

pub loop-schedule-preserved : goal.loop-schedule-preserved
loop-schedule-preserved c =
    words_taken c.args.bytes.now c.args.some_session c.args.before c.loop-schedule.schedule c.push_items.new.schedule c.loop-schedule.rest.now c.in-Some.after.now c.loop-schedule.count c.in-Some.words.items
    c.loop-schedule.invariant (MatchOption-at_some _ _ (c.in-Some.words, c.in-Some.after) c.in-Some.is c.in_ok-words.ensures) (c.in_ok-push_items.ensures ∙ ap (λ (x : List ScheduleWord). ◌++◌ {A = Item} c.loop-schedule.schedule (items_of x)) c.as_slice.ensures.value)
