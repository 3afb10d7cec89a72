use Rattle.std.proofs.Common.{◌≡◌, ◌≤◌, ◌∙◌, ◌+◌, List, Some, None, sym, subst}
use Rattle.file_text.specs.Said.{Said}
use Rattle.line_decisions.specs.Decides.{Decides}
use Rattle.line_values.specs.Lines.{Gives}
use Rattle.file_state.specs.Keeps.{LeadsTo}
use Rattle.file_text.specs.declared.places.Section.TheVariants.{ScheduleLines}
use Rattle.line_takes.proofs.TakeLemmas.{schedule_only, scheduled, refused, went_on}
use Rattle.std.specs.List.{AllByRecursion}
use Rattle.line_words.specs.declared.items.ItemWord.{ItemWord}
use Rattle.line_values.specs.Values.{the_words}
use Rattle.file_scripts.specs.Counting.{turns_of}
use Rattle.file_scripts.specs.Schedules.{FitsWord}
use Rattle.line_takes.proofs.script_lines.take_schedule.Goals as goal

pub schedule_fault-requires : goal.schedule_fault-requires
schedule_fault-requires c = c.requires.is.short

pub take_schedule-requires-clause-kept : goal.take_schedule-requires-clause-kept
take_schedule-requires-clause-kept c = record { before = c.requires.before; keeps = c.requires.keeps }

pub take_schedule-requires-clause-fit : goal.take_schedule-requires-clause-fit
take_schedule-requires-clause-fit c =
    let first : c.as_slice.result.now ≡ the_words c.args.items.now = c.as_slice.ensures.value ∙ c.in_ok-words.ensures in
    let same : c.as_slice-in-None.result.now ≡ the_words c.args.items.now = c.as_slice-in-None.ensures.value ∙ c.in_ok-words.ensures in
    subst (AllByRecursion FitsWord) (sym same) (scheduled c.args.state.now c.args.line.now c.args.items.now c.requires (λ words e. c.in-None.ensures c.requires.before words c.requires.keeps.marked c.requires.keeps.counted (first ∙ e))).fit

pub take_schedule-requires-clause-turns : goal.take_schedule-requires-clause-turns
take_schedule-requires-clause-turns c =
    let first : c.as_slice.result.now ≡ the_words c.args.items.now = c.as_slice.ensures.value ∙ c.in_ok-words.ensures in
    let same : c.as_slice-in-None.result.now ≡ the_words c.args.items.now = c.as_slice-in-None.ensures.value ∙ c.in_ok-words.ensures in
    subst (λ (l : List ItemWord). c.args.state.now.counts.scheduled + turns_of l ≤ 10000000) (sym same) (scheduled c.args.state.now c.args.line.now c.args.items.now c.requires (λ words e. c.in-None.ensures c.requires.before words c.requires.keeps.marked c.requires.keeps.counted (first ∙ e))).turns

pub returns-in-Some : goal.returns-in-Some
returns-in-Some c = λ before k l.
    let first : c.as_slice.result.now ≡ the_words c.args.items.now = c.as_slice.ensures.value ∙ c.in_ok-words.ensures in
    refused ScheduleLines before c.args.line.now c.args.items.now c.in-Some.fault l
    (λ said of gives. schedule_only (λ (s : Said). Gives s c.args.items.now → Decides ScheduleLines before c.args.line.now s (Some c.in-Some.fault)) said of (λ words g. c.in-Some.ensures before words k.marked k.counted (first ∙ g)) gives)

pub returns : goal.returns
returns c = λ before k l.
    let first : c.as_slice.result.now ≡ the_words c.args.items.now = c.as_slice.ensures.value ∙ c.in_ok-words.ensures in
    let same : c.as_slice-in-None.result.now ≡ the_words c.args.items.now = c.as_slice-in-None.ensures.value ∙ c.in_ok-words.ensures in
    went_on ScheduleLines before c.args.line.now c.args.items.now c.args.state.now c.take_schedule.new.self k l
    (λ said of gives. record {
      decided = schedule_only (λ (s : Said). Gives s c.args.items.now → Decides ScheduleLines before c.args.line.now s None) said of (λ words g. c.in-None.ensures before words k.marked k.counted (first ∙ g)) gives;
      leads = schedule_only (λ (s : Said). Gives s c.args.items.now → LeadsTo s c.args.state.now c.take_schedule.new.self) said of (λ words g. c.in_ok-take_schedule-in-None.ensures words (same ∙ g)) gives;
    })
