use Rattle.std.proofs.Common.{refl}
use Rattle.file_state.proofs.KeepLemmas.{schedule_kept}
use Rattle.file_state.specs.declared.states.FileState.{FileState}
use Rattle.file_state.proofs.states.FileState.take_schedule.Goals as goal

pub returns : goal.returns
returns c = λ said e.
    let new : FileState = record { marks = c.mark.new.self; counts = c.count_turns.new.counts; schemas = c.args.self.now.schemas; rows = c.args.self.now.rows; scripts = c.args.self.now.scripts; schedule = c.push.new.self } in
    schedule_kept c.args.self.now new c.args.words.now c.push.new.self c.count_turns.new.counts (c.mark.ensures, refl, refl, refl, refl, refl) c.count_turns.ensures c.in_ok-push.ensures.ok said e
