use Rattle.std.proofs.Common.{refl}
use Rattle.file_state.proofs.KeepLemmas.{session_kept}
use Rattle.file_state.specs.declared.states.FileState.{FileState}
use Rattle.file_state.proofs.states.FileState.take_session.Goals as goal

pub returns : goal.returns
returns c = λ session.
    let new : FileState = record { marks = c.mark.new.self; counts = c.count_session.new.counts; schemas = c.args.self.now.schemas; rows = c.args.self.now.rows; scripts = c.begin.new.self; schedule = c.args.self.now.schedule } in
    session_kept c.args.self.now new c.begin.new.self c.count_session.new.counts (c.mark.ensures, refl, refl, refl, refl, refl) c.count_session.ensures c.in_ok-begin.ensures.ok session
