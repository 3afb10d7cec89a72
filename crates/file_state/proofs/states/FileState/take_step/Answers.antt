use Rattle.std.proofs.Common.{refl}
use Rattle.file_state.proofs.KeepLemmas.{step_kept, some_script}
use Rattle.file_state.specs.declared.states.FileState.{FileState}
use Rattle.file_state.proofs.states.FileState.take_step.Goals as goal

pub push-requires : goal.push-requires
push-requires c = some_script c.args.self.now c.requires.kept c.requires.inside

pub returns : goal.returns
returns c =
    let new : FileState = record { marks = c.step.new.self; counts = c.args.self.now.counts; schemas = c.args.self.now.schemas; rows = c.args.self.now.rows; scripts = c.push.new.self; schedule = c.args.self.now.schedule } in
    step_kept c.args.self.now new c.push.new.self c.args.step (c.step.ensures, refl, refl, refl, refl, refl) c.in_ok-push.ensures.ok
