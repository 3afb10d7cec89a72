use Rattle.std.proofs.Common.{refl}
use Rattle.file_state.proofs.KeepLemmas.{local_kept, local_small}
use Rattle.file_state.specs.declared.states.FileState.{FileState}
use Rattle.file_state.proofs.states.FileState.take_local.Goals as goal

pub count_local-requires : goal.count_local-requires
count_local-requires c = local_small c.args.self.now c.args.replica c.ranges.replica.fits c.requires

pub returns : goal.returns
returns c = λ session.
    let new : FileState = record { marks = c.mark.new.self; counts = c.count_local.new.counts; schemas = c.args.self.now.schemas; rows = c.args.self.now.rows; scripts = c.begin.new.self; schedule = c.args.self.now.schedule } in
    local_kept c.args.self.now new c.args.replica c.begin.new.self c.count_local.new.counts (c.mark.ensures, refl, refl, refl, refl, refl) c.ranges.replica.fits c.in_ok-count_local.ensures.ok c.in_ok-begin.ensures.ok session
