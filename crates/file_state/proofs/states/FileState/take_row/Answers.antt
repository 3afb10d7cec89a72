use Rattle.std.proofs.Common.{refl}
use Rattle.file_state.proofs.KeepLemmas.{row_kept}
use Rattle.file_state.specs.declared.states.FileState.{FileState}
use Rattle.file_state.proofs.states.FileState.take_row.Goals as goal

pub returns : goal.returns
returns c = λ node table literals e f n.
    let new : FileState = record { marks = c.mark.new.self; counts = c.args.self.now.counts; schemas = c.args.self.now.schemas; rows = c.put.new.self; scripts = c.args.self.now.scripts; schedule = c.args.self.now.schedule } in
    row_kept c.args.self.now new c.args.place c.args.which c.args.row.now c.put.new.self.tables.items (c.mark.ensures, refl, refl, refl, refl, refl) c.in_ok-put.ensures node table literals e f n
