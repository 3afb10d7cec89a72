use Rattle.std.proofs.Common.{inl, map}
use Rattle.std.specs.Prelude.{string_bytes}
use Rattle.ptc_run.proofs.DueLemmas.{due_reported}
use Rattle.ptc_run.proofs.top.ptc.Goals as goal

pub returns-clause-complete : goal.returns-clause-complete
returns-clause-complete g c = λ bytes workload taken told within file input_same output_same.
    inl (due_reported (map string_bytes c.args.words.now) (g.I.Source.left c.args.input.now) bytes workload c.in-Ok.answer.code c.in-Ok.answer.text taken told c.in-Ok.ensures.due within file c.in-Ok.ensures.code)
