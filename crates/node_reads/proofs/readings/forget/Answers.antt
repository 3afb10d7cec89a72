use Rattle.std.proofs.Common.{rules, ◌==◌, not}
use Rattle.std.proofs.lemmas.Fn.{filter_same}
use Rattle.node_reads.specs.declared.readings.Reading.{Reading}
use Rattle.node_reads.proofs.readings.forget.Goals as goal

pub returns : goal.returns
returns c = filter_same _ (λ (reading : Reading). not (reading.owner.0 == c.args.owner.0)) _ (λ x b f' k. search rules) _ _ c.retain.ensures.filtered
