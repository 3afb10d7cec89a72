use Rattle.applier.proofs.StayLemmas.{schemas_stay_ended}
use Rattle.applier.proofs.appliers.Applier.stop.Goals as goal

pub returns-clause-schemas : goal.returns-clause-schemas
returns-clause-schemas c = schemas_stay_ended c.as_slice.result.now c.args.node.now c.end_all.new.node c.end_all.ensures
