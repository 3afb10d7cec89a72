use Rattle.std.proofs.Common.{sym}
use Rattle.std.specs.Prelude.{option_map}
use Rattle.lock_table.specs.declared.wants.Owner.{Owner}
use Rattle.node_visits.proofs.PlanIsLemmas.{wait_is}
use Rattle.node_visits.proofs.visits.waits_in.Goals as goal

pub returns-in_ok-by-in-Some-current : goal.returns-in_ok-by-in-Some-current
returns-in_ok-by-in-Some-current c =
    wait_is c.args.parts.now c.args.owner c.in-Some.txn.now c.in-Some-current.walk (option_map (λ (o : Owner). o.0) c.in_ok-by-in-Some-current.by) c.requires (sym c.in-Some.ensures) c.in-Some-current.is c.in_ok-by-in-Some-current.ensures
