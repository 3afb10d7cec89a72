use Rattle.std.proofs.Common.{◌∙◌, ap}
use Rattle.std.specs.Prelude.{option_copied}
use Rattle.lock_table.specs.Stops.{least_key_past}
use Rattle.txn_walk.proofs.StopsAtLemmas.{next_is}
use Rattle.txn_walk.proofs.walk_stops.Stops.next.Goals as goal

pub returns : goal.returns
returns c =
    next_is c.self.inside.owner.0 c.self.inside.number c.args.edge.now c.self.inside.table.now c.self.inside.locks.now.held c.in_ok-stop.stop
    (option_copied c.foreign_next-locked.result) (option_copied c.next.result) c.next.ensures.ordered c.in_ok-stop.ensures c.foreign_next-locked.ensures c.next.ensures.value
    ∙ ap (least_key_past c.args.edge.now) c.self.view_is
