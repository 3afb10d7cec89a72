use Rattle.std.proofs.Common.{◌∙◌, ap}
use Rattle.std.specs.Prelude.{option_copied}
use Rattle.lock_table.specs.Stops.{greatest_key_before}
use Rattle.txn_walk.proofs.StopsAtLemmas.{prev_is}
use Rattle.txn_walk.proofs.walk_stops.Stops.prev.Goals as goal

pub returns : goal.returns
returns c =
    prev_is c.self.inside.owner.0 c.self.inside.number c.args.edge.now c.self.inside.table.now c.self.inside.locks.now.held c.in_ok-stop.stop
    (option_copied c.foreign_prev-locked.result) (option_copied c.prev.result) c.prev.ensures.ordered c.in_ok-stop.ensures c.foreign_prev-locked.ensures c.prev.ensures.value
    ∙ ap (greatest_key_before c.args.edge.now) c.self.view_is
