-- What contracts see of an applier.
use Rattle.node_model.specs.Node.{NodeView}
use Rattle.applier.specs.declared.appliers.Applier.TheInside.{Inside}
use Rattle.applier.specs.declared.turns.Turn.{Turn}
use Rattle.applier.specs.declared.workers.Worker.{Worker}
use Rattle.applier.specs.Appliers.{ApplierView}
use Rattle.applier.specs.Moves.{Moved}

abbrev pub moved : Turn → Worker → NodeView → Moved
moved turn worker node = record { turn = turn; worker = worker; node = node }

abbrev pub view_of : Inside → ApplierView
view_of applier = record { replica = applier.replica; stopped = applier.stopped; workers = applier.workers.items }
