-- What a turn leaves of its actor.
use Rattle.std.specs.Prelude.{ℕ, ◌≡◌, List, length, map}
use Rattle.statement_log.specs.declared.entries.Entry.{Entry}
use Rattle.lock_table.specs.declared.wants.Owner.{Owner}
use Rattle.node_model.specs.Node.{NodeView}
use Rattle.session.specs.Sessions.{SessionView}
use Rattle.session.specs.Moves.{next_move}
use Rattle.applier.specs.declared.workers.Worker.{Worker}
use Rattle.applier.specs.Appliers.{ApplierView}
use Rattle.applier.specs.Moves.{next_move as worker_move, stop_move}

-- who it is, as whom it writes, and what it goes through
abbrev pub SessionsStay : Type 0
SessionsStay =
    (retries : ℕ) (session : SessionView) (node : NodeView)
    → ((next_move retries session node).session.owner ≡ session.owner)
    × ((next_move retries session node).session.origin ≡ session.origin)
    × ((next_move retries session node).session.script ≡ session.script)

-- as whom each worker holds locks
abbrev pub owners_of : List Worker → List Owner
owners_of workers = map (λ (worker : Worker). worker.owner) workers

abbrev pub AppliersStay : Type 0
AppliersStay =
    (number : ℕ) (log : List Entry) (applier : ApplierView) (node : NodeView)
    → (length (worker_move number log applier node).workers ≡ length applier.workers)
    × (owners_of (worker_move number log applier node).workers ≡ owners_of applier.workers)

-- a stop leaves the replica whose applier it is, too
abbrev pub StoppedStay : Type 0
StoppedStay =
    (applier : ApplierView) (node : NodeView)
    → ((stop_move applier node).applier.replica ≡ applier.replica)
    × (length (stop_move applier node).applier.workers ≡ length applier.workers)
    × (owners_of (stop_move applier node).applier.workers ≡ owners_of applier.workers)
