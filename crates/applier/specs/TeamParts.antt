-- What a turn of one of several workers leaves.
use Rattle.std.specs.Prelude.{ℕ, zero, suc, List, [], ◌∷◌}
use Rattle.node_model.specs.Node.{NodeView}
use Rattle.applier.specs.declared.turns.Turn.{Turn}
use Rattle.applier.specs.declared.workers.Worker.{Worker}
use Rattle.applier.specs.Appliers.{without_entry}
use Rattle.applier.specs.Moves.{Turned}

abbrev pub turned_by : Turn → List Worker → NodeView → Turned
turned_by turn workers node = record { turn = turn; workers = workers; node = node }

-- the worker at a place, or the first ones, so many, without an entry

abbrev pub emptied_at : ℕ → List Worker → List Worker
emptied_at place [] = []
emptied_at zero (worker ∷ workers) = without_entry worker ∷ workers
emptied_at (suc place) (worker ∷ workers) = worker ∷ emptied_at place workers

abbrev pub emptied : ℕ → List Worker → List Worker
emptied zero workers = workers
emptied (suc count) [] = []
emptied (suc count) (worker ∷ workers) = without_entry worker ∷ emptied count workers
