-- What contracts see of a world's parts, and what its parts keep.
use Rattle.std.specs.Prelude.{◌≤◌, length, drop}
use Rattle.std.specs.List.{AllByRecursion}
use Rattle.cluster_core.specs.World.{WorldView}
use Rattle.cluster_core.specs.Turns.{ItemIsNumbered}
use Rattle.cluster_core.specs.Good.{EntryFits, StepsFit, PhaseFits, HasSchemas}
use Rattle.cluster_core.specs.declared.worlds.World.TheInside.{Inside}

abbrev pub world_view : Inside → WorldView
world_view world = record { source = world.source; replicas = world.replicas.items; sessions = world.sessions.items; phase = world.phase; unplayed = drop world.played world.schedule }

pub record IsKept (world : Inside) : Type 0 where
  pub tables : length world.source.schemas ≤ 16
  pub replicas : length world.replicas.items ≤ 8
  pub sessions : length world.sessions.items ≤ 64
  -- each statement of the log, of the scripts and of the tool can be done on each node
  pub schemas : AllByRecursion (HasSchemas world.source.schemas) world.replicas.items
  pub log : AllByRecursion (EntryFits world.source.schemas) world.source.history
  pub scripts : AllByRecursion (StepsFit world.source.schemas) world.sessions.items
  pub phase : PhaseFits (length world.source.schemas) world.phase
  pub schedule : AllByRecursion ItemIsNumbered world.schedule
