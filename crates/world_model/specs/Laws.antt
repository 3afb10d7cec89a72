-- What holds of each turn, each world and each run.
use Rattle.std.specs.Prelude.{◌≡◌, List}
use Rattle.workload.specs.declared.schedule.Item.{Item}
use Rattle.workload.specs.declared.workloads.Workload.{Workload}
use Rattle.world_model.specs.declared.options.RunOptions.{RunOptions}
use Rattle.world_model.specs.Worlds.{WorldView, begun}
use Rattle.world_model.specs.Turns.{move, played}
use Rattle.world_model.specs.CanRun.{CanRun}
use Rattle.world_model.specs.Good.{IsGood}
use Rattle.world_model.specs.Rounds.{order, round, IsStillAt, IsStill, IsBehindSchedule, EndsIn, IsReplayOf}

-- a turn that moves nothing leaves the world
abbrev pub StillTurnsChangeNothing : Type 0
StillTurnsChangeNothing = (item : Item) (world : WorldView) → IsStillAt world item → (move item world).world ≡ world

-- whatever items are played, the world is what the items of its journal make of the first one
abbrev pub WorldsAreReplays : Type 0
WorldsAreReplays = (options : RunOptions) (workload : Workload) (items : List Item) → IsReplayOf options workload (played items (begun options workload))

-- whatever items are played, the actors of a round and their order stay
abbrev pub RoundsHaveOneOrder : Type 0
RoundsHaveOneOrder = (items : List Item) (world : WorldView) → order (played items world) ≡ order world

-- behind the schedule, a round in which nobody can move changes nothing
abbrev pub StillRoundsChangeNothing : Type 0
StillRoundsChangeNothing = (world : WorldView) → IsBehindSchedule world → IsStill world → round world ≡ world

-- whatever items are played from a workload that can be run, statements fit
abbrev pub EachWorldFits : Type 0
EachWorldFits = (options : RunOptions) (workload : Workload) (items : List Item) → CanRun options workload → IsGood (played items (begun options workload))

-- a run has one end
abbrev pub EachRunHasOneEnd : Type 0
EachRunHasOneEnd = (first last other : WorldView) → EndsIn first last → EndsIn first other → last ≡ other
