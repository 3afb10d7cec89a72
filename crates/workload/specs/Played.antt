-- The items that the words of a file's schedule say.
use Rattle.std.specs.Prelude.{List, map}
use Rattle.std.specs.List.{flat_map}
use Rattle.file_text.specs.Said.{Turn, OfSession, OfTool, OfSync, OfWorker, OfFurtherWorker, OfLocal, ScheduleWord, Once, Times, StopTool, ResumeTool, StopReplica, StartReplica}
use Rattle.file_text.specs.File.{played}
use Rattle.workload.specs.declared.actors.Actor.{Actor}
use Rattle.workload.specs.declared.actors.Actor.TheVariants as a
use Rattle.workload.specs.declared.schedule.Item.{Item}
use Rattle.workload.specs.declared.schedule.Item.TheVariants as i

-- rR is worker 1 of its replica
abbrev pub actor_of : Turn → Actor
actor_of (OfSession session) = a.Session session
actor_of OfTool = a.Tool
actor_of (OfSync replica) = a.Sync replica
actor_of (OfWorker replica) = a.Worker replica 1
actor_of (OfFurtherWorker replica worker) = a.Worker replica worker
actor_of (OfLocal replica session) = a.Local replica session

abbrev pub item_of : ScheduleWord → Item
item_of (Once turn) = i.Turn (actor_of turn)
item_of (Times turn count) = i.Turn (actor_of turn)
item_of StopTool = i.StopTool
item_of ResumeTool = i.ResumeTool
item_of (StopReplica replica) = i.StopReplica replica
item_of (StartReplica replica) = i.StartReplica replica

-- turn for turn: an actor for several turns is so many items
abbrev pub items_of : List ScheduleWord → List Item
items_of words = map item_of (flat_map played words)
