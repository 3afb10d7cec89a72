-- The items that the words of a SCHEDULE line say, as the reader keeps them.
use Rattle.std.specs.Prelude.{◌≡◌, ◌<◌, ◌^◌, ⊤, List, replicate}
use Rattle.std.specs.List.{flat_map}
use Rattle.file_text.specs.Said.{Said}
use Rattle.file_text.specs.File.{words_said}
use Rattle.line_words.specs.declared.actors.ActorWord.{ActorWord}
use Rattle.line_words.specs.declared.actors.ActorWord.TheVariants.{Session, Tool, Sync, Worker, FurtherWorker, Local}
use Rattle.line_words.specs.declared.items.ItemWord.{ItemWord}
use Rattle.line_words.specs.declared.items.ItemWord.TheVariants.{Once, Times, StopTool, ResumeTool, StopReplica, StartReplica}
use Rattle.line_items.specs.Counted.{turns_of_word}
use Rattle.workload.specs.declared.actors.Actor.{Actor}
use Rattle.workload.specs.declared.actors.Actor.TheVariants as a
use Rattle.workload.specs.declared.schedule.Item.{Item}
use Rattle.workload.specs.declared.schedule.Item.TheVariants as i
use Rattle.workload.specs.Played.{items_of}

-- its numbers are numbers of a workload
abbrev pub FitsActor : ActorWord → Type 0
FitsActor (Session session) = session < 2 ^ 32
FitsActor Tool = ⊤
FitsActor (Sync replica) = replica < 2 ^ 32
FitsActor (Worker replica) = replica < 2 ^ 32
FitsActor (FurtherWorker replica worker) = (replica < 2 ^ 32) × (worker < 2 ^ 32)
FitsActor (Local replica session) = (replica < 2 ^ 32) × (session < 2 ^ 32)

abbrev pub FitsWord : ItemWord → Type 0
FitsWord (Once actor) = FitsActor actor
FitsWord (Times actor count) = FitsActor actor × (count < 2 ^ 32)
FitsWord StopTool = ⊤
FitsWord ResumeTool = ⊤
FitsWord (StopReplica replica) = replica < 2 ^ 32
FitsWord (StartReplica replica) = replica < 2 ^ 32

abbrev pub actor_in : ActorWord → Actor
actor_in (Session session) = a.Session session
actor_in Tool = a.Tool
actor_in (Sync replica) = a.Sync replica
actor_in (Worker replica) = a.Worker replica 1
actor_in (FurtherWorker replica worker) = a.Worker replica worker
actor_in (Local replica session) = a.Local replica session

-- what the word says once
abbrev pub item_in : ItemWord → Item
item_in (Once actor) = i.Turn (actor_in actor)
item_in (Times actor count) = i.Turn (actor_in actor)
item_in StopTool = i.StopTool
item_in ResumeTool = i.ResumeTool
item_in (StopReplica replica) = i.StopReplica replica
item_in (StartReplica replica) = i.StartReplica replica

abbrev pub items_in : ItemWord → List Item
items_in word = replicate (turns_of_word word) (item_in word)

-- these are the items that the SCHEDULE lines say
abbrev pub IsScheduleOf : List Item → List Said → Type 0
IsScheduleOf items said = items ≡ items_of (flat_map words_said said)
