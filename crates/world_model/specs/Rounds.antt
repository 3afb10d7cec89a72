-- The rounds behind a schedule, and the end of a run.
use Rattle.std.specs.Prelude.{ℕ, zero, suc, ◌≡◌, ◌+◌, ◌≤◌, ◌<◌, false, cond, map, List, [], ◌∷◌, ◌++◌, length}
use Rattle.std.specs.List.{AllByRecursion}
use Rattle.workload.specs.declared.actors.Actor.{Actor}
use Rattle.workload.specs.declared.actors.Actor.TheVariants as a
use Rattle.workload.specs.declared.schedule.Item.{Item}
use Rattle.workload.specs.declared.schedule.Item.TheVariants.{Turn}
use Rattle.workload.specs.declared.workloads.Workload.{Workload}
use Rattle.trace_text.specs.declared.lines.JournalLine.{JournalLine}
use Rattle.turn_notes.specs.Notes.{has_moved}
use Rattle.world_model.specs.declared.options.RunOptions.{RunOptions}
use Rattle.world_model.specs.Worlds.{WorldView, ReplicaView, begun}
use Rattle.world_model.specs.Turns.{move, unplayed, played}

-- one turn of each of so many actors, by rising number
abbrev pub turns_of : (ℕ → Actor) → ℕ → List Item
turns_of actor zero = []
turns_of actor (suc count) = turns_of actor count ++ Turn (actor (suc count)) ∷ []

-- on a replica, its local sessions and then its applier's workers
abbrev pub turns_on : ℕ → ReplicaView → List Item
turns_on number replica = turns_of (a.Local number) (length replica.locals) ++ turns_of (a.Worker number) (length replica.applier.workers)

-- on each replica, the first of this number
abbrev pub replica_turns : ℕ → List ReplicaView → List Item
replica_turns number [] = []
replica_turns number (replica ∷ replicas) = turns_on number replica ++ replica_turns (number + 1) replicas

-- the turns of a round: the sessions, the checksum tool, and then replica by replica
abbrev pub order : WorldView → List Item
order world = turns_of a.Session (length world.sessions) ++ Turn a.Tool ∷ replica_turns 1 world.replicas

-- each actor takes one turn
abbrev pub round : WorldView → WorldView
round world = played (order world) world

abbrev pub rounds : ℕ → WorldView → WorldView
rounds zero world = world
rounds (suc count) world = rounds count (round world)

-- no item of the schedule is left
abbrev pub IsBehindSchedule : WorldView → Type 0
IsBehindSchedule world = length world.schedule ≤ length world.journal

-- an item that moves nothing
abbrev pub IsStillAt : WorldView → Item → Type 0
IsStillAt world item = has_moved (move item world).note ≡ false

-- nobody can move
abbrev pub IsStill : WorldView → Type 0
IsStill world = AllByRecursion (IsStillAt world) (order world)

-- the world behind the rest of the schedule
abbrev pub behind_schedule : WorldView → WorldView
behind_schedule world = played (unplayed world) world

-- a run: what is left of the schedule, and then rounds, until nobody can move
pub record EndsIn (first last : WorldView) : Type 0 where
  pub count : ℕ
  pub reached : last ≡ rounds count (behind_schedule first)
  pub still : IsStill last

-- how many lines of a journal tell of a move
abbrev pub moves_in : List JournalLine → ℕ
moves_in [] = 0
moves_in (line ∷ lines) = cond (has_moved line.note) 1 0 + moves_in lines

-- the run from this world makes more moves than the options allow
pub record Exceeds (first : WorldView) : Type 0 where
  pub count : ℕ
  pub moves : first.options.most_moves < moves_in (rounds count (behind_schedule first)).journal

-- items alone lead from one world to the other
pub record Reaches (first last : WorldView) : Type 0 where
  pub items : List Item
  pub reached : last ≡ played items first

-- the items that a journal tells of
abbrev pub items_in : List JournalLine → List Item
items_in journal = map (λ (line : JournalLine). line.item) journal

-- a world is what its journal's items make of the world that its workload begins with
abbrev pub IsReplayOf : RunOptions → Workload → WorldView → Type 0
IsReplayOf options workload world = world ≡ played (items_in world.journal) (begun options workload)
