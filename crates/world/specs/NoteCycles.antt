-- The actors on the cycle that a note tells of, and how many transactions are open where it may come from.
use Rattle.std.specs.Prelude.{ℕ, ◌-◌, ◌==◌, cond, List, [], length, Option, None, Some}
use Rattle.std.specs.List.{slice_get}
use Rattle.workload.specs.declared.actors.Actor.{Actor}
use Rattle.trace_text.specs.declared.notes.Note.{Note}
use Rattle.trace_text.specs.declared.notes.Note.TheVariants as n
use Rattle.world_model.specs.Worlds.{ReplicaView}

abbrev pub note_cycle : Note → List Actor
note_cycle n.Off = []
note_cycle n.Step = []
note_cycle n.Done = []
note_cycle (n.Waits by) = []
note_cycle (n.Deadlock victim cycle) = cycle
note_cycle n.Duplicate = []
note_cycle n.Victim = []
note_cycle n.Begin = []
note_cycle n.Start = []
note_cycle (n.Commit position) = []
note_cycle n.CommitNone = []
note_cycle n.CommitLocal = []
note_cycle n.Rollback = []
note_cycle n.Finished = []
note_cycle n.Stopped = []
note_cycle (n.Take entry) = []
note_cycle (n.Nothing applied) = []
note_cycle (n.Order entry) = []
note_cycle (n.Retries rollbacks) = []
note_cycle (n.Clear position) = []
note_cycle (n.Choose table chunk) = []
note_cycle (n.Master position) = []

abbrev pub open_in : Option ReplicaView → ℕ
open_in None = 0
open_in (Some replica) = length replica.node.txns

-- how many transactions are open on the replica of this number, from 1
abbrev pub open_on : ℕ → List ReplicaView → ℕ
open_on number replicas = cond (number == 0) 0 (open_in (slice_get replicas (number - 1)))
