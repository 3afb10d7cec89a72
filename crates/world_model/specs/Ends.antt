-- Which actors have finished, and why others could not.
use Rattle.std.specs.Prelude.{ℕ, ◌≡◌, ◌⊎◌, ◌-◌, ◌≤◌, ◌∷◌, ◌++◌, List, [], Option, None, Some, true, length}
use Rattle.std.specs.List.{slice_get}
use Rattle.statement_log.specs.declared.entries.Entry.{Entry}
use Rattle.history.specs.Replay.{applied_of}
use Rattle.session.specs.Sessions.{SessionView, is_at_end}
use Rattle.applier.specs.Appliers.{entry_of, entry_left}
use Rattle.checksum_tool.specs.declared.phases.ToolPhase.TheVariants.{Finished}
use Rattle.workload.specs.declared.actors.Actor.{Actor}
use Rattle.workload.specs.declared.actors.Actor.TheVariants as a
use Rattle.workload.specs.declared.schedule.Item.{Item}
use Rattle.workload.specs.declared.schedule.Item.TheVariants as i
use Rattle.trace_text.specs.declared.notes.Note.{Note}
use Rattle.trace_text.specs.declared.notes.Note.TheVariants as n
use Rattle.trace_text.specs.declared.notes.Why.{Why}
use Rattle.trace_text.specs.declared.notes.Why.TheVariants as w
use Rattle.trace_text.specs.declared.lines.UnfinishedLine.{UnfinishedLine}
use Rattle.world_model.specs.Worlds.{WorldView, ReplicaView}
use Rattle.world_model.specs.Turns.{turn}
use Rattle.world_model.specs.Rounds.{order}

abbrev pub SessionIsFinished : Option SessionView → Type 0
SessionIsFinished None = ⊥
SessionIsFinished (Some session) = is_at_end session ≡ true

-- a worker of which the replica has applied the whole log, or that has no entry where none is left to take
abbrev pub WorkerIsFinished : ℕ → List Entry → Option ReplicaView → Type 0
WorkerIsFinished worker log None = ⊥
WorkerIsFinished worker log (Some replica) =
    (length log ≤ applied_of replica.node.history)
    ⊎ ((entry_of (slice_get replica.applier.workers (worker - 1)) ≡ None) × (entry_left (applied_of replica.node.history) (length log) replica.applier.workers ≡ None))

abbrev pub LocalIsFinished : ℕ → Option ReplicaView → Type 0
LocalIsFinished local None = ⊥
LocalIsFinished local (Some replica) = SessionIsFinished (slice_get replica.locals (local - 1))

-- an actor that takes part has finished
abbrev pub IsFinished : Actor → WorldView → Type 0
IsFinished (a.Session number) world = SessionIsFinished (slice_get world.sessions (number - 1))
IsFinished a.Tool world = world.tool.phase ≡ Finished
IsFinished (a.Sync number) world = ⊥
IsFinished (a.Worker number worker) world = WorkerIsFinished worker world.source.history (slice_get world.replicas (number - 1))
IsFinished (a.Local number local) world = LocalIsFinished local (slice_get world.replicas (number - 1))

-- what a still turn tells of an actor that has not finished
abbrev pub why_of : Note → Option Why
why_of n.Off = None
why_of n.Step = None
why_of n.Done = None
why_of (n.Waits by) = Some (w.Waits by)
why_of (n.Deadlock victim cycle) = None
why_of n.Duplicate = None
why_of n.Victim = None
why_of n.Begin = None
why_of n.Start = None
why_of (n.Commit position) = None
why_of n.CommitNone = None
why_of n.CommitLocal = None
why_of n.Rollback = None
why_of n.Finished = None
why_of n.Stopped = None
why_of (n.Take entry) = None
why_of (n.Nothing applied) = None
why_of (n.Order entry) = Some (w.Order entry)
why_of (n.Retries rollbacks) = Some (w.Retries rollbacks)
why_of (n.Clear position) = None
why_of (n.Choose table chunk) = None
why_of (n.Master position) = None

-- why an actor that can't move has not finished
abbrev pub why : Actor → WorldView → Option Why
why actor world = why_of (turn actor world).note

abbrev pub unfinished_line : Actor → Option Why → List UnfinishedLine
unfinished_line actor None = []
unfinished_line actor (Some reason) = record { actor = actor; why = reason } ∷ []

-- only turns are taken in a round
abbrev pub unfinished_at : WorldView → Item → List UnfinishedLine
unfinished_at world (i.Turn actor) = unfinished_line actor (why actor world)
unfinished_at world i.StopTool = []
unfinished_at world i.ResumeTool = []
unfinished_at world (i.StopReplica number) = []
unfinished_at world (i.StartReplica number) = []

abbrev pub unfinished_in : WorldView → List Item → List UnfinishedLine
unfinished_in world [] = []
unfinished_in world (item ∷ items) = unfinished_at world item ++ unfinished_in world items

-- the actors that have not finished, in the order of a round
abbrev pub unfinished_of : WorldView → List UnfinishedLine
unfinished_of world = unfinished_in world (order world)
