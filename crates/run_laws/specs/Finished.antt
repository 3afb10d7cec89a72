-- Who has finished at the end of a run.
use Rattle.std.specs.Prelude.{◌≡◌, ◌↔◌, ⊤, true, List, [], None, Some, length}
use Rattle.std.specs.List.{AllByRecursion}
use Rattle.statement_log.specs.declared.entries.Entry.{Entry}
use Rattle.history.specs.Replay.{applied_of}
use Rattle.session.specs.Sessions.{SessionView, is_at_end}
use Rattle.checksum_tool.specs.declared.phases.ToolPhase.TheVariants.{Finished}
use Rattle.workload.specs.declared.actors.Actor.{Actor}
use Rattle.workload.specs.declared.schedule.Item.{Item}
use Rattle.workload.specs.declared.schedule.Item.TheVariants as i
use Rattle.workload.specs.declared.workloads.Workload.{Workload}
use Rattle.trace_text.specs.declared.notes.Why.{Why}
use Rattle.world_model.specs.declared.options.RunOptions.{RunOptions}
use Rattle.world_model.specs.CanRun.{CanRun}
use Rattle.world_model.specs.Worlds.{WorldView, ReplicaView, begun}
use Rattle.world_model.specs.Rounds.{order, EndsIn}
use Rattle.world_model.specs.Ends.{IsFinished, why, unfinished_of}
use Rattle.world_laws.specs.Clients.{AreClients}
use Rattle.world_laws.specs.InOrder.{AreInOrder}

-- this holds of the world that each run ends in, of a workload that can be run and whose scripts are clients' and in order
abbrev pub OfEachEnd : (WorldView → Type 0) → Type 0
OfEachEnd P =
    (options : RunOptions) (workload : Workload) (last : WorldView) → CanRun options workload → AreClients workload → AreInOrder workload
    → EndsIn (begun options workload) last → P last

-- where an actor's turn gives no reason why it has not finished, it has; where it gives one, it has not
abbrev pub IsTold : WorldView → Actor → Type 0
IsTold world actor = (why actor world ≡ None → IsFinished actor world) × ((reason : Why) → why actor world ≡ Some reason → IsFinished actor world → ⊥)

-- only turns are taken in a round
abbrev pub IsTurnTold : WorldView → Item → Type 0
IsTurnTold world (i.Turn actor) = IsTold world actor
IsTurnTold world i.StopTool = ⊤
IsTurnTold world i.ResumeTool = ⊤
IsTurnTold world (i.StopReplica number) = ⊤
IsTurnTold world (i.StartReplica number) = ⊤

abbrev pub ActorsAreTold : Type 0
ActorsAreTold = OfEachEnd (λ (world : WorldView). AllByRecursion (IsTurnTold world) (order world))

abbrev pub AreAtEnd : List SessionView → Type 0
AreAtEnd sessions = AllByRecursion (λ (session : SessionView). is_at_end session ≡ true) sessions

-- it has applied the whole log of its source
pub record ReplicaHasFinished (log : List Entry) (replica : ReplicaView) : Type 0 where
  pub locals : AreAtEnd replica.locals
  pub applied : applied_of replica.node.history ≡ length log

pub record AllHaveFinished (world : WorldView) : Type 0 where
  pub sessions : AreAtEnd world.sessions
  pub tool : world.tool.phase ≡ Finished
  pub replicas : AllByRecursion (ReplicaHasFinished world.source.history) world.replicas

-- a report has no line on an unfinished actor exactly where all have finished
abbrev pub RunsWithoutLines : Type 0
RunsWithoutLines = OfEachEnd (λ (world : WorldView). (unfinished_of world ≡ []) ↔ AllHaveFinished world)
