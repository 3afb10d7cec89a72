-- What holds of each world says what its source is told, that its replicas follow, and what their verdicts compare.
use Rattle.std.proofs.Common.{◌≡◌, ◌≢◌, ◌∙◌, ℕ, List, length, sym, subst}
use Rattle.row_types.specs.declared.table_schema.Schema.{Schema}
use Rattle.statement_log.specs.declared.entries.Entry.{Entry}
use Rattle.history.specs.Replay.{Follows}
use Rattle.history.specs.Headline.{EachVerdictCompares}
use Rattle.history.proofs.VerdictLemmas.{each_verdict}
use Rattle.checksum_tool.specs.declared.phases.ToolTurn.TheVariants.{Victim}
use Rattle.checksum_tool.specs.Moves.{next_move}
use Rattle.checksum_tool_laws.specs.Courses.{Course}
use Rattle.checksum_tool_laws.specs.Standing.{ToolIsNoVictim}
use Rattle.checksum_tool_laws.specs.Told.{Told}
use Rattle.checksum_tool_laws.proofs.RunLemmas.{tool_covers}
use Rattle.applier_laws.specs.Follows.{Course as ReplicaCourse}
use Rattle.applier_laws.proofs.RunLemmas.{appliers_follow}
use Rattle.workload.specs.declared.schedule.Item.{Item}
use Rattle.workload.specs.declared.workloads.Workload.{Workload}
use Rattle.world_model.specs.declared.options.RunOptions.{RunOptions}
use Rattle.world_model.specs.CanRun.{CanRun}
use Rattle.world_model.specs.Worlds.{WorldView, ReplicaView, begun}
use Rattle.world_model.specs.Turns.{played}
use Rattle.world_laws.specs.Clients.{AreClients}
use Rattle.world_laws.specs.Sources.{SourcesAreTold, ToolsAreNoVictims}
use Rattle.world_laws.specs.Replicas.{log_of, FollowsSource, VerdictsCompare, ReplicasFollow, EachVerdictHolds}
use Rattle.world_laws.proofs.ListLemmas.{each_is}
use Rattle.world_laws.proofs.ReplicaLemmas.{IsLed}
use Rattle.world_laws.proofs.StepLemmas.{WorldHolds, played_holds}
use Rattle.world_laws.proofs.BeginLemmas.{begun_holds}

pub holds : (options : RunOptions) (workload : Workload) (items : List Item) → CanRun options workload → AreClients workload → WorldHolds options workload (played items (begun options workload))
holds options workload items can clients = played_holds options workload items (begun options workload) (begun_holds options workload can clients)

told_there : (options : RunOptions) (workload : Workload) (world : WorldView) → CanRun options workload → WorldHolds options workload world → Told world.tool world.source
told_there options workload world can h =
    subst (λ (course : Course). Told course.tool course.node) (sym h.led.course)
    (tool_covers (length workload.schemas.tables) options.kind options.retries workload.schemas.tables workload.source h.led.events can.runnable.some_table h.led.fit)

pub sources_told : SourcesAreTold
sources_told options workload items can clients = told_there options workload (played items (begun options workload)) can (holds options workload items can clients)

-- the law on the tool alone holds of the tool of each world
pub no_victims : ToolIsNoVictim → ToolsAreNoVictims
no_victims alone options workload items can clients =
    let world : WorldView = played items (begun options workload) in
    let led = (holds options workload items can clients).led in
    subst (λ (course : Course). (next_move course.tool course.node).turn ≢ Victim) (sym led.course)
    (alone (length workload.schemas.tables) options.kind options.retries workload.schemas.tables workload.source led.events can.runnable.some_table led.fit led.apart)

follows_there : (schemas : List Schema) (workers : ℕ) (log : List Entry) (replica : ReplicaView) → IsLed schemas workers log replica → Follows log replica.node.history
follows_there schemas workers log replica led =
    subst (λ (course : ReplicaCourse). Follows course.log course.node.history) (sym led.course) (appliers_follow led.number workers schemas led.start led.events led.fit)

pub each_follows : ReplicasFollow
each_follows options workload items can clients =
    let world : WorldView = played items (begun options workload) in
    each_is (IsLed workload.schemas.tables options.workers world.source.history) (FollowsSource world) world.replicas
    (λ replica led. follows_there workload.schemas.tables options.workers world.source.history replica led) (holds options workload items can clients).each

compares_there : (schemas : List Schema) (workers : ℕ) (world : WorldView) (replica : ReplicaView) → Told world.tool world.source → world.source.schemas ≡ schemas
    → IsLed schemas workers world.source.history replica → VerdictsCompare world replica
compares_there schemas workers world replica told same led =
    subst (λ (s : List Schema). EachVerdictCompares s (log_of world.source) (log_of replica.node)) (same ∙ sym led.same)
    (each_verdict world.source.schemas (log_of world.source) (log_of replica.node) told.written told.masters (follows_there schemas workers world.source.history replica led))

pub each_compares : EachVerdictHolds
each_compares options workload items can clients =
    let world : WorldView = played items (begun options workload) in
    let h : WorldHolds options workload world = holds options workload items can clients in
    each_is (IsLed workload.schemas.tables options.workers world.source.history) (VerdictsCompare world) world.replicas
    (λ replica led. compares_there workload.schemas.tables options.workers world replica (told_there options workload world can h) h.same led) h.each
