-- What is known of each session is known before the first move, and says that each wrote its own calls.
use Rattle.std.proofs.Common.{◌≡◌, ℕ, zero, suc, ◌+◌, ◌≤◌, ◌<◌, List, [], ◌∷◌, ◌++◌, length, refl, ap, sym, subst, arith}
use Rattle.std.specs.List.{AllByRecursion}
use Rattle.row_types.specs.declared.table_schema.Schema.{Schema}
use Rattle.row_types.specs.KeyRows.{TableRows}
use Rattle.ptc_statement.specs.declared.scripts.Script.{Script}
use Rattle.statement_log.specs.declared.origins.Origin.{Origin}
use Rattle.statement_log.specs.declared.origins.Origin.TheVariants.{Session, Local}
use Rattle.lock_table.specs.declared.wants.Owner.{Owner}
use Rattle.node_model.specs.Node.{NodeView}
use Rattle.node_model.specs.Calls.{fresh_node}
use Rattle.node_model.proofs.CallLemmas.{fresh_kept}
use Rattle.session_laws.specs.OwnCalls.{WritesOwnCalls}
use Rattle.applier.specs.declared.workers.Worker.{Worker}
use Rattle.applier.specs.Appliers.{new_worker, new_workers}
use Rattle.turn_laws.specs.Stays.{owners_of}
use Rattle.workload.specs.declared.schedule.Item.{Item}
use Rattle.workload.specs.declared.workloads.Workload.{Workload}
use Rattle.world_model.specs.declared.options.RunOptions.{RunOptions}
use Rattle.world_model.specs.CanRun.{CanRun, ScriptsFit, LocalsFit}
use Rattle.world_model.specs.Worlds.{WorldView, ReplicaView, begun_sessions, begun_replicas, begun}
use Rattle.world_model.specs.Turns.{played}
use Rattle.world_laws.specs.Clients.{AreClients}
use Rattle.world_laws.specs.InOrder.{IsInOrder, AreInOrder}
use Rattle.world_laws.specs.OwnCalls.{WroteOwnCalls, SessionsWriteOwnCalls, LocalsWriteOwnCalls}
use Rattle.world_laws.proofs.ListLemmas.{each_is, each_joined}
use Rattle.world_laws.proofs.OwnLemmas.{EachLed, each_wrote}
use Rattle.world_laws.proofs.OwnStepLemmas.{sessions_apart, locals_apart, ReplicaHolds, OwnHolds, own_played}
use Rattle.world_laws.proofs.BeginLemmas.{begun_holds}

begun_each : (retries : ℕ) (origin : ℕ → Origin) (first : NodeView) (number : ℕ) (scripts : List Script) → ScriptsFit first.schemas scripts → AllByRecursion IsInOrder scripts
    → EachLed retries origin first first number (begun_sessions origin number scripts)
begun_each retries origin first number [] fit order = tt
begun_each retries origin first number (script ∷ scripts) fit order = (
  record {
    script = script.lines;
    whole = order.0.whole;
    rise = order.0.rise;
    fits = fit.0;
    owner = refl;
    origin_is = refl;
    script_is = refl;
    events = [];
    fit = tt;
    course = refl;
  },
  begun_each retries origin first (number + 1) scripts fit.1 order.1,
)

begun_few : (origin : ℕ → Origin) (number most : ℕ) (scripts : List Script) → length scripts ≤ most → length (begun_sessions origin number scripts) ≤ most
begun_few origin number most scripts few = subst (λ (count : ℕ). count ≤ most) (sym (count number scripts)) few
  where
    count : (from : ℕ) (some : List Script) → length (begun_sessions origin from some) ≡ length some
    count from [] = refl
    count from (script ∷ some) = let more = count (from + 1) some in omega (arith, more)

owners_joined : (xs ys : List Worker) → owners_of (xs ++ ys) ≡ owners_of xs ++ owners_of ys
owners_joined [] ys = refl
owners_joined (x ∷ xs) ys = ap (λ (os : List Owner). x.owner ∷ os) (owners_joined xs ys)

above : (count : ℕ) → AllByRecursion (λ (owner : Owner). 200 < owner.0) (owners_of (new_workers count))
above zero = tt
above (suc count) =
    subst (AllByRecursion (λ (owner : Owner). 200 < owner.0)) (sym (owners_joined (new_workers count) (new_worker (suc count) ∷ [])))
    (each_joined (λ (owner : Owner). 200 < owner.0) (owners_of (new_workers count)) (owners_of (new_worker (suc count) ∷ [])) (above count) (omega arith, tt))

begun_all : (options : RunOptions) (schemas : List Schema) (number : ℕ) (copies : List TableRows) (locals : List (List Script)) → LocalsFit schemas locals
    → AllByRecursion (AllByRecursion IsInOrder) locals → AllByRecursion (ReplicaHolds options.retries) (begun_replicas options schemas number copies locals)
begun_all options schemas number [] locals fit order = tt
begun_all options schemas number (start ∷ copies) [] fit order = tt
begun_all options schemas number (start ∷ copies) (scripts ∷ locals) fit order = (
  record {
    schemas = schemas;
    start = start;
    few = begun_few Local 1 16 scripts fit.0.1;
    each = begun_each options.retries Local (fresh_node schemas start) 1 scripts fit.0.0 order.0;
    workers = above options.workers;
    running = refl;
  },
  begun_all options schemas (number + 1) copies locals fit.1 order.1,
)

own_begun : (options : RunOptions) (workload : Workload) → CanRun options workload → AreInOrder workload → OwnHolds workload (begun options workload)
own_begun options workload can order = record {
  source = record {
    same = refl;
    kept = fresh_kept workload.schemas.tables workload.source can.runnable.source;
    tables = refl;
    few = begun_few Session 1 64 workload.sessions can.runnable.few_sessions;
    each = begun_each options.retries Session (fresh_node workload.schemas.tables workload.source) 1 workload.sessions can.runnable.scripts order.sessions;
  };
  replicas = begun_all options workload.schemas.tables 1 workload.copies workload.locals can.runnable.locals order.locals;
}

pub own : (options : RunOptions) (workload : Workload) (items : List Item) → CanRun options workload → AreClients workload → AreInOrder workload → OwnHolds workload (played items (begun options workload))
own options workload items can clients order =
    own_played options workload items (begun options workload) can (begun_holds options workload can clients) (own_begun options workload can order)

pub sessions_wrote : WritesOwnCalls → SessionsWriteOwnCalls
sessions_wrote law options workload items can clients order =
    let world : WorldView = played items (begun options workload) in
    let h : OwnHolds workload world = own options workload items can clients order in
    each_wrote law world.options.retries Session (fresh_node workload.schemas.tables workload.source) world.source world.sessions sessions_apart refl refl h.source.each

locals_there : WritesOwnCalls → (retries : ℕ) (replica : ReplicaView) → ReplicaHolds retries replica → WroteOwnCalls Local replica.node replica.locals
locals_there law retries replica h = each_wrote law retries Local (fresh_node h.schemas h.start) replica.node replica.locals locals_apart refl refl h.each

pub locals_wrote : WritesOwnCalls → LocalsWriteOwnCalls
locals_wrote law options workload items can clients order =
    let world : WorldView = played items (begun options workload) in
    each_is (ReplicaHolds world.options.retries) (λ (replica : ReplicaView). WroteOwnCalls Local replica.node replica.locals) world.replicas
    (λ replica h. locals_there law world.options.retries replica h) (own options workload items can clients order).replicas
