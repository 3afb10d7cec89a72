-- What holds of a world holds before its first move.
use Rattle.std.proofs.Common.{◌≢◌, ℕ, ◌+◌, ◌<◌, ◌≤◌, List, [], ◌∷◌, length, refl, arith}
use Rattle.std.specs.List.{AllByRecursion}
use Rattle.row_types.specs.declared.table_schema.Schema.{Schema}
use Rattle.row_types.specs.KeyRows.{TableRows}
use Rattle.ptc_statement.specs.declared.scripts.Script.{Script}
use Rattle.statement_log.specs.declared.origins.Origin.TheVariants.{Session, Local}
use Rattle.applier_laws.proofs.ListLemmas.{new_length}
use Rattle.workload.specs.declared.workloads.Workload.{Workload}
use Rattle.world_model.specs.declared.options.RunOptions.{RunOptions}
use Rattle.world_model.specs.CanRun.{CanRun, LocalsFit}
use Rattle.world_model.specs.Worlds.{begun_sessions, begun_replica, begun_replicas, begun}
use Rattle.world_laws.specs.Clients.{ScriptsOfClients, AreClients}
use Rattle.world_laws.proofs.SourceLemmas.{IsBeside}
use Rattle.world_laws.proofs.ReplicaLemmas.{IsThere, IsLed}
use Rattle.world_laws.proofs.StepLemmas.{WorldHolds}

less_is_apart : (number bound : ℕ) → number < bound → number ≢ bound
less_is_apart number bound less = λ same. absurd (omega (arith, less, same))

begun_beside : (scripts : List Script) (number : ℕ) → number + length scripts ≤ 100 → ScriptsOfClients scripts → AllByRecursion IsBeside (begun_sessions Session number scripts)
begun_beside [] number few clients = tt
begun_beside (script ∷ scripts) number few clients =
    (record { apart = less_is_apart number 100 (omega (arith, few)); writer = tt; clients = clients.0 }, begun_beside scripts (number + 1) (omega (arith, few)) clients.1)

begun_there : (scripts : List Script) (number : ℕ) → number + length scripts ≤ 201 → ScriptsOfClients scripts → AllByRecursion IsThere (begun_sessions Local number scripts)
begun_there [] number few clients = tt
begun_there (script ∷ scripts) number few clients =
    (record { apart = omega (arith, few); origin = tt; clients = clients.0 }, begun_there scripts (number + 1) (omega (arith, few)) clients.1)

begun_led : (options : RunOptions) (schemas : List Schema) (number : ℕ) (start : TableRows) (scripts : List Script) → length scripts ≤ 16 → ScriptsOfClients scripts
    → IsLed schemas options.workers [] (begun_replica options schemas number start scripts)
begun_led options schemas number start scripts few clients = record {
  number = number;
  start = start;
  events = [];
  fit = tt;
  course = refl;
  there = begun_there scripts 1 (omega (arith, few)) clients;
  count = new_length options.workers;
  same = refl;
}

begun_all : (options : RunOptions) (schemas : List Schema) (number : ℕ) (copies : List TableRows) (locals : List (List Script)) → LocalsFit schemas locals
    → AllByRecursion ScriptsOfClients locals → AllByRecursion (IsLed schemas options.workers []) (begun_replicas options schemas number copies locals)
begun_all options schemas number [] locals fit clients = tt
begun_all options schemas number (start ∷ copies) [] fit clients = tt
begun_all options schemas number (start ∷ copies) (scripts ∷ locals) fit clients =
    (begun_led options schemas number start scripts fit.0.1 clients.0, begun_all options schemas (number + 1) copies locals fit.1 clients.1)

pub begun_holds : (options : RunOptions) (workload : Workload) → CanRun options workload → AreClients workload → WorldHolds options workload (begun options workload)
begun_holds options workload can clients =
    let few : length workload.sessions ≤ 64 = can.runnable.few_sessions in
    record {
      led = record { events = []; fit = tt; apart = tt; course = refl };
      beside = begun_beside workload.sessions 1 (omega (arith, few)) clients.sessions;
      same = refl;
      each = begun_all options workload.schemas.tables 1 workload.copies workload.locals can.runnable.locals clients.locals;
    }
