-- The replays of what happened on nodes are tables of their schemas.
use Rattle.std.proofs.Common.{◌≡◌, ℕ, zero, suc, ◌+◌, List, [], ◌∷◌, ◌++◌, length, map, take, refl, ap, sym, subst}
use Rattle.std.specs.List.{AllByRecursion}
use Rattle.row_types.specs.declared.table_schema.Schema.{Schema}
use Rattle.row_types.specs.KeyRows.{TableRows}
use Rattle.row_types.specs.Fit.{IsSchema, AreTables}
use Rattle.statement_log.specs.declared.entries.Entry.{Entry}
use Rattle.history.specs.Replay.{Replayed, after_entry, position_of, replay_from, fold}
use Rattle.node_model.specs.Node.{NodeView}
use Rattle.node_model.proofs.CommitLemmas.{tables_after_all}
use Rattle.applier.specs.Appliers.{LogFits}
use Rattle.workload.specs.declared.schedule.Item.{Item}
use Rattle.workload.specs.declared.workloads.Workload.{Workload}
use Rattle.world_model.specs.declared.options.RunOptions.{RunOptions}
use Rattle.world_model.specs.CanRun.{CanRun}
use Rattle.world_model.specs.Good.{IsGood}
use Rattle.world_model.specs.Worlds.{WorldView, ReplicaView, begun}
use Rattle.world_model.specs.Turns.{played}
use Rattle.world_model.proofs.GoodLemmas.{each_world_fits}
use Rattle.headline_laws.specs.Begins.{start_of}
use Rattle.headline_laws.proofs.FitLemmas.{NodeKept}
use Rattle.headline_laws.proofs.KeptLemmas.{Kept, each_kept}

replayed_are : (schemas : List Schema) (number : ℕ) (entries : List Entry) (here : Replayed) → AreTables schemas here.tables → LogFits schemas entries
    → AreTables schemas (replay_from schemas number entries here).tables
replayed_are schemas number [] here are fit = are
replayed_are schemas number (entry ∷ entries) here are fit =
    replayed_are schemas (number + 1) entries (after_entry schemas number entry here)
    (tables_after_all schemas (position_of number entry.origin) entry.statements here are fit.0) fit.1

pub fold_are : (schemas : List Schema) (start : TableRows) (entries : List Entry) → AreTables schemas start → LogFits schemas entries → AreTables schemas (fold schemas start entries).tables
fold_are schemas start entries are fit = replayed_are schemas 1 entries (record { tables = start; checks = [] }) are fit

pub take_fits : (schemas : List Schema) (count : ℕ) (log : List Entry) → LogFits schemas log → LogFits schemas (take count log)
take_fits schemas zero log fit = tt
take_fits schemas (suc count) [] fit = tt
take_fits schemas (suc count) (entry ∷ log) fit = (fit.0, take_fits schemas count log fit.1)

pub front_fits : (schemas : List Schema) (front rest : List Entry) → LogFits schemas (front ++ rest) → LogFits schemas front
front_fits schemas [] rest fit = tt
front_fits schemas (entry ∷ front) rest fit = (fit.0, front_fits schemas front rest fit.1)

pub rest_fits : (schemas : List Schema) (front rest : List Entry) → LogFits schemas (front ++ rest) → LogFits schemas rest
rest_fits schemas [] rest fit = fit
rest_fits schemas (entry ∷ front) rest fit = rest_fits schemas front rest fit.1

-- a table for each schema
pub as_many_tables : (schemas : List Schema) (tables : TableRows) → AreTables schemas tables → length tables ≡ length schemas
as_many_tables [] [] are = refl
as_many_tables [] (rows ∷ tables) are = absurd are
as_many_tables (schema ∷ schemas) [] are = absurd are
as_many_tables (schema ∷ schemas) (rows ∷ tables) are = ap suc (as_many_tables schemas tables are.1)

-- what is known of a node: it starts with tables of these schemas, and the statements of its history fit them
pub record Replays (schemas : List Schema) (node : NodeView) : Type 0 where
  pub same : node.schemas ≡ schemas
  pub start : AreTables schemas node.start
  pub fit : LogFits schemas node.history

-- what is known of a world's nodes
pub record NodesReplay (world : WorldView) : Type 0 where
  pub schemas : AllByRecursion IsSchema world.source.schemas
  pub source : Replays world.source.schemas world.source
  pub replicas : AllByRecursion (λ (replica : ReplicaView). Replays world.source.schemas replica.node) world.replicas

each_replays : (schemas : List Schema) (replicas : List ReplicaView) → AllByRecursion (AreTables schemas) (map start_of replicas)
    → AllByRecursion (λ (replica : ReplicaView). NodeKept schemas replica.node) replicas → AllByRecursion (λ (replica : ReplicaView). Replays schemas replica.node) replicas
each_replays schemas [] starts nodes = tt
each_replays schemas (replica ∷ replicas) starts nodes =
    (record { same = nodes.0.same; start = starts.0; fit = nodes.0.fit }, each_replays schemas replicas starts.1 nodes.1)

pub nodes_replay : (options : RunOptions) (workload : Workload) (items : List Item) → CanRun options workload → NodesReplay (played items (begun options workload))
nodes_replay options workload items can =
    let world : WorldView = played items (begun options workload) in
    let kept : Kept workload world = each_kept options workload items can in
    let good : IsGood world = each_world_fits options workload items can in
    record {
      schemas = subst (AllByRecursion IsSchema) (sym kept.schemas) can.runnable.schemas;
      source = record {
        same = refl;
        start = subst (λ (s : List Schema). AreTables s world.source.start) (sym kept.schemas) (subst (AreTables workload.schemas.tables) (sym kept.start) can.runnable.source);
        fit = good.log_fits;
      };
      replicas = subst (λ (s : List Schema). AllByRecursion (λ (replica : ReplicaView). Replays s replica.node) world.replicas) (sym kept.schemas)
          (each_replays workload.schemas.tables world.replicas (subst (AllByRecursion (AreTables workload.schemas.tables)) (sym kept.starts) can.runnable.copies) kept.nodes);
    }
