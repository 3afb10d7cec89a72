-- The world before its first move.
use Rattle.std.proofs.Common.{◌≡◌, ◌≤◌, ◌+◌, ◌∙◌, ℕ, List, [], ◌∷◌, length, refl, ap}
use Rattle.std.specs.List.{AllByRecursion}
use Rattle.row_types.specs.declared.table_schema.Schema.{Schema}
use Rattle.ptc_statement.specs.declared.scripts.Script.{Script}
use Rattle.workload.specs.declared.workloads.Workload.{Workload}
use Rattle.world_model.specs.declared.options.RunOptions.{RunOptions}
use Rattle.row_types.specs.KeyRows.{TableRows}
use Rattle.statement_log.specs.declared.origins.Origin.TheVariants.{Session, Local}
use Rattle.node_model.specs.Node.{NodeView}
use Rattle.node_model.specs.Calls.{fresh_node}
use Rattle.session.specs.Sessions.{SessionView, new_session}
use Rattle.applier.specs.Appliers.{ApplierView, new_applier}
use Rattle.turn_notes.specs.declared.actors.Place.TheVariants.{Source, Replica}
use Rattle.world_model.specs.Worlds.{begun, begun_sessions, begun_replica}
use Rattle.world.specs.Teams.{origin_of}
use Rattle.world_model.specs.CanRun.{CanRun, ScriptsFit, LocalsFit}
use Rattle.world_model.proofs.EachLemmas.{each_more}
use Rattle.world.specs.WorldParts.{IsCounted}

pub few_scripts : (schemas : List Schema) (locals : List (List Script)) → LocalsFit schemas locals → AllByRecursion (λ (scripts : List Script). length scripts ≤ 16) locals
few_scripts schemas locals fit =
    each_more (λ (scripts : List Script). ScriptsFit schemas scripts × (length scripts ≤ 16)) (λ (scripts : List Script). length scripts ≤ 16) locals (λ scripts fits. fits.1) fit

pub begun_counted : (options : RunOptions) (workload : Workload) → CanRun options workload → IsCounted (begun options workload) 0
begun_counted options workload can = record { run = record { workload = workload; can_run = can; replays = refl }; counted = refl }

local_sessions : (replica number : ℕ) (scripts : List Script) → begun_sessions (origin_of (Replica replica)) number scripts ≡ begun_sessions Local number scripts
local_sessions replica number [] = refl
local_sessions replica number (script ∷ scripts) =
    ap (λ (more : List SessionView). new_session (record { 0 = number }) (Local number) script.lines ∷ more) (local_sessions replica (number + 1) scripts)

pub source_sessions : (number : ℕ) (scripts : List Script) → begun_sessions (origin_of Source) number scripts ≡ begun_sessions Session number scripts
source_sessions number [] = refl
source_sessions number (script ∷ scripts) =
    ap (λ (more : List SessionView). new_session (record { 0 = number }) (Session number) script.lines ∷ more) (source_sessions (number + 1) scripts)

pub replica_begun : (options : RunOptions) (schemas : List Schema) (number : ℕ) (start : TableRows) (scripts : List Script) (node : NodeView) (locals : List SessionView) (team : ApplierView)
    → node ≡ fresh_node schemas start → locals ≡ begun_sessions (origin_of (Replica number)) 1 scripts → team ≡ new_applier number options.workers
    → record { node = node; locals = locals; applier = team } ≡ begun_replica options schemas number start scripts
replica_begun options schemas number start scripts node locals team n l t =
    λ i. record { node = n i; locals = (l ∙ local_sessions number 1 scripts) i; applier = t i }
