-- Statements fit in each world of a workload that can be run.
use Rattle.std.proofs.Common.{◌≡◌, ◌∙◌, inl, inr, ℕ, zero, suc, ◌+◌, ◌-◌, ◌==◌, ◌<◌, ◌≤◌, Bool, true, false, cond, List, [], ◌∷◌, ◌++◌, Option, None, Some, length, refl, ap, sym, subst, arith, length-append}
use Rattle.std.specs.Prelude.{slice_set}
use Rattle.std.specs.List.{AllByRecursion, slice_get}
use Rattle.std.proofs.lemmas.List.{length-set}
use Rattle.row_types.specs.declared.table_schema.Schema.{Schema}
use Rattle.row_types.specs.KeyRows.{TableRows}
use Rattle.ptc_statement.specs.declared.scripts.Script.{Script}
use Rattle.ptc_statement.specs.declared.scripts.ScriptLine.{ScriptLine}
use Rattle.ptc_statement.specs.declared.scripts.ScriptStep.{ScriptStep}
use Rattle.ptc_statement.specs.declared.scripts.ScriptStep.TheVariants.{Run}
use Rattle.ptc_statement.specs.declared.statements.Statement.{Statement}
use Rattle.ptc_statement.specs.Fits.{FitsSchemas}
use Rattle.statement_log.specs.declared.entries.Entry.{Entry}
use Rattle.statement_log.specs.declared.origins.Origin.{Origin}
use Rattle.statement_log.specs.declared.origins.Origin.TheVariants.{Session, Local}
use Rattle.node_model.specs.Node.{NodeView}
use Rattle.node_model.specs.Kept.{IsKept}
use Rattle.node_model.specs.Calls.{Call, Begin, Start, Visit, Commit, Rollback, Publish, CallFits, after_call, after_calls}
use Rattle.node_model.proofs.CallLemmas.{same_schemas, calls_kept, fresh_kept}
use Rattle.session.specs.Sessions.{SessionView, RunFits}
use Rattle.session.specs.Moves as session
use Rattle.applier.specs.declared.workers.Worker.{Worker}
use Rattle.applier.specs.Appliers.{LogFits, ApplierView, new_workers, new_worker}
use Rattle.applier.specs.Moves as applier
use Rattle.checksum_tool.specs.Tools.{ToolView}
use Rattle.checksum_tool.specs.Moves as tool
use Rattle.checksum_tool.proofs.StayLemmas.{tables_stay}
use Rattle.turn_laws.specs.TurnCalls.{LeadsBy, RunsIn, IsSessions, IsTools, ToolRuns}
use Rattle.turn_laws.specs.LogsFit.{IsAmongTables}
use Rattle.turn_laws.proofs.StayLemmas.{sessions_stay, appliers_stay}
use Rattle.turn_laws.proofs.SessionLogs.{sessions_log}
use Rattle.turn_laws.proofs.SessionCalls.{sessions_make_calls}
use Rattle.turn_laws.proofs.WorkerCalls.{workers_make_calls, others_make_none}
use Rattle.turn_laws.proofs.ToolLogs.{tool_logs}
use Rattle.turn_laws.proofs.ToolCalls.{tool_makes_calls}
use Rattle.workload.specs.declared.actors.Actor.{Actor}
use Rattle.workload.specs.declared.actors.Actor.TheVariants as a
use Rattle.workload.specs.declared.schedule.Item.{Item}
use Rattle.workload.specs.declared.schedule.Item.TheVariants as i
use Rattle.workload.specs.declared.workloads.Workload.{Workload}
use Rattle.trace_text.specs.declared.lines.JournalLine.{JournalLine}
use Rattle.world_model.specs.declared.options.RunOptions.{RunOptions}
use Rattle.world_model.specs.Worlds.{WorldView, ReplicaView, begun_sessions, begun_replica, begun_replicas, begun}
use Rattle.world_model.specs.Turns.{Turned, off, session_at, tool_turn, ReplicaTurned, off_there, local_at, local_turn, is_worker, worker_turned, worker_turn, replica_at, on_replica, turn, move, is_written, line_of, written_if, stepped, played}
use Rattle.world_model.specs.CanRun.{ScriptsFit, LocalsFit, IsRunnable, AreOptions, CanRun}
use Rattle.world_model.specs.Good.{SessionFits, SessionsFit, ReplicaFits, WorldFits, IsGood}
use Rattle.world_model.specs.Laws.{EachWorldFits}
use Rattle.world_model.proofs.EachLemmas.{each_at, each_set, each_more}

-- what each turn keeps: the source's locks and statements, too, and that the tool is at one of the tables
record Holds (schemas : List Schema) (world : WorldView) : Type 0 where
  fits : WorldFits schemas world
  kept : IsKept world.source
  within : world.tool.table < world.tool.tables

-- Calls.

pub calls_schemas : (calls : List Call) (node : NodeView) → (after_calls calls node).schemas ≡ node.schemas
calls_schemas [] node = refl
calls_schemas (call ∷ calls) node = calls_schemas calls (after_call call node) ∙ same_schemas call node

run_fits : (schemas : List Schema) (step : ScriptStep) (statement : Statement) → step ≡ Run statement → RunFits schemas step → FitsSchemas schemas statement
run_fits schemas step statement is fits = subst (RunFits schemas) is fits

session_call : (schemas : List Schema) (one : SessionView) → SessionFits schemas one → (call : Call) → IsSessions one call → CallFits schemas call
session_call schemas one fits (Begin owner part) is = tt
session_call schemas one fits (Start owner statement) is =
    let runs : RunsIn one.script statement = is.1 in
    run_fits schemas runs.line.step statement runs.runs (each_at (λ (line : ScriptLine). RunFits schemas line.step) one.script runs.place runs.line fits runs.found)
session_call schemas one fits (Visit owner) is = tt
session_call schemas one fits (Commit owner origin) is = tt
session_call schemas one fits (Rollback owner) is = tt
session_call schemas one fits (Publish table chunk) is = tt

record Found (schemas : List Schema) (table : ℕ) : Type 0 where
  schema : Schema
  found : slice_get schemas table ≡ Some schema

found_at : (schemas : List Schema) (table : ℕ) → table < length schemas → Found schemas table
found_at [] table within = absurd (omega (arith, within))
found_at (schema ∷ schemas) zero within = record { schema = schema; found = refl }
found_at (schema ∷ schemas) (suc table) within =
    let more : Found schemas table = found_at schemas table (omega (arith, within)) in
    record { schema = more.schema; found = more.found }

tool_statement : (schemas : List Schema) (one : ToolView) (statement : Statement) → one.table < length schemas → ToolRuns one statement → FitsSchemas schemas statement
tool_statement schemas one statement within (inl is) =
    let there : Found schemas one.table = found_at schemas one.table within in
    subst (FitsSchemas schemas) (sym is) (record { schema = there.schema; found = there.found; fits = tt })
tool_statement schemas one statement within (inr is) =
    let there : Found schemas one.table = found_at schemas one.table within in
    subst (FitsSchemas schemas) (sym is) (record { schema = there.schema; found = there.found; fits = tt })

tool_call : (schemas : List Schema) (one : ToolView) → one.table < length schemas → (call : Call) → IsTools one call → CallFits schemas call
tool_call schemas one within (Begin owner part) is = tt
tool_call schemas one within (Start owner statement) is = tool_statement schemas one statement within is.1
tool_call schemas one within (Visit owner) is = tt
tool_call schemas one within (Commit owner origin) is = tt
tool_call schemas one within (Rollback owner) is = tt
tool_call schemas one within (Publish table chunk) is = tt

led_schemas : {P : Call → Type 0} (old new : NodeView) → LeadsBy P old new → new.schemas ≡ old.schemas
led_schemas old new led = ap (λ (n : NodeView). n.schemas) led.leads ∙ calls_schemas led.calls old

led_kept : {P : Call → Type 0} (old new : NodeView) → ((call : Call) → P call → CallFits old.schemas call) → IsKept old → LeadsBy P old new → IsKept new
led_kept {P} old new fit kept led = subst IsKept (sym led.leads) (calls_kept led.calls old (each_more P (CallFits old.schemas) led.calls fit led.are) kept)

-- Turns on the source.

session_next : (retries : ℕ) (one : SessionView) (node : NodeView) → (session.next_move retries one node).node.schemas ≡ node.schemas
session_next retries one node = led_schemas node (session.next_move retries one node).node (sessions_make_calls retries one node)

session_fits : (schemas : List Schema) (retries : ℕ) (one : SessionView) (node : NodeView) → SessionFits schemas one → SessionFits schemas (session.next_move retries one node).session
session_fits schemas retries one node fits =
    subst (λ (script : List ScriptLine). AllByRecursion (λ (line : ScriptLine). RunFits schemas line.step) script) (sym (sessions_stay retries one node).2) fits

sessions_set : (schemas : List Schema) (sessions : List SessionView) (place retries : ℕ) (one : SessionView) (node : NodeView) → SessionsFit schemas sessions → slice_get sessions place ≡ Some one
    → SessionsFit schemas (slice_set sessions place (session.next_move retries one node).session)
sessions_set schemas sessions place retries one node fits found =
    each_set (SessionFits schemas) sessions place (session.next_move retries one node).session fits
    (session_fits schemas retries one node (each_at (SessionFits schemas) sessions place one fits found))

at_schemas : (schemas : List Schema) (world : WorldView) → WorldFits schemas world → LogFits world.source.schemas world.source.history
at_schemas schemas world fits = subst (λ (s : List Schema). LogFits s world.source.history) (sym fits.same) fits.log_fits

session_at_holds : (schemas : List Schema) (place : ℕ) (one : Option SessionView) (world : WorldView) → slice_get world.sessions place ≡ one → Holds schemas world → Holds schemas (session_at place one world).world
session_at_holds schemas place None world found holds = holds
session_at_holds schemas place (Some one) world found holds =
    let moved : session.Moved = session.next_move world.options.retries one world.source in
    let fit : SessionFits world.source.schemas one =
    subst (λ (s : List Schema). SessionFits s one) (sym holds.fits.same) (each_at (SessionFits schemas) world.sessions place one holds.fits.sessions_fit found) in
    record {
      fits = record {
        same = session_next world.options.retries one world.source ∙ holds.fits.same;
        few_tables = holds.fits.few_tables;
        sessions_fit = sessions_set schemas world.sessions place world.options.retries one world.source holds.fits.sessions_fit found;
        few_sessions = subst (λ (count : ℕ). count ≤ 64) (sym (length-set world.sessions place moved.session)) holds.fits.few_sessions;
        tool_fits = holds.fits.tool_fits;
        log_fits = subst (λ (s : List Schema). LogFits s moved.node.history) holds.fits.same (sessions_log world.options.retries one world.source holds.kept (at_schemas schemas world holds.fits));
        replicas_fit = holds.fits.replicas_fit;
        few_replicas = holds.fits.few_replicas;
      };
      kept = led_kept world.source moved.node (session_call world.source.schemas one fit) holds.kept (sessions_make_calls world.options.retries one world.source);
      within = holds.within;
    }

tool_holds : (schemas : List Schema) (world : WorldView) → Holds schemas world → Holds schemas (tool_turn world).world
tool_holds schemas world holds =
    let moved : tool.Moved = tool.next_move world.tool world.source in
    let count : world.tool.tables ≡ length world.source.schemas = holds.fits.tool_fits ∙ ap length (sym holds.fits.same) in
    let among : IsAmongTables world.tool world.source = record { tables = count; table = holds.within } in
    let there : world.tool.table < length world.source.schemas = subst (λ (n : ℕ). world.tool.table < n) count holds.within in
    record {
      fits = record {
        same = led_schemas world.source moved.node (tool_makes_calls world.tool world.source holds.kept) ∙ holds.fits.same;
        few_tables = holds.fits.few_tables;
        sessions_fit = holds.fits.sessions_fit;
        few_sessions = holds.fits.few_sessions;
        tool_fits = tables_stay world.tool world.source moved refl ∙ holds.fits.tool_fits;
        log_fits = subst (λ (s : List Schema). LogFits s moved.node.history) holds.fits.same (tool_logs world.tool world.source holds.kept among (at_schemas schemas world holds.fits)).0;
        replicas_fit = holds.fits.replicas_fit;
        few_replicas = holds.fits.few_replicas;
      };
      kept = led_kept world.source moved.node (tool_call world.source.schemas world.tool there) holds.kept (tool_makes_calls world.tool world.source holds.kept);
      within = (tool_logs world.tool world.source holds.kept among (at_schemas schemas world holds.fits)).1;
    }

-- Turns on a replica.

off_there_fits : (schemas : List Schema) (replica : ReplicaView) (b : Bool) (turned : ReplicaTurned) → ReplicaFits schemas replica → ReplicaFits schemas turned.replica
    → ReplicaFits schemas (cond b (off_there replica) turned).replica
off_there_fits schemas replica true turned fits then = fits
off_there_fits schemas replica false turned fits then = then

local_at_fits : (schemas : List Schema) (number retries place : ℕ) (one : Option SessionView) (replica : ReplicaView) → slice_get replica.locals place ≡ one → ReplicaFits schemas replica
    → ReplicaFits schemas (local_at number retries place one replica).replica
local_at_fits schemas number retries place None replica found fits = fits
local_at_fits schemas number retries place (Some one) replica found fits = record {
  same = session_next retries one replica.node ∙ fits.same;
  locals_fit = sessions_set schemas replica.locals place retries one replica.node fits.locals_fit found;
  few_locals = subst (λ (count : ℕ). count ≤ 16) (sym (length-set replica.locals place (session.next_move retries one replica.node).session)) fits.few_locals;
  few_workers = fits.few_workers;
}

local_turn_fits : (schemas : List Schema) (number retries local : ℕ) (replica : ReplicaView) → ReplicaFits schemas replica → ReplicaFits schemas (local_turn number retries local replica).replica
local_turn_fits schemas number retries local replica fits =
    off_there_fits schemas replica (local == 0) (local_at number retries (local - 1) (slice_get replica.locals (local - 1)) replica) fits
    (local_at_fits schemas number retries (local - 1) (slice_get replica.locals (local - 1)) replica refl fits)

worker_next : (worker : ℕ) (log : List Entry) (team : ApplierView) (node : NodeView) (one : Option Worker) → slice_get team.workers (worker - 1) ≡ one
    → (applier.next_move worker log team node).node.schemas ≡ node.schemas
worker_next worker log team node None found = ap (λ (n : NodeView). n.schemas) (others_make_none worker log team node found)
worker_next worker log team node (Some one) found = led_schemas node (applier.next_move worker log team node).node (workers_make_calls worker log team node one found)

worker_turned_fits : (schemas : List Schema) (number worker : ℕ) (log : List Entry) (replica : ReplicaView) → ReplicaFits schemas replica
    → ReplicaFits schemas (worker_turned number (applier.next_move worker log replica.applier replica.node) replica).replica
worker_turned_fits schemas number worker log replica fits = record {
  same = worker_next worker log replica.applier replica.node (slice_get replica.applier.workers (worker - 1)) refl ∙ fits.same;
  locals_fit = fits.locals_fit;
  few_locals = fits.few_locals;
  few_workers = subst (λ (count : ℕ). count ≤ 8) (sym (appliers_stay worker log replica.applier replica.node).0) fits.few_workers;
}

worker_turn_fits : (schemas : List Schema) (number worker : ℕ) (log : List Entry) (replica : ReplicaView) → ReplicaFits schemas replica → ReplicaFits schemas (worker_turn number worker log replica).replica
worker_turn_fits schemas number worker log replica fits = at (is_worker worker replica)
  where
    turned : ReplicaTurned
    turned = worker_turned number (applier.next_move worker log replica.applier replica.node) replica

    at : (b : Bool) → ReplicaFits schemas (cond b turned (off_there replica)).replica
    at true = worker_turned_fits schemas number worker log replica fits
    at false = fits

replica_at_holds : (schemas : List Schema) (place : ℕ) (one : Option ReplicaView) (turn_there : ReplicaView → ReplicaTurned) (world : WorldView)
    → ((replica : ReplicaView) → ReplicaFits schemas replica → ReplicaFits schemas (turn_there replica).replica)
    → slice_get world.replicas place ≡ one → Holds schemas world → Holds schemas (replica_at place one turn_there world).world
replica_at_holds schemas place None turn_there world keeps found holds = holds
replica_at_holds schemas place (Some one) turn_there world keeps found holds = record {
  fits = record {
    same = holds.fits.same;
    few_tables = holds.fits.few_tables;
    sessions_fit = holds.fits.sessions_fit;
    few_sessions = holds.fits.few_sessions;
    tool_fits = holds.fits.tool_fits;
    log_fits = holds.fits.log_fits;
    replicas_fit = each_set (ReplicaFits schemas) world.replicas place (turn_there one).replica holds.fits.replicas_fit
        (keeps one (each_at (ReplicaFits schemas) world.replicas place one holds.fits.replicas_fit found));
    few_replicas = subst (λ (count : ℕ). count ≤ 8) (sym (length-set world.replicas place (turn_there one).replica)) holds.fits.few_replicas;
  };
  kept = holds.kept;
  within = holds.within;
}

off_holds : (schemas : List Schema) (world : WorldView) (b : Bool) (turned : Turned) → Holds schemas world → Holds schemas turned.world → Holds schemas (cond b (off world) turned).world
off_holds schemas world true turned holds then = holds
off_holds schemas world false turned holds then = then

on_replica_holds : (schemas : List Schema) (number : ℕ) (turn_there : ReplicaView → ReplicaTurned) (world : WorldView)
    → ((replica : ReplicaView) → ReplicaFits schemas replica → ReplicaFits schemas (turn_there replica).replica)
    → Holds schemas world → Holds schemas (on_replica number turn_there world).world
on_replica_holds schemas number turn_there world keeps holds =
    off_holds schemas world (number == 0) (replica_at (number - 1) (slice_get world.replicas (number - 1)) turn_there world) holds
    (replica_at_holds schemas (number - 1) (slice_get world.replicas (number - 1)) turn_there world keeps refl holds)

-- Turns, and items.

turn_holds : (schemas : List Schema) (actor : Actor) (world : WorldView) → Holds schemas world → Holds schemas (turn actor world).world
turn_holds schemas (a.Session number) world holds =
    off_holds schemas world (number == 0) (session_at (number - 1) (slice_get world.sessions (number - 1)) world) holds
    (session_at_holds schemas (number - 1) (slice_get world.sessions (number - 1)) world refl holds)
turn_holds schemas a.Tool world holds = tool_holds schemas world holds
turn_holds schemas (a.Sync number) world holds = holds
turn_holds schemas (a.Worker number worker) world holds =
    on_replica_holds schemas number (worker_turn number worker world.source.history) world (worker_turn_fits schemas number worker world.source.history) holds
turn_holds schemas (a.Local number local) world holds =
    on_replica_holds schemas number (local_turn number world.options.retries local) world (local_turn_fits schemas number world.options.retries local) holds

move_holds : (schemas : List Schema) (item : Item) (world : WorldView) → Holds schemas world → Holds schemas (move item world).world
move_holds schemas (i.Turn actor) world holds = turn_holds schemas actor world holds
move_holds schemas i.StopTool world holds = holds
move_holds schemas i.ResumeTool world holds = holds
move_holds schemas (i.StopReplica number) world holds = holds
move_holds schemas (i.StartReplica number) world holds = holds

written_holds : (schemas : List Schema) (b : Bool) (line : JournalLine) (world : WorldView) → Holds schemas world → Holds schemas (written_if b line world)
written_holds schemas false line world holds = holds
written_holds schemas true line world holds = record {
  fits = record {
    same = holds.fits.same;
    few_tables = holds.fits.few_tables;
    sessions_fit = holds.fits.sessions_fit;
    few_sessions = holds.fits.few_sessions;
    tool_fits = holds.fits.tool_fits;
    log_fits = holds.fits.log_fits;
    replicas_fit = holds.fits.replicas_fit;
    few_replicas = holds.fits.few_replicas;
  };
  kept = holds.kept;
  within = holds.within;
}

step_holds : (schemas : List Schema) (item : Item) (world : WorldView) → Holds schemas world → Holds schemas (stepped item world)
step_holds schemas item world holds =
    written_holds schemas (is_written world (move item world).note) (line_of item (move item world).note) (move item world).world (move_holds schemas item world holds)

played_holds : (schemas : List Schema) (items : List Item) (world : WorldView) → Holds schemas world → Holds schemas (played items world)
played_holds schemas [] world holds = holds
played_holds schemas (item ∷ items) world holds = played_holds schemas items (stepped item world) (step_holds schemas item world holds)

-- The first world.

begun_fit : (schemas : List Schema) (origin : ℕ → Origin) (number : ℕ) (scripts : List Script) → ScriptsFit schemas scripts → SessionsFit schemas (begun_sessions origin number scripts)
begun_fit schemas origin number [] fit = tt
begun_fit schemas origin number (script ∷ scripts) fit = (fit.0, begun_fit schemas origin (number + 1) scripts fit.1)

begun_count : (origin : ℕ → Origin) (number : ℕ) (scripts : List Script) → length (begun_sessions origin number scripts) ≡ length scripts
begun_count origin number [] = refl
begun_count origin number (script ∷ scripts) = ap suc (begun_count origin (number + 1) scripts)

workers_count : (count : ℕ) → length (new_workers count) ≡ count
workers_count zero = refl
workers_count (suc count) =
    let more : length (new_workers count ++ new_worker (suc count) ∷ []) ≡ length (new_workers count) + 1 = length-append (new_workers count) (new_worker (suc count) ∷ []) in
    omega (arith, more, workers_count count)

replica_begun : (options : RunOptions) (schemas : List Schema) (number : ℕ) (start : TableRows) (scripts : List Script) → AreOptions options → ScriptsFit schemas scripts → length scripts ≤ 16
    → ReplicaFits schemas (begun_replica options schemas number start scripts)
replica_begun options schemas number start scripts are fit few = record {
  same = refl;
  locals_fit = begun_fit schemas Local 1 scripts fit;
  few_locals = subst (λ (count : ℕ). count ≤ 16) (sym (begun_count Local 1 scripts)) few;
  few_workers = subst (λ (count : ℕ). count ≤ 8) (sym (workers_count options.workers)) are.few_workers;
}

replicas_begun : (options : RunOptions) (schemas : List Schema) (number : ℕ) (copies : List TableRows) (locals : List (List Script)) → AreOptions options → LocalsFit schemas locals
    → AllByRecursion (ReplicaFits schemas) (begun_replicas options schemas number copies locals)
replicas_begun options schemas number [] locals are fit = tt
replicas_begun options schemas number (start ∷ copies) [] are fit = tt
replicas_begun options schemas number (start ∷ copies) (scripts ∷ locals) are fit =
    (replica_begun options schemas number start scripts are fit.0.0 fit.0.1, replicas_begun options schemas (number + 1) copies locals are fit.1)

replicas_count : (options : RunOptions) (schemas : List Schema) (number : ℕ) (copies : List TableRows) (locals : List (List Script)) → length (begun_replicas options schemas number copies locals) ≤ length copies
replicas_count options schemas number [] locals = omega arith
replicas_count options schemas number (start ∷ copies) [] = omega arith
replicas_count options schemas number (start ∷ copies) (scripts ∷ locals) = omega (arith, replicas_count options schemas (number + 1) copies locals)

begun_holds : (options : RunOptions) (workload : Workload) → CanRun options workload → Holds workload.schemas.tables (begun options workload)
begun_holds options workload can =
    let runs : IsRunnable workload = can.runnable in
    record {
      fits = record {
        same = refl;
        few_tables = runs.few_tables;
        sessions_fit = begun_fit workload.schemas.tables Session 1 workload.sessions runs.scripts;
        few_sessions = subst (λ (count : ℕ). count ≤ 64) (sym (begun_count Session 1 workload.sessions)) runs.few_sessions;
        tool_fits = refl;
        log_fits = tt;
        replicas_fit = replicas_begun options workload.schemas.tables 1 workload.copies workload.locals can.options_fit runs.locals;
        few_replicas = omega (arith, replicas_count options workload.schemas.tables 1 workload.copies workload.locals, runs.replicas, runs.few_replicas);
      };
      kept = fresh_kept workload.schemas.tables workload.source runs.source;
      within = omega (arith, runs.some_table);
    }

good_of : (schemas : List Schema) (world : WorldView) → Holds schemas world → IsGood world
good_of schemas world holds = subst (λ (s : List Schema). WorldFits s world) (sym holds.fits.same) holds.fits

pub each_world_fits : EachWorldFits
each_world_fits options workload items can =
    good_of workload.schemas.tables (played items (begun options workload)) (played_holds workload.schemas.tables items (begun options workload) (begun_holds options workload can))
