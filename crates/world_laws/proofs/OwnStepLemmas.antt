-- What is known of each session of a world is known after each item that is played.
use Rattle.std.proofs.Common.{◌≡◌, ◌≢◌, ◌∙◌, inl, inr, ℕ, zero, suc, ◌+◌, ◌-◌, ◌<◌, ◌≤◌, ◌==◌, Bool, true, false, cond, List, [], ◌∷◌, Option, None, Some, length, refl, ap, sym, subst, arith}
use Rattle.std.specs.Prelude.{slice_set}
use Rattle.std.specs.List.{AllByRecursion, slice_get}
use Rattle.std.proofs.lemmas.List.{length-set}
use Rattle.row_types.specs.declared.table_schema.Schema.{Schema}
use Rattle.row_types.specs.KeyRows.{TableRows}
use Rattle.ptc_statement.specs.declared.statements.Statement.{Statement}
use Rattle.ptc_statement.specs.declared.scripts.ScriptLine.{ScriptLine}
use Rattle.ptc_statement.specs.Fits.{FitsSchemas}
use Rattle.statement_log.specs.declared.entries.Entry.{Entry}
use Rattle.statement_log.specs.declared.origins.Origin.TheVariants.{Session, Local}
use Rattle.lock_table.specs.declared.wants.Owner.{Owner}
use Rattle.lock_table.proofs.HoldLemmas.{other_number}
use Rattle.node_model.specs.Node.{NodeView}
use Rattle.node_model.specs.Kept.{IsKept}
use Rattle.node_model.specs.Calls.{Call, Begin, Start, Visit, Commit, Rollback, Publish, CallFits, after_call, after_calls, fresh_node}
use Rattle.node_model.proofs.CallLemmas.{same_schemas, calls_kept}
use Rattle.session.specs.Sessions.{SessionView, RunFits}
use Rattle.session.specs.Moves.{next_move}
use Rattle.session_laws.specs.OwnCalls.{is_own, IsOthers}
use Rattle.applier.specs.declared.workers.Worker.{Worker}
use Rattle.applier.specs.Moves as worker_moves
use Rattle.checksum_tool.specs.Tools.{ToolView, tool_owner}
use Rattle.checksum_tool.specs.Moves as tool_moves
use Rattle.checksum_tool.proofs.StayLemmas as tool_stays
use Rattle.checksum_tool_laws.specs.Courses.{Course, after_events}
use Rattle.checksum_tool_laws.proofs.HoldLemmas.{Holds as ToolHolds}
use Rattle.checksum_tool_laws.proofs.RunLemmas.{events_hold, at_first}
use Rattle.turn_laws.specs.Stays.{owners_of}
use Rattle.turn_laws.specs.TurnCalls.{LeadsBy, IsSessions, RunsIn, IsTools, ToolRuns, IsWorkers}
use Rattle.turn_laws.proofs.StayLemmas.{appliers_stay}
use Rattle.turn_laws.proofs.SessionCalls.{sessions_make_calls}
use Rattle.turn_laws.proofs.ToolCalls.{tool_makes_calls}
use Rattle.turn_laws.proofs.WorkerCalls.{workers_make_calls, others_make_none}
use Rattle.workload.specs.declared.actors.Actor.{Actor}
use Rattle.workload.specs.declared.actors.Actor.TheVariants as a
use Rattle.workload.specs.declared.schedule.Item.{Item}
use Rattle.workload.specs.declared.schedule.Item.TheVariants as i
use Rattle.workload.specs.declared.workloads.Workload.{Workload}
use Rattle.trace_text.specs.declared.notes.Note.TheVariants.{Off}
use Rattle.world_model.specs.declared.options.RunOptions.{RunOptions}
use Rattle.world_model.specs.CanRun.{CanRun}
use Rattle.world_model.specs.Worlds.{WorldView, ReplicaView}
use Rattle.world_model.specs.Turns.{session_at, session_turn, ReplicaTurned, off_there, local_at, local_turn, worker_turned, is_worker, worker_turn, replica_at, on_replica, turn, move, line_of, written_if, is_written, stepped, played}
use Rattle.world_laws.proofs.ListLemmas.{each_is, each_set, each_at}
use Rattle.world_laws.proofs.OwnLemmas.{TellsApart, owner_of, IsLed, EachLed, each_called, each_turned, led_at}
use Rattle.world_laws.proofs.StepLemmas.{WorldHolds, first_course, step_holds}

pub sessions_apart : TellsApart Session
sessions_apart = record { own = λ number. grind (arith); other = λ ours theirs apart. other_number ours theirs apart }

pub locals_apart : TellsApart Local
locals_apart = record { own = λ number. grind (arith); other = λ ours theirs apart. other_number ours theirs apart }

-- the source, its sessions and the checksum tool
pub record SourceHolds (retries : ℕ) (first : NodeView) (tool : ToolView) (sessions : List SessionView) (node : NodeView) : Type 0 where
  pub same : node.schemas ≡ first.schemas
  pub kept : IsKept node
  pub tables : tool.tables ≡ length first.schemas
  pub few : length sessions ≤ 64
  pub each : EachLed retries Session first node 1 sessions

-- a replica and its local sessions; its workers hold locks as 201 and so on, and nobody stopped them
pub record ReplicaHolds (retries : ℕ) (replica : ReplicaView) : Type 0 where
  pub schemas : List Schema
  pub start : TableRows
  pub few : length replica.locals ≤ 16
  pub each : EachLed retries Local (fresh_node schemas start) replica.node 1 replica.locals
  pub workers : AllByRecursion (λ (owner : Owner). 200 < owner.0) (owners_of replica.applier.workers)
  pub running : replica.applier.stopped ≡ false

pub record OwnHolds (workload : Workload) (world : WorldView) : Type 0 where
  pub source : SourceHolds world.options.retries (fresh_node workload.schemas.tables workload.source) world.tool world.sessions world.source
  pub replicas : AllByRecursion (ReplicaHolds world.options.retries) world.replicas

-- Calls on the source.

calls_same : (calls : List Call) (node : NodeView) → (after_calls calls node).schemas ≡ node.schemas
calls_same [] node = refl
calls_same (call ∷ calls) node = calls_same calls (after_call call node) ∙ same_schemas call node

leaves_kept : {P : Call → Type 0} (old new : NodeView) → ((call : Call) → P call → CallFits old.schemas call) → IsKept old → LeadsBy P old new → IsKept new
leaves_kept {P} old new fit kept made = subst IsKept (sym made.leads) (calls_kept made.calls old (each_is P (CallFits old.schemas) made.calls fit made.are) kept)

leaves_same : {P : Call → Type 0} (old new : NodeView) → LeadsBy P old new → new.schemas ≡ old.schemas
leaves_same old new made = ap (λ (n : NodeView). n.schemas) made.leads ∙ calls_same made.calls old

session_call : (schemas : List Schema) (session : SessionView) → AllByRecursion (λ (line : ScriptLine). RunFits schemas line.step) session.script → (call : Call) → IsSessions session call → CallFits schemas call
session_call schemas session fits (Begin owner part) is = tt
session_call schemas session fits (Start owner statement) is =
    let run : RunsIn session.script statement = is.1 in
    subst (RunFits schemas) run.runs (each_at (λ (line : ScriptLine). RunFits schemas line.step) session.script run.place run.line fits run.found)
session_call schemas session fits (Visit owner) is = tt
session_call schemas session fits (Commit owner origin) is = tt
session_call schemas session fits (Rollback owner) is = tt
session_call schemas session fits (Publish table chunk) is = tt

session_holds : (retries place : ℕ) (first : NodeView) (tool : ToolView) (sessions : List SessionView) (session : SessionView) (node : NodeView) → slice_get sessions place ≡ Some session
    → SourceHolds retries first tool sessions node
    → SourceHolds retries first tool (slice_set sessions place (next_move retries session node).session) (next_move retries session node).node
session_holds retries place first tool sessions session node found h =
    let led : IsLed retries Session first (1 + place) session node = led_at retries Session first node place 1 sessions session found h.each in
    let fits : AllByRecursion (λ (line : ScriptLine). RunFits node.schemas line.step) session.script =
    subst (λ (lines : List ScriptLine). AllByRecursion (λ (line : ScriptLine). RunFits node.schemas line.step) lines) (sym led.script_is)
    (subst (λ (schemas : List Schema). AllByRecursion (λ (line : ScriptLine). RunFits schemas line.step) led.script) (sym h.same) led.fits) in
    let made : LeadsBy (IsSessions session) node (next_move retries session node).node = sessions_make_calls retries session node in
    record {
      same = leaves_same node (next_move retries session node).node made ∙ h.same;
      kept = leaves_kept node (next_move retries session node).node (session_call node.schemas session fits) h.kept made;
      tables = h.tables;
      few = subst (λ (count : ℕ). count ≤ 64) (sym (length-set sessions place (next_move retries session node).session)) h.few;
      each = each_turned retries Session first node place 1 sessions session sessions_apart found h.each;
    }

-- The checksum tool's.

record Found (schemas : List Schema) (table : ℕ) : Type 0 where
  schema : Schema
  found : slice_get schemas table ≡ Some schema

found_at : (schemas : List Schema) (table : ℕ) → table < length schemas → Found schemas table
found_at [] table within = absurd (omega (arith, within))
found_at (schema ∷ schemas) zero within = record { schema = schema; found = refl }
found_at (schema ∷ schemas) (suc table) within =
    let more : Found schemas table = found_at schemas table (omega (arith, within)) in
    record { schema = more.schema; found = more.found }

tool_statement : (schemas : List Schema) (tool : ToolView) (statement : Statement) → tool.table < length schemas → ToolRuns tool statement → FitsSchemas schemas statement
tool_statement schemas tool statement within (inl is) =
    let there : Found schemas tool.table = found_at schemas tool.table within in
    subst (FitsSchemas schemas) (sym is) (record { schema = there.schema; found = there.found; fits = tt })
tool_statement schemas tool statement within (inr is) =
    let there : Found schemas tool.table = found_at schemas tool.table within in
    subst (FitsSchemas schemas) (sym is) (record { schema = there.schema; found = there.found; fits = tt })

tool_call : (schemas : List Schema) (tool : ToolView) → tool.table < length schemas → (call : Call) → IsTools tool call → CallFits schemas call
tool_call schemas tool within (Begin owner part) is = tt
tool_call schemas tool within (Start owner statement) is = tool_statement schemas tool statement within is.1
tool_call schemas tool within (Visit owner) is = tt
tool_call schemas tool within (Commit owner origin) is = tt
tool_call schemas tool within (Rollback owner) is = tt
tool_call schemas tool within (Publish table chunk) is = tt

tools_call : (tool : ToolView) (number : ℕ) → number < 100 → (call : Call) → IsTools tool call → IsOthers (owner_of number) (Session number) call
tools_call tool number less = at
  where
    other : (owner : Owner) → owner ≡ tool_owner → owner.0 ≢ number
    other owner is = λ same. let hundred : owner.0 ≡ 100 = ap (λ (o : Owner). o.0) is in absurd (omega (arith, less, same, hundred))

    at : (call : Call) → IsTools tool call → IsOthers (owner_of number) (Session number) call
    at (Begin owner part) is = other owner is.0
    at (Start owner statement) is = other owner is.0
    at (Visit owner) is = other owner is
    at (Commit owner origin) is = (other owner is.0, ap (is_own (Session number)) is.1)
    at (Rollback owner) is = tt
    at (Publish table chunk) is = tt

tool_holds : (retries : ℕ) (first : NodeView) (tool : ToolView) (sessions : List SessionView) (node : NodeView) → tool.table < tool.tables → SourceHolds retries first tool sessions node
    → SourceHolds retries first (tool_moves.next_move tool node).tool sessions (tool_moves.next_move tool node).node
tool_holds retries first tool sessions node within h =
    let few : length sessions ≤ 64 = h.few in
    let made : LeadsBy (IsTools tool) node (tool_moves.next_move tool node).node = tool_makes_calls tool node h.kept in
    let there : tool.table < length node.schemas = subst (λ (count : ℕ). tool.table < count) (h.tables ∙ ap length (sym h.same)) within in
    record {
      same = leaves_same node (tool_moves.next_move tool node).node made ∙ h.same;
      kept = leaves_kept node (tool_moves.next_move tool node).node (tool_call node.schemas tool there) h.kept made;
      tables = tool_stays.tables_stay tool node (tool_moves.next_move tool node) refl ∙ h.tables;
      few = h.few;
      each = subst (λ (n : NodeView). EachLed retries Session first n 1 sessions) (sym made.leads)
          (each_called retries Session first node made.calls (IsTools tool) 1 sessions made.are (λ n least most. tools_call tool n (omega (arith, most, few))) h.each);
    }

-- a run's tool is at one of its tables
within_there : (options : RunOptions) (workload : Workload) (world : WorldView) → CanRun options workload → WorldHolds options workload world → world.tool.table < world.tool.tables
within_there options workload world can h =
    subst (λ (course : Course). course.tool.table < course.tool.tables) (sym h.led.course) holds.core.within
  where
    first : Course
    first = first_course options workload

    holds : ToolHolds (after_events h.led.events first).tool (after_events h.led.events first).node
    holds = events_hold h.led.events first h.led.fit (at_first (length workload.schemas.tables) options.kind options.retries workload.schemas.tables workload.source can.runnable.some_table)

-- Turns on the source.

session_turn_holds : (workload : Workload) (world : WorldView) (number : ℕ) → OwnHolds workload world → OwnHolds workload (session_turn number world).world
session_turn_holds workload world number h = at (number == 0)
  where
    there : (found : Option SessionView) → slice_get world.sessions (number - 1) ≡ found → OwnHolds workload (session_at (number - 1) found world).world
    there None e = h
    there (Some session) e = record {
      source = session_holds world.options.retries (number - 1) (fresh_node workload.schemas.tables workload.source) world.tool world.sessions session world.source e h.source;
      replicas = h.replicas;
    }

    at : (b : Bool) → OwnHolds workload (cond b (record { note = Off; world = world }) (session_at (number - 1) (slice_get world.sessions (number - 1)) world)).world
    at true = h
    at false = there (slice_get world.sessions (number - 1)) refl

-- Turns on a replica.

local_holds : (retries number local : ℕ) (replica : ReplicaView) → ReplicaHolds retries replica → ReplicaHolds retries (local_turn number retries local replica).replica
local_holds retries number local replica h = at (local == 0)
  where
    there : (found : Option SessionView) → slice_get replica.locals (local - 1) ≡ found → ReplicaHolds retries (local_at number retries (local - 1) found replica).replica
    there None e = h
    there (Some session) e = record {
      schemas = h.schemas;
      start = h.start;
      few = subst (λ (count : ℕ). count ≤ 16) (sym (length-set replica.locals (local - 1) (next_move retries session replica.node).session)) h.few;
      each = each_turned retries Local (fresh_node h.schemas h.start) replica.node (local - 1) 1 replica.locals session locals_apart e h.each;
      workers = h.workers;
      running = h.running;
    }

    at : (b : Bool) → ReplicaHolds retries (cond b (off_there replica) (local_at number retries (local - 1) (slice_get replica.locals (local - 1)) replica)).replica
    at true = h
    at false = there (slice_get replica.locals (local - 1)) refl

owner_at : (workers : List Worker) (place : ℕ) (worker : Worker) → AllByRecursion (λ (owner : Owner). 200 < owner.0) (owners_of workers) → slice_get workers place ≡ Some worker → 200 < worker.owner.0
owner_at [] place worker above found = absurd (cc)
owner_at (other ∷ workers) zero worker above found =
    let same : other ≡ worker = cc in
    subst (λ (w : Worker). 200 < w.owner.0) same above.0
owner_at (other ∷ workers) (suc place) worker above found = owner_at workers place worker above.1 found

workers_call : (worker : Owner) (log : List Entry) (number : ℕ) → number < 100 → 200 < worker.0 → (call : Call) → IsWorkers worker log call → IsOthers (owner_of number) (Local number) call
workers_call worker log number less above = at
  where
    other : (owner : Owner) → owner ≡ worker → owner.0 ≢ number
    other owner is = λ same. let theirs : owner.0 ≡ worker.0 = ap (λ (o : Owner). o.0) is in absurd (omega (arith, less, above, same, theirs))

    at : (call : Call) → IsWorkers worker log call → IsOthers (owner_of number) (Local number) call
    at (Begin owner part) is = other owner is.0
    at (Start owner statement) is = other owner is.0
    at (Visit owner) is = other owner is
    at (Commit owner origin) is = (other owner is.0, ap (is_own (Local number)) is.1.applied)
    at (Rollback owner) is = absurd is
    at (Publish table chunk) is = absurd is

workers_each : (retries number : ℕ) (log : List Entry) (replica : ReplicaView) (h : ReplicaHolds retries replica) (found : Option Worker) → slice_get replica.applier.workers (number - 1) ≡ found
    → EachLed retries Local (fresh_node h.schemas h.start) (worker_moves.next_move number log replica.applier replica.node).node 1 replica.locals
workers_each retries number log replica h None e =
    subst (λ (n : NodeView). EachLed retries Local (fresh_node h.schemas h.start) n 1 replica.locals) (sym (others_make_none number log replica.applier replica.node e)) h.each
workers_each retries number log replica h (Some worker) e =
    let few : length replica.locals ≤ 16 = h.few in
    let made : LeadsBy (IsWorkers worker.owner log) replica.node (worker_moves.next_move number log replica.applier replica.node).node =
    workers_make_calls number log replica.applier replica.node worker e in
    subst (λ (n : NodeView). EachLed retries Local (fresh_node h.schemas h.start) n 1 replica.locals) (sym made.leads)
    (each_called retries Local (fresh_node h.schemas h.start) replica.node made.calls (IsWorkers worker.owner log) 1 replica.locals made.are
    (λ n least most. workers_call worker.owner log n (omega (arith, most, few)) (owner_at replica.applier.workers (number - 1) worker h.workers e)) h.each)

worker_holds : (retries number worker : ℕ) (log : List Entry) (replica : ReplicaView) → ReplicaHolds retries replica → ReplicaHolds retries (worker_turn number worker log replica).replica
worker_holds retries number worker log replica h = at (is_worker worker replica)
  where
    at : (b : Bool) → ReplicaHolds retries (cond b (worker_turned number (worker_moves.next_move worker log replica.applier replica.node) replica) (off_there replica)).replica
    at true = record {
      schemas = h.schemas;
      start = h.start;
      few = h.few;
      each = workers_each retries worker log replica h (slice_get replica.applier.workers (worker - 1)) refl;
      workers = subst (AllByRecursion (λ (owner : Owner). 200 < owner.0)) (sym (appliers_stay worker log replica.applier replica.node).1) h.workers;
      running = h.running;
    }
    at false = h

replica_holds : (workload : Workload) (world : WorldView) (number : ℕ) (turn_there : ReplicaView → ReplicaTurned)
    → ((replica : ReplicaView) → ReplicaHolds world.options.retries replica → ReplicaHolds world.options.retries (turn_there replica).replica) → OwnHolds workload world
    → OwnHolds workload (on_replica number turn_there world).world
replica_holds workload world number turn_there holds h = at (number == 0)
  where
    there : (found : Option ReplicaView) → slice_get world.replicas (number - 1) ≡ found → OwnHolds workload (replica_at (number - 1) found turn_there world).world
    there None e = h
    there (Some replica) e = record {
      source = h.source;
      replicas = each_set (ReplicaHolds world.options.retries) world.replicas (number - 1) (turn_there replica).replica
          (holds replica (each_at (ReplicaHolds world.options.retries) world.replicas (number - 1) replica h.replicas e)) h.replicas;
    }

    at : (b : Bool) → OwnHolds workload (cond b (record { note = Off; world = world }) (replica_at (number - 1) (slice_get world.replicas (number - 1)) turn_there world)).world
    at true = h
    at false = there (slice_get world.replicas (number - 1)) refl

-- Items.

turn_holds : (workload : Workload) (world : WorldView) (actor : Actor) → world.tool.table < world.tool.tables → OwnHolds workload world → OwnHolds workload (turn actor world).world
turn_holds workload world (a.Session number) within h = session_turn_holds workload world number h
turn_holds workload world a.Tool within h = record {
  source = tool_holds world.options.retries (fresh_node workload.schemas.tables workload.source) world.tool world.sessions world.source within h.source;
  replicas = h.replicas;
}
turn_holds workload world (a.Sync number) within h = h
turn_holds workload world (a.Worker number worker) within h =
    replica_holds workload world number (worker_turn number worker world.source.history) (λ replica r. worker_holds world.options.retries number worker world.source.history replica r) h
turn_holds workload world (a.Local number local) within h =
    replica_holds workload world number (local_turn number world.options.retries local) (λ replica r. local_holds world.options.retries number local replica r) h

move_holds : (workload : Workload) (world : WorldView) (item : Item) → world.tool.table < world.tool.tables → OwnHolds workload world → OwnHolds workload (move item world).world
move_holds workload world (i.Turn actor) within h = turn_holds workload world actor within h
move_holds workload world i.StopTool within h = h
move_holds workload world i.ResumeTool within h = h
move_holds workload world (i.StopReplica number) within h = h
move_holds workload world (i.StartReplica number) within h = h

own_step : (workload : Workload) (world : WorldView) (item : Item) → world.tool.table < world.tool.tables → OwnHolds workload world → OwnHolds workload (stepped item world)
own_step workload world item within h = at (is_written world (move item world).note)
  where
    moved : OwnHolds workload (move item world).world
    moved = move_holds workload world item within h

    at : (b : Bool) → OwnHolds workload (written_if b (line_of item (move item world).note) (move item world).world)
    at true = record { source = moved.source; replicas = moved.replicas }
    at false = moved

pub own_played : (options : RunOptions) (workload : Workload) (items : List Item) (world : WorldView) → CanRun options workload → WorldHolds options workload world → OwnHolds workload world
    → OwnHolds workload (played items world)
own_played options workload [] world can all h = h
own_played options workload (item ∷ items) world can all h =
    own_played options workload items (stepped item world) can (step_holds options workload world item all) (own_step workload world item (within_there options workload world can all) h)
