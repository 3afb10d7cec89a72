-- What each world keeps: what it began from, who wrote the source's log, and that the statements of replicas fit.
use Rattle.std.proofs.Common.{◌≡◌, ◌∙◌, ℕ, ◌+◌, ◌-◌, ◌≤◌, ◌==◌, Bool, true, false, cond, List, [], ◌∷◌, ◌++◌, Option, None, Some, length, map, refl, ap, sym, subst, arith}
use Rattle.std.specs.List.{AllByRecursion, slice_get}
use Rattle.row_types.specs.declared.table_schema.Schema.{Schema}
use Rattle.row_types.specs.Fit.{AreTables}
use Rattle.row_types.specs.KeyRows.{TableRows}
use Rattle.ptc_statement.specs.declared.scripts.Script.{Script}
use Rattle.ptc_statement.specs.declared.scripts.ScriptLine.{ScriptLine}
use Rattle.statement_log.specs.declared.entries.Entry.{Entry}
use Rattle.statement_log.specs.declared.origins.Origin.{Origin}
use Rattle.statement_log.specs.declared.origins.Origin.TheVariants.{Session, Local}
use Rattle.node_model.specs.Node.{NodeView}
use Rattle.node_model.specs.Calls.{Call, Begin, Start, Visit, Commit, Rollback, Publish}
use Rattle.node_model.proofs.CallLemmas.{fresh_kept}
use Rattle.session.specs.Sessions.{SessionView}
use Rattle.session.specs.Moves as session
use Rattle.session.proofs.StayLemmas as session_stays
use Rattle.applier.specs.declared.workers.Worker.{Worker}
use Rattle.applier.specs.Appliers.{LogFits, ApplierView}
use Rattle.applier.specs.Moves as applier
use Rattle.checksum_tool.specs.Moves as tool
use Rattle.checksum_tool.proofs.StayLemmas as tool_stays
use Rattle.turn_laws.specs.TurnCalls.{LeadsBy, IsSessions, IsWorkers}
use Rattle.turn_laws.proofs.StayLemmas.{sessions_stay}
use Rattle.turn_laws.proofs.SessionCalls.{sessions_make_calls}
use Rattle.turn_laws.proofs.WorkerCalls.{workers_make_calls, others_make_none}
use Rattle.workload.specs.declared.actors.Actor.{Actor}
use Rattle.workload.specs.declared.actors.Actor.TheVariants as a
use Rattle.workload.specs.declared.schedule.Item.{Item}
use Rattle.workload.specs.declared.schedule.Item.TheVariants as i
use Rattle.workload.specs.declared.workloads.Workload.{Workload}
use Rattle.trace_text.specs.declared.lines.JournalLine.{JournalLine}
use Rattle.world_model.specs.declared.options.RunOptions.{RunOptions}
use Rattle.world_model.specs.CanRun.{CanRun}
use Rattle.world_model.specs.Good.{SessionFits, ReplicaFits, IsGood}
use Rattle.world_model.specs.Worlds.{WorldView, ReplicaView, begun_sessions, begun_replicas, begun}
use Rattle.world_model.specs.Turns.{off, session_at, tool_turn, ReplicaTurned, off_there, local_at, local_turn, is_worker, worker_turned, worker_turn, replica_at, on_replica, turn, move, is_written, line_of, written_if, stepped, played}
use Rattle.world_model.proofs.GoodLemmas.{each_world_fits}
use Rattle.headline_laws.specs.Begins.{start_of, script_of, local_scripts_of, lines_of, IsLogWriter, EachWroteHere}
use Rattle.headline_laws.proofs.ListLemmas.{each_is, each_at, each_set, map_set}
use Rattle.headline_laws.proofs.LeaveLemmas.{Leaves, CommitsAs, calls_leave, tool_leaves}
use Rattle.headline_laws.proofs.FitLemmas.{FitsThere, NodeKept, calls_keep, session_fits_there, worker_fits_there}

-- what is known of the source and its sessions, of which the workload has so many, and of the replicas
pub record Kept (workload : Workload) (world : WorldView) : Type 0 where
  pub schemas : world.source.schemas ≡ workload.schemas.tables
  pub start : world.source.start ≡ workload.source
  pub starts : map start_of world.replicas ≡ workload.copies
  pub scripts : map script_of world.sessions ≡ map lines_of workload.sessions
  pub locals : map local_scripts_of world.replicas ≡ map (map lines_of) workload.locals
  pub origins : AllByRecursion (λ (one : SessionView). IsLogWriter (length workload.sessions) one.origin) world.sessions
  pub wrote : EachWroteHere (length workload.sessions) world.source.history
  pub nodes : AllByRecursion (λ (replica : ReplicaView). NodeKept workload.schemas.tables replica.node) world.replicas

-- On the source.

session_commits : (P : Origin → Type 0) (one : SessionView) → P one.origin → (call : Call) → IsSessions one call → CommitsAs P call
session_commits P one is (Begin owner part) by = tt
session_commits P one is (Start owner statement) by = tt
session_commits P one is (Visit owner) by = tt
session_commits P one is (Commit owner origin) by = subst P (sym by.1) is
session_commits P one is (Rollback owner) by = tt
session_commits P one is (Publish table chunk) by = absurd by

session_leaves : (P : Origin → Type 0) (retries : ℕ) (one : SessionView) (node : NodeView) → P one.origin → Leaves P node (session.next_move retries one node).node
session_leaves P retries one node is =
    let made : LeadsBy (IsSessions one) node (session.next_move retries one node).node = sessions_make_calls retries one node in
    subst (Leaves P node) (sym made.leads) (calls_leave P made.calls node (each_is (IsSessions one) (CommitsAs P) made.calls (session_commits P one is) made.are))

session_kept : (workload : Workload) (world : WorldView) (place : ℕ) (found : Option SessionView) → slice_get world.sessions place ≡ found → IsGood world → Kept workload world
    → Kept workload (session_at place found world).world
session_kept workload world place None at good kept = kept
session_kept workload world place (Some one) at good kept =
    let P : Origin → Type 0 = IsLogWriter (length workload.sessions) in
    let moved : session.Moved = session.next_move world.options.retries one world.source in
    let stays = sessions_stay world.options.retries one world.source in
    let writer : P one.origin = each_at (λ (s : SessionView). P s.origin) world.sessions place one kept.origins at in
    let leaves : Leaves P world.source moved.node = session_leaves P world.options.retries one world.source writer in
    record {
      schemas = session_schemas world.options.retries one world.source ∙ kept.schemas;
      start = leaves.start ∙ kept.start;
      starts = kept.starts;
      scripts = map_set script_of world.sessions place one moved.session at stays.2 ∙ kept.scripts;
      locals = kept.locals;
      origins = each_set (λ (s : SessionView). P s.origin) world.sessions place moved.session (subst P (sym stays.1) writer) kept.origins;
      wrote = leaves.wrote kept.wrote;
      nodes = kept.nodes;
    }
  where
    session_schemas : (retries : ℕ) (one : SessionView) (node : NodeView) → (session.next_move retries one node).node.schemas ≡ node.schemas
    session_schemas retries one node = (session_stays.next_stays retries one node).1

tool_kept : (workload : Workload) (world : WorldView) → Kept workload world → Kept workload (tool_turn world).world
tool_kept workload world kept =
    let leaves : Leaves (IsLogWriter (length workload.sessions)) world.source (tool.next_move world.tool world.source).node =
    tool_leaves (IsLogWriter (length workload.sessions)) world.tool world.source tt in
    record {
      schemas = (tool_stays.next_stays world.tool world.source).1 ∙ kept.schemas;
      start = leaves.start ∙ kept.start;
      starts = kept.starts;
      scripts = kept.scripts;
      locals = kept.locals;
      origins = kept.origins;
      wrote = leaves.wrote kept.wrote;
      nodes = kept.nodes;
    }

-- On a replica: a turn there keeps the node's start, and what is known of the node.

pub record KeptThere (schemas : List Schema) (old new : NodeView) : Type 0 where
  pub start : new.start ≡ old.start
  pub known : NodeKept schemas old → NodeKept schemas new

abbrev Anyone : Origin → Type 0
Anyone origin = Unit {0}

anyone_commits : (call : Call) → CommitsAs Anyone call
anyone_commits (Begin owner part) = tt
anyone_commits (Start owner statement) = tt
anyone_commits (Visit owner) = tt
anyone_commits (Commit owner origin) = tt
anyone_commits (Rollback owner) = tt
anyone_commits (Publish table chunk) = tt

led_kept : (schemas : List Schema) (P : Call → Type 0) (old new : NodeView) → ((call : Call) → P call → FitsThere schemas call) → LeadsBy P old new → KeptThere schemas old new
led_kept schemas P old new fits led =
    subst (KeptThere schemas old) (sym led.leads)
    (record {
      start = (calls_leave Anyone led.calls old (each_is P (CommitsAs Anyone) led.calls (λ call is. anyone_commits call) led.are)).start;
      known = λ known. calls_keep schemas led.calls old (each_is P (FitsThere schemas) led.calls fits led.are) known;
    })

stays_there : (schemas : List Schema) (node : NodeView) → KeptThere schemas node node
stays_there schemas node = record { start = refl; known = λ known. known }

-- a turn keeps the scripts of local sessions, too
pub record ReplicaKept (schemas : List Schema) (old new : ReplicaView) : Type 0 where
  pub node : KeptThere schemas old.node new.node
  pub scripts : local_scripts_of new ≡ local_scripts_of old

replica_stays : (schemas : List Schema) (replica : ReplicaView) → ReplicaKept schemas replica replica
replica_stays schemas replica = record { node = stays_there schemas replica.node; scripts = refl }

local_kept : (schemas : List Schema) (number retries place : ℕ) (found : Option SessionView) (replica : ReplicaView) → slice_get replica.locals place ≡ found → ReplicaFits schemas replica
    → ReplicaKept schemas replica (local_at number retries place found replica).replica
local_kept schemas number retries place None replica at fits = replica_stays schemas replica
local_kept schemas number retries place (Some one) replica at fits = record {
  node = led_kept schemas (IsSessions one) replica.node (session.next_move retries one replica.node).node
      (session_fits_there schemas one (each_at (SessionFits schemas) replica.locals place one fits.locals_fit at)) (sessions_make_calls retries one replica.node);
  scripts = map_set script_of replica.locals place one (session.next_move retries one replica.node).session at (sessions_stay retries one replica.node).2;
}

local_turn_kept : (schemas : List Schema) (number retries local : ℕ) (replica : ReplicaView) → ReplicaFits schemas replica
    → ReplicaKept schemas replica (local_turn number retries local replica).replica
local_turn_kept schemas number retries local replica fits = at (local == 0)
  where
    at : (b : Bool) → ReplicaKept schemas replica (cond b (off_there replica) (local_at number retries (local - 1) (slice_get replica.locals (local - 1)) replica)).replica
    at true = replica_stays schemas replica
    at false = local_kept schemas number retries (local - 1) (slice_get replica.locals (local - 1)) replica refl fits

worker_kept : (schemas : List Schema) (worker : ℕ) (log : List Entry) (team : ApplierView) (node : NodeView) (found : Option Worker) → slice_get team.workers (worker - 1) ≡ found → LogFits schemas log
    → KeptThere schemas node (applier.next_move worker log team node).node
worker_kept schemas worker log team node None at fit = subst (KeptThere schemas node) (sym (others_make_none worker log team node at)) (stays_there schemas node)
worker_kept schemas worker log team node (Some one) at fit =
    led_kept schemas (IsWorkers one.owner log) node (applier.next_move worker log team node).node (worker_fits_there schemas one.owner log fit) (workers_make_calls worker log team node one at)

worker_turn_kept : (schemas : List Schema) (number worker : ℕ) (log : List Entry) (replica : ReplicaView) → LogFits schemas log
    → ReplicaKept schemas replica (worker_turn number worker log replica).replica
worker_turn_kept schemas number worker log replica fit = at (is_worker worker replica)
  where
    at : (b : Bool) → ReplicaKept schemas replica (cond b (worker_turned number (applier.next_move worker log replica.applier replica.node) replica) (off_there replica)).replica
    at true = record {
      node = worker_kept schemas worker log replica.applier replica.node (slice_get replica.applier.workers (worker - 1)) refl fit;
      scripts = refl;
    }
    at false = replica_stays schemas replica

replica_kept : (workload : Workload) (world : WorldView) (place : ℕ) (found : Option ReplicaView) (turn_there : ReplicaView → ReplicaTurned) → slice_get world.replicas place ≡ found
    → ((replica : ReplicaView) → found ≡ Some replica → ReplicaKept workload.schemas.tables replica (turn_there replica).replica)
    → Kept workload world → Kept workload (replica_at place found turn_there world).world
replica_kept workload world place None turn_there at there kept = kept
replica_kept workload world place (Some replica) turn_there at there kept =
    let here = there replica refl in
    record {
      schemas = kept.schemas;
      start = kept.start;
      starts = map_set start_of world.replicas place replica (turn_there replica).replica at here.node.start ∙ kept.starts;
      scripts = kept.scripts;
      locals = map_set local_scripts_of world.replicas place replica (turn_there replica).replica at here.scripts ∙ kept.locals;
      origins = kept.origins;
      wrote = kept.wrote;
      nodes = each_set (λ (one : ReplicaView). NodeKept workload.schemas.tables one.node) world.replicas place (turn_there replica).replica
          (here.node.known (each_at (λ (one : ReplicaView). NodeKept workload.schemas.tables one.node) world.replicas place replica kept.nodes at)) kept.nodes;
    }

on_replica_kept : (workload : Workload) (world : WorldView) (number : ℕ) (turn_there : ReplicaView → ReplicaTurned)
    → ((replica : ReplicaView) → slice_get world.replicas (number - 1) ≡ Some replica → ReplicaKept workload.schemas.tables replica (turn_there replica).replica)
    → Kept workload world → Kept workload (on_replica number turn_there world).world
on_replica_kept workload world number turn_there there kept = at (number == 0)
  where
    at : (b : Bool) → Kept workload (cond b (off world) (replica_at (number - 1) (slice_get world.replicas (number - 1)) turn_there world)).world
    at true = kept
    at false = replica_kept workload world (number - 1) (slice_get world.replicas (number - 1)) turn_there refl there kept

-- Items.

replica_fits : (workload : Workload) (world : WorldView) (place : ℕ) (replica : ReplicaView) → IsGood world → Kept workload world → slice_get world.replicas place ≡ Some replica
    → ReplicaFits workload.schemas.tables replica
replica_fits workload world place replica good kept at =
    subst (λ (s : List Schema). ReplicaFits s replica) kept.schemas (each_at (ReplicaFits world.source.schemas) world.replicas place replica good.replicas_fit at)

turn_kept : (workload : Workload) (world : WorldView) (actor : Actor) → IsGood world → Kept workload world → Kept workload (turn actor world).world
turn_kept workload world (a.Session number) good kept = at (number == 0)
  where
    at : (b : Bool) → Kept workload (cond b (off world) (session_at (number - 1) (slice_get world.sessions (number - 1)) world)).world
    at true = kept
    at false = session_kept workload world (number - 1) (slice_get world.sessions (number - 1)) refl good kept
turn_kept workload world a.Tool good kept = tool_kept workload world kept
turn_kept workload world (a.Sync number) good kept = kept
turn_kept workload world (a.Worker number worker) good kept =
    on_replica_kept workload world number (worker_turn number worker world.source.history)
    (λ replica at. worker_turn_kept workload.schemas.tables number worker world.source.history replica (subst (λ (s : List Schema). LogFits s world.source.history) kept.schemas good.log_fits)) kept
turn_kept workload world (a.Local number local) good kept =
    on_replica_kept workload world number (local_turn number world.options.retries local)
    (λ replica at. local_turn_kept workload.schemas.tables number world.options.retries local replica (replica_fits workload world (number - 1) replica good kept at)) kept

move_kept : (workload : Workload) (world : WorldView) (item : Item) → IsGood world → Kept workload world → Kept workload (move item world).world
move_kept workload world (i.Turn actor) good kept = turn_kept workload world actor good kept
move_kept workload world i.StopTool good kept = kept
move_kept workload world i.ResumeTool good kept = kept
move_kept workload world (i.StopReplica number) good kept = kept
move_kept workload world (i.StartReplica number) good kept = kept

written_kept : (workload : Workload) (b : Bool) (line : JournalLine) (world : WorldView) → Kept workload world → Kept workload (written_if b line world)
written_kept workload false line world kept = kept
written_kept workload true line world kept = record {
  schemas = kept.schemas;
  start = kept.start;
  starts = kept.starts;
  scripts = kept.scripts;
  locals = kept.locals;
  origins = kept.origins;
  wrote = kept.wrote;
  nodes = kept.nodes;
}

step_kept : (workload : Workload) (world : WorldView) (item : Item) → IsGood world → Kept workload world → Kept workload (stepped item world)
step_kept workload world item good kept =
    written_kept workload (is_written world (move item world).note) (line_of item (move item world).note) (move item world).world (move_kept workload world item good kept)

-- one item more
played_more : (items : List Item) (item : Item) (world : WorldView) → played (items ++ item ∷ []) world ≡ stepped item (played items world)
played_more [] item world = refl
played_more (first ∷ items) item world = played_more items item (stepped first world)

-- the items behind some that were played
rest_kept : (options : RunOptions) (workload : Workload) (before items : List Item) (world : WorldView) → CanRun options workload → world ≡ played before (begun options workload)
    → Kept workload world → Kept workload (played items world)
rest_kept options workload before [] world can is kept = kept
rest_kept options workload before (item ∷ items) world can is kept =
    rest_kept options workload (before ++ item ∷ []) items (stepped item world) can
    (ap (stepped item) is ∙ sym (played_more before item (begun options workload)))
    (step_kept workload world item (subst IsGood (sym is) (each_world_fits options workload before can)) kept)

-- The first world.

begun_scripts : (origin : ℕ → Origin) (number : ℕ) (scripts : List Script) → map script_of (begun_sessions origin number scripts) ≡ map lines_of scripts
begun_scripts origin number [] = refl
begun_scripts origin number (script ∷ scripts) = ap (λ (more : List (List ScriptLine)). script.lines ∷ more) (begun_scripts origin (number + 1) scripts)

begun_origins : (count number : ℕ) (scripts : List Script) → 1 ≤ number → number + length scripts ≤ count + 1
    → AllByRecursion (λ (one : SessionView). IsLogWriter count one.origin) (begun_sessions Session number scripts)
begun_origins count number [] from_one most = tt
begun_origins count number (script ∷ scripts) from_one most =
    ((from_one, omega (arith, most)), begun_origins count (number + 1) scripts (omega (arith, from_one)) (omega (arith, most)))

begun_starts : (options : RunOptions) (schemas : List Schema) (number : ℕ) (copies : List TableRows) (locals : List (List Script)) → length locals ≡ length copies
    → map start_of (begun_replicas options schemas number copies locals) ≡ copies
begun_starts options schemas number [] locals same = refl
begun_starts options schemas number (start ∷ copies) [] same = absurd (omega (arith, same))
begun_starts options schemas number (start ∷ copies) (scripts ∷ locals) same =
    ap (λ (more : List TableRows). start ∷ more) (begun_starts options schemas (number + 1) copies locals (omega (arith, same)))

begun_locals : (options : RunOptions) (schemas : List Schema) (number : ℕ) (copies : List TableRows) (locals : List (List Script)) → length locals ≡ length copies
    → map local_scripts_of (begun_replicas options schemas number copies locals) ≡ map (map lines_of) locals
begun_locals options schemas number [] [] same = refl
begun_locals options schemas number [] (scripts ∷ locals) same = absurd (omega (arith, same))
begun_locals options schemas number (start ∷ copies) [] same = refl
begun_locals options schemas number (start ∷ copies) (scripts ∷ locals) same =
    ap (λ (first : List (List ScriptLine)). first ∷ map local_scripts_of (begun_replicas options schemas (number + 1) copies locals)) (begun_scripts Local 1 scripts)
    ∙ ap (λ (more : List (List (List ScriptLine))). map lines_of scripts ∷ more) (begun_locals options schemas (number + 1) copies locals (omega (arith, same)))

begun_nodes : (options : RunOptions) (schemas : List Schema) (number : ℕ) (copies : List TableRows) (locals : List (List Script)) → AllByRecursion (AreTables schemas) copies
    → AllByRecursion (λ (replica : ReplicaView). NodeKept schemas replica.node) (begun_replicas options schemas number copies locals)
begun_nodes options schemas number [] locals are = tt
begun_nodes options schemas number (start ∷ copies) [] are = tt
begun_nodes options schemas number (start ∷ copies) (scripts ∷ locals) are =
    (record { same = refl; kept = fresh_kept schemas start are.0; fit = tt }, begun_nodes options schemas (number + 1) copies locals are.1)

begun_kept : (options : RunOptions) (workload : Workload) → CanRun options workload → Kept workload (begun options workload)
begun_kept options workload can = record {
  schemas = refl;
  start = refl;
  starts = begun_starts options workload.schemas.tables 1 workload.copies workload.locals (can.runnable.each_local ∙ sym can.runnable.replicas);
  scripts = begun_scripts Session 1 workload.sessions;
  locals = begun_locals options workload.schemas.tables 1 workload.copies workload.locals (can.runnable.each_local ∙ sym can.runnable.replicas);
  origins = begun_origins (length workload.sessions) 1 workload.sessions (omega arith) (omega arith);
  wrote = tt;
  nodes = begun_nodes options workload.schemas.tables 1 workload.copies workload.locals can.runnable.copies;
}

pub each_kept : (options : RunOptions) (workload : Workload) (items : List Item) → CanRun options workload → Kept workload (played items (begun options workload))
each_kept options workload items can = rest_kept options workload [] items (begun options workload) can refl (begun_kept options workload can)
