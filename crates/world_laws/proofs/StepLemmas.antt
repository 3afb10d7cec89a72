-- What holds of a world holds after each item that is played.
use Rattle.std.proofs.Common.{◌≡◌, ◌∙◌, ℕ, ◌-◌, ◌≤◌, ◌==◌, ◌&&◌, Bool, true, false, cond, List, [], ◌∷◌, ◌++◌, Option, None, Some, length, refl, sym, subst, arith}
use Rattle.std.specs.Prelude.{nat_lt, nat_le}
use Rattle.std.specs.List.{AllByRecursion, slice_get}
use Rattle.std.proofs.lemmas.Bool.Decides.{nat_tests}
use Rattle.row_types.specs.declared.table_schema.Schema.{Schema}
use Rattle.statement_log.specs.declared.entries.Entry.{Entry}
use Rattle.lock_table.proofs.GapLemmas.{both_true}
use Rattle.node_model.specs.Node.{NodeView}
use Rattle.node_model.specs.Calls.{fresh_node}
use Rattle.session.specs.Sessions.{SessionView}
use Rattle.session.specs.Moves.{next_move}
use Rattle.session.proofs.StayLemmas.{next_stays}
use Rattle.applier.specs.Moves as worker_moves
use Rattle.checksum_tool.specs.Tools.{ToolView, new_tool}
use Rattle.checksum_tool.specs.Moves as tool_moves
use Rattle.checksum_tool.proofs.StayLemmas as tool_stays
use Rattle.checksum_tool_laws.specs.Courses.{Course}
use Rattle.workload.specs.declared.actors.Actor.{Actor}
use Rattle.workload.specs.declared.actors.Actor.TheVariants as a
use Rattle.workload.specs.declared.schedule.Item.{Item}
use Rattle.workload.specs.declared.schedule.Item.TheVariants as i
use Rattle.workload.specs.declared.workloads.Workload.{Workload}
use Rattle.trace_text.specs.declared.notes.Note.TheVariants.{Off}
use Rattle.turn_laws.specs.TurnCalls.{LeadsBy, IsSessions}
use Rattle.turn_laws.proofs.SessionCalls.{sessions_make_calls}
use Rattle.world_model.specs.declared.options.RunOptions.{RunOptions}
use Rattle.world_model.specs.Worlds.{WorldView, ReplicaView}
use Rattle.world_model.specs.Turns.{session_turned, session_at, session_turn, tool_turn, ReplicaTurned, off_there, local_at, local_turn, worker_turned, is_worker, worker_turn, replica_at, on_replica, turn, move, line_of, written_if, is_written, stepped, played}
use Rattle.world_laws.proofs.ListLemmas.{each_is, each_set, each_at}
use Rattle.world_laws.proofs.GrowLemmas.{Grown, calls_grow, tool_grows}
use Rattle.world_laws.proofs.SourceLemmas.{IsBeside, IsLed, beside_stays, session_led, tool_led}
use Rattle.world_laws.proofs.ReplicaLemmas.{IsThere, IsLed as IsReplicaLed, log_led, worker_led, local_led}

-- the source before the first move
abbrev pub first_course : RunOptions → Workload → Course
first_course options workload = record {
  tool = new_tool (length workload.schemas.tables) options.kind options.retries;
  node = fresh_node workload.schemas.tables workload.source;
}

-- what is known of the source, its actors and the replicas
pub record Holds (options : RunOptions) (workload : Workload) (source : NodeView) (tool : ToolView) (sessions : List SessionView) (replicas : List ReplicaView) : Type 0 where
  pub led : IsLed (first_course options workload) tool source
  pub beside : AllByRecursion IsBeside sessions
  pub same : source.schemas ≡ workload.schemas.tables
  pub each : AllByRecursion (IsReplicaLed workload.schemas.tables options.workers source.history) replicas

abbrev pub WorldHolds : RunOptions → Workload → WorldView → Type 0
WorldHolds options workload world = Holds options workload world.source world.tool world.sessions world.replicas

-- Turns on the source.

all_grown : (schemas : List Schema) (workers : ℕ) (old new : List Entry) (replicas : List ReplicaView) → Grown old new → AllByRecursion (IsReplicaLed schemas workers old) replicas
    → AllByRecursion (IsReplicaLed schemas workers new) replicas
all_grown schemas workers old new replicas grown each =
    subst (λ (log : List Entry). AllByRecursion (IsReplicaLed schemas workers log) replicas) (sym grown.is)
    (each_is (IsReplicaLed schemas workers old) (IsReplicaLed schemas workers (old ++ grown.more)) replicas (λ replica led. log_led schemas workers old grown.more replica grown.are led) each)

session_grows : (retries : ℕ) (session : SessionView) (node : NodeView) → Grown node.history (next_move retries session node).node.history
session_grows retries session node =
    let made : LeadsBy (IsSessions session) node (next_move retries session node).node = sessions_make_calls retries session node in
    subst (λ (n : NodeView). Grown node.history n.history) (sym made.leads) (calls_grow made.calls node)

session_holds : (options : RunOptions) (workload : Workload) (world : WorldView) (place : ℕ) (session : SessionView) → slice_get world.sessions place ≡ Some session → WorldHolds options workload world
    → WorldHolds options workload (session_turned place (next_move world.options.retries session world.source) world).world
session_holds options workload world place session found h =
    let beside : IsBeside session = each_at IsBeside world.sessions place session h.beside found in
    let moved = next_move world.options.retries session world.source in
    record {
      led = session_led (first_course options workload) world.options.retries session world.tool world.source beside h.led;
      beside = each_set IsBeside world.sessions place moved.session (beside_stays world.options.retries session world.source beside) h.beside;
      same = (next_stays world.options.retries session world.source).1 ∙ h.same;
      each = all_grown workload.schemas.tables options.workers world.source.history moved.node.history world.replicas (session_grows world.options.retries session world.source) h.each;
    }

session_turn_holds : (options : RunOptions) (workload : Workload) (world : WorldView) (number : ℕ) → WorldHolds options workload world → WorldHolds options workload (session_turn number world).world
session_turn_holds options workload world number h = at (number == 0)
  where
    there : (found : Option SessionView) → slice_get world.sessions (number - 1) ≡ found → WorldHolds options workload (session_at (number - 1) found world).world
    there None e = h
    there (Some session) e = session_holds options workload world (number - 1) session e h

    at : (b : Bool) → WorldHolds options workload (cond b (record { note = Off; world = world }) (session_at (number - 1) (slice_get world.sessions (number - 1)) world)).world
    at true = h
    at false = there (slice_get world.sessions (number - 1)) refl

tool_turn_holds : (options : RunOptions) (workload : Workload) (world : WorldView) → WorldHolds options workload world → WorldHolds options workload (tool_turn world).world
tool_turn_holds options workload world h =
    let moved = tool_moves.next_move world.tool world.source in
    record {
      led = tool_led (first_course options workload) world.tool world.source h.led;
      beside = h.beside;
      same = (tool_stays.next_stays world.tool world.source).1 ∙ h.same;
      each = all_grown workload.schemas.tables options.workers world.source.history moved.node.history world.replicas (tool_grows world.tool world.source) h.each;
    }

-- Turns on a replica.

abbrev ThereHolds : List Schema → ℕ → List Entry → ReplicaView → (ReplicaView → ReplicaTurned) → Type 0
ThereHolds schemas workers log replica turn_there = IsReplicaLed schemas workers log replica → IsReplicaLed schemas workers log (turn_there replica).replica

between : (number count : ℕ) → (nat_lt 0 number && nat_le number count) ≡ true → (1 ≤ number) × (number ≤ count)
between number count e =
    let both = both_true (nat_lt 0 number) (nat_le number count) e in
    let least : nat_lt 0 number ≡ true = both.0 in
    let most : nat_le number count ≡ true = both.1 in
    (grind (arith, nat_tests), grind (arith, nat_tests))

worker_holds : (schemas : List Schema) (workers number worker : ℕ) (log : List Entry) (replica : ReplicaView) → ThereHolds schemas workers log replica (worker_turn number worker log)
worker_holds schemas workers number worker log replica led = at (is_worker worker replica) refl
  where
    at : (b : Bool) → is_worker worker replica ≡ b
        → IsReplicaLed schemas workers log (cond b (worker_turned number (worker_moves.next_move worker log replica.applier replica.node) replica) (off_there replica)).replica
    at true e = let is = between worker (length replica.applier.workers) e in worker_led schemas workers worker log replica is.0 is.1 led
    at false e = led

local_holds : (schemas : List Schema) (workers number retries local : ℕ) (log : List Entry) (replica : ReplicaView) → ThereHolds schemas workers log replica (local_turn number retries local)
local_holds schemas workers number retries local log replica led = at (local == 0)
  where
    there : (found : Option SessionView) → slice_get replica.locals (local - 1) ≡ found → IsReplicaLed schemas workers log (local_at number retries (local - 1) found replica).replica
    there None e = led
    there (Some session) e = local_led schemas workers retries (local - 1) log replica session (each_at IsThere replica.locals (local - 1) session led.there e) led

    at : (b : Bool) → IsReplicaLed schemas workers log (cond b (off_there replica) (local_at number retries (local - 1) (slice_get replica.locals (local - 1)) replica)).replica
    at true = led
    at false = there (slice_get replica.locals (local - 1)) refl

replica_holds : (options : RunOptions) (workload : Workload) (world : WorldView) (number : ℕ) (turn_there : ReplicaView → ReplicaTurned)
    → ((replica : ReplicaView) → ThereHolds workload.schemas.tables options.workers world.source.history replica turn_there) → WorldHolds options workload world
    → WorldHolds options workload (on_replica number turn_there world).world
replica_holds options workload world number turn_there holds h = at (number == 0)
  where
    there : (found : Option ReplicaView) → slice_get world.replicas (number - 1) ≡ found → WorldHolds options workload (replica_at (number - 1) found turn_there world).world
    there None e = h
    there (Some replica) e = record {
      led = h.led;
      beside = h.beside;
      same = h.same;
      each = each_set (IsReplicaLed workload.schemas.tables options.workers world.source.history) world.replicas (number - 1) (turn_there replica).replica
          (holds replica (each_at (IsReplicaLed workload.schemas.tables options.workers world.source.history) world.replicas (number - 1) replica h.each e)) h.each;
    }

    at : (b : Bool) → WorldHolds options workload (cond b (record { note = Off; world = world }) (replica_at (number - 1) (slice_get world.replicas (number - 1)) turn_there world)).world
    at true = h
    at false = there (slice_get world.replicas (number - 1)) refl

-- Items.

turn_holds : (options : RunOptions) (workload : Workload) (world : WorldView) (actor : Actor) → WorldHolds options workload world → WorldHolds options workload (turn actor world).world
turn_holds options workload world (a.Session number) h = session_turn_holds options workload world number h
turn_holds options workload world a.Tool h = tool_turn_holds options workload world h
turn_holds options workload world (a.Sync number) h = h
turn_holds options workload world (a.Worker number worker) h =
    replica_holds options workload world number (worker_turn number worker world.source.history)
    (λ replica led. worker_holds workload.schemas.tables options.workers number worker world.source.history replica led) h
turn_holds options workload world (a.Local number local) h =
    replica_holds options workload world number (local_turn number world.options.retries local)
    (λ replica led. local_holds workload.schemas.tables options.workers number world.options.retries local world.source.history replica led) h

move_holds : (options : RunOptions) (workload : Workload) (world : WorldView) (item : Item) → WorldHolds options workload world → WorldHolds options workload (move item world).world
move_holds options workload world (i.Turn actor) h = turn_holds options workload world actor h
move_holds options workload world i.StopTool h = h
move_holds options workload world i.ResumeTool h = h
move_holds options workload world (i.StopReplica number) h = h
move_holds options workload world (i.StartReplica number) h = h

pub step_holds : (options : RunOptions) (workload : Workload) (world : WorldView) (item : Item) → WorldHolds options workload world → WorldHolds options workload (stepped item world)
step_holds options workload world item h = at (is_written world (move item world).note)
  where
    moved : WorldHolds options workload (move item world).world
    moved = move_holds options workload world item h

    at : (b : Bool) → WorldHolds options workload (written_if b (line_of item (move item world).note) (move item world).world)
    at true = record { led = moved.led; beside = moved.beside; same = moved.same; each = moved.each }
    at false = moved

pub played_holds : (options : RunOptions) (workload : Workload) (items : List Item) (world : WorldView) → WorldHolds options workload world → WorldHolds options workload (played items world)
played_holds options workload [] world h = h
played_holds options workload (item ∷ items) world h = played_holds options workload items (stepped item world) (step_holds options workload world item h)
