-- The actors of a round and their order stay.
use Rattle.std.proofs.Common.{◌≡◌, ◌∙◌, ℕ, zero, suc, ◌+◌, ◌-◌, ◌==◌, Bool, true, false, cond, List, [], ◌∷◌, ◌++◌, Option, None, Some, length, refl, ap}
use Rattle.std.specs.Prelude.{slice_set}
use Rattle.std.specs.List.{slice_get}
use Rattle.std.proofs.lemmas.List.{length-set}
use Rattle.statement_log.specs.declared.entries.Entry.{Entry}
use Rattle.session.specs.Sessions.{SessionView}
use Rattle.session.specs.Moves as session
use Rattle.applier.specs.Moves as applier
use Rattle.turn_laws.proofs.StayLemmas.{appliers_stay}
use Rattle.workload.specs.declared.actors.Actor.{Actor}
use Rattle.workload.specs.declared.actors.Actor.TheVariants as a
use Rattle.workload.specs.declared.schedule.Item.{Item}
use Rattle.workload.specs.declared.schedule.Item.TheVariants as i
use Rattle.trace_text.specs.declared.lines.JournalLine.{JournalLine}
use Rattle.world_model.specs.Worlds.{WorldView, ReplicaView}
use Rattle.world_model.specs.Turns.{Turned, off, session_at, ReplicaTurned, off_there, local_at, local_turn, is_worker, worker_turned, worker_turn, replica_at, on_replica, turn, move, is_written, line_of, written_if, stepped}
use Rattle.world_model.specs.Rounds.{turns_of, turns_on, replica_turns, order}
use Rattle.world_model.specs.Laws.{RoundsHaveOneOrder}

-- a turn on a replica keeps its actors

abbrev SameTurns : ReplicaView → ReplicaView → Type 0
SameTurns old new = (number : ℕ) → turns_on number new ≡ turns_on number old

same_counts : (old new : ReplicaView) → length new.locals ≡ length old.locals → length new.applier.workers ≡ length old.applier.workers → SameTurns old new
same_counts old new locals workers number =
    ap (λ (count : ℕ). turns_of (a.Local number) count ++ turns_of (a.Worker number) (length new.applier.workers)) locals
    ∙ ap (λ (count : ℕ). turns_of (a.Local number) (length old.locals) ++ turns_of (a.Worker number) count) workers

local_at_same : (number retries place : ℕ) (one : Option SessionView) (replica : ReplicaView) → SameTurns replica (local_at number retries place one replica).replica
local_at_same number retries place None replica = λ n. refl
local_at_same number retries place (Some one) replica =
    same_counts replica (local_at number retries place (Some one) replica).replica (length-set replica.locals place (session.next_move retries one replica.node).session) refl

there_if : (replica : ReplicaView) (b : Bool) (turned : ReplicaTurned) → SameTurns replica turned.replica → SameTurns replica (cond b (off_there replica) turned).replica
there_if replica true turned same = λ n. refl
there_if replica false turned same = same

local_same : (number retries local : ℕ) (replica : ReplicaView) → SameTurns replica (local_turn number retries local replica).replica
local_same number retries local replica =
    there_if replica (local == 0) (local_at number retries (local - 1) (slice_get replica.locals (local - 1)) replica)
    (local_at_same number retries (local - 1) (slice_get replica.locals (local - 1)) replica)

worker_same : (number worker : ℕ) (log : List Entry) (replica : ReplicaView) → SameTurns replica (worker_turn number worker log replica).replica
worker_same number worker log replica = at (is_worker worker replica)
  where
    turned : ReplicaTurned
    turned = worker_turned number (applier.next_move worker log replica.applier replica.node) replica

    at : (b : Bool) → SameTurns replica (cond b turned (off_there replica)).replica
    at true = same_counts replica turned.replica refl (appliers_stay worker log replica.applier replica.node).0
    at false = λ n. refl

set_turns : (number : ℕ) (replicas : List ReplicaView) (place : ℕ) (old new : ReplicaView) → slice_get replicas place ≡ Some old → SameTurns old new
    → replica_turns number (slice_set replicas place new) ≡ replica_turns number replicas
set_turns number [] place old new found same = refl
set_turns number (replica ∷ replicas) zero old new found same =
    let is : old ≡ replica = cc in
    ap (λ (items : List Item). items ++ replica_turns (number + 1) replicas) (same number ∙ ap (turns_on number) is)
set_turns number (replica ∷ replicas) (suc place) old new found same =
    ap (λ (items : List Item). turns_on number replica ++ items) (set_turns (number + 1) replicas place old new found same)

-- a turn keeps the order

abbrev SameOrder : WorldView → WorldView → Type 0
SameOrder old new = order new ≡ order old

session_at_order : (place : ℕ) (one : Option SessionView) (world : WorldView) → SameOrder world (session_at place one world).world
session_at_order place None world = refl
session_at_order place (Some one) world =
    ap (λ (count : ℕ). turns_of a.Session count ++ i.Turn a.Tool ∷ replica_turns 1 world.replicas)
    (length-set world.sessions place (session.next_move world.options.retries one world.source).session)

replica_at_order : (place : ℕ) (one : Option ReplicaView) (turn_there : ReplicaView → ReplicaTurned) (world : WorldView)
    → ((replica : ReplicaView) → SameTurns replica (turn_there replica).replica) → slice_get world.replicas place ≡ one → SameOrder world (replica_at place one turn_there world).world
replica_at_order place None turn_there world same found = refl
replica_at_order place (Some one) turn_there world same found =
    ap (λ (items : List Item). turns_of a.Session (length world.sessions) ++ i.Turn a.Tool ∷ items) (set_turns 1 world.replicas place one (turn_there one).replica found (same one))

off_order : (world : WorldView) (b : Bool) (turned : Turned) → SameOrder world turned.world → SameOrder world (cond b (off world) turned).world
off_order world true turned same = refl
off_order world false turned same = same

on_replica_order : (number : ℕ) (turn_there : ReplicaView → ReplicaTurned) (world : WorldView) → ((replica : ReplicaView) → SameTurns replica (turn_there replica).replica)
    → SameOrder world (on_replica number turn_there world).world
on_replica_order number turn_there world same =
    off_order world (number == 0) (replica_at (number - 1) (slice_get world.replicas (number - 1)) turn_there world)
    (replica_at_order (number - 1) (slice_get world.replicas (number - 1)) turn_there world same refl)

turn_order : (actor : Actor) (world : WorldView) → SameOrder world (turn actor world).world
turn_order (a.Session number) world =
    off_order world (number == 0) (session_at (number - 1) (slice_get world.sessions (number - 1)) world)
    (session_at_order (number - 1) (slice_get world.sessions (number - 1)) world)
turn_order a.Tool world = refl
turn_order (a.Sync number) world = refl
turn_order (a.Worker number worker) world = on_replica_order number (worker_turn number worker world.source.history) world (worker_same number worker world.source.history)
turn_order (a.Local number local) world = on_replica_order number (local_turn number world.options.retries local) world (local_same number world.options.retries local)

move_order : (item : Item) (world : WorldView) → SameOrder world (move item world).world
move_order (i.Turn actor) world = turn_order actor world
move_order i.StopTool world = refl
move_order i.ResumeTool world = refl
move_order (i.StopReplica number) world = refl
move_order (i.StartReplica number) world = refl

written_order : (b : Bool) (line : JournalLine) (world : WorldView) → SameOrder world (written_if b line world)
written_order true line world = refl
written_order false line world = refl

pub step_order : (item : Item) (world : WorldView) → order (stepped item world) ≡ order world
step_order item world =
    written_order (is_written world (move item world).note) (line_of item (move item world).note) (move item world).world ∙ move_order item world

pub rounds_have_one_order : RoundsHaveOneOrder
rounds_have_one_order [] world = refl
rounds_have_one_order (item ∷ items) world = rounds_have_one_order items (stepped item world) ∙ step_order item world
