-- No move closes a cycle of more actors than there are open transactions on its node.
use Rattle.std.proofs.Common.{◌≡◌, ◌≤◌, ℕ, suc, ◌-◌, ◌==◌, Bool, true, false, cond, List, [], ◌∷◌, Option, None, Some, length, map, refl, ap, sym, subst, arith}
use Rattle.std.specs.List.{slice_get}
use Rattle.statement_log.specs.declared.entries.Entry.{Entry}
use Rattle.lock_table.specs.declared.wants.Owner.{Owner}
use Rattle.node_visits.specs.declared.visits.Visit.{Visit}
use Rattle.node_visits.specs.declared.visits.Visit.TheVariants as v
use Rattle.node_model.specs.Node.{NodeView}
use Rattle.session.specs.Sessions.{SessionView}
use Rattle.session.specs.Moves as session
use Rattle.session.specs.declared.stages.SessionTurn.{SessionTurn}
use Rattle.session.specs.declared.stages.SessionTurn.TheVariants as s
use Rattle.applier.specs.Moves as applier
use Rattle.applier.specs.Appliers.{ApplierView}
use Rattle.applier.specs.declared.workers.Worker.{Worker}
use Rattle.checksum_tool.specs.Tools.{ToolView}
use Rattle.applier.specs.declared.turns.Turn.{Turn}
use Rattle.applier.specs.declared.turns.Turn.TheVariants as w
use Rattle.checksum_tool.specs.Moves as tool
use Rattle.checksum_tool.specs.declared.phases.ToolTurn.{ToolTurn}
use Rattle.checksum_tool.specs.declared.phases.ToolTurn.TheVariants as c
use Rattle.turn_notes.specs.declared.actors.Place.{Place}
use Rattle.turn_notes.specs.declared.actors.Place.TheVariants.{Source, Replica}
use Rattle.turn_notes.specs.Actors.{actor_of}
use Rattle.turn_notes.specs.Notes.{visit_note, commit_note, session_note, tool_note, applier_note, cycle_of, session_cycle, tool_cycle, applier_cycle}
use Rattle.world_model.specs.Worlds.{WorldView, ReplicaView}
use Rattle.world_model.specs.Turns.{Turned, off, turn, session_at, session_turn, tool_turn, ReplicaTurned, off_there, local_at, local_turn, is_worker, worker_turned, worker_turn, replica_at, on_replica}
use Rattle.world_model.proofs.CycleLemmas.{session_few, tool_few, applier_few}
use Rattle.world.specs.NoteCycles.{note_cycle, open_in, open_on}

mapped : (place : Place) (owners : List Owner) → length (map (λ (owner : Owner). actor_of place owner.0) owners) ≡ length owners
mapped place [] = refl
mapped place (owner ∷ owners) = ap suc (mapped place owners)

visit_cycle : (place : Place) (visit : Visit) → length (note_cycle (visit_note place visit)) ≡ length (cycle_of visit)
visit_cycle place v.Stepped = refl
visit_cycle place v.Done = refl
visit_cycle place (v.Duplicate key) = refl
visit_cycle place (v.Waits by) = refl
visit_cycle place (v.Deadlock victim cycle) = mapped place cycle

commit_cycle : (place : Place) (position : Option ℕ) → length (note_cycle (commit_note place position)) ≡ 0
commit_cycle Source (Some position) = refl
commit_cycle Source None = refl
commit_cycle (Replica number) position = refl

session_same : (place : Place) (turn : SessionTurn) → length (note_cycle (session_note place turn)) ≡ length (session_cycle turn)
session_same place s.Began = refl
session_same place s.Started = refl
session_same place (s.Visited visit) = visit_cycle place visit
session_same place (s.Committed position) = commit_cycle place position
session_same place s.RolledBack = refl
session_same place s.Victim = refl
session_same place s.Finished = refl

tool_same : (turn : ToolTurn) → length (note_cycle (tool_note turn)) ≡ length (tool_cycle turn)
tool_same (c.Cleared position) = refl
tool_same (c.Chose table chunk) = refl
tool_same (c.Visited visit) = visit_cycle Source visit
tool_same (c.Committed position) = refl
tool_same (c.Mastered position) = refl
tool_same c.Victim = refl
tool_same (c.RetriesUsed chunk rollbacks) = refl
tool_same c.Finished = refl

applier_same : (number : ℕ) (turn : Turn) → length (note_cycle (applier_note number turn)) ≡ length (applier_cycle turn)
applier_same number (w.Took entry) = refl
applier_same number (w.Visited visit) = visit_cycle (Replica number) visit
applier_same number (w.Committed entry) = refl
applier_same number (w.Nothing applied) = refl
applier_same number (w.OrderWait entry) = refl
applier_same number w.Stopped = refl

one_few : (place : Place) (retries : ℕ) (one : SessionView) (open_txns : ℕ) (turn : SessionTurn) → length (session_cycle turn) ≤ open_txns → length (note_cycle (session_note place turn)) ≤ open_txns
one_few place retries one open_txns turn few = omega (arith, few, session_same place turn)

session_at_few : (at : ℕ) (one : Option SessionView) (world : WorldView) → length (note_cycle (session_at at one world).note) ≤ length world.source.txns
session_at_few at None world = omega arith
session_at_few at (Some one) world =
    one_few Source world.options.retries one (length world.source.txns) (session.next_move world.options.retries one world.source).turn (session_few world.options.retries one world.source)

off_or : (world : WorldView) (b : Bool) (most : ℕ) (turned : Turned) → length (note_cycle turned.note) ≤ most → length (note_cycle (cond b (off world) turned).note) ≤ most
off_or world true most turned few = omega arith
off_or world false most turned few = few

pub session_turn_few : (number : ℕ) (world : WorldView) → length (note_cycle (session_turn number world).note) ≤ length world.source.txns
session_turn_few number world =
    off_or world (number == 0) (length world.source.txns) (session_at (number - 1) (slice_get world.sessions (number - 1)) world)
    (session_at_few (number - 1) (slice_get world.sessions (number - 1)) world)

tool_turn_as : (most : ℕ) (turn : ToolTurn) → length (tool_cycle turn) ≤ most → length (note_cycle (tool_note turn)) ≤ most
tool_turn_as most turn few = omega (arith, few, tool_same turn)

pub tool_turn_few : (world : WorldView) → length (note_cycle (tool_turn world).note) ≤ length world.source.txns
tool_turn_few world = tool_turn_as (length world.source.txns) (tool.next_move world.tool world.source).turn (tool_few world.tool world.source)

-- On a replica.

local_at_few : (number retries at : ℕ) (one : Option SessionView) (replica : ReplicaView) → length (note_cycle (local_at number retries at one replica).note) ≤ length replica.node.txns
local_at_few number retries at None replica = omega arith
local_at_few number retries at (Some one) replica =
    one_few (Replica number) retries one (length replica.node.txns) (session.next_move retries one replica.node).turn (session_few retries one replica.node)

there_or : (replica : ReplicaView) (b : Bool) (most : ℕ) (turned : ReplicaTurned) → length (note_cycle turned.note) ≤ most → length (note_cycle (cond b (off_there replica) turned).note) ≤ most
there_or replica true most turned few = omega arith
there_or replica false most turned few = few

or_there : (replica : ReplicaView) (b : Bool) (most : ℕ) (turned : ReplicaTurned) → length (note_cycle turned.note) ≤ most → length (note_cycle (cond b turned (off_there replica)).note) ≤ most
or_there replica true most turned few = few
or_there replica false most turned few = omega arith

local_few : (number retries local : ℕ) (replica : ReplicaView) → length (note_cycle (local_turn number retries local replica).note) ≤ length replica.node.txns
local_few number retries local replica =
    there_or replica (local == 0) (length replica.node.txns) (local_at number retries (local - 1) (slice_get replica.locals (local - 1)) replica)
    (local_at_few number retries (local - 1) (slice_get replica.locals (local - 1)) replica)

worker_as : (number most : ℕ) (turn : Turn) → length (applier_cycle turn) ≤ most → length (note_cycle (applier_note number turn)) ≤ most
worker_as number most turn few = omega (arith, few, applier_same number turn)

worker_few : (number worker : ℕ) (log : List Entry) (replica : ReplicaView) → length (note_cycle (worker_turn number worker log replica).note) ≤ length replica.node.txns
worker_few number worker log replica =
    or_there replica (is_worker worker replica) (length replica.node.txns) (worker_turned number (applier.next_move worker log replica.applier replica.node) replica)
    (worker_as number (length replica.node.txns) (applier.next_move worker log replica.applier replica.node).turn (applier_few worker log replica.applier replica.node))

replica_at_few : (at : ℕ) (one : Option ReplicaView) (turn_there : ReplicaView → ReplicaTurned) (world : WorldView)
    → ((replica : ReplicaView) → length (note_cycle (turn_there replica).note) ≤ length replica.node.txns) → length (note_cycle (replica_at at one turn_there world).note) ≤ open_in one
replica_at_few at None turn_there world few = omega arith
replica_at_few at (Some one) turn_there world few = few one

on_replica_as : (b : Bool) (most : ℕ) (world : WorldView) (turned : Turned) → length (note_cycle turned.note) ≤ most → length (note_cycle (cond b (off world) turned).note) ≤ cond b 0 most
on_replica_as true most world turned few = omega arith
on_replica_as false most world turned few = few

on_replica_few : (number : ℕ) (turn_there : ReplicaView → ReplicaTurned) (world : WorldView)
    → ((replica : ReplicaView) → length (note_cycle (turn_there replica).note) ≤ length replica.node.txns) → length (note_cycle (on_replica number turn_there world).note) ≤ open_on number world.replicas
on_replica_few number turn_there world few =
    on_replica_as (number == 0) (open_in (slice_get world.replicas (number - 1))) world (replica_at (number - 1) (slice_get world.replicas (number - 1)) turn_there world)
    (replica_at_few (number - 1) (slice_get world.replicas (number - 1)) turn_there world few)

pub worker_turn_few : (number worker : ℕ) (log : List Entry) (world : WorldView) → length (note_cycle (on_replica number (worker_turn number worker log) world).note) ≤ open_on number world.replicas
worker_turn_few number worker log world = on_replica_few number (worker_turn number worker log) world (worker_few number worker log)

pub local_turn_few : (number retries local : ℕ) (world : WorldView) → length (note_cycle (on_replica number (local_turn number retries local) world).note) ≤ open_on number world.replicas
local_turn_few number retries local world = on_replica_few number (local_turn number retries local) world (local_few number retries local)

-- ---- room for the cycle of a turn that was made

pub session_room : (retries : ℕ) (one new : SessionView) (node left : NodeView) (turn : SessionTurn) → record { turn = turn; session = new; node = left } ≡ session.next_move retries one node
    → length (session_cycle turn) ≤ length node.txns
session_room retries one new node left turn same =
    subst (λ (t : SessionTurn). length (session_cycle t) ≤ length node.txns) (sym (ap (λ (moved : session.Moved). moved.turn) same)) (session_few retries one node)

pub tool_room : (one new : ToolView) (node left : NodeView) (turn : ToolTurn) → record { turn = turn; tool = new; node = left } ≡ tool.next_move one node
    → length (tool_cycle turn) ≤ length node.txns
tool_room one new node left turn same =
    subst (λ (t : ToolTurn). length (tool_cycle t) ≤ length node.txns) (sym (ap (λ (moved : tool.Moved). moved.turn) same)) (tool_few one node)

pub worker_room : (worker : ℕ) (log : List Entry) (team : ApplierView) (workers : List Worker) (node left : NodeView) (turn : Turn)
    → record { turn = turn; workers = workers; node = left } ≡ applier.next_move worker log team node → length (applier_cycle turn) ≤ length node.txns
worker_room worker log team workers node left turn same =
    subst (λ (t : Turn). length (applier_cycle t) ≤ length node.txns) (sym (ap (λ (moved : applier.Turned). moved.turn) same)) (applier_few worker log team node)
