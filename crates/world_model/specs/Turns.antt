-- The turns of a world's actors, and what playing an item makes of it.
use Rattle.std.specs.Prelude.{ℕ, ◌-◌, ◌==◌, ◌||◌, ◌&&◌, nat_lt, nat_le, Bool, cond, List, [], ◌∷◌, ◌++◌, Option, None, Some, length, drop, slice_set}
use Rattle.std.specs.List.{slice_get}
use Rattle.statement_log.specs.declared.entries.Entry.{Entry}
use Rattle.session.specs.Sessions.{SessionView}
use Rattle.session.specs.Moves as session
use Rattle.applier.specs.Moves as applier
use Rattle.checksum_tool.specs.Moves as tool
use Rattle.workload.specs.declared.actors.Actor.{Actor}
use Rattle.workload.specs.declared.actors.Actor.TheVariants as a
use Rattle.workload.specs.declared.schedule.Item.{Item}
use Rattle.workload.specs.declared.schedule.Item.TheVariants as i
use Rattle.trace_text.specs.declared.notes.Note.{Note}
use Rattle.trace_text.specs.declared.notes.Note.TheVariants.{Off}
use Rattle.trace_text.specs.declared.lines.JournalLine.{JournalLine}
use Rattle.turn_notes.specs.declared.actors.Place.TheVariants.{Source, Replica}
use Rattle.turn_notes.specs.Notes.{session_note, tool_note, applier_note, has_moved}
use Rattle.world_model.specs.Worlds.{WorldView, ReplicaView}

-- what a turn came to, and what it left of the world
pub record Turned : Type 0 where
  pub note : Note
  pub world : WorldView

-- an actor that is not there takes no part
abbrev pub off : WorldView → Turned
off world = record { note = Off; world = world }

-- On the source.

abbrev pub session_turned : ℕ → session.Moved → WorldView → Turned
session_turned place moved world = record {
  note = session_note Source moved.turn;
  world = record world { source = moved.node; sessions = slice_set world.sessions place moved.session };
}

abbrev pub session_at : ℕ → Option SessionView → WorldView → Turned
session_at place None world = off world
session_at place (Some one) world = session_turned place (session.next_move world.options.retries one world.source) world

-- sessions are numbered from 1
abbrev pub session_turn : ℕ → WorldView → Turned
session_turn number world = cond (number == 0) (off world) (session_at (number - 1) (slice_get world.sessions (number - 1)) world)

abbrev pub tool_turned : tool.Moved → WorldView → Turned
tool_turned moved world = record { note = tool_note moved.turn; world = record world { source = moved.node; tool = moved.tool } }

abbrev pub tool_turn : WorldView → Turned
tool_turn world = tool_turned (tool.next_move world.tool world.source) world

-- On a replica.

-- what a turn on a replica came to, and what it left of the replica
pub record ReplicaTurned : Type 0 where
  pub note : Note
  pub replica : ReplicaView

abbrev pub off_there : ReplicaView → ReplicaTurned
off_there replica = record { note = Off; replica = replica }

abbrev pub local_turned : ℕ → ℕ → session.Moved → ReplicaView → ReplicaTurned
local_turned number place moved replica = record {
  note = session_note (Replica number) moved.turn;
  replica = record replica { node = moved.node; locals = slice_set replica.locals place moved.session };
}

abbrev pub local_at : ℕ → ℕ → ℕ → Option SessionView → ReplicaView → ReplicaTurned
local_at number retries place None replica = off_there replica
local_at number retries place (Some one) replica = local_turned number place (session.next_move retries one replica.node) replica

-- the turn of a local session of the replica of this number
abbrev pub local_turn : ℕ → ℕ → ℕ → ReplicaView → ReplicaTurned
local_turn number retries local replica =
    cond (local == 0) (off_there replica) (local_at number retries (local - 1) (slice_get replica.locals (local - 1)) replica)

abbrev pub worker_turned : ℕ → applier.Turned → ReplicaView → ReplicaTurned
worker_turned number turned replica = record {
  note = applier_note number turned.turn;
  replica = record replica { node = turned.node; applier = record replica.applier { workers = turned.workers } };
}

abbrev pub is_worker : ℕ → ReplicaView → Bool
is_worker worker replica = nat_lt 0 worker && nat_le worker (length replica.applier.workers)

-- the turn of a worker of the replica of this number; the source has this log
abbrev pub worker_turn : ℕ → ℕ → List Entry → ReplicaView → ReplicaTurned
worker_turn number worker log replica =
    cond (is_worker worker replica) (worker_turned number (applier.next_move worker log replica.applier replica.node) replica) (off_there replica)

abbrev pub replica_turned : ℕ → ReplicaTurned → WorldView → Turned
replica_turned place turned world = record { note = turned.note; world = record world { replicas = slice_set world.replicas place turned.replica } }

abbrev pub replica_at : ℕ → Option ReplicaView → (ReplicaView → ReplicaTurned) → WorldView → Turned
replica_at place None turn_there world = off world
replica_at place (Some replica) turn_there world = replica_turned place (turn_there replica) world

-- replicas are numbered from 1
abbrev pub on_replica : ℕ → (ReplicaView → ReplicaTurned) → WorldView → Turned
on_replica number turn_there world = cond (number == 0) (off world) (replica_at (number - 1) (slice_get world.replicas (number - 1)) turn_there world)

-- The sync tools take no part in runs like these.
abbrev pub turn : Actor → WorldView → Turned
turn (a.Session number) world = session_turn number world
turn a.Tool world = tool_turn world
turn (a.Sync number) world = off world
turn (a.Worker number worker) world = on_replica number (worker_turn number worker world.source.history) world
turn (a.Local number local) world = on_replica number (local_turn number world.options.retries local) world

-- Nor are the operator's words carried out.
abbrev pub move : Item → WorldView → Turned
move (i.Turn actor) world = turn actor world
move i.StopTool world = off world
move i.ResumeTool world = off world
move (i.StopReplica number) world = off world
move (i.StartReplica number) world = off world

-- The journal.

-- whether an item of the schedule is still to be played
abbrev pub is_scheduled : WorldView → Bool
is_scheduled world = nat_lt (length world.journal) (length world.schedule)

-- each item of the schedule has a line, and what is played behind it where it moved
abbrev pub unplayed : WorldView → List Item
unplayed world = drop (length world.journal) world.schedule

abbrev pub line_of : Item → Note → JournalLine
line_of item note = record { item = item; note = note }

abbrev pub written_if : Bool → JournalLine → WorldView → WorldView
written_if writes line world = cond writes (record world { journal = world.journal ++ line ∷ [] }) world

-- items of the schedule are written, moved or still; what is played behind it only where it moved
abbrev pub is_written : WorldView → Note → Bool
is_written world note = is_scheduled world || has_moved note

-- the world after an item's move, which is written
abbrev pub recorded : Item → Turned → WorldView → WorldView
recorded item turned world = written_if (is_written world turned.note) (line_of item turned.note) turned.world

abbrev pub stepped : Item → WorldView → WorldView
stepped item world = recorded item (move item world) world

-- the world after these items
abbrev pub played : List Item → WorldView → WorldView
played [] world = world
played (item ∷ items) world = played items (stepped item world)
