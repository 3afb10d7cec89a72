-- The turn of one of a node's sessions, on the source or on a replica.
use Rattle.std.specs.Prelude.{ℕ, ◌-◌, ◌==◌, cond, List, Option, None, Some, slice_set}
use Rattle.std.specs.List.{slice_get}
use Rattle.node_model.specs.Node.{NodeView}
use Rattle.session.specs.Sessions.{SessionView}
use Rattle.session.specs.Moves.{Moved, next_move}
use Rattle.trace_text.specs.declared.notes.Note.{Note}
use Rattle.trace_text.specs.declared.notes.Note.TheVariants.{Off}
use Rattle.turn_notes.specs.declared.actors.Place.{Place}
use Rattle.turn_notes.specs.Notes.{session_note}
use Rattle.world_model.specs.Worlds.{ReplicaView}
use Rattle.world_model.specs.Turns.{ReplicaTurned}

-- what the turn came to, and what it left of the node and its sessions
pub record SessionsTurned : Type 0 where
  pub note : Note
  pub sessions : List SessionView
  pub node : NodeView

abbrev pub none_turned : List SessionView → NodeView → SessionsTurned
none_turned sessions node = record { note = Off; sessions = sessions; node = node }

abbrev pub one_turned : Place → ℕ → Moved → List SessionView → SessionsTurned
one_turned place at moved sessions = record { note = session_note place moved.turn; sessions = slice_set sessions at moved.session; node = moved.node }

abbrev pub turned_at : Place → ℕ → ℕ → Option SessionView → List SessionView → NodeView → SessionsTurned
turned_at place retries at None sessions node = none_turned sessions node
turned_at place retries at (Some one) sessions node = one_turned place at (next_move retries one node) sessions

-- of the session of this number, from 1
abbrev pub sessions_turned : Place → ℕ → ℕ → List SessionView → NodeView → SessionsTurned
sessions_turned place retries number sessions node =
    cond (number == 0) (none_turned sessions node) (turned_at place retries (number - 1) (slice_get sessions (number - 1)) sessions node)

abbrev pub turned_there : Note → ReplicaView → ReplicaTurned
turned_there note replica = record { note = note; replica = replica }
