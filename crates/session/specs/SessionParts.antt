-- What contracts see of a session's parts, and what always holds of them.
use Rattle.std.specs.Prelude.{◌≤◌, ◌<◌, ◌+◌, ◌^◌, length, vec_len, vec_capacity}
use Rattle.node_model.specs.Node.{NodeView}
use Rattle.session.specs.declared.parts.Parts.{Parts}
use Rattle.session.specs.declared.sessions.Session.TheInside.{Inside}
use Rattle.session.specs.declared.stages.SessionTurn.{SessionTurn}
use Rattle.session.specs.Sessions.{SessionView}
use Rattle.session.specs.Moves.{Moved}

abbrev pub session_view : Parts → SessionView
session_view parts = record {
  owner = parts.owner;
  origin = parts.origin;
  script = parts.script.lines;
  next = parts.next;
  first = parts.first;
  stage = parts.stage;
  in_progress = parts.in_progress;
  rollbacks = parts.rollbacks;
  ended = parts.ended;
  abandoned = parts.abandoned.items;
  refused = parts.refused.items;
  settled = parts.settled;
}

-- the transaction's first line is one of the script, or its end; what is settled was refused
abbrev pub PartsKept : Parts → Type 0
PartsKept parts = (parts.first ≤ length parts.script.lines) × (parts.settled ≤ length parts.refused.items)

-- one more line can be noted in each list without memory, and one more transaction be counted
abbrev pub HasRoom : Parts → Type 0
HasRoom parts =
    (vec_len parts.abandoned < vec_capacity parts.abandoned) × (vec_len parts.refused < vec_capacity parts.refused) × (parts.ended + 1 < 2 ^ 32)

abbrev pub moved : SessionTurn → Parts → NodeView → Moved
moved turn parts node = record { turn = turn; session = session_view parts; node = node }

abbrev pub view_of : Inside → SessionView
view_of session = session_view session.parts

abbrev pub SessionKept : Inside → Type 0
SessionKept session = PartsKept session.parts
