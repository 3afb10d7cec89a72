-- What contracts see of a session's parts.
use Rattle.std.specs.Prelude.{◌≤◌, length}
use Rattle.cluster_core.specs.Sessions.{SessionView}
use Rattle.cluster_core.specs.declared.sessions.Session.TheInside.{Inside}

abbrev pub session_view : Inside → SessionView
session_view session = record { script = session.script.lines; next = session.next; refused = session.refused.items }

abbrev pub IsWithinScript : Inside → Type 0
IsWithinScript session = session.next ≤ length session.script.lines
