-- The course of things: turns of the checksum tool, and calls of others between them.
use Rattle.std.specs.Prelude.{◌≢◌, Bool, true, false, List, [], ◌∷◌}
use Rattle.ptc_statement.specs.Fits.{IsClients}
use Rattle.statement_log.specs.declared.origins.Origin.{Origin}
use Rattle.statement_log.specs.declared.origins.Origin.TheVariants.{Session, Checksum, Sync, Local, Applied}
use Rattle.node_model.specs.Node.{NodeView}
use Rattle.node_model.specs.Calls.{Call, Begin, Start, Visit, Commit, Rollback, Publish, after_call}
use Rattle.checksum_tool.specs.Tools.{ToolView, tool_owner}
use Rattle.checksum_tool.specs.Moves.{Moved, next_move}

pub data Event : Type 0 where
  Own : Event
  Other : (call : Call) → Event

pub record Course : Type 0 where
  pub tool : ToolView
  pub node : NodeView

abbrev pub moved_course : Moved → Course
moved_course moved = record { tool = moved.tool; node = moved.node }

abbrev pub after_event : Event → Course → Course
after_event Own course = moved_course (next_move course.tool course.node)
after_event (Other call) course = record { tool = course.tool; node = after_call call course.node }

abbrev pub after_events : List Event → Course → Course
after_events [] course = course
after_events (event ∷ events) course = after_events events (after_event event course)

abbrev pub is_tools : Origin → Bool
is_tools (Session session) = false
is_tools Checksum = true
is_tools (Sync replica table span) = false
is_tools (Local session) = false
is_tools (Applied entry) = false

-- who else writes an entry of a source
abbrev pub IsWriter : Origin → Type 0
IsWriter (Session session) = Unit {0}
IsWriter Checksum = ⊥
IsWriter (Sync replica table span) = Unit {0}
IsWriter (Local session) = Unit {0}
IsWriter (Applied entry) = ⊥

-- a call of another owner, which runs clients' statements and commits neither as the tool nor what another source
-- wrote; a visit and a rollback may end any owner's transaction
abbrev pub IsOthers : Call → Type 0
IsOthers (Begin other part) = other.0 ≢ tool_owner.0
IsOthers (Start other statement) = (other.0 ≢ tool_owner.0) × IsClients statement
IsOthers (Visit other) = other.0 ≢ tool_owner.0
IsOthers (Commit other origin) = (other.0 ≢ tool_owner.0) × IsWriter origin
IsOthers (Rollback other) = Unit {0}
IsOthers (Publish table chunk) = ⊥

abbrev pub EventFits : Event → Type 0
EventFits Own = Unit {0}
EventFits (Other call) = IsOthers call
