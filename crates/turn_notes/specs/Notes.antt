-- The note of each answer of a turn, and which notes say that nothing moved.
use Rattle.std.specs.Prelude.{ℕ, List, [], map, Bool, true, false, Option, None, Some}
use Rattle.lock_table.specs.declared.wants.Owner.{Owner}
use Rattle.node_visits.specs.declared.visits.Visit.{Visit}
use Rattle.node_visits.specs.declared.visits.Visit.TheVariants as v
use Rattle.session.specs.declared.stages.SessionTurn.{SessionTurn}
use Rattle.session.specs.declared.stages.SessionTurn.TheVariants as s
use Rattle.applier.specs.declared.turns.Turn.{Turn}
use Rattle.applier.specs.declared.turns.Turn.TheVariants as w
use Rattle.checksum_tool.specs.declared.phases.ToolTurn.{ToolTurn}
use Rattle.checksum_tool.specs.declared.phases.ToolTurn.TheVariants as c
use Rattle.trace_text.specs.declared.notes.Note.{Note}
use Rattle.trace_text.specs.declared.notes.Note.TheVariants as n
use Rattle.turn_notes.specs.declared.actors.Place.{Place}
use Rattle.turn_notes.specs.declared.actors.Place.TheVariants.{Source, Replica}
use Rattle.turn_notes.specs.Actors.{actor_of}

abbrev pub visit_note : Place → Visit → Note
visit_note place v.Stepped = n.Step
visit_note place v.Done = n.Done
visit_note place (v.Duplicate key) = n.Duplicate
visit_note place (v.Waits by) = n.Waits (actor_of place by.0)
visit_note place (v.Deadlock victim cycle) = n.Deadlock (actor_of place victim.0) (map (λ (owner : Owner). actor_of place owner.0) cycle)

-- a commit on the source tells whether it wrote an entry
abbrev pub commit_note : Place → Option ℕ → Note
commit_note Source (Some position) = n.Commit position
commit_note Source None = n.CommitNone
commit_note (Replica replica) position = n.CommitLocal

abbrev pub session_note : Place → SessionTurn → Note
session_note place s.Began = n.Begin
session_note place s.Started = n.Start
session_note place (s.Visited visit) = visit_note place visit
session_note place (s.Committed position) = commit_note place position
session_note place s.RolledBack = n.Rollback
session_note place s.Victim = n.Victim
session_note place s.Finished = n.Finished

-- the checksum tool runs on the source
abbrev pub tool_note : ToolTurn → Note
tool_note (c.Cleared position) = n.Clear position
tool_note (c.Chose table chunk) = n.Choose table chunk
tool_note (c.Visited visit) = visit_note Source visit
tool_note (c.Committed position) = n.Commit position
tool_note (c.Mastered position) = n.Master position
tool_note c.Victim = n.Victim
tool_note (c.RetriesUsed chunk rollbacks) = n.Retries rollbacks
tool_note c.Finished = n.Finished

-- an applier's commit has the number of the entry that it applied
abbrev pub applier_note : ℕ → Turn → Note
applier_note replica (w.Took entry) = n.Take entry
applier_note replica (w.Visited visit) = visit_note (Replica replica) visit
applier_note replica (w.Committed entry) = n.Commit entry
applier_note replica (w.Nothing applied) = n.Nothing applied
applier_note replica (w.OrderWait entry) = n.Order entry
applier_note replica w.Stopped = n.Stopped

-- a turn that waits for another, or has nothing left to do, moves nothing
abbrev pub has_moved : Note → Bool
has_moved n.Off = false
has_moved n.Step = true
has_moved n.Done = true
has_moved (n.Waits by) = false
has_moved (n.Deadlock victim cycle) = true
has_moved n.Duplicate = true
has_moved n.Victim = true
has_moved n.Begin = true
has_moved n.Start = true
has_moved (n.Commit position) = true
has_moved n.CommitNone = true
has_moved n.CommitLocal = true
has_moved n.Rollback = true
has_moved n.Finished = false
has_moved n.Stopped = false
has_moved (n.Take entry) = true
has_moved (n.Nothing applied) = false
has_moved (n.Order entry) = false
has_moved (n.Retries rollbacks) = false
has_moved (n.Clear position) = true
has_moved (n.Choose table chunk) = true
has_moved (n.Master position) = true

-- the owners on the cycle that a visit answers
abbrev pub cycle_of : Visit → List Owner
cycle_of v.Stepped = []
cycle_of v.Done = []
cycle_of (v.Duplicate key) = []
cycle_of (v.Waits by) = []
cycle_of (v.Deadlock victim cycle) = cycle

abbrev pub session_cycle : SessionTurn → List Owner
session_cycle s.Began = []
session_cycle s.Started = []
session_cycle (s.Visited visit) = cycle_of visit
session_cycle (s.Committed position) = []
session_cycle s.RolledBack = []
session_cycle s.Victim = []
session_cycle s.Finished = []

abbrev pub tool_cycle : ToolTurn → List Owner
tool_cycle (c.Cleared position) = []
tool_cycle (c.Chose table chunk) = []
tool_cycle (c.Visited visit) = cycle_of visit
tool_cycle (c.Committed position) = []
tool_cycle (c.Mastered position) = []
tool_cycle c.Victim = []
tool_cycle (c.RetriesUsed chunk rollbacks) = []
tool_cycle c.Finished = []

abbrev pub applier_cycle : Turn → List Owner
applier_cycle (w.Took entry) = []
applier_cycle (w.Visited visit) = cycle_of visit
applier_cycle (w.Committed entry) = []
applier_cycle (w.Nothing applied) = []
applier_cycle (w.OrderWait entry) = []
applier_cycle w.Stopped = []
