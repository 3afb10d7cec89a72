-- The course of things on a replica: turns of its workers, stops and starts of its applier, entries that the source
-- logs and calls of local sessions; and that the replica's history follows the source's log whatever the course.
use Rattle.std.specs.Prelude.{ℕ, ◌≡◌, ◌≤◌, ◌<◌, ◌⊎◌, ◌+◌, true, false, List, [], ◌∷◌, ◌++◌}
use Rattle.std.specs.List.{AllByRecursion}
use Rattle.row_types.specs.declared.table_schema.Schema.{Schema}
use Rattle.row_types.specs.KeyRows.{TableRows}
use Rattle.ptc_statement.specs.declared.statements.Statement.{Statement}
use Rattle.ptc_statement.specs.Effect.{is_logged}
use Rattle.ptc_statement.specs.Fits.{IsClients}
use Rattle.statement_log.specs.declared.entries.Entry.{Entry}
use Rattle.statement_log.specs.declared.origins.Origin.{Origin}
use Rattle.statement_log.specs.declared.origins.Origin.TheVariants.{Session, Checksum, Sync, Local, Applied}
use Rattle.history.specs.Replay.{Follows}
use Rattle.lock_table.specs.declared.wants.Owner.{Owner}
use Rattle.node_model.specs.Node.{NodeView}
use Rattle.node_model.specs.Calls.{Call, Begin, Start, Visit, Commit, Rollback, Publish, after_call, fresh_node}
use Rattle.applier.specs.Appliers.{ApplierView, new_applier}
use Rattle.applier.specs.Moves.{Turned, next_move, Switched, stop_move}

pub data Event : Type 0 where
  -- the next move of a worker, by its number from 1
  Turn : (worker : ℕ) → Event
  -- the applier is stopped, or lets its workers take entries again
  StopApplier : Event
  StartApplier : Event
  -- the source's log gets one more entry
  Logged : (entry : Entry) → Event
  -- a local session calls the replica's node
  Other : (call : Call) → Event

-- the source's log, the replica's applier and the replica's node
pub record Course : Type 0 where
  pub log : List Entry
  pub applier : ApplierView
  pub node : NodeView

-- a worker has moved
abbrev pub with_turn : Turned → Course → Course
with_turn turned course = record { log = course.log; applier = record course.applier { workers = turned.workers }; node = turned.node }

abbrev pub with_stop : Switched → Course → Course
with_stop switched course = record { log = course.log; applier = switched.applier; node = switched.node }

abbrev pub after_event : Event → Course → Course
after_event (Turn worker) course = with_turn (next_move worker course.log course.applier course.node) course
after_event StopApplier course = with_stop (stop_move course.applier course.node) course
after_event StartApplier course = record course { applier = record course.applier { stopped = false } }
after_event (Logged entry) course = record course { log = course.log ++ entry ∷ [] }
after_event (Other call) course = record course { node = after_call call course.node }

abbrev pub after_events : List Event → Course → Course
after_events [] course = course
after_events (event ∷ events) course = after_events events (after_event event course)

-- at first the log is empty, the applier has so many workers without entries, and the replica has its start tables
abbrev pub new_course : ℕ → ℕ → List Schema → TableRows → Course
new_course replica workers schemas start = record { log = []; applier = new_applier replica workers; node = fresh_node schemas start }

-- a source logs no statement that only reads
abbrev pub AreLogged : Entry → Type 0
AreLogged entry = AllByRecursion (λ (statement : Statement). is_logged statement ≡ true) entry.statements

-- an owner of locks that is none of so many workers, who hold theirs as 201, 202 and so on
abbrev pub IsNoWorker : ℕ → Owner → Type 0
IsNoWorker workers owner = (owner.0 ≤ 200) ⊎ (200 + workers < owner.0)

abbrev pub IsLocal : Origin → Type 0
IsLocal (Session session) = ⊥
IsLocal Checksum = ⊥
IsLocal (Sync replica table span) = ⊥
IsLocal (Local session) = Unit {0}
IsLocal (Applied number) = ⊥

-- a call of a local session, which runs clients' statements and commits under its own name; a visit may end any
-- owner's transaction, where a deadlock closes
abbrev pub IsOthers : ℕ → Call → Type 0
IsOthers workers (Begin owner part) = IsNoWorker workers owner
IsOthers workers (Start owner statement) = IsNoWorker workers owner × IsClients statement
IsOthers workers (Visit owner) = IsNoWorker workers owner
IsOthers workers (Commit owner origin) = IsNoWorker workers owner × IsLocal origin
IsOthers workers (Rollback owner) = IsNoWorker workers owner
IsOthers workers (Publish table chunk) = ⊥

abbrev pub EventFits : ℕ → Event → Type 0
EventFits workers (Turn worker) = (1 ≤ worker) × (worker ≤ workers)
EventFits workers StopApplier = Unit {0}
EventFits workers StartApplier = Unit {0}
EventFits workers (Logged entry) = AreLogged entry
EventFits workers (Other call) = IsOthers workers call

-- whatever the workers' turns and what happens between them, the replica applied entries 1, 2, .. of the log in
-- order, each once and with its statements, and between them stand only transactions of local sessions
abbrev pub AppliersFollow : Type 0
AppliersFollow =
    (replica workers : ℕ) (schemas : List Schema) (start : TableRows) (events : List Event) → AllByRecursion (EventFits workers) events
    → Follows (after_events events (new_course replica workers schemas start)).log (after_events events (new_course replica workers schemas start)).node.history
