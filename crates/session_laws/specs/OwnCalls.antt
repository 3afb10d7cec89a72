-- What a session has written: the calls of its script, each once.
use Rattle.std.specs.Prelude.{ℕ, ◌≡◌, ◌≢◌, ◌+◌, ◌==◌, ◌||◌, ◌&&◌, ◌<◌, not, Bool, true, false, cond, filter, List, [], ◌∷◌, ◌++◌, Option, None, Some, take}
use Rattle.std.specs.List.{AllByRecursion}
use Rattle.ptc_statement.specs.declared.statements.Statement.{Statement}
use Rattle.ptc_statement.specs.declared.scripts.ScriptLine.{ScriptLine}
use Rattle.ptc_statement.specs.declared.scripts.ScriptStep.{ScriptStep}
use Rattle.ptc_statement.specs.declared.scripts.ScriptStep.TheVariants.{Begin, Commit, Rollback, Run}
use Rattle.statement_log.specs.declared.entries.Entry.{Entry}
use Rattle.statement_log.specs.declared.origins.Origin.{Origin}
use Rattle.statement_log.specs.declared.origins.Origin.TheVariants.{Session, Checksum, Sync, Local, Applied}
use Rattle.lock_table.specs.declared.wants.Owner.{Owner}
use Rattle.node_model.specs.Txns.{txn_of}
use Rattle.node_model.specs.Node.{NodeView, logged, written}
use Rattle.node_model.specs.Calls.{Call, Begin as BeginCall, Start, Visit, Commit as CommitCall, Rollback as RollbackCall, Publish, after_call}
use Rattle.session.specs.Sessions.{SessionView, new_session, is_open, RunFits}
use Rattle.session.specs.Moves.{next_move}

abbrev pub is_among : ℕ → List ℕ → Bool
is_among number [] = false
is_among number (other ∷ others) = (number == other) || is_among number others

-- The calls that lines make: each transaction that COMMIT ends, and each lone statement, is one entry of its
-- logged statements, if it has any. Transactions are numbered from 1; those that were abandoned make none,
-- and lines that were refused as duplicates are left out.

-- the number of the transaction that is open or comes next, and the statements of the open one
pub record Place : Type 0 where
  pub number : ℕ
  pub begun : Option (List Statement)

abbrev pub kept : Bool → Statement → List Statement
kept refused statement = cond refused [] (statement ∷ [])

abbrev pub entry_of : Origin → Bool → List Statement → List Entry
entry_of origin abandoned statements = cond abandoned [] (written origin (logged statements))

-- behind a step, which may have been refused
abbrev pub place_behind : Bool → ScriptStep → ℕ → Option (List Statement) → Place
place_behind refused Begin number None = record { number = number; begun = Some [] }
place_behind refused Begin number (Some done) = record { number = number; begun = Some done }
place_behind refused (Run statement) number None = record { number = number + 1; begun = None }
place_behind refused (Run statement) number (Some done) = record { number = number; begun = Some (done ++ kept refused statement) }
place_behind refused Commit number begun = record { number = number + 1; begun = None }
place_behind refused Rollback number begun = record { number = number + 1; begun = None }

-- what a step writes, whose transaction may be abandoned
abbrev pub entries_at : Origin → Bool → Bool → ScriptStep → Option (List Statement) → List Entry
entries_at origin abandoned refused Begin begun = []
entries_at origin abandoned refused (Run statement) None = entry_of origin abandoned (kept refused statement)
entries_at origin abandoned refused (Run statement) (Some done) = []
entries_at origin abandoned refused Commit None = []
entries_at origin abandoned refused Commit (Some done) = entry_of origin abandoned done
entries_at origin abandoned refused Rollback begun = []

abbrev pub calls_from : Origin → List ℕ → List ℕ → Place → List ScriptLine → List Entry
calls_from origin abandoned refused place [] = []
calls_from origin abandoned refused place (line ∷ lines) =
    entries_at origin (is_among place.number abandoned) (is_among line.line refused) line.step place.begun
    ++ calls_from origin abandoned refused (place_behind (is_among line.line refused) line.step place.number place.begun) lines

-- the lines of the transactions that are behind a session
abbrev pub lines_behind : SessionView → List ScriptLine
lines_behind session = take (cond (is_open session.stage) session.first session.next) session.script

abbrev pub calls_of : SessionView → List Entry
calls_of session = calls_from session.origin session.abandoned session.refused (record { number = 1; begun = None }) (lines_behind session)

-- The course of things: turns of the session, and calls of others between them.

pub data Event : Type 0 where
  Own : Event
  Other : (call : Call) → Event

pub record Course : Type 0 where
  pub session : SessionView
  pub node : NodeView

abbrev pub after_event : ℕ → Event → Course → Course
after_event retries Own course = record { session = (next_move retries course.session course.node).session; node = (next_move retries course.session course.node).node }
after_event retries (Other call) course = record { session = course.session; node = after_call call course.node }

abbrev pub after_events : ℕ → List Event → Course → Course
after_events retries [] course = course
after_events retries (event ∷ events) course = after_events retries events (after_event retries event course)

-- an entry of this session
abbrev pub is_own : Origin → Origin → Bool
is_own (Session ours) (Session theirs) = ours == theirs
is_own (Session ours) Checksum = false
is_own (Session ours) (Sync replica table span) = false
is_own (Session ours) (Local theirs) = false
is_own (Session ours) (Applied entry) = false
is_own (Local ours) (Local theirs) = ours == theirs
is_own (Local ours) (Session theirs) = false
is_own (Local ours) Checksum = false
is_own (Local ours) (Sync replica table span) = false
is_own (Local ours) (Applied entry) = false
is_own Checksum theirs = false
is_own (Sync replica table span) theirs = false
is_own (Applied entry) theirs = false

abbrev pub own_entries : Origin → List Entry → List Entry
own_entries origin = filter (λ (entry : Entry). is_own origin entry.origin)

-- a call of another owner, which commits as another; a visit may roll back any owner's transaction
abbrev pub IsOthers : Owner → Origin → Call → Type 0
IsOthers owner origin (BeginCall other part) = other.0 ≢ owner.0
IsOthers owner origin (Start other statement) = other.0 ≢ owner.0
IsOthers owner origin (Visit other) = other.0 ≢ owner.0
IsOthers owner origin (CommitCall other theirs) = (other.0 ≢ owner.0) × (is_own origin theirs ≡ false)
IsOthers owner origin (RollbackCall other) = Unit {0}
IsOthers owner origin (Publish table chunk) = Unit {0}

abbrev pub EventFits : Owner → Origin → Event → Type 0
EventFits owner origin Own = Unit {0}
EventFits owner origin (Other call) = IsOthers owner origin call

-- transactions follow one another: BEGIN stands outside of one, COMMIT and ROLLBACK within, and the last one ends
abbrev pub goes_on : Bool → ScriptStep → (Bool → Bool) → Bool
goes_on inside Begin rest = not inside && rest true
goes_on inside (Run statement) rest = rest inside
goes_on inside Commit rest = inside && rest false
goes_on inside Rollback rest = inside && rest false

abbrev pub is_whole : Bool → List ScriptLine → Bool
is_whole inside [] = not inside
is_whole inside (line ∷ lines) = goes_on inside line.step (λ (after : Bool). is_whole after lines)

abbrev pub LinesRise : List ScriptLine → Type 0
LinesRise [] = Unit {0}
LinesRise (line ∷ lines) = AllByRecursion (λ (later : ScriptLine). line.line < later.line) lines × LinesRise lines

-- Own calls: whatever others do between its turns, a session writes its transactions in order, each once, without
-- those that were rolled back, abandoned, refused as duplicates or left unfinished.
abbrev pub WritesOwnCalls : Type 0
WritesOwnCalls =
    (retries : ℕ) (owner : Owner) (origin : Origin) (script : List ScriptLine) (node : NodeView) (events : List Event)
    → is_own origin origin ≡ true → is_whole false script ≡ true → LinesRise script → AllByRecursion (λ (line : ScriptLine). RunFits node.schemas line.step) script
    → txn_of owner.0 node.txns ≡ None → AllByRecursion (EventFits owner origin) events
    → own_entries origin (after_events retries events (record { session = new_session owner origin script; node = node })).node.history
    ≡ own_entries origin node.history ++ calls_of (after_events retries events (record { session = new_session owner origin script; node = node })).session
