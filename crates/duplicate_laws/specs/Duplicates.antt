-- What a line that is printed as DUPLICATE means.
use Rattle.std.specs.Prelude.{ℕ, ◌≡◌, ◌⊎◌, ◌+◌, ◌-◌, List, ◌∷◌, ◌++◌, Option, None, Some}
use Rattle.std.specs.List.{AllByRecursion, slice_get}
use Rattle.row_types.specs.declared.values.Value.{Value}
use Rattle.row_types.specs.declared.table_schema.Schema.{Schema}
use Rattle.row_types.specs.Fit.{key_of}
use Rattle.ptc_statement.specs.declared.statements.Statement.{Statement}
use Rattle.ptc_statement.specs.declared.statements.Statement.TheVariants.{Insert}
use Rattle.ptc_statement.specs.declared.scripts.ScriptLine.{ScriptLine}
use Rattle.ptc_statement.specs.declared.scripts.ScriptStep.TheVariants.{Run}
use Rattle.lock_table.specs.Locks.{exclusive_owner}
use Rattle.node_model.specs.Node.{NodeView, committed_row, live_row}
use Rattle.node_visits.specs.declared.visits.Visit.TheVariants.{Duplicate}
use Rattle.node_visits.specs.Answers.{visit_answer}
use Rattle.session.specs.Sessions.{SessionView}
use Rattle.workload.specs.declared.actors.Actor.{Actor}
use Rattle.workload.specs.declared.actors.Actor.TheVariants.{Session, Tool, Sync, Worker, Local}
use Rattle.workload.specs.declared.schedule.Item.{Item}
use Rattle.workload.specs.declared.schedule.Item.TheVariants.{Turn}
use Rattle.workload.specs.declared.workloads.Workload.{Workload}
use Rattle.trace_text.specs.declared.notes.Note.TheVariants as note
use Rattle.trace_text.specs.declared.lines.DuplicateLine.{DuplicateLine}
use Rattle.world_model.specs.declared.options.RunOptions.{RunOptions}
use Rattle.world_model.specs.CanRun.{CanRun}
use Rattle.world_model.specs.Worlds.{WorldView, ReplicaView, begun}
use Rattle.world_model.specs.Turns.{turn, played}
use Rattle.world_model.specs.Summary.{duplicates_of}

-- a session, and the node on which it runs
pub record Seat : Type 0 where
  pub session : SessionView
  pub node : NodeView

abbrev pub seat_on : NodeView → Option SessionView → Option Seat
seat_on node None = None
seat_on node (Some session) = Some (record { session = session; node = node })

abbrev pub local_seat : ℕ → Option ReplicaView → Option Seat
local_seat local None = None
local_seat local (Some replica) = seat_on replica.node (slice_get replica.locals (local - 1))

-- the session that an actor is, on the source or on a replica
abbrev pub seat_of : Actor → WorldView → Option Seat
seat_of (Session number) world = seat_on world.source (slice_get world.sessions (number - 1))
seat_of Tool world = None
seat_of (Sync number) world = None
seat_of (Worker number worker) world = None
seat_of (Local number local) world = local_seat local (slice_get world.replicas (number - 1))

-- an owner's statement is an INSERT into a table, and a row is live at its key: one that is committed, and that nobody has
-- exclusively, or one of a key that the owner itself has exclusively
pub record InsertsAtLive (node : NodeView) (owner : ℕ) (statement : Statement) (key : List Value) : Type 0 where
  pub table : ℕ
  pub row : List Value
  pub inserts : statement ≡ Insert table row
  pub schema : Schema
  pub of_table : slice_get node.schemas table ≡ Some schema
  pub key_is : key ≡ key_of schema row
  pub there : List Value
  pub live : live_row node table key ≡ Some there
  pub stands : ((exclusive_owner table key node.held ≡ None) × (committed_row node table key ≡ Some there)) ⊎ (exclusive_owner table key node.held ≡ Some owner)

-- the session's next line has this number and runs an INSERT, at whose key a row is live, and the node answers so
pub record MeetsKey (seat : Seat) (number : ℕ) : Type 0 where
  pub line : ScriptLine
  pub next : slice_get seat.session.script seat.session.next ≡ Some line
  pub numbered : line.line ≡ number
  pub statement : Statement
  pub runs : line.step ≡ Run statement
  pub key : List Value
  pub at_live : InsertsAtLive seat.node seat.session.owner.0 statement key
  pub answer : visit_answer seat.session.owner.0 seat.node ≡ Duplicate key

-- one of the items was a turn of this actor, a session, at which its line of this number was refused as a duplicate
pub record WasRefused (options : RunOptions) (workload : Workload) (items : List Item) (actor : Actor) (number : ℕ) : Type 0 where
  pub front : List Item
  pub rest : List Item
  pub split : items ≡ front ++ Turn actor ∷ rest
  pub seat : Seat
  pub found : seat_of actor (played front (begun options workload)) ≡ Some seat
  pub meets : MeetsKey seat number
  pub told : (turn actor (played front (begun options workload))).note ≡ note.Duplicate

-- each line that one of these sessions counts as refused was, the first session of this number
abbrev pub WereRefused : (ℕ → ℕ → Type 0) → ℕ → List SessionView → Type 0
WereRefused refused number sessions =
    (place : ℕ) (session : SessionView) → slice_get sessions place ≡ Some session → AllByRecursion (refused (number + place)) session.refused

-- each line that is printed as DUPLICATE, and each that a session counts as refused, was refused at a turn of its own
pub record DuplicatesHold (options : RunOptions) (workload : Workload) (items : List Item) (world : WorldView) : Type 0 where
  pub printed : AllByRecursion (λ (line : DuplicateLine). WasRefused options workload items line.actor line.line) (duplicates_of world)
  pub sessions : WereRefused (λ (number line : ℕ). WasRefused options workload items (Session number) line) 1 world.sessions
  pub locals : (place : ℕ) (replica : ReplicaView) → slice_get world.replicas place ≡ Some replica
      → WereRefused (λ (local line : ℕ). WasRefused options workload items (Local (1 + place) local) line) 1 replica.locals

abbrev pub EachDuplicateWasThere : Type 0
EachDuplicateWasThere =
    (options : RunOptions) (workload : Workload) (items : List Item) → CanRun options workload
    → DuplicatesHold options workload items (played items (begun options workload))
