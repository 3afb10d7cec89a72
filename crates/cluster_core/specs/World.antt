-- The world of a run, the turns of its actors, the schedule and the rounds.
use Rattle.std.specs.Prelude.{ℕ, ◌≡◌, ◌+◌, ◌-◌, ◌==◌, suc, zero, nat_lt, cond, ◌++◌, option_map, List, [], ◌∷◌, Option, None, Some, length, drop, map, slice_set, unwrap_or, option_and_then}
use Rattle.std.specs.List.{slice_get, AllByRecursion}
use Rattle.row_types.specs.KeyRows.{TableRows}
use Rattle.row_types.specs.declared.edges.Edge.TheVariants.{Low, High}
use Rattle.row_types.specs.declared.edges.Span.{Span}
use Rattle.row_types.specs.declared.digests.DigestKind.TheVariants.{Md5}
use Rattle.row_types.specs.declared.table_schema.Schema.{Schema}
use Rattle.ptc_statement.specs.declared.statements.Statement.{Statement}
use Rattle.ptc_statement.specs.declared.statements.Statement.TheVariants.{Check as CheckStatement, SetMaster, ClearChecks}
use Rattle.statement_log.specs.declared.origins.Origin.TheVariants.{Checksum}
use Rattle.statement_log.specs.declared.entries.Entry.{Entry}
use Rattle.checksum_table.specs.declared.check_rows.CheckRow.{CheckRow}
use Rattle.checksum_table.specs.Checks.{check_at}
use Rattle.history.specs.Replay.{applied_of, applying}
use Rattle.cluster_core.specs.Node.{NodeView, replayed_of, logged}
use Rattle.cluster_core.specs.Sessions.{SessionView, unstarted, line_left}
use Rattle.workload_file.specs.declared.workload.Workload.{Workload}
use Rattle.workload_file.specs.declared.actors.Actor.{Actor}
use Rattle.workload_file.specs.declared.actors.Actor.TheVariants.{Session, Tool, Worker}
use Rattle.cluster_core.specs.declared.actors.ToolPhase.{ToolPhase}
use Rattle.cluster_core.specs.declared.actors.ToolPhase.TheVariants.{Clear, Check, Master, Finished}
use Rattle.workload_file.specs.declared.schedule.Item.{Item}
use Rattle.workload_file.specs.declared.schedule.Item.TheVariants.{Turn}

-- the source, the replicas and the sessions by rising number, what the checksum tool does next, and
-- the items of the schedule that are not played yet
pub record WorldView : Type 0 where
  pub source : NodeView
  pub replicas : List NodeView
  pub sessions : List SessionView
  pub phase : ToolPhase
  pub unplayed : List Item

-- a node before anything happened
abbrev pub fresh : List Schema → TableRows → NodeView
fresh schemas start = record { schemas = schemas; start = start; history = [] }

-- the world of a workload before anything happened
abbrev pub begun : Workload → WorldView
begun w = record {
  source = fresh w.schemas.tables w.source;
  replicas = map (fresh w.schemas.tables) w.copies;
  sessions = map unstarted w.sessions;
  phase = Clear 0;
  unplayed = w.schedule;
}

-- a session and the source after the session's turn, in their places
abbrev pub with_session : ℕ → SessionView × NodeView → WorldView → WorldView
with_session session after w = record w { source = after.1; sessions = slice_set w.sessions (session - 1) after.0 }

abbrev pub line_turn : ℕ → SessionView → WorldView → Option WorldView
line_turn session view w = option_map (λ (after : SessionView × NodeView). with_session session after w) (line_left session view w.source)

-- the turn of a session. Sessions are numbered from 1.
abbrev pub session_turn : ℕ → WorldView → Option WorldView
session_turn session w = option_and_then (λ (view : SessionView). line_turn session view w) (slice_get w.sessions (session - 1))

-- an entry of the checksum tool
abbrev pub by_tool : Statement → Entry
by_tool statement = record { origin = Checksum; statements = statement ∷ [] }

abbrev pub whole_table : Span
whole_table = record { lo = Low; hi = High }

-- after the tool logged this statement
abbrev pub tool_logged : Statement → ToolPhase → WorldView → WorldView
tool_logged statement phase w = record w { source = logged w.source (by_tool statement); phase = phase }

-- the next table, or the end
abbrev pub next_phase : ℕ → WorldView → ToolPhase
next_phase table w = cond (nat_lt (table + 1) (length w.source.schemas)) (Clear (table + 1)) Finished

-- SETMASTER with the checksum that the source's check row has; still where there is none
abbrev pub published : ℕ → Option CheckRow → WorldView → Option WorldView
published table None w = None
published table (Some row) w = Some (tool_logged (SetMaster table 1 row.kind row.this) (next_phase table w) w)

-- the tool's turn: of each table it logs CLEARCHECKS, the CHECKSUM of one chunk, which is the whole
-- table, and SETMASTER
abbrev pub tool_turn_in : ToolPhase → WorldView → Option WorldView
tool_turn_in (Clear table) w = Some (tool_logged (ClearChecks table) (Check table) w)
tool_turn_in (Check table) w = Some (tool_logged (CheckStatement table 1 whole_table Md5) (Master table) w)
tool_turn_in (Master table) w = published table (check_at table 1 (replayed_of w.source).checks) w
tool_turn_in Finished w = None

abbrev pub tool_turn : WorldView → Option WorldView
tool_turn w = tool_turn_in w.phase w

-- a replica after it applied the log's next entry; still where there is none
abbrev pub next_applied : List Entry → NodeView → Option NodeView
next_applied log node =
    option_and_then (λ entry. Some (logged node (applying (applied_of node.history + 1) entry)))
    (slice_get log (applied_of node.history))

-- the turn of a replica's worker: it applies one entry whole
abbrev pub worker_turn : ℕ → WorldView → Option WorldView
worker_turn replica w =
    option_and_then
    (λ node. option_and_then (λ moved. Some (record w { replicas = slice_set w.replicas (replica - 1) moved })) (next_applied w.source.history node))
    (slice_get w.replicas (replica - 1))

-- one turn of an actor; none where it can't move. Replicas are numbered from 1, and each has one
-- worker.
abbrev pub turn : Actor → WorldView → Option WorldView
turn (Session session) w = session_turn session w
turn Tool w = tool_turn w
turn (Worker replica worker) w = cond (worker == 1) (worker_turn replica w) None

-- a move: what an item does; none where it moves nothing
abbrev pub move : Item → WorldView → Option WorldView
move (Turn actor) w = turn actor w

abbrev pub behind_item : WorldView → WorldView
behind_item w = record w { unplayed = drop 1 w.unplayed }

-- an item is played, whether it moves or not: one less is left of the schedule
abbrev pub step : Item → WorldView → WorldView
step item w = behind_item (unwrap_or (move item w) w)

-- the world after these items
abbrev pub played : List Item → WorldView → WorldView
played [] w = w
played (item ∷ items) w = played items (step item w)

abbrev pub workers_from : ℕ → List NodeView → List Item
workers_from number [] = []
workers_from number (node ∷ nodes) = Turn (Worker number 1) ∷ workers_from (number + 1) nodes

abbrev pub sessions_from : ℕ → List SessionView → List Item
sessions_from number [] = []
sessions_from number (view ∷ views) = Turn (Session number) ∷ sessions_from (number + 1) views

-- the turns of a round, in order: the sessions, the tool, then each replica's worker
abbrev pub order : WorldView → List Item
order w = sessions_from 1 w.sessions ++ Turn Tool ∷ workers_from 1 w.replicas

-- a round: each actor takes one turn
abbrev pub round : WorldView → WorldView
round w = played (order w) w

abbrev pub rounds : ℕ → WorldView → WorldView
rounds zero w = w
rounds (suc n) w = rounds n (round w)

-- nobody can move
abbrev pub IsStill : WorldView → Type 0
IsStill w = AllByRecursion (λ item. move item w ≡ None) (order w)

-- a run: the schedule, and then rounds, until nobody can move
pub record EndsIn (first last : WorldView) : Type 0 where
  pub count : ℕ
  pub reached : last ≡ rounds count (played first.unplayed first)
  pub still : IsStill last

-- items alone lead from one world to the other: those of the schedule, as far as it goes, and then more
pub record Reaches (first last : WorldView) : Type 0 where
  pub items : List Item
  pub more : List Item
  pub schedule_first : first.unplayed ++ more ≡ items ++ last.unplayed
  pub reached : last ≡ played items first
