-- A turn that moves nothing leaves the world.
use Rattle.std.proofs.Common.{◌≡◌, ◌∙◌, ℕ, ◌-◌, ◌==◌, Bool, true, false, cond, List, Option, None, Some, length, refl, ap}
use Rattle.std.specs.Prelude.{is_some, slice_set}
use Rattle.std.specs.List.{slice_get}
use Rattle.ptc_statement.specs.Effect.{table_of}
use Rattle.ptc_statement.specs.declared.statements.Statement.{Statement}
use Rattle.ptc_statement.specs.declared.scripts.ScriptLine.{ScriptLine}
use Rattle.ptc_statement.specs.declared.scripts.ScriptStep.{ScriptStep}
use Rattle.ptc_statement.specs.declared.scripts.ScriptStep.TheVariants.{Begin, Commit, Rollback, Run}
use Rattle.row_types.specs.declared.values.Value.{Value}
use Rattle.statement_log.specs.declared.entries.Entry.{Entry}
use Rattle.checksum_table.specs.declared.check_rows.CheckRow.{CheckRow}
use Rattle.checksum_table.specs.Checks.{check_at}
use Rattle.history.specs.Replay.{applied_of, fold}
use Rattle.lock_table.specs.declared.wants.Owner.{Owner}
use Rattle.txn_walk.specs.declared.plans.Plan.{Plan}
use Rattle.node_model.specs.declared.txns.Walk.{Walk}
use Rattle.node_model.specs.declared.txns.Txn.{Txn}
use Rattle.node_model.specs.Txns.{txn_of}
use Rattle.node_model.specs.Node.{NodeView, plan_of, plan_excluder, is_duplicate}
use Rattle.node_model.specs.Waits.{cycle_of, after_wait, visited_unless}
use Rattle.node_model.specs.Calls.{after_call, Visit as VisitCall, visit_if, visited_if}
use Rattle.node_visits.specs.declared.visits.Visit.{Visit}
use Rattle.node_visits.specs.declared.visits.Visit.TheVariants.{Stepped, Done, Duplicate, Waits, Deadlock}
use Rattle.node_visits.specs.Answers.{duplicate_key, answer_of, answer_wait, answer_by, answer_in, answer_if, visit_answer}
use Rattle.node_visits.specs.NextStarts.{next_started}
use Rattle.node_parts.specs.Views.{walk_of}
use Rattle.node_engine.specs.Commits.{commit_answer}
use Rattle.session.specs.declared.stages.Stage.{Stage}
use Rattle.session.specs.declared.stages.Stage.TheVariants.{Between, Within, Alone}
use Rattle.session.specs.declared.stages.SessionTurn.TheVariants.{Victim}
use Rattle.session.specs.Sessions.{SessionView, rolled_back}
use Rattle.session.specs.Moves as session
use Rattle.applier.specs.declared.workers.Worker.{Worker}
use Rattle.applier.specs.declared.turns.Turn.TheVariants.{Stopped}
use Rattle.applier.specs.Appliers.{ApplierView, statement_behind, next_statement, entry_left, earlier_open}
use Rattle.applier.specs.Moves as applier
use Rattle.checksum_tool.specs.declared.phases.ToolPhase.{ToolPhase}
use Rattle.checksum_tool.specs.declared.phases.ToolPhase.TheVariants.{Clear, Choose, Walk as WalkPhase, Master, RetriesUsed, Finished}
use Rattle.checksum_tool.specs.Tools.{ToolView, tool_owner, is_over}
use Rattle.checksum_tool.specs.Moves as tool
use Rattle.workload.specs.declared.actors.Actor.{Actor}
use Rattle.workload.specs.declared.actors.Actor.TheVariants as a
use Rattle.workload.specs.declared.schedule.Item.{Item}
use Rattle.workload.specs.declared.schedule.Item.TheVariants as i
use Rattle.turn_notes.specs.declared.actors.Place.{Place}
use Rattle.turn_notes.specs.declared.actors.Place.TheVariants.{Source, Replica}
use Rattle.turn_notes.specs.Notes.{visit_note, commit_note, session_note, tool_note, applier_note, has_moved}
use Rattle.world_model.specs.Worlds.{WorldView, ReplicaView}
use Rattle.world_model.specs.Turns.{Turned, off, session_at, tool_turned, ReplicaTurned, off_there, local_at, local_turn, worker_turned, is_worker, worker_turn, replica_at, on_replica, turn, move}
use Rattle.world_model.specs.Rounds.{IsStillAt}
use Rattle.world_model.proofs.EachLemmas.{set_same, both}

no_move : {P : Type 0} → true ≡ false → P
no_move is = absurd (let no : true ≡ false = is in cc)

-- A visit.

answered : (place : Place) (key : Option (List Value)) (ends : Bool) {P : Type 0} → has_moved (visit_note place (answer_of key ends)) ≡ false → P
answered place (Some key) ends still = no_move still
answered place None true still = no_move still
answered place None false still = no_move still

waits_stay : (place : Place) (cycle : Option (List ℕ)) (by owner : ℕ) (node : NodeView) → has_moved (visit_note place (answer_wait cycle by owner node)) ≡ false → after_wait cycle owner node ≡ node
waits_stay place None by owner node still = refl
waits_stay place (Some cycle) by owner node still = no_move still

by_stays : (place : Place) (by : Option ℕ) (txn : Txn) (walk : Walk) (plan : Plan) (node : NodeView) → has_moved (visit_note place (answer_by by txn walk plan node)) ≡ false → visited_unless by txn walk plan node ≡ node
by_stays place None txn walk plan node still = answered place (duplicate_key (is_duplicate txn.part walk.statement plan) plan.on_key) plan.ends still
by_stays place (Some by) txn walk plan node still = waits_stay place (cycle_of node txn.owner.0) by txn.owner.0 node still

walk_stays : (place : Place) (walk : Option Walk) (txn : Txn) (node : NodeView) → has_moved (visit_note place (answer_in walk txn node)) ≡ false → visited_if walk txn node ≡ node
walk_stays place None txn node still = refl
walk_stays place (Some walk) txn node still =
    by_stays place (plan_excluder txn.owner (table_of walk.statement) (plan_of node txn walk) node.held) txn walk (plan_of node txn walk) node still

txn_stays : (place : Place) (txn : Option Txn) (node : NodeView) → has_moved (visit_note place (answer_if txn node)) ≡ false → visit_if txn node ≡ node
txn_stays place None node still = refl
txn_stays place (Some txn) node still = walk_stays place txn.current txn node still

visit_stays : (place : Place) (owner : Owner) (node : NodeView) → has_moved (visit_note place (visit_answer owner.0 node)) ≡ false → after_call (VisitCall owner) node ≡ node
visit_stays place owner node still = txn_stays place (txn_of owner.0 node.txns) node still

-- Sessions.

abbrev SessionStays : SessionView → NodeView → session.Moved → Type 0
SessionStays one node moved = (moved.session ≡ one) × (moved.node ≡ node)

session_answer : (place : Place) (retries line : ℕ) (one : SessionView) (answer : Visit) → has_moved (visit_note place answer) ≡ false → session.after_answer retries answer line one ≡ one
session_answer place retries line one Stepped still = no_move still
session_answer place retries line one Done still = no_move still
session_answer place retries line one (Duplicate key) still = no_move still
session_answer place retries line one (Waits by) still = refl
session_answer place retries line one (Deadlock victim cycle) still = no_move still

session_visit : (place : Place) (retries : ℕ) (one : SessionView) (node : NodeView) (line : Option ScriptLine) → has_moved (session_note place (session.visit_move retries line one node).turn) ≡ false
    → SessionStays one node (session.visit_move retries line one node)
session_visit place retries one node None still = (refl, refl)
session_visit place retries one node (Some line) still =
    (session_answer place retries line.line one (visit_answer one.owner.0 node) still, visit_stays place one.owner node still)

committed_moves : (place : Place) (position : Option ℕ) {P : Type 0} → has_moved (commit_note place position) ≡ false → P
committed_moves Source None still = no_move still
committed_moves Source (Some position) still = no_move still
committed_moves (Replica number) position still = no_move still

session_step : (place : Place) (one : SessionView) (node : NodeView) (step : ScriptStep) → has_moved (session_note place (session.step_move step one node).turn) ≡ false → SessionStays one node (session.step_move step one node)
session_step place one node Begin still = no_move still
session_step place one node Commit still = committed_moves place (commit_answer one.owner.0 one.origin node) still
session_step place one node Rollback still = no_move still
session_step place one node (Run statement) still = no_move still

session_line : (place : Place) (one : SessionView) (node : NodeView) (line : Option ScriptLine) → has_moved (session_note place (session.line_move line one node).turn) ≡ false → SessionStays one node (session.line_move line one node)
session_line place one node None still = (refl, refl)
session_line place one node (Some line) still = session_step place one node line.step still

session_idle : (place : Place) (one : SessionView) (node : NodeView) (stage : Stage) → has_moved (session_note place (session.idle_move stage one node).turn) ≡ false → SessionStays one node (session.idle_move stage one node)
session_idle place one node Alone still = committed_moves place (commit_answer one.owner.0 one.origin node) still
session_idle place one node Within still = session_line place one node (slice_get one.script one.next) still
session_idle place one node Between still = session_line place one node (slice_get one.script one.next) still

session_begun : (place : Place) (retries : ℕ) (one : SessionView) (node : NodeView) (walk : Option Walk) → has_moved (session_note place (session.begun_move retries walk one node).turn) ≡ false
    → SessionStays one node (session.begun_move retries walk one node)
session_begun place retries one node (Some walk) still = session_visit place retries one node (slice_get one.script one.next) still
session_begun place retries one node None still = session_idle place one node one.stage still

pub session_stays : (place : Place) (retries : ℕ) (one : SessionView) (node : NodeView) → has_moved (session_note place (session.next_move retries one node).turn) ≡ false
    → ((session.next_move retries one node).session ≡ one) × ((session.next_move retries one node).node ≡ node)
session_stays place retries one node = at (session.is_victim one node)
  where
    victim : session.Moved
    victim = record { turn = Victim; session = rolled_back retries one; node = node }

    at : (b : Bool) → has_moved (session_note place (cond b victim (session.begun_move retries (walk_of one.owner.0 node.txns) one node)).turn) ≡ false
        → SessionStays one node (cond b victim (session.begun_move retries (walk_of one.owner.0 node.txns) one node))
    at true still = no_move still
    at false still = session_begun place retries one node (walk_of one.owner.0 node.txns) still

-- The checksum tool.

abbrev ToolStays : ToolView → NodeView → tool.Moved → Type 0
ToolStays one node moved = (moved.tool ≡ one) × (moved.node ≡ node)

tool_answer : (one : ToolView) (answer : Visit) → has_moved (visit_note Source answer) ≡ false → tool.after_answer answer one ≡ one
tool_answer one Stepped still = no_move still
tool_answer one Done still = no_move still
tool_answer one (Duplicate key) still = no_move still
tool_answer one (Waits by) still = refl
tool_answer one (Deadlock victim cycle) still = no_move still

tool_master : (found : Option CheckRow) (one : ToolView) (node : NodeView) → has_moved (tool_note (tool.master_move found one node).turn) ≡ false → ToolStays one node (tool.master_move found one node)
tool_master None one node still = no_move still
tool_master (Some row) one node still = no_move still

tool_idle : (phase : ToolPhase) (one : ToolView) (node : NodeView) → has_moved (tool_note (tool.idle_move phase one node).turn) ≡ false → ToolStays one node (tool.idle_move phase one node)
tool_idle Clear one node still = no_move still
tool_idle Choose one node still = no_move still
tool_idle WalkPhase one node still = no_move still
tool_idle Master one node still = tool_master (check_at one.table one.chunk (fold node.schemas node.start node.history).checks) one node still
tool_idle (RetriesUsed rollbacks) one node still = (refl, refl)
tool_idle Finished one node still = (refl, refl)

tool_rested : (begun : Bool) (one : ToolView) (node : NodeView) → has_moved (tool_note (tool.rested_move begun one node).turn) ≡ false → ToolStays one node (tool.rested_move begun one node)
tool_rested true one node still = no_move still
tool_rested false one node still = tool_idle one.phase one node still

tool_begun : (walk : Option Walk) (one : ToolView) (node : NodeView) → has_moved (tool_note (tool.begun_move walk one node).turn) ≡ false → ToolStays one node (tool.begun_move walk one node)
tool_begun (Some walk) one node still = (tool_answer one (visit_answer tool_owner.0 node) still, visit_stays Source tool_owner node still)
tool_begun None one node still = tool_rested (is_some (txn_of tool_owner.0 node.txns)) one node still

pub tool_stays : (one : ToolView) (node : NodeView) → has_moved (tool_note (tool.next_move one node).turn) ≡ false
    → ((tool.next_move one node).tool ≡ one) × ((tool.next_move one node).node ≡ node)
tool_stays one node = at (is_over one.phase)
  where
    at : (b : Bool) → has_moved (tool_note (cond b (tool.idle_move one.phase one node) (tool.begun_move (walk_of tool_owner.0 node.txns) one node)).turn) ≡ false
        → ToolStays one node (cond b (tool.idle_move one.phase one node) (tool.begun_move (walk_of tool_owner.0 node.txns) one node))
    at true still = tool_idle one.phase one node still
    at false still = tool_begun (walk_of tool_owner.0 node.txns) one node still

-- Workers.

abbrev WorkerStays : Worker → NodeView → applier.Moved → Type 0
WorkerStays one node moved = (moved.worker ≡ one) × (moved.node ≡ node)

worker_answer : (number : ℕ) (one : Worker) (answer : Visit) → has_moved (visit_note (Replica number) answer) ≡ false → applier.after_answer answer one ≡ one
worker_answer number one Stepped still = no_move still
worker_answer number one Done still = no_move still
worker_answer number one (Duplicate key) still = no_move still
worker_answer number one (Waits by) still = refl
worker_answer number one (Deadlock victim cycle) still = no_move still

next_stays : (number : ℕ) (owner : Owner) (next : Statement) (node : NodeView) (answer : Visit) → has_moved (visit_note (Replica number) answer) ≡ false → next_started answer owner next node ≡ node
next_stays number owner next node Stepped still = no_move still
next_stays number owner next node Done still = no_move still
next_stays number owner next node (Duplicate key) still = no_move still
next_stays number owner next node (Waits by) still = refl
next_stays number owner next node (Deadlock victim cycle) still = no_move still

worker_visit : (number : ℕ) (next : Option Statement) (one : Worker) (node : NodeView) → has_moved (applier_note number (applier.visit_move next one node).turn) ≡ false → WorkerStays one node (applier.visit_move next one node)
worker_visit number None one node still = (refl, visit_stays (Replica number) one.owner node still)
worker_visit number (Some next) one node still = (
  worker_answer number one (visit_answer one.owner.0 node) still,
  next_stays number one.owner next (after_call (VisitCall one.owner) node) (visit_answer one.owner.0 node) still ∙ visit_stays (Replica number) one.owner node still,
)

worker_took : (number entry : ℕ) (statement : Option Statement) (one : Worker) (node : NodeView) {P : Type 0} → has_moved (applier_note number (applier.took entry statement one node).turn) ≡ false → P
worker_took number entry None one node still = no_move still
worker_took number entry (Some statement) one node still = no_move still

worker_take : (number : ℕ) (left : Option ℕ) (log : List Entry) (one : Worker) (node : NodeView) → has_moved (applier_note number (applier.take_move left log one node).turn) ≡ false → WorkerStays one node (applier.take_move left log one node)
worker_take number None log one node still = (refl, refl)
worker_take number (Some entry) log one node still = worker_took number entry (statement_behind 0 entry log) one node still

worker_again : (number : ℕ) (earlier : Option ℕ) (entry : ℕ) (log : List Entry) (one : Worker) (node : NodeView) → has_moved (applier_note number (applier.take_again earlier entry log one node).turn) ≡ false
    → WorkerStays one node (applier.take_again earlier entry log one node)
worker_again number None entry log one node still = worker_took number entry (statement_behind 0 entry log) one node still
worker_again number (Some earlier) entry log one node still = (refl, refl)

worker_commit : (number : ℕ) (earlier : Option ℕ) (entry : ℕ) (one : Worker) (node : NodeView) → has_moved (applier_note number (applier.commit_move earlier entry one node).turn) ≡ false → WorkerStays one node (applier.commit_move earlier entry one node)
worker_commit number None entry one node still = no_move still
worker_commit number (Some earlier) entry one node still = (refl, refl)

worker_done : (number : ℕ) (entry : Option ℕ) (one : Worker) (node : NodeView) → has_moved (applier_note number (applier.done_move entry one node).turn) ≡ false → WorkerStays one node (applier.done_move entry one node)
worker_done number None one node still = (refl, refl)
worker_done number (Some entry) one node still = worker_commit number (earlier_open (applied_of node.history) entry) entry one node still

worker_begin : (number : ℕ) (entry left : Option ℕ) (log : List Entry) (one : Worker) (node : NodeView) → has_moved (applier_note number (applier.begin_move entry left log one node).turn) ≡ false → WorkerStays one node (applier.begin_move entry left log one node)
worker_begin number None left log one node still = worker_take number left log one node still
worker_begin number (Some entry) left log one node still = worker_again number (earlier_open (applied_of node.history) entry) entry log one node still

worker_idle : (number : ℕ) (begun : Bool) (left : Option ℕ) (log : List Entry) (one : Worker) (node : NodeView) → has_moved (applier_note number (applier.idle_move begun left log one node).turn) ≡ false → WorkerStays one node (applier.idle_move begun left log one node)
worker_idle number true left log one node still = worker_done number one.entry one node still
worker_idle number false left log one node still = worker_begin number one.entry left log one node still

worker_walking : (number : ℕ) (walk : Option Walk) (left : Option ℕ) (log : List Entry) (one : Worker) (node : NodeView) → has_moved (applier_note number (applier.walking_move walk left log one node).turn) ≡ false → WorkerStays one node (applier.walking_move walk left log one node)
worker_walking number (Some walk) left log one node still = worker_visit number (next_statement one.started one.entry log) one node still
worker_walking number None left log one node still = worker_idle number (is_some (txn_of one.owner.0 node.txns)) left log one node still

abbrev TeamStays : List Worker → NodeView → applier.Turned → Type 0
TeamStays workers node turned = (turned.workers ≡ workers) × (turned.node ≡ node)

workers_at : (number place : ℕ) (one : Option Worker) (log : List Entry) (workers : List Worker) (node : NodeView) → slice_get workers place ≡ one
    → has_moved (applier_note number (applier.turned_at place one log workers node).turn) ≡ false → TeamStays workers node (applier.turned_at place one log workers node)
workers_at number place None log workers node found still = (refl, refl)
workers_at number place (Some one) log workers node found still =
    let left : Option ℕ = entry_left (applied_of node.history) (length log) workers in
    let stays : WorkerStays one node (applier.worker_move left log one node) = worker_walking number (walk_of one.owner.0 node.txns) left log one node still in
    (ap (slice_set workers place) stays.0 ∙ set_same workers place one found, stays.1)

pub applier_stays : (number worker : ℕ) (log : List Entry) (team : ApplierView) (node : NodeView) → has_moved (applier_note number (applier.next_move worker log team node).turn) ≡ false
    → ((applier.next_move worker log team node).workers ≡ team.workers) × ((applier.next_move worker log team node).node ≡ node)
applier_stays number worker log team node = at team.stopped
  where
    stopped : applier.Turned
    stopped = record { turn = Stopped; workers = team.workers; node = node }

    at : (b : Bool) → has_moved (applier_note number (cond b stopped (applier.turned_at (worker - 1) (slice_get team.workers (worker - 1)) log team.workers node)).turn) ≡ false
        → TeamStays team.workers node (cond b stopped (applier.turned_at (worker - 1) (slice_get team.workers (worker - 1)) log team.workers node))
    at true still = (refl, refl)
    at false still = workers_at number (worker - 1) (slice_get team.workers (worker - 1)) log team.workers node refl still

-- Turns of a world.

abbrev Stays : WorldView → Turned → Type 0
Stays world turned = has_moved turned.note ≡ false → turned.world ≡ world

session_at_stays : (place : ℕ) (one : Option SessionView) (world : WorldView) → slice_get world.sessions place ≡ one → Stays world (session_at place one world)
session_at_stays place None world found still = refl
session_at_stays place (Some one) world found still =
    let stays : SessionStays one world.source (session.next_move world.options.retries one world.source) = session_stays Source world.options.retries one world.source still in
    both (λ (node : NodeView) (sessions : List SessionView). record world { source = node; sessions = sessions })
    (session.next_move world.options.retries one world.source).node world.source
    (slice_set world.sessions place (session.next_move world.options.retries one world.source).session) world.sessions
    stays.1 (ap (slice_set world.sessions place) stays.0 ∙ set_same world.sessions place one found)

off_if : (world : WorldView) (b : Bool) (turned : Turned) → Stays world turned → Stays world (cond b (off world) turned)
off_if world true turned stays still = refl
off_if world false turned stays still = stays still

tool_turn_stays : (world : WorldView) → Stays world (tool_turned (tool.next_move world.tool world.source) world)
tool_turn_stays world still =
    let stays : ToolStays world.tool world.source (tool.next_move world.tool world.source) = tool_stays world.tool world.source still in
    both (λ (node : NodeView) (one : ToolView). record world { source = node; tool = one })
    (tool.next_move world.tool world.source).node world.source (tool.next_move world.tool world.source).tool world.tool stays.1 stays.0

-- Turns on a replica.

abbrev StaysThere : ReplicaView → ReplicaTurned → Type 0
StaysThere replica turned = has_moved turned.note ≡ false → turned.replica ≡ replica

off_there_if : (replica : ReplicaView) (b : Bool) (turned : ReplicaTurned) → StaysThere replica turned → StaysThere replica (cond b (off_there replica) turned)
off_there_if replica true turned stays still = refl
off_there_if replica false turned stays still = stays still

local_at_stays : (number retries place : ℕ) (one : Option SessionView) (replica : ReplicaView) → slice_get replica.locals place ≡ one → StaysThere replica (local_at number retries place one replica)
local_at_stays number retries place None replica found still = refl
local_at_stays number retries place (Some one) replica found still =
    let stays : SessionStays one replica.node (session.next_move retries one replica.node) = session_stays (Replica number) retries one replica.node still in
    both (λ (node : NodeView) (locals : List SessionView). record replica { node = node; locals = locals })
    (session.next_move retries one replica.node).node replica.node
    (slice_set replica.locals place (session.next_move retries one replica.node).session) replica.locals
    stays.1 (ap (slice_set replica.locals place) stays.0 ∙ set_same replica.locals place one found)

local_turn_stays : (number retries local : ℕ) (replica : ReplicaView) → StaysThere replica (local_turn number retries local replica)
local_turn_stays number retries local replica =
    off_there_if replica (local == 0) (local_at number retries (local - 1) (slice_get replica.locals (local - 1)) replica)
    (local_at_stays number retries (local - 1) (slice_get replica.locals (local - 1)) replica refl)

worker_turn_stays : (number worker : ℕ) (log : List Entry) (replica : ReplicaView) → StaysThere replica (worker_turn number worker log replica)
worker_turn_stays number worker log replica = at (is_worker worker replica)
  where
    turned : ReplicaTurned
    turned = worker_turned number (applier.next_move worker log replica.applier replica.node) replica

    moved : StaysThere replica turned
    moved still =
        let stays : TeamStays replica.applier.workers replica.node (applier.next_move worker log replica.applier replica.node) = applier_stays number worker log replica.applier replica.node still in
        both (λ (node : NodeView) (workers : List Worker). record replica { node = node; applier = record replica.applier { workers = workers } })
        (applier.next_move worker log replica.applier replica.node).node replica.node
        (applier.next_move worker log replica.applier replica.node).workers replica.applier.workers stays.1 stays.0

    at : (b : Bool) → StaysThere replica (cond b turned (off_there replica))
    at true still = moved still
    at false still = refl

replica_at_stays : (place : ℕ) (one : Option ReplicaView) (turn_there : ReplicaView → ReplicaTurned) (world : WorldView)
    → ((replica : ReplicaView) → StaysThere replica (turn_there replica)) → slice_get world.replicas place ≡ one → Stays world (replica_at place one turn_there world)
replica_at_stays place None turn_there world stays found still = refl
replica_at_stays place (Some one) turn_there world stays found still =
    ap (λ (replicas : List ReplicaView). record world { replicas = replicas })
    (ap (slice_set world.replicas place) (stays one still) ∙ set_same world.replicas place one found)

on_replica_stays : (number : ℕ) (turn_there : ReplicaView → ReplicaTurned) (world : WorldView)
    → ((replica : ReplicaView) → StaysThere replica (turn_there replica)) → Stays world (on_replica number turn_there world)
on_replica_stays number turn_there world stays =
    off_if world (number == 0) (replica_at (number - 1) (slice_get world.replicas (number - 1)) turn_there world)
    (replica_at_stays (number - 1) (slice_get world.replicas (number - 1)) turn_there world stays refl)

still_turn : (actor : Actor) (world : WorldView) → Stays world (turn actor world)
still_turn (a.Session number) world =
    off_if world (number == 0) (session_at (number - 1) (slice_get world.sessions (number - 1)) world)
    (session_at_stays (number - 1) (slice_get world.sessions (number - 1)) world refl)
still_turn a.Tool world = tool_turn_stays world
still_turn (a.Sync number) world = λ still. refl
still_turn (a.Worker number worker) world = on_replica_stays number (worker_turn number worker world.source.history) world (worker_turn_stays number worker world.source.history)
still_turn (a.Local number local) world = on_replica_stays number (local_turn number world.options.retries local) world (local_turn_stays number world.options.retries local)

pub still_item : (item : Item) (world : WorldView) → IsStillAt world item → (move item world).world ≡ world
still_item (i.Turn actor) world still = still_turn actor world still
still_item i.StopTool world still = refl
still_item i.ResumeTool world still = refl
still_item (i.StopReplica number) world still = refl
still_item (i.StartReplica number) world still = refl
