-- A cycle of waits has no more owners than there are open transactions.
use Rattle.std.proofs.Common.{◌≡◌, ℕ, zero, suc, ◌-◌, ◌==◌, ◌≤◌, Bool, true, false, cond, List, [], ◌∷◌, Option, None, Some, length, map, refl, ap, arith}
use Rattle.std.specs.Prelude.{is_some, option_map}
use Rattle.std.specs.List.{slice_get}
use Rattle.row_types.specs.declared.values.Value.{Value}
use Rattle.ptc_statement.specs.Effect.{table_of}
use Rattle.ptc_statement.specs.declared.statements.Statement.{Statement}
use Rattle.ptc_statement.specs.declared.scripts.ScriptLine.{ScriptLine}
use Rattle.ptc_statement.specs.declared.scripts.ScriptStep.{ScriptStep}
use Rattle.ptc_statement.specs.declared.scripts.ScriptStep.TheVariants.{Begin, Commit, Rollback, Run}
use Rattle.statement_log.specs.declared.entries.Entry.{Entry}
use Rattle.checksum_table.specs.declared.check_rows.CheckRow.{CheckRow}
use Rattle.checksum_table.specs.Checks.{check_at}
use Rattle.history.specs.Replay.{applied_of, fold}
use Rattle.lock_table.specs.declared.wants.Owner.{Owner}
use Rattle.txn_walk.specs.declared.plans.Plan.{Plan}
use Rattle.node_model.specs.declared.txns.Walk.{Walk}
use Rattle.node_model.specs.declared.txns.Txn.{Txn}
use Rattle.node_model.specs.Txns.{txn_of}
use Rattle.node_model.specs.Node.{NodeView, plan_of, plan_excluder, is_duplicate}
use Rattle.node_model.specs.Waits.{cycle_of, way_on, way_back, next_wait}
use Rattle.node_visits.specs.Answers.{duplicate_key, answer_of, answer_wait, answer_by, answer_in, answer_if, visit_answer, owner_at}
use Rattle.node_parts.specs.Views.{walk_of}
use Rattle.session.specs.declared.stages.Stage.{Stage}
use Rattle.session.specs.declared.stages.Stage.TheVariants.{Between, Within, Alone}
use Rattle.session.specs.declared.stages.SessionTurn.TheVariants.{Victim}
use Rattle.session.specs.Sessions.{SessionView, rolled_back}
use Rattle.session.specs.Moves as session
use Rattle.applier.specs.declared.workers.Worker.{Worker}
use Rattle.applier.specs.declared.turns.Turn.TheVariants.{Stopped}
use Rattle.applier.specs.Appliers.{ApplierView, statement_behind, next_statement, entry_left, earlier_open}
use Rattle.applier.specs.Moves as applier
use Rattle.checksum_tool.specs.declared.phases.ToolPhase.{ToolPhase}
use Rattle.checksum_tool.specs.declared.phases.ToolPhase.TheVariants.{Clear, Choose, Walk as WalkPhase, Master, RetriesUsed, Finished}
use Rattle.checksum_tool.specs.Tools.{ToolView, tool_owner, is_over}
use Rattle.checksum_tool.specs.Moves as tool
use Rattle.turn_notes.specs.Notes.{cycle_of as cycle_in, session_cycle, tool_cycle, applier_cycle}

abbrev IsShort : ℕ → Option (List ℕ) → Type 0
IsShort steps None = Unit {0}
IsShort steps (Some cycle) = length cycle ≤ steps

way_is_short : (waits : ℕ → Option ℕ) (home steps owner : ℕ) → IsShort steps (way_back waits home steps owner)
way_is_short waits home zero owner = tt
way_is_short waits home (suc steps) owner = at (waits owner) (way_is_short waits home steps)
  where
    further : (rest : Option (List ℕ)) → IsShort steps rest → IsShort (suc steps) (option_map (λ (others : List ℕ). owner ∷ others) rest)
    further None short = tt
    further (Some others) short = omega (arith, short)

    on : (next : ℕ) (b : Bool) → IsShort steps (way_back waits home steps next)
        → IsShort (suc steps) (cond b (Some (owner ∷ [])) (option_map (λ (others : List ℕ). owner ∷ others) (way_back waits home steps next)))
    on next true short = omega arith
    on next false short = further (way_back waits home steps next) short

    at : (o : Option ℕ) → ((next : ℕ) → IsShort steps (way_back waits home steps next)) → IsShort (suc steps) (way_on home owner o (way_back waits home steps))
    at None short = tt
    at (Some next) short = on next (next == home) (short next)

abbrev Few : NodeView → List Owner → Type 0
Few node owners = length owners ≤ length node.txns

none_few : (node : NodeView) → Few node []
none_few node = omega arith

mapped : (cycle : List ℕ) → length (map owner_at cycle) ≡ length cycle
mapped [] = refl
mapped (owner ∷ owners) = ap suc (mapped owners)

wait_few : (cycle : Option (List ℕ)) (by owner : ℕ) (node : NodeView) → IsShort (length node.txns) cycle → Few node (cycle_in (answer_wait cycle by owner node))
wait_few None by owner node short = none_few node
wait_few (Some cycle) by owner node short = omega (arith, short, mapped cycle)

answered_few : (key : Option (List Value)) (ends : Bool) (node : NodeView) → Few node (cycle_in (answer_of key ends))
answered_few (Some key) ends node = none_few node
answered_few None true node = none_few node
answered_few None false node = none_few node

by_few : (by : Option ℕ) (txn : Txn) (walk : Walk) (plan : Plan) (node : NodeView) → Few node (cycle_in (answer_by by txn walk plan node))
by_few None txn walk plan node = answered_few (duplicate_key (is_duplicate txn.part walk.statement plan) plan.on_key) plan.ends node
by_few (Some by) txn walk plan node = wait_few (cycle_of node txn.owner.0) by txn.owner.0 node (way_is_short (next_wait node) txn.owner.0 (length node.txns) txn.owner.0)

walk_few : (walk : Option Walk) (txn : Txn) (node : NodeView) → Few node (cycle_in (answer_in walk txn node))
walk_few None txn node = none_few node
walk_few (Some walk) txn node = by_few (plan_excluder txn.owner (table_of walk.statement) (plan_of node txn walk) node.held) txn walk (plan_of node txn walk) node

txn_few : (txn : Option Txn) (node : NodeView) → Few node (cycle_in (answer_if txn node))
txn_few None node = none_few node
txn_few (Some txn) node = walk_few txn.current txn node

visit_few : (owner : ℕ) (node : NodeView) → Few node (cycle_in (visit_answer owner node))
visit_few owner node = txn_few (txn_of owner node.txns) node

-- Sessions.

session_visit : (retries : ℕ) (one : SessionView) (node : NodeView) (line : Option ScriptLine) → Few node (session_cycle (session.visit_move retries line one node).turn)
session_visit retries one node None = none_few node
session_visit retries one node (Some line) = visit_few one.owner.0 node

session_step : (one : SessionView) (node : NodeView) (step : ScriptStep) → Few node (session_cycle (session.step_move step one node).turn)
session_step one node Begin = none_few node
session_step one node Commit = none_few node
session_step one node Rollback = none_few node
session_step one node (Run statement) = none_few node

session_line : (one : SessionView) (node : NodeView) (line : Option ScriptLine) → Few node (session_cycle (session.line_move line one node).turn)
session_line one node None = none_few node
session_line one node (Some line) = session_step one node line.step

session_idle : (one : SessionView) (node : NodeView) (stage : Stage) → Few node (session_cycle (session.idle_move stage one node).turn)
session_idle one node Alone = none_few node
session_idle one node Within = session_line one node (slice_get one.script one.next)
session_idle one node Between = session_line one node (slice_get one.script one.next)

session_begun : (retries : ℕ) (one : SessionView) (node : NodeView) (walk : Option Walk) → Few node (session_cycle (session.begun_move retries walk one node).turn)
session_begun retries one node (Some walk) = session_visit retries one node (slice_get one.script one.next)
session_begun retries one node None = session_idle one node one.stage

pub session_few : (retries : ℕ) (one : SessionView) (node : NodeView) → length (session_cycle (session.next_move retries one node).turn) ≤ length node.txns
session_few retries one node = at (session.is_victim one node)
  where
    at : (b : Bool) → Few node (session_cycle (cond {A = session.Moved} b (record { turn = Victim; session = rolled_back retries one; node = node }) (session.begun_move retries (walk_of one.owner.0 node.txns) one node)).turn)
    at true = none_few node
    at false = session_begun retries one node (walk_of one.owner.0 node.txns)

-- The checksum tool.

tool_master : (found : Option CheckRow) (one : ToolView) (node : NodeView) → Few node (tool_cycle (tool.master_move found one node).turn)
tool_master None one node = none_few node
tool_master (Some row) one node = none_few node

tool_idle : (phase : ToolPhase) (one : ToolView) (node : NodeView) → Few node (tool_cycle (tool.idle_move phase one node).turn)
tool_idle Clear one node = none_few node
tool_idle Choose one node = none_few node
tool_idle WalkPhase one node = none_few node
tool_idle Master one node = tool_master (check_at one.table one.chunk (fold node.schemas node.start node.history).checks) one node
tool_idle (RetriesUsed rollbacks) one node = none_few node
tool_idle Finished one node = none_few node

tool_rested : (begun : Bool) (one : ToolView) (node : NodeView) → Few node (tool_cycle (tool.rested_move begun one node).turn)
tool_rested true one node = none_few node
tool_rested false one node = tool_idle one.phase one node

tool_begun : (walk : Option Walk) (one : ToolView) (node : NodeView) → Few node (tool_cycle (tool.begun_move walk one node).turn)
tool_begun (Some walk) one node = visit_few tool_owner.0 node
tool_begun None one node = tool_rested (is_some (txn_of tool_owner.0 node.txns)) one node

pub tool_few : (one : ToolView) (node : NodeView) → length (tool_cycle (tool.next_move one node).turn) ≤ length node.txns
tool_few one node = at (is_over one.phase)
  where
    at : (b : Bool) → Few node (tool_cycle (cond b (tool.idle_move one.phase one node) (tool.begun_move (walk_of tool_owner.0 node.txns) one node)).turn)
    at true = tool_idle one.phase one node
    at false = tool_begun (walk_of tool_owner.0 node.txns) one node

-- Workers.

worker_visit : (next : Option Statement) (one : Worker) (node : NodeView) → Few node (applier_cycle (applier.visit_move next one node).turn)
worker_visit None one node = visit_few one.owner.0 node
worker_visit (Some next) one node = visit_few one.owner.0 node

worker_took : (entry : ℕ) (statement : Option Statement) (one : Worker) (node : NodeView) → Few node (applier_cycle (applier.took entry statement one node).turn)
worker_took entry None one node = none_few node
worker_took entry (Some statement) one node = none_few node

worker_take : (left : Option ℕ) (log : List Entry) (one : Worker) (node : NodeView) → Few node (applier_cycle (applier.take_move left log one node).turn)
worker_take None log one node = none_few node
worker_take (Some entry) log one node = worker_took entry (statement_behind 0 entry log) one node

worker_again : (earlier : Option ℕ) (entry : ℕ) (log : List Entry) (one : Worker) (node : NodeView) → Few node (applier_cycle (applier.take_again earlier entry log one node).turn)
worker_again None entry log one node = worker_took entry (statement_behind 0 entry log) one node
worker_again (Some earlier) entry log one node = none_few node

worker_commit : (earlier : Option ℕ) (entry : ℕ) (one : Worker) (node : NodeView) → Few node (applier_cycle (applier.commit_move earlier entry one node).turn)
worker_commit None entry one node = none_few node
worker_commit (Some earlier) entry one node = none_few node

worker_done : (entry : Option ℕ) (one : Worker) (node : NodeView) → Few node (applier_cycle (applier.done_move entry one node).turn)
worker_done None one node = none_few node
worker_done (Some entry) one node = worker_commit (earlier_open (applied_of node.history) entry) entry one node

worker_begin : (entry left : Option ℕ) (log : List Entry) (one : Worker) (node : NodeView) → Few node (applier_cycle (applier.begin_move entry left log one node).turn)
worker_begin None left log one node = worker_take left log one node
worker_begin (Some entry) left log one node = worker_again (earlier_open (applied_of node.history) entry) entry log one node

worker_idle : (begun : Bool) (left : Option ℕ) (log : List Entry) (one : Worker) (node : NodeView) → Few node (applier_cycle (applier.idle_move begun left log one node).turn)
worker_idle true left log one node = worker_done one.entry one node
worker_idle false left log one node = worker_begin one.entry left log one node

worker_walking : (walk : Option Walk) (left : Option ℕ) (log : List Entry) (one : Worker) (node : NodeView) → Few node (applier_cycle (applier.walking_move walk left log one node).turn)
worker_walking (Some walk) left log one node = worker_visit (next_statement one.started one.entry log) one node
worker_walking None left log one node = worker_idle (is_some (txn_of one.owner.0 node.txns)) left log one node

workers_at : (place : ℕ) (one : Option Worker) (log : List Entry) (workers : List Worker) (node : NodeView) → Few node (applier_cycle (applier.turned_at place one log workers node).turn)
workers_at place None log workers node = none_few node
workers_at place (Some one) log workers node = worker_walking (walk_of one.owner.0 node.txns) (entry_left (applied_of node.history) (length log) workers) log one node

pub applier_few : (worker : ℕ) (log : List Entry) (team : ApplierView) (node : NodeView) → length (applier_cycle (applier.next_move worker log team node).turn) ≤ length node.txns
applier_few worker log team node = at team.stopped
  where
    at : (b : Bool) → Few node (applier_cycle (cond {A = applier.Turned} b (record { turn = Stopped; workers = team.workers; node = node }) (applier.turned_at (worker - 1) (slice_get team.workers (worker - 1)) log team.workers node)).turn)
    at true = none_few node
    at false = workers_at (worker - 1) (slice_get team.workers (worker - 1)) log team.workers node
