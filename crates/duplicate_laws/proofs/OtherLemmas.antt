-- What the turns of other actors leave of a session's transaction.
use Rattle.std.proofs.Common.{◌≡◌, ◌≢◌, ◌∙◌, inl, ℕ, zero, suc, ◌-◌, ◌<◌, Bool, true, false, cond, List, [], ◌∷◌, Option, None, Some, refl, ap, sym, subst, arith}
use Rattle.std.specs.Prelude.{is_some}
use Rattle.std.specs.List.{AllByRecursion, slice_get}
use Rattle.statement_log.specs.declared.entries.Entry.{Entry}
use Rattle.statement_log.specs.declared.origins.Origin.TheVariants.{Checksum}
use Rattle.checksum_table.specs.declared.check_rows.CheckRow.{CheckRow}
use Rattle.checksum_table.specs.Checks.{check_at}
use Rattle.history.specs.Replay.{fold}
use Rattle.lock_table.specs.declared.wants.Owner.{Owner}
use Rattle.node_model.specs.declared.parts.Part.TheVariants.{Client}
use Rattle.node_model.specs.declared.txns.Walk.{Walk}
use Rattle.node_model.specs.Txns.{txn_of}
use Rattle.node_model.specs.Node.{NodeView}
use Rattle.node_model.specs.Calls.{Call, Begin, Start, Visit, Commit, Rollback, Publish, after_call}
use Rattle.node_parts.specs.Views.{walk_of}
use Rattle.session.specs.Sessions.{SessionView}
use Rattle.session.specs.Moves.{next_move}
use Rattle.applier.specs.declared.workers.Worker.{Worker}
use Rattle.applier.specs.Appliers.{ApplierView}
use Rattle.applier.specs.Moves as applier
use Rattle.checksum_tool.specs.declared.phases.ToolPhase.{ToolPhase}
use Rattle.checksum_tool.specs.declared.phases.ToolPhase.TheVariants.{Clear, Choose, Walk as WalkPhase, Master, RetriesUsed, Finished}
use Rattle.checksum_tool.specs.Tools.{ToolView, tool_owner, check_of, is_over}
use Rattle.checksum_tool.specs.Moves as tool
use Rattle.turn_laws.specs.Stays.{owners_of}
use Rattle.turn_laws.specs.TurnCalls.{IsSessions, IsWorkers}
use Rattle.turn_laws.proofs.SessionCalls.{sessions_make_calls}
use Rattle.turn_laws.proofs.WorkerCalls.{workers_make_calls, others_make_none}
use Rattle.duplicate_laws.proofs.SpareLemmas.{Spares, IsOther, then_spares, call_spares, leads_spare}

-- Another session.

pub session_spares : (number retries : ℕ) (session : SessionView) (node : NodeView) → session.owner.0 ≢ number → Spares number node (next_move retries session node).node
session_spares number retries session node apart =
    leads_spare number (IsSessions session) node (next_move retries session node).node at (sessions_make_calls retries session node)
  where
    other : (owner : Owner) → owner ≡ session.owner → owner.0 ≢ number
    other owner is = λ same. apart (ap (λ (o : Owner). o.0) (sym is) ∙ same)

    at : (call : Call) → IsSessions session call → IsOther number call
    at (Begin owner part) is = other owner is.0
    at (Start owner statement) is = other owner is.0
    at (Visit owner) is = other owner is
    at (Commit owner origin) is = other owner is.0
    at (Rollback owner) is = tt
    at (Publish table chunk) is = absurd is

-- The checksum tool.

apart_from_tool : (number : ℕ) → number < 100 → tool_owner.0 ≢ number
apart_from_tool number less = λ same. let hundred : 100 ≡ number = same in absurd (omega (arith, less, hundred))

choose_spares : (number : ℕ) (one : ToolView) (node : NodeView) → number < 100 → Spares number node (tool.choose_move one node).node
choose_spares number one node less =
    then_spares number node (after_call (Begin tool_owner Client) node) (tool.choose_move one node).node
    (call_spares number (Begin tool_owner Client) node (apart_from_tool number less))
    (call_spares number (Start tool_owner (check_of one)) (after_call (Begin tool_owner Client) node) (apart_from_tool number less))

master_spares : (number : ℕ) (row : Option CheckRow) (one : ToolView) (node : NodeView) → number < 100 → Spares number node (tool.master_move row one node).node
master_spares number None one node less = choose_spares number one node less
master_spares number (Some row) one node less = call_spares number (Publish one.table one.chunk) node tt

idle_spares : (number : ℕ) (phase : ToolPhase) (one : ToolView) (node : NodeView) → number < 100 → Spares number node (tool.idle_move phase one node).node
idle_spares number Clear one node less = inl refl
idle_spares number Choose one node less = choose_spares number one node less
idle_spares number WalkPhase one node less = inl refl
idle_spares number Master one node less = master_spares number (check_at one.table one.chunk (fold node.schemas node.start node.history).checks) one node less
idle_spares number (RetriesUsed rollbacks) one node less = inl refl
idle_spares number Finished one node less = inl refl

rested_spares : (number : ℕ) (begun : Bool) (one : ToolView) (node : NodeView) → number < 100 → Spares number node (tool.rested_move begun one node).node
rested_spares number true one node less = call_spares number (Commit tool_owner Checksum) node (apart_from_tool number less)
rested_spares number false one node less = idle_spares number one.phase one node less

begun_spares : (number : ℕ) (walk : Option Walk) (one : ToolView) (node : NodeView) → number < 100 → Spares number node (tool.begun_move walk one node).node
begun_spares number (Some walk) one node less = call_spares number (Visit tool_owner) node (apart_from_tool number less)
begun_spares number None one node less = rested_spares number (is_some (txn_of tool_owner.0 node.txns)) one node less

pub tool_spares : (number : ℕ) (one : ToolView) (node : NodeView) → number < 100 → Spares number node (tool.next_move one node).node
tool_spares number one node less = at (is_over one.phase)
  where
    at : (b : Bool) → Spares number node (cond b (tool.idle_move one.phase one node) (tool.begun_move (walk_of tool_owner.0 node.txns) one node)).node
    at true = idle_spares number one.phase one node less
    at false = begun_spares number (walk_of tool_owner.0 node.txns) one node less

-- A worker.

abbrev pub AreAbove : List Owner → Type 0
AreAbove owners = AllByRecursion (λ (owner : Owner). 200 < owner.0) owners

owner_at : (workers : List Worker) (place : ℕ) (worker : Worker) → AreAbove (owners_of workers) → slice_get workers place ≡ Some worker → 200 < worker.owner.0
owner_at [] place worker above found = absurd (cc)
owner_at (other ∷ workers) zero worker above found =
    let same : other ≡ worker = cc in
    subst (λ (w : Worker). 200 < w.owner.0) same above.0
owner_at (other ∷ workers) (suc place) worker above found = owner_at workers place worker above.1 found

worker_spares : (number worker : ℕ) (log : List Entry) (team : ApplierView) (node : NodeView) (one : Worker) → number < 100 → AreAbove (owners_of team.workers)
    → slice_get team.workers (worker - 1) ≡ Some one → Spares number node (applier.next_move worker log team node).node
worker_spares number worker log team node one less above found =
    leads_spare number (IsWorkers one.owner log) node (applier.next_move worker log team node).node at (workers_make_calls worker log team node one found)
  where
    over : 200 < one.owner.0
    over = owner_at team.workers (worker - 1) one above found

    other : (owner : Owner) → owner ≡ one.owner → owner.0 ≢ number
    other owner is = λ same. let theirs : owner.0 ≡ one.owner.0 = ap (λ (o : Owner). o.0) is in absurd (omega (arith, less, over, same, theirs))

    at : (call : Call) → IsWorkers one.owner log call → IsOther number call
    at (Begin owner part) is = other owner is.0
    at (Start owner statement) is = other owner is.0
    at (Visit owner) is = other owner is
    at (Commit owner origin) is = other owner is.0
    at (Rollback owner) is = absurd is
    at (Publish table chunk) is = absurd is

pub workers_spare : (number worker : ℕ) (log : List Entry) (team : ApplierView) (node : NodeView) → number < 100 → AreAbove (owners_of team.workers)
    → Spares number node (applier.next_move worker log team node).node
workers_spare number worker log team node less above = at (slice_get team.workers (worker - 1)) refl
  where
    at : (found : Option Worker) → slice_get team.workers (worker - 1) ≡ found → Spares number node (applier.next_move worker log team node).node
    at None found = subst (Spares number node) (sym (others_make_none worker log team node found)) (inl refl)
    at (Some one) found = worker_spares number worker log team node one less above found
