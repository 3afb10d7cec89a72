-- What a turn leaves of its actor, move by move.
use Rattle.std.proofs.Common.{◌≡◌, ◌∙◌, ℕ, zero, suc, ◌-◌, ◌==◌, Bool, true, false, cond, List, [], ◌∷◌, Option, None, Some, refl, ap, sym}
use Rattle.std.specs.Prelude.{is_some, length, map, nat_lt, slice_set}
use Rattle.std.specs.List.{slice_get}
use Rattle.ptc_statement.specs.declared.scripts.ScriptLine.{ScriptLine}
use Rattle.ptc_statement.specs.declared.scripts.ScriptStep.{ScriptStep}
use Rattle.ptc_statement.specs.declared.scripts.ScriptStep.TheVariants.{Begin, Commit, Rollback, Run}
use Rattle.ptc_statement.specs.declared.statements.Statement.{Statement}
use Rattle.statement_log.specs.declared.entries.Entry.{Entry}
use Rattle.history.specs.Replay.{applied_of}
use Rattle.lock_table.specs.declared.wants.Owner.{Owner}
use Rattle.node_model.specs.declared.txns.Walk.{Walk}
use Rattle.node_model.specs.Txns.{txn_of}
use Rattle.node_model.specs.Node.{NodeView}
use Rattle.node_visits.specs.declared.visits.Visit.{Visit}
use Rattle.node_visits.specs.declared.visits.Visit.TheVariants.{Stepped, Done, Duplicate, Waits, Deadlock}
use Rattle.node_visits.specs.Answers.{visit_answer}
use Rattle.node_parts.specs.Views.{walk_of}
use Rattle.session.specs.declared.stages.Stage.{Stage}
use Rattle.session.specs.declared.stages.Stage.TheVariants.{Between, Within, Alone}
use Rattle.session.specs.declared.stages.SessionTurn.TheVariants.{Victim}
use Rattle.session.specs.Sessions.{SessionView, rolled_back, begun_again, abandoning, entered_alone}
use Rattle.session.specs.Moves.{is_victim, after_answer, visit_move, step_move, line_move, idle_move, begun_move}
use Rattle.applier.specs.declared.turns.Turn.TheVariants.{Stopped}
use Rattle.applier.specs.declared.workers.Worker.{Worker}
use Rattle.applier.specs.Appliers.{statement_behind, next_statement, entry_left, earlier_open, without_entry}
use Rattle.applier.specs.Moves.{took, take_move, take_again, after_answer as after_visit, visit_move as worker_visit, commit_move, done_move, begin_move, idle_move as worker_idle, walking_move, worker_move, Turned, turned_at, Switched, all_ended}
use Rattle.turn_laws.specs.Stays.{SessionsStay, AppliersStay, StoppedStay, owners_of}

-- A session.

abbrev Same : SessionView → SessionView → Type 0
Same session now = (now.owner ≡ session.owner) × (now.origin ≡ session.origin) × (now.script ≡ session.script)

rolled_same : (retries : ℕ) (session : SessionView) → Same session (rolled_back retries session)
rolled_same retries session = at (nat_lt session.rollbacks retries)
  where
    at : (b : Bool) → Same session (cond b (begun_again session) (abandoning session))
    at true = (refl, refl, refl)
    at false = (refl, refl, refl)

answer_same : (retries line : ℕ) (session : SessionView) (answer : Visit) → Same session (after_answer retries answer line session)
answer_same retries line session Stepped = (refl, refl, refl)
answer_same retries line session Done = (refl, refl, refl)
answer_same retries line session (Duplicate key) = (refl, refl, refl)
answer_same retries line session (Waits by) = (refl, refl, refl)
answer_same retries line session (Deadlock victim cycle) = at (victim.0 == session.owner.0)
  where
    at : (b : Bool) → Same session (cond b (rolled_back retries session) session)
    at true = rolled_same retries session
    at false = (refl, refl, refl)

visit_same : (retries : ℕ) (session : SessionView) (node : NodeView) (line : Option ScriptLine) → Same session (visit_move retries line session node).session
visit_same retries session node None = (refl, refl, refl)
visit_same retries session node (Some line) = answer_same retries line.line session (visit_answer session.owner.0 node)

alone_same : (session : SessionView) (stage : Stage) → Same session (entered_alone stage session)
alone_same session Between = (refl, refl, refl)
alone_same session Within = (refl, refl, refl)
alone_same session Alone = (refl, refl, refl)

step_same : (session : SessionView) (node : NodeView) (step : ScriptStep) → Same session (step_move step session node).session
step_same session node Begin = (refl, refl, refl)
step_same session node Commit = (refl, refl, refl)
step_same session node Rollback = (refl, refl, refl)
step_same session node (Run statement) = alone_same session session.stage

line_same : (session : SessionView) (node : NodeView) (line : Option ScriptLine) → Same session (line_move line session node).session
line_same session node None = (refl, refl, refl)
line_same session node (Some line) = step_same session node line.step

idle_same : (session : SessionView) (node : NodeView) (stage : Stage) → Same session (idle_move stage session node).session
idle_same session node Alone = (refl, refl, refl)
idle_same session node Within = line_same session node (slice_get session.script session.next)
idle_same session node Between = line_same session node (slice_get session.script session.next)

begun_same : (retries : ℕ) (session : SessionView) (node : NodeView) (walk : Option Walk) → Same session (begun_move retries walk session node).session
begun_same retries session node (Some walk) = visit_same retries session node (slice_get session.script session.next)
begun_same retries session node None = idle_same session node session.stage

pub sessions_stay : SessionsStay
sessions_stay retries session node = at (is_victim session node)
  where
    at : (b : Bool) → Same session (cond b (record { turn = Victim; session = rolled_back retries session; node = node }) (begun_move retries (walk_of session.owner.0 node.txns) session node)).session
    at true = rolled_same retries session
    at false = begun_same retries session node (walk_of session.owner.0 node.txns)

-- A worker.

after_owner : (answer : Visit) (worker : Worker) → (after_visit answer worker).owner ≡ worker.owner
after_owner Stepped worker = refl
after_owner Done worker = refl
after_owner (Duplicate key) worker = refl
after_owner (Waits by) worker = refl
after_owner (Deadlock victim cycle) worker = refl

visit_owner : (next : Option Statement) (worker : Worker) (node : NodeView) → (worker_visit next worker node).worker.owner ≡ worker.owner
visit_owner None worker node = refl
visit_owner (Some next) worker node = after_owner (visit_answer worker.owner.0 node) worker

took_owner : (number : ℕ) (statement : Option Statement) (worker : Worker) (node : NodeView) → (took number statement worker node).worker.owner ≡ worker.owner
took_owner number None worker node = refl
took_owner number (Some statement) worker node = refl

take_owner : (left : Option ℕ) (log : List Entry) (worker : Worker) (node : NodeView) → (take_move left log worker node).worker.owner ≡ worker.owner
take_owner None log worker node = refl
take_owner (Some number) log worker node = took_owner number (statement_behind 0 number log) worker node

again_owner : (earlier : Option ℕ) (number : ℕ) (log : List Entry) (worker : Worker) (node : NodeView) → (take_again earlier number log worker node).worker.owner ≡ worker.owner
again_owner None number log worker node = took_owner number (statement_behind 0 number log) worker node
again_owner (Some earlier) number log worker node = refl

commit_owner : (earlier : Option ℕ) (number : ℕ) (worker : Worker) (node : NodeView) → (commit_move earlier number worker node).worker.owner ≡ worker.owner
commit_owner None number worker node = refl
commit_owner (Some earlier) number worker node = refl

done_owner : (entry : Option ℕ) (worker : Worker) (node : NodeView) → (done_move entry worker node).worker.owner ≡ worker.owner
done_owner None worker node = refl
done_owner (Some number) worker node = commit_owner (earlier_open (applied_of node.history) number) number worker node

begin_owner : (entry left : Option ℕ) (log : List Entry) (worker : Worker) (node : NodeView) → (begin_move entry left log worker node).worker.owner ≡ worker.owner
begin_owner None left log worker node = take_owner left log worker node
begin_owner (Some number) left log worker node = again_owner (earlier_open (applied_of node.history) number) number log worker node

idle_owner : (begun : Bool) (left : Option ℕ) (log : List Entry) (worker : Worker) (node : NodeView) → (worker_idle begun left log worker node).worker.owner ≡ worker.owner
idle_owner true left log worker node = done_owner worker.entry worker node
idle_owner false left log worker node = begin_owner worker.entry left log worker node

walking_owner : (walk : Option Walk) (left : Option ℕ) (log : List Entry) (worker : Worker) (node : NodeView) → (walking_move walk left log worker node).worker.owner ≡ worker.owner
walking_owner (Some walk) left log worker node = visit_owner (next_statement worker.started worker.entry log) worker node
walking_owner None left log worker node = idle_owner (is_some (txn_of worker.owner.0 node.txns)) left log worker node

pub owner_stays : (left : Option ℕ) (log : List Entry) (worker : Worker) (node : NodeView) → (worker_move left log worker node).worker.owner ≡ worker.owner
owner_stays left log worker node = walking_owner (walk_of worker.owner.0 node.txns) left log worker node

-- The workers of an applier.

set_owners : (workers : List Worker) (place : ℕ) (old new : Worker) → slice_get workers place ≡ Some old → new.owner ≡ old.owner
    → owners_of (slice_set workers place new) ≡ owners_of workers
set_owners [] place old new found same = refl
set_owners (worker ∷ workers) zero old new found same =
    let is : worker ≡ old = cc in
    ap (λ (o : Owner). o ∷ owners_of workers) (same ∙ ap (λ (w : Worker). w.owner) (sym is))
set_owners (worker ∷ workers) (suc place) old new found same = ap (λ (os : List Owner). worker.owner ∷ os) (set_owners workers place old new found same)

count_of : (workers : List Worker) → length (owners_of workers) ≡ length workers
count_of [] = refl
count_of (worker ∷ workers) = ap suc (count_of workers)

-- as many owners are as many workers
same_count : (workers now : List Worker) → owners_of now ≡ owners_of workers → length now ≡ length workers
same_count workers now same = sym (count_of now) ∙ ap length same ∙ count_of workers

at_owners : (place : ℕ) (found : Option Worker) (log : List Entry) (workers : List Worker) (node : NodeView) → slice_get workers place ≡ found
    → owners_of (turned_at place found log workers node).workers ≡ owners_of workers
at_owners place None log workers node e = refl
at_owners place (Some worker) log workers node e =
    let left : Option ℕ = entry_left (applied_of node.history) (length log) workers in
    set_owners workers place worker (worker_move left log worker node).worker e (owner_stays left log worker node)

pub appliers_stay : AppliersStay
appliers_stay number log applier node = (same_count applier.workers (turned applier.stopped).workers (at applier.stopped), at applier.stopped)
  where
    still : Turned
    still = record { turn = Stopped; workers = applier.workers; node = node }

    turned : Bool → Turned
    turned b = cond {A = Turned} b still (turned_at (number - 1) (slice_get applier.workers (number - 1)) log applier.workers node)

    at : (b : Bool) → owners_of (turned b).workers ≡ owners_of applier.workers
    at true = refl
    at false = at_owners (number - 1) (slice_get applier.workers (number - 1)) log applier.workers node refl

emptied_owners : (workers : List Worker) → owners_of (map without_entry workers) ≡ owners_of workers
emptied_owners [] = refl
emptied_owners (worker ∷ workers) = ap (λ (os : List Owner). worker.owner ∷ os) (emptied_owners workers)

pub stopped_stay : StoppedStay
stopped_stay applier node = at applier.stopped
  where
    switched : Bool → Switched
    switched b = cond {A = Switched} b (record { changed = false; applier = applier; node = node })
        (record { changed = true; applier = record applier { stopped = true; workers = map without_entry applier.workers }; node = all_ended applier.workers node })

    at : (b : Bool) → ((switched b).applier.replica ≡ applier.replica) × (length (switched b).applier.workers ≡ length applier.workers) × (owners_of (switched b).applier.workers ≡ owners_of applier.workers)
    at true = (refl, refl, refl)
    at false = (refl, same_count applier.workers (map without_entry applier.workers) (emptied_owners applier.workers), emptied_owners applier.workers)
