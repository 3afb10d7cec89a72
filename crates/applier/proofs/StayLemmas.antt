-- What no move changes: the schemas of an applier's node.
use Rattle.std.proofs.Common.{◌≡◌, ◌∙◌, ℕ, ◌-◌, Bool, true, false, cond, List, [], ◌∷◌, Option, None, Some, refl, ap}
use Rattle.std.specs.Prelude.{is_some, length}
use Rattle.std.specs.List.{slice_get}
use Rattle.ptc_statement.specs.declared.statements.Statement.{Statement}
use Rattle.statement_log.specs.declared.entries.Entry.{Entry}
use Rattle.statement_log.specs.declared.origins.Origin.TheVariants.{Applied}
use Rattle.history.specs.Replay.{applied_of}
use Rattle.lock_table.specs.declared.wants.Owner.{Owner}
use Rattle.node_model.specs.declared.parts.Part.TheVariants.{Apply}
use Rattle.node_model.specs.declared.txns.Walk.{Walk}
use Rattle.node_model.specs.Txns.{txn_of}
use Rattle.node_model.specs.Node.{NodeView, ended}
use Rattle.node_model.specs.Calls.{after_call, Begin as BeginCall, Start as StartCall, Visit as VisitCall, Commit as CommitCall}
use Rattle.node_model.proofs.CallLemmas.{same_schemas}
use Rattle.node_visits.specs.declared.visits.Visit.{Visit}
use Rattle.node_visits.specs.declared.visits.Visit.TheVariants.{Stepped, Done, Duplicate, Waits, Deadlock}
use Rattle.node_visits.specs.Answers.{visit_answer}
use Rattle.node_visits.specs.NextStarts.{next_started}
use Rattle.node_parts.specs.Views.{walk_of}
use Rattle.applier.specs.declared.turns.Turn.TheVariants.{Stopped}
use Rattle.applier.specs.declared.workers.Worker.{Worker}
use Rattle.applier.specs.Appliers.{ApplierView, statement_behind, next_statement, entry_left, earlier_open}
use Rattle.applier.specs.Moves.{took, take_move, take_again, visit_move, commit_move, done_move, begin_move, idle_move, walking_move, Turned, turned_at, next_move, all_ended}

next_start_stays : (answer : Visit) (owner : Owner) (next : Statement) (node : NodeView) → (next_started answer owner next node).schemas ≡ node.schemas
next_start_stays Stepped owner next node = refl
next_start_stays Done owner next node = same_schemas (StartCall owner next) node
next_start_stays (Duplicate key) owner next node = refl
next_start_stays (Waits by) owner next node = refl
next_start_stays (Deadlock victim cycle) owner next node = refl

visit_stays : (next : Option Statement) (worker : Worker) (node : NodeView) → (visit_move next worker node).node.schemas ≡ node.schemas
visit_stays None worker node = same_schemas (VisitCall worker.owner) node
visit_stays (Some next) worker node =
    let visited : NodeView = after_call (VisitCall worker.owner) node in
    next_start_stays (visit_answer worker.owner.0 node) worker.owner next visited ∙ same_schemas (VisitCall worker.owner) node

took_stays : (number : ℕ) (statement : Option Statement) (worker : Worker) (node : NodeView) → (took number statement worker node).node.schemas ≡ node.schemas
took_stays number None worker node = same_schemas (BeginCall worker.owner (Apply number)) node
took_stays number (Some statement) worker node =
    let begun : NodeView = after_call (BeginCall worker.owner (Apply number)) node in
    same_schemas (StartCall worker.owner statement) begun ∙ same_schemas (BeginCall worker.owner (Apply number)) node

take_stays : (left : Option ℕ) (log : List Entry) (worker : Worker) (node : NodeView) → (take_move left log worker node).node.schemas ≡ node.schemas
take_stays None log worker node = refl
take_stays (Some number) log worker node = took_stays number (statement_behind 0 number log) worker node

again_stays : (earlier : Option ℕ) (number : ℕ) (log : List Entry) (worker : Worker) (node : NodeView) → (take_again earlier number log worker node).node.schemas ≡ node.schemas
again_stays None number log worker node = took_stays number (statement_behind 0 number log) worker node
again_stays (Some earlier) number log worker node = refl

commit_stays : (earlier : Option ℕ) (number : ℕ) (worker : Worker) (node : NodeView) → (commit_move earlier number worker node).node.schemas ≡ node.schemas
commit_stays None number worker node = same_schemas (CommitCall worker.owner (Applied number)) node
commit_stays (Some earlier) number worker node = refl

done_stays : (entry : Option ℕ) (worker : Worker) (node : NodeView) → (done_move entry worker node).node.schemas ≡ node.schemas
done_stays None worker node = refl
done_stays (Some number) worker node = commit_stays (earlier_open (applied_of node.history) number) number worker node

begin_stays : (entry left : Option ℕ) (log : List Entry) (worker : Worker) (node : NodeView) → (begin_move entry left log worker node).node.schemas ≡ node.schemas
begin_stays None left log worker node = take_stays left log worker node
begin_stays (Some number) left log worker node = again_stays (earlier_open (applied_of node.history) number) number log worker node

idle_stays : (begun : Bool) (left : Option ℕ) (log : List Entry) (worker : Worker) (node : NodeView) → (idle_move begun left log worker node).node.schemas ≡ node.schemas
idle_stays true left log worker node = done_stays worker.entry worker node
idle_stays false left log worker node = begin_stays worker.entry left log worker node

walking_stays : (walk : Option Walk) (left : Option ℕ) (log : List Entry) (worker : Worker) (node : NodeView) → (walking_move walk left log worker node).node.schemas ≡ node.schemas
walking_stays (Some walk) left log worker node = visit_stays (next_statement worker.started worker.entry log) worker node
walking_stays None left log worker node = idle_stays (is_some (txn_of worker.owner.0 node.txns)) left log worker node

at_stays : (place : ℕ) (worker : Option Worker) (log : List Entry) (workers : List Worker) (node : NodeView) → (turned_at place worker log workers node).node.schemas ≡ node.schemas
at_stays place None log workers node = refl
at_stays place (Some worker) log workers node = walking_stays (walk_of worker.owner.0 node.txns) (entry_left (applied_of node.history) (length log) workers) log worker node

next_stays : (number : ℕ) (log : List Entry) (applier : ApplierView) (node : NodeView) → (next_move number log applier node).node.schemas ≡ node.schemas
next_stays number log applier node = at applier.stopped
  where
    still : Turned
    still = record { turn = Stopped; workers = applier.workers; node = node }

    at : (b : Bool) → (cond {A = Turned} b still (turned_at (number - 1) (slice_get applier.workers (number - 1)) log applier.workers node)).node.schemas ≡ node.schemas
    at true = refl
    at false = at_stays (number - 1) (slice_get applier.workers (number - 1)) log applier.workers node

pub schemas_stay : (number : ℕ) (log : List Entry) (applier : ApplierView) (node : NodeView) (turned : Turned) → turned ≡ next_move number log applier node → turned.node.schemas ≡ node.schemas
schemas_stay number log applier node turned is = ap (λ (t : Turned). t.node.schemas) is ∙ next_stays number log applier node

all_stay : (workers : List Worker) (node : NodeView) → (all_ended workers node).schemas ≡ node.schemas
all_stay [] node = refl
all_stay (worker ∷ workers) node = all_stay workers (ended worker.owner.0 node)

pub schemas_stay_ended : (workers : List Worker) (old new : NodeView) → new ≡ all_ended workers old → new.schemas ≡ old.schemas
schemas_stay_ended workers old new is = ap (λ (n : NodeView). n.schemas) is ∙ all_stay workers old
