-- The calls of each move of a worker, and of a stop of its applier.
use Rattle.std.proofs.Common.{◌≡◌, ◌∙◌, ℕ, zero, suc, ◌-◌, ◌==◌, if◌then◌else◌, Bool, true, false, cond, List, [], ◌∷◌, Option, None, Some, refl, ap, sym, subst}
use Rattle.std.specs.Prelude.{is_some, length, map, option_and_then}
use Rattle.std.specs.List.{slice_get}
use Rattle.ptc_statement.specs.declared.statements.Statement.{Statement}
use Rattle.statement_log.specs.declared.entries.Entry.{Entry}
use Rattle.statement_log.specs.declared.origins.Origin.TheVariants.{Applied}
use Rattle.statement_log.specs.Positions.{entry_at}
use Rattle.history.specs.Replay.{applied_of}
use Rattle.node_model.specs.declared.parts.Part.TheVariants.{Apply}
use Rattle.node_model.specs.declared.txns.Walk.{Walk}
use Rattle.node_model.specs.Txns.{txn_of}
use Rattle.node_model.specs.Node.{NodeView, ended}
use Rattle.node_model.specs.Calls.{after_call, Begin as BeginCall, Start as StartCall, Visit as VisitCall, Commit as CommitCall, Rollback as RollbackCall}
use Rattle.node_visits.specs.declared.visits.Visit.{Visit}
use Rattle.node_visits.specs.declared.visits.Visit.TheVariants.{Stepped, Done, Duplicate, Waits, Deadlock}
use Rattle.node_visits.specs.Answers.{visit_answer}
use Rattle.node_visits.specs.NextStarts.{next_started}
use Rattle.node_parts.specs.Views.{walk_of}
use Rattle.applier.specs.declared.turns.Turn.TheVariants.{Stopped}
use Rattle.applier.specs.declared.workers.Worker.{Worker}
use Rattle.applier.specs.Appliers.{ApplierView, statement_behind, next_statement, entry_left, earlier_open, without_entry}
use Rattle.applier.specs.Moves.{Moved, took, take_move, take_again, visit_move, commit_move, done_move, begin_move, idle_move, walking_move, Turned, turned_at, Switched, all_ended}
use Rattle.turn_laws.specs.TurnCalls.{LeadsBy, StandsIn, IsWorkers, WorkersMakeCalls, OthersMakeNone, IsWorkerOf, IsStops, StopsMakeCalls}
use Rattle.turn_laws.proofs.CallLemmas.{none_made, one_made, two_made}

-- A statement that a worker starts stands in the log.

in_log : (log : List Entry) (number : ℕ) (entry : Entry) (started : ℕ) (statement : Statement) → entry_at number log ≡ Some entry → slice_get entry.statements started ≡ Some statement
    → StandsIn log statement
in_log log number entry started statement found stands = at (number == 0) found
  where
    at : (b : Bool) → (if b then None else slice_get log (number - 1)) ≡ Some entry → StandsIn log statement
    at true e = absurd (let q : None ≡ Some entry = e in cc)
    at false e = record { place = number - 1; entry = entry; found = e; number = started; stands = stands }

behind_stands : (log : List Entry) (number started : ℕ) (statement : Statement) → statement_behind started number log ≡ Some statement → StandsIn log statement
behind_stands log number started statement found = at (entry_at number log) refl found
  where
    at : (o : Option Entry) → entry_at number log ≡ o → option_and_then (λ (entry : Entry). slice_get entry.statements started) o ≡ Some statement → StandsIn log statement
    at None e f = absurd (let q : None ≡ Some statement = f in cc)
    at (Some entry) e f = in_log log number entry started statement e f

next_stands : (log : List Entry) (entry : Option ℕ) (started : ℕ) (statement : Statement) → next_statement started entry log ≡ Some statement → StandsIn log statement
next_stands log None started statement found = absurd (let q : None ≡ Some statement = found in cc)
next_stands log (Some number) started statement found = behind_stands log number started statement found

-- A worker's moves.

abbrev Leads : List Entry → Worker → NodeView → Moved → Type 0
Leads log worker node moved = LeadsBy (IsWorkers worker.owner log) node moved.node

took_leads : (number : ℕ) (log : List Entry) (worker : Worker) (node : NodeView) (statement : Option Statement) → statement_behind 0 number log ≡ statement
    → Leads log worker node (took number statement worker node)
took_leads number log worker node None behind =
    one_made (IsWorkers worker.owner log) (BeginCall worker.owner (Apply number)) node (refl, record { number = number; applies = refl })
took_leads number log worker node (Some statement) behind =
    two_made (IsWorkers worker.owner log) (BeginCall worker.owner (Apply number)) (StartCall worker.owner statement) node (refl, record { number = number; applies = refl })
    (refl, behind_stands log number 0 statement behind)

take_leads : (left : Option ℕ) (log : List Entry) (worker : Worker) (node : NodeView) → Leads log worker node (take_move left log worker node)
take_leads None log worker node = none_made (IsWorkers worker.owner log) node
take_leads (Some number) log worker node = took_leads number log worker node (statement_behind 0 number log) refl

again_leads : (earlier : Option ℕ) (number : ℕ) (log : List Entry) (worker : Worker) (node : NodeView) → Leads log worker node (take_again earlier number log worker node)
again_leads None number log worker node = took_leads number log worker node (statement_behind 0 number log) refl
again_leads (Some earlier) number log worker node = none_made (IsWorkers worker.owner log) node

started_leads : (answer : Visit) (log : List Entry) (worker : Worker) (node : NodeView) (next : Statement) → StandsIn log next
    → LeadsBy (IsWorkers worker.owner log) node (next_started answer worker.owner next (after_call (VisitCall worker.owner) node))
started_leads Stepped log worker node next stands = one_made (IsWorkers worker.owner log) (VisitCall worker.owner) node refl
started_leads Done log worker node next stands = two_made (IsWorkers worker.owner log) (VisitCall worker.owner) (StartCall worker.owner next) node refl (refl, stands)
started_leads (Duplicate key) log worker node next stands = one_made (IsWorkers worker.owner log) (VisitCall worker.owner) node refl
started_leads (Waits by) log worker node next stands = one_made (IsWorkers worker.owner log) (VisitCall worker.owner) node refl
started_leads (Deadlock victim cycle) log worker node next stands = one_made (IsWorkers worker.owner log) (VisitCall worker.owner) node refl

visit_leads : (log : List Entry) (worker : Worker) (node : NodeView) (next : Option Statement) → next_statement worker.started worker.entry log ≡ next
    → Leads log worker node (visit_move next worker node)
visit_leads log worker node None found = one_made (IsWorkers worker.owner log) (VisitCall worker.owner) node refl
visit_leads log worker node (Some next) found =
    started_leads (visit_answer worker.owner.0 node) log worker node next (next_stands log worker.entry worker.started next found)

commit_leads : (earlier : Option ℕ) (number : ℕ) (log : List Entry) (worker : Worker) (node : NodeView) → Leads log worker node (commit_move earlier number worker node)
commit_leads None number log worker node =
    one_made (IsWorkers worker.owner log) (CommitCall worker.owner (Applied number)) node (refl, record { number = number; applied = refl })
commit_leads (Some earlier) number log worker node = none_made (IsWorkers worker.owner log) node

done_leads : (entry : Option ℕ) (log : List Entry) (worker : Worker) (node : NodeView) → Leads log worker node (done_move entry worker node)
done_leads None log worker node = none_made (IsWorkers worker.owner log) node
done_leads (Some number) log worker node = commit_leads (earlier_open (applied_of node.history) number) number log worker node

begin_leads : (entry left : Option ℕ) (log : List Entry) (worker : Worker) (node : NodeView) → Leads log worker node (begin_move entry left log worker node)
begin_leads None left log worker node = take_leads left log worker node
begin_leads (Some number) left log worker node = again_leads (earlier_open (applied_of node.history) number) number log worker node

idle_leads : (begun : Bool) (left : Option ℕ) (log : List Entry) (worker : Worker) (node : NodeView) → Leads log worker node (idle_move begun left log worker node)
idle_leads true left log worker node = done_leads worker.entry log worker node
idle_leads false left log worker node = begin_leads worker.entry left log worker node

walking_leads : (walk : Option Walk) (left : Option ℕ) (log : List Entry) (worker : Worker) (node : NodeView) → Leads log worker node (walking_move walk left log worker node)
walking_leads (Some walk) left log worker node = visit_leads log worker node (next_statement worker.started worker.entry log) refl
walking_leads None left log worker node = idle_leads (is_some (txn_of worker.owner.0 node.txns)) left log worker node

at_leads : (place : ℕ) (worker : Worker) (log : List Entry) (workers : List Worker) (node : NodeView) → LeadsBy (IsWorkers worker.owner log) node (turned_at place (Some worker) log workers node).node
at_leads place worker log workers node = walking_leads (walk_of worker.owner.0 node.txns) (entry_left (applied_of node.history) (length log) workers) log worker node

abbrev turned : ℕ → List Entry → ApplierView → NodeView → Option Worker → Bool → Turned
turned number log applier node found stopped =
    cond {A = Turned} stopped (record { turn = Stopped; workers = applier.workers; node = node }) (turned_at (number - 1) found log applier.workers node)

pub workers_make_calls : WorkersMakeCalls
workers_make_calls number log applier node worker found =
    subst (λ (o : Option Worker). LeadsBy (IsWorkers worker.owner log) node (turned number log applier node o applier.stopped).node) (sym found) (at applier.stopped)
  where
    at : (b : Bool) → LeadsBy (IsWorkers worker.owner log) node (turned number log applier node (Some worker) b).node
    at true = none_made (IsWorkers worker.owner log) node
    at false = at_leads (number - 1) worker log applier.workers node

pub others_make_none : OthersMakeNone
others_make_none number log applier node none = ap (λ (o : Option Worker). (turned number log applier node o applier.stopped).node) none ∙ at applier.stopped
  where
    at : (b : Bool) → (turned number log applier node None b).node ≡ node
    at true = refl
    at false = refl

-- A stop.

all_lead : (all workers : List Worker) (node : NodeView) → ((place : ℕ) (worker : Worker) → slice_get workers place ≡ Some worker → IsWorkerOf all worker.owner)
    → LeadsBy (IsStops all) node (all_ended workers node)
all_lead all [] node are = none_made (IsStops all) node
all_lead all (worker ∷ workers) node are =
    let more : LeadsBy (IsStops all) (ended worker.owner.0 node) (all_ended workers (ended worker.owner.0 node)) =
    all_lead all workers (ended worker.owner.0 node) (λ place other found. are (suc place) other found) in
    record { calls = RollbackCall worker.owner ∷ more.calls; are = (are zero worker refl, more.are); leads = more.leads }

pub stops_make_calls : StopsMakeCalls
stops_make_calls applier node = at applier.stopped
  where
    switched : Bool → Switched
    switched b = cond {A = Switched} b (record { changed = false; applier = applier; node = node })
        (record { changed = true; applier = record applier { stopped = true; workers = map without_entry applier.workers }; node = all_ended applier.workers node })

    at : (b : Bool) → LeadsBy (IsStops applier.workers) node (switched b).node
    at true = none_made (IsStops applier.workers) node
    at false = all_lead applier.workers applier.workers node (λ place worker found. record { place = place; worker = worker; found = found; is = refl })
