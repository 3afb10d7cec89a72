-- What happens on a replica: turns of its workers, calls of its local sessions, and further entries of the source's log.
use Rattle.std.proofs.Common.{◌≡◌, ◌∙◌, inl, ℕ, ◌≤◌, List, [], ◌∷◌, ◌++◌, ◌-◌, Option, None, Some, map, length, refl, ap, sym, subst, append-nil}
use Rattle.std.specs.Prelude.{slice_set}
use Rattle.std.specs.List.{AllByRecursion, slice_get}
use Rattle.row_types.specs.declared.table_schema.Schema.{Schema}
use Rattle.row_types.specs.KeyRows.{TableRows}
use Rattle.statement_log.specs.declared.entries.Entry.{Entry}
use Rattle.lock_table.specs.declared.wants.Owner.{Owner}
use Rattle.node_model.specs.Node.{NodeView}
use Rattle.node_model.specs.Calls.{Call, Begin, Start, Visit, Commit, Rollback, Publish, after_call, after_calls}
use Rattle.node_model.proofs.CallLemmas.{same_schemas}
use Rattle.session.specs.Sessions.{SessionView}
use Rattle.session.specs.Moves.{next_move}
use Rattle.session.proofs.StayLemmas.{next_stays}
use Rattle.applier.specs.declared.workers.Worker.{Worker}
use Rattle.applier.specs.Appliers.{ApplierView}
use Rattle.applier.specs.Moves as worker_moves
use Rattle.applier_laws.specs.Follows.{Event, Turn, Logged, Other, Course, AreLogged, IsNoWorker, IsLocal, IsOthers, EventFits, after_event, after_events, new_course}
use Rattle.turn_laws.specs.TurnCalls.{LeadsBy, IsSessions, IsWorkers}
use Rattle.turn_laws.proofs.StayLemmas.{sessions_stay, appliers_stay}
use Rattle.turn_laws.proofs.SessionCalls.{sessions_make_calls}
use Rattle.turn_laws.proofs.WorkerCalls.{workers_make_calls, others_make_none}
use Rattle.world_model.specs.Worlds.{ReplicaView}
use Rattle.world_laws.specs.Clients.{LinesOfClients}
use Rattle.world_laws.proofs.ListLemmas.{each_joined, each_mapped, each_set}
use Rattle.world_laws.proofs.ClientLemmas.{runs_clients}

-- a local session of a replica: no worker's owner, it writes in its own name, and runs clients' statements
pub record IsThere (session : SessionView) : Type 0 where
  pub apart : session.owner.0 ≤ 200
  pub origin : IsLocal session.origin
  pub clients : LinesOfClients session.script

there_stays : (retries : ℕ) (session : SessionView) (node : NodeView) → IsThere session → IsThere (next_move retries session node).session
there_stays retries session node there =
    let stays = sessions_stay retries session node in
    record {
      apart = subst (λ (o : Owner). o.0 ≤ 200) (sym stays.0) there.apart;
      origin = subst IsLocal (sym stays.1) there.origin;
      clients = subst LinesOfClients (sym stays.2) there.clients;
    }

no_worker : (workers : ℕ) (session : SessionView) (owner : Owner) → IsThere session → owner ≡ session.owner → IsNoWorker workers owner
no_worker workers session owner there is = inl (subst (λ (o : Owner). o.0 ≤ 200) (sym is) there.apart)

locals_call : (workers : ℕ) (session : SessionView) → IsThere session → (call : Call) → IsSessions session call → IsOthers workers call
locals_call workers session there (Begin owner part) is = no_worker workers session owner there is.0
locals_call workers session there (Start owner statement) is =
    (no_worker workers session owner there is.0, runs_clients session.script statement there.clients is.1)
locals_call workers session there (Visit owner) is = no_worker workers session owner there is
locals_call workers session there (Commit owner origin) is = (no_worker workers session owner there is.0, subst IsLocal (sym is.1) there.origin)
locals_call workers session there (Rollback owner) is = no_worker workers session owner there is
locals_call workers session there (Publish table chunk) is = absurd is

-- A worker's turn leaves the schemas.

calls_same : (calls : List Call) (node : NodeView) → (after_calls calls node).schemas ≡ node.schemas
calls_same [] node = refl
calls_same (call ∷ calls) node = calls_same calls (after_call call node) ∙ same_schemas call node

workers_same : (number : ℕ) (log : List Entry) (applier : ApplierView) (node : NodeView) → (worker_moves.next_move number log applier node).node.schemas ≡ node.schemas
workers_same number log applier node = at (slice_get applier.workers (number - 1)) refl
  where
    at : (found : Option Worker) → slice_get applier.workers (number - 1) ≡ found → (worker_moves.next_move number log applier node).node.schemas ≡ node.schemas
    at None e = ap (λ (n : NodeView). n.schemas) (others_make_none number log applier node e)
    at (Some worker) e =
        let made : LeadsBy (IsWorkers worker.owner log) node (worker_moves.next_move number log applier node).node = workers_make_calls number log applier node worker e in
        ap (λ (n : NodeView). n.schemas) made.leads ∙ calls_same made.calls node

-- Courses.

abbrev pub course_of : List Entry → ApplierView → NodeView → Course
course_of log applier node = record { log = log; applier = applier; node = node }

events_joined : (xs ys : List Event) (course : Course) → after_events (xs ++ ys) course ≡ after_events ys (after_events xs course)
events_joined [] ys course = refl
events_joined (x ∷ xs) ys course = events_joined xs ys (after_event x course)

calls_are : (calls : List Call) (log : List Entry) (applier : ApplierView) (node : NodeView)
    → after_events (map Other calls) (course_of log applier node) ≡ course_of log applier (after_calls calls node)
calls_are [] log applier node = refl
calls_are (call ∷ calls) log applier node = calls_are calls log applier (after_call call node)

join_one : (xs : List Entry) (x : Entry) (ys : List Entry) → (xs ++ x ∷ []) ++ ys ≡ xs ++ x ∷ ys
join_one [] x ys = refl
join_one (y ∷ xs) x ys = ap (λ (more : List Entry). y ∷ more) (join_one xs x ys)

entries_are : (more log : List Entry) (applier : ApplierView) (node : NodeView) → after_events (map Logged more) (course_of log applier node) ≡ course_of (log ++ more) applier node
entries_are [] log applier node = ap (λ (all : List Entry). course_of all applier node) (sym (append-nil log))
entries_are (entry ∷ more) log applier node =
    entries_are more (log ++ entry ∷ []) applier node ∙ ap (λ (all : List Entry). course_of all applier node) (join_one log entry more)

-- what is known of a replica beside the source's log
pub record IsLed (schemas : List Schema) (workers : ℕ) (log : List Entry) (replica : ReplicaView) : Type 0 where
  pub number : ℕ
  pub start : TableRows
  pub events : List Event
  pub fit : AllByRecursion (EventFits workers) events
  pub course : course_of log replica.applier replica.node ≡ after_events events (new_course number workers schemas start)
  pub there : AllByRecursion IsThere replica.locals
  pub count : length replica.applier.workers ≡ workers
  pub same : replica.node.schemas ≡ schemas

-- events from the first course to this one
record Goes (number workers : ℕ) (schemas : List Schema) (start : TableRows) (course : Course) : Type 0 where
  events : List Event
  fit : AllByRecursion (EventFits workers) events
  goes : course ≡ after_events events (new_course number workers schemas start)

further : (schemas : List Schema) (workers : ℕ) (log : List Entry) (replica : ReplicaView) (led : IsLed schemas workers log replica) (more : List Event) (new : Course)
    → AllByRecursion (EventFits workers) more → new ≡ after_events more (course_of log replica.applier replica.node) → Goes led.number workers schemas led.start new
further schemas workers log replica led more new fit is = record {
  events = led.events ++ more;
  fit = each_joined (EventFits workers) led.events more led.fit fit;
  goes = is ∙ ap (after_events more) led.course ∙ sym (events_joined led.events more (new_course led.number workers schemas led.start));
}

-- the source's log has grown
pub log_led : (schemas : List Schema) (workers : ℕ) (log more : List Entry) (replica : ReplicaView) → AllByRecursion AreLogged more → IsLed schemas workers log replica
    → IsLed schemas workers (log ++ more) replica
log_led schemas workers log more replica are led =
    let goes = further schemas workers log replica led (map Logged more) (course_of (log ++ more) replica.applier replica.node)
    (each_mapped AreLogged (EventFits workers) Logged more (λ entry is. is) are) (sym (entries_are more log replica.applier replica.node)) in
    record {
      number = led.number;
      start = led.start;
      events = goes.events;
      fit = goes.fit;
      course = goes.goes;
      there = led.there;
      count = led.count;
      same = led.same;
    }

-- a worker has moved
pub worker_led : (schemas : List Schema) (workers number : ℕ) (log : List Entry) (replica : ReplicaView) → 1 ≤ number → number ≤ length replica.applier.workers → IsLed schemas workers log replica
    → IsLed schemas workers log (record replica {
      node = (worker_moves.next_move number log replica.applier replica.node).node;
      applier = record replica.applier { workers = (worker_moves.next_move number log replica.applier replica.node).workers };
    })
worker_led schemas workers number log replica least most led =
    let turned = worker_moves.next_move number log replica.applier replica.node in
    let goes = further schemas workers log replica led (Turn number ∷ []) (course_of log (record replica.applier { workers = turned.workers }) turned.node)
    ((least, subst (λ (count : ℕ). number ≤ count) led.count most), tt) refl in
    record {
      number = led.number;
      start = led.start;
      events = goes.events;
      fit = goes.fit;
      course = goes.goes;
      there = led.there;
      count = (appliers_stay number log replica.applier replica.node).0 ∙ led.count;
      same = workers_same number log replica.applier replica.node ∙ led.same;
    }

-- a local session has moved
pub local_led : (schemas : List Schema) (workers retries place : ℕ) (log : List Entry) (replica : ReplicaView) (session : SessionView) → IsThere session → IsLed schemas workers log replica
    → IsLed schemas workers log (record replica {
      node = (next_move retries session replica.node).node;
      locals = slice_set replica.locals place (next_move retries session replica.node).session;
    })
local_led schemas workers retries place log replica session there led =
    let moved = next_move retries session replica.node in
    let made : LeadsBy (IsSessions session) replica.node moved.node = sessions_make_calls retries session replica.node in
    let goes = further schemas workers log replica led (map Other made.calls) (course_of log replica.applier moved.node)
    (each_mapped (IsSessions session) (EventFits workers) Other made.calls (locals_call workers session there) made.are)
    (ap (course_of log replica.applier) made.leads ∙ sym (calls_are made.calls log replica.applier replica.node)) in
    record {
      number = led.number;
      start = led.start;
      events = goes.events;
      fit = goes.fit;
      course = goes.goes;
      there = each_set IsThere replica.locals place moved.session (there_stays retries session replica.node there) led.there;
      count = led.count;
      same = (next_stays retries session replica.node).1 ∙ led.same;
    }
