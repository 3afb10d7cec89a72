-- The next move of a worker on its replica.
use Rattle.std.specs.Prelude.{ℕ, ◌+◌, ◌-◌, is_some, Bool, true, false, cond, List, [], ◌∷◌, Option, None, Some, length, map}
use Rattle.std.specs.List.{slice_get, slice_set}
use Rattle.ptc_statement.specs.declared.statements.Statement.{Statement}
use Rattle.statement_log.specs.declared.entries.Entry.{Entry}
use Rattle.statement_log.specs.declared.origins.Origin.TheVariants.{Applied}
use Rattle.history.specs.Replay.{applied_of}
use Rattle.node_model.specs.declared.parts.Part.TheVariants.{Apply}
use Rattle.node_model.specs.declared.txns.Walk.{Walk}
use Rattle.node_model.specs.Txns.{txn_of}
use Rattle.node_model.specs.Node.{NodeView, ended}
use Rattle.node_model.specs.Calls.{after_call, Begin as BeginCall, Start as StartCall, Visit as VisitCall, Commit as CommitCall}
use Rattle.node_visits.specs.declared.visits.Visit.{Visit}
use Rattle.node_visits.specs.declared.visits.Visit.TheVariants.{Stepped, Done, Duplicate, Waits, Deadlock}
use Rattle.node_parts.specs.Views.{walk_of}
use Rattle.node_visits.specs.Answers.{visit_answer}
use Rattle.node_visits.specs.NextStarts.{next_started}
use Rattle.applier.specs.declared.turns.Turn.{Turn}
use Rattle.applier.specs.declared.turns.Turn.TheVariants.{Took, Visited, Committed, Nothing, OrderWait, Stopped}
use Rattle.applier.specs.declared.workers.Worker.{Worker}
use Rattle.applier.specs.Appliers.{ApplierView, statement_behind, next_statement, entry_left, earlier_open, with_entry, without_entry}

-- what a worker did, and what this left of it and of its replica
pub record Moved : Type 0 where
  pub turn : Turn
  pub worker : Worker
  pub node : NodeView

abbrev pub nothing_done : Turn → Worker → NodeView → Moved
nothing_done turn worker node = record { turn = turn; worker = worker; node = node }

-- an entry is taken, and its first statement started, if it has one
abbrev pub took : ℕ → Option Statement → Worker → NodeView → Moved
took number None worker node = record {
  turn = Took number;
  worker = with_entry number 0 worker;
  node = after_call (BeginCall worker.owner (Apply number)) node;
}
took number (Some statement) worker node = record {
  turn = Took number;
  worker = with_entry number 1 worker;
  node = after_call (StartCall worker.owner statement) (after_call (BeginCall worker.owner (Apply number)) node);
}

-- a worker without an entry takes the one that is left
abbrev pub take_move : Option ℕ → List Entry → Worker → NodeView → Moved
take_move None log worker node = nothing_done (Nothing (applied_of node.history)) worker node
take_move (Some number) log worker node = took number (statement_behind 0 number log) worker node

-- the entry of a transaction that was rolled back is taken again once no earlier one is open
abbrev pub take_again : Option ℕ → ℕ → List Entry → Worker → NodeView → Moved
take_again None number log worker node = took number (statement_behind 0 number log) worker node
take_again (Some earlier) number log worker node = nothing_done (OrderWait earlier) worker node

-- where a visit was done with its statement the next one is started
abbrev pub after_answer : Visit → Worker → Worker
after_answer Stepped worker = worker
after_answer Done worker = record worker { started = worker.started + 1 }
after_answer (Duplicate key) worker = worker
after_answer (Waits by) worker = worker
after_answer (Deadlock victim cycle) worker = worker

abbrev pub visit_move : Option Statement → Worker → NodeView → Moved
visit_move None worker node = record {
  turn = Visited (visit_answer worker.owner.0 node);
  worker = worker;
  node = after_call (VisitCall worker.owner) node;
}
visit_move (Some next) worker node = record {
  turn = Visited (visit_answer worker.owner.0 node);
  worker = after_answer (visit_answer worker.owner.0 node) worker;
  node = next_started (visit_answer worker.owner.0 node) worker.owner next (after_call (VisitCall worker.owner) node);
}

-- entries are committed in order
abbrev pub commit_move : Option ℕ → ℕ → Worker → NodeView → Moved
commit_move None number worker node = record {
  turn = Committed number;
  worker = without_entry worker;
  node = after_call (CommitCall worker.owner (Applied number)) node;
}
commit_move (Some earlier) number worker node = nothing_done (OrderWait earlier) worker node

-- a transaction whose statements are done is committed
abbrev pub done_move : Option ℕ → Worker → NodeView → Moved
done_move None worker node = nothing_done (Nothing (applied_of node.history)) worker node
done_move (Some number) worker node = commit_move (earlier_open (applied_of node.history) number) number worker node

abbrev pub begin_move : Option ℕ → Option ℕ → List Entry → Worker → NodeView → Moved
begin_move None left log worker node = take_move left log worker node
begin_move (Some number) left log worker node = take_again (earlier_open (applied_of node.history) number) number log worker node

abbrev pub idle_move : Bool → Option ℕ → List Entry → Worker → NodeView → Moved
idle_move true left log worker node = done_move worker.entry worker node
idle_move false left log worker node = begin_move worker.entry left log worker node

abbrev pub walking_move : Option Walk → Option ℕ → List Entry → Worker → NodeView → Moved
walking_move (Some walk) left log worker node = visit_move (next_statement worker.started worker.entry log) worker node
walking_move None left log worker node = idle_move (is_some (txn_of worker.owner.0 node.txns)) left log worker node

-- the next move of a worker, where this entry is left to take
abbrev pub worker_move : Option ℕ → List Entry → Worker → NodeView → Moved
worker_move left log worker node = walking_move (walk_of worker.owner.0 node.txns) left log worker node

-- what a worker of an applier did, and what this left of the applier and of its replica
pub record Turned : Type 0 where
  pub turn : Turn
  pub workers : List Worker
  pub node : NodeView

-- the worker at a place has moved
abbrev pub turned : ℕ → List Worker → Moved → Turned
turned place workers moved = record { turn = moved.turn; workers = slice_set workers place moved.worker; node = moved.node }

abbrev pub turned_at : ℕ → Option Worker → List Entry → List Worker → NodeView → Turned
turned_at place None log workers node = record { turn = Nothing (applied_of node.history); workers = workers; node = node }
turned_at place (Some worker) log workers node =
    turned place workers (worker_move (entry_left (applied_of node.history) (length log) workers) log worker node)

-- the next move of a worker of this number; its source has this log
abbrev pub next_move : ℕ → List Entry → ApplierView → NodeView → Turned
next_move worker log applier node =
    cond applier.stopped (record { turn = Stopped; workers = applier.workers; node = node })
    (turned_at (worker - 1) (slice_get applier.workers (worker - 1)) log applier.workers node)

-- A stop: whether it changed anything, and what it left.

pub record Switched : Type 0 where
  pub changed : Bool
  pub applier : ApplierView
  pub node : NodeView

-- the transactions of all workers are rolled back
abbrev pub all_ended : List Worker → NodeView → NodeView
all_ended [] node = node
all_ended (worker ∷ workers) node = all_ended workers (ended worker.owner.0 node)

-- the workers' transactions are rolled back, and they give their entries back
abbrev pub stop_move : ApplierView → NodeView → Switched
stop_move applier node =
    cond applier.stopped (record { changed = false; applier = applier; node = node })
    (record { changed = true; applier = record applier { stopped = true; workers = map without_entry applier.workers }; node = all_ended applier.workers node })
