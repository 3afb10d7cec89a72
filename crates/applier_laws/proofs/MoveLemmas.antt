-- What holds of a replica's workers holds after the next move of each.
use Rattle.std.proofs.Common.{◌≡◌, inl, inr, ℕ, ◌+◌, ◌-◌, Bool, true, false, cond, List, Option, None, Some, length, refl, sym, subst, arith}
use Rattle.std.specs.Prelude.{is_some, nat_lt, option_and_then}
use Rattle.std.specs.List.{slice_get}
use Rattle.statement_log.specs.declared.entries.Entry.{Entry}
use Rattle.history.specs.Replay.{applied_of}
use Rattle.history.proofs.ReplayLemmas.{follows_within}
use Rattle.node_model.specs.declared.txns.Walk.{Walk}
use Rattle.node_model.specs.declared.txns.Txn.{Txn}
use Rattle.node_model.specs.Txns.{txn_of}
use Rattle.node_model.specs.Node.{NodeView}
use Rattle.node_parts.specs.Views.{walk_of}
use Rattle.applier.specs.declared.turns.Turn.TheVariants.{Stopped}
use Rattle.applier.specs.declared.workers.Worker.{Worker}
use Rattle.applier.specs.Appliers.{ApplierView, next_statement, entry_left}
use Rattle.applier.specs.Moves.{Moved, Turned, take_move, take_again, visit_move, done_move, begin_move, idle_move, walking_move, worker_move, turned_at, next_move}
use Rattle.applier_laws.proofs.ListLemmas.{is_at, left_is}
use Rattle.applier_laws.proofs.TxnLemmas.{still_passes}
use Rattle.applier_laws.proofs.TeamLemmas.{HasEntry, Works, Holds, stepped_holds}
use Rattle.applier_laws.proofs.TurnLemmas.{Good, calm_steps, took_good, visit_good, commit_good}

-- the next move, by the worker's entry and its transaction

abbrev walking_by : Option Walk → Bool → Option ℕ → Option ℕ → List Entry → Worker → NodeView → Moved
walking_by (Some walk) begun entry left log worker node = visit_move (next_statement worker.started entry log) worker node
walking_by None true entry left log worker node = done_move entry worker node
walking_by None false entry left log worker node = begin_move entry left log worker node

abbrev move_by : Option ℕ → Option Txn → Option ℕ → List Entry → Worker → NodeView → Moved
move_by entry txn left log worker node = walking_by (option_and_then (λ (t : Txn). t.current) txn) (is_some txn) entry left log worker node

walking_same : (walk : Option Walk) (left : Option ℕ) (log : List Entry) (worker : Worker) (node : NodeView)
    → walking_by walk (is_some (txn_of worker.owner.0 node.txns)) worker.entry left log worker node ≡ walking_move walk left log worker node
walking_same (Some walk) left log worker node = refl
walking_same None left log worker node = at (is_some (txn_of worker.owner.0 node.txns))
  where
    at : (begun : Bool) → walking_by None begun worker.entry left log worker node ≡ idle_move begun left log worker node
    at true = refl
    at false = refl

move_good : (count : ℕ) (log : List Entry) (workers : List Worker) (node : NodeView) (place : ℕ) (worker : Worker) → Holds count log node.history workers node.txns → slice_get workers place ≡ Some worker
    → Good log workers node worker (worker_move (entry_left (applied_of node.history) (length log) workers) log worker node)
move_good count log workers node place worker h here =
    subst (Good log workers node worker) (walking_same (walk_of worker.owner.0 node.txns) left log worker node) (at worker.entry (txn_of worker.owner.0 node.txns) refl refl (h.works place worker here))
  where
    left : Option ℕ
    left = entry_left (applied_of node.history) (length log) workers

    still : (entry : Option ℕ) (txn : Option Txn) → worker.entry ≡ entry → txn_of worker.owner.0 node.txns ≡ txn → Works log (applied_of node.history) entry worker.started txn
        → Works log (applied_of node.history) worker.entry worker.started (txn_of worker.owner.0 node.txns)
    still entry txn has found works =
        subst (λ (o : Option ℕ). Works log (applied_of node.history) o worker.started (txn_of worker.owner.0 node.txns)) (sym has) (subst (Works log (applied_of node.history) entry worker.started) (sym found) works)

    takes : (o : Option ℕ) → left ≡ o → worker.entry ≡ None → txn_of worker.owner.0 node.txns ≡ None → Good log workers node worker (take_move o log worker node)
    takes None e has none = calm_steps log node.history workers node.txns node.txns worker h.follows (still_passes worker.owner.0 node.txns) (still None None has none refl)
    takes (Some number) e has none =
        let within = follows_within log node.history h.follows in
        let is = left_is (applied_of node.history) (length log) number workers within e in
        let least = is.least in
        let most = is.most in
        let entry = is_at log (number - 1) (omega (arith, least, most)) in
        took_good log workers node worker number entry.item h.follows (omega (arith, least)) entry.found (inr is.free) none

    again : (b : Bool) (number : ℕ) → worker.entry ≡ Some number → txn_of worker.owner.0 node.txns ≡ None → HasEntry log (applied_of node.history) number worker.started None
        → Good log workers node worker (take_again (cond b (Some (applied_of node.history + 1)) None) number log worker node)
    again true number has none works = calm_steps log node.history workers node.txns node.txns worker h.follows (still_passes worker.owner.0 node.txns) (still (Some number) None has none works)
    again false number has none works = took_good log workers node worker number works.entry h.follows works.later works.found (inl has) none

    goes_on : (number : ℕ) (txn : Txn) (walk : Option Walk) → txn.current ≡ walk → worker.entry ≡ Some number → txn_of worker.owner.0 node.txns ≡ Some txn
        → HasEntry log (applied_of node.history) number worker.started (Some txn) → Good log workers node worker (walking_by walk true (Some number) left log worker node)
    goes_on number txn (Some walk) current has found works =
        subst (λ (e : Option ℕ). Good log workers node worker (visit_move (next_statement worker.started e log) worker node)) has
        (visit_good log workers node worker number txn walk h.follows has works found current)
    goes_on number txn None idle has found works = commit_good log workers node worker number txn h.logged h.follows has works found idle

    at : (entry : Option ℕ) (txn : Option Txn) → worker.entry ≡ entry → txn_of worker.owner.0 node.txns ≡ txn → Works log (applied_of node.history) entry worker.started txn
        → Good log workers node worker (move_by entry txn left log worker node)
    at None None has found works = takes left refl has found
    at None (Some txn) has found works = absurd (let q : Some txn ≡ None = works in cc)
    at (Some number) None has found works = again (nat_lt (applied_of node.history + 1) number) number has found works
    at (Some number) (Some txn) has found works = goes_on number txn txn.current refl has found works

pub turn_holds : (count number : ℕ) (log : List Entry) (applier : ApplierView) (node : NodeView) → Holds count log node.history applier.workers node.txns
    → Holds count log (next_move number log applier node).node.history (next_move number log applier node).workers (next_move number log applier node).node.txns
turn_holds count number log applier node h = by_stop applier.stopped
  where
    by_worker : (worker : Option Worker) → slice_get applier.workers (number - 1) ≡ worker → Holds count log (turned_at (number - 1) worker log applier.workers node).node.history
        (turned_at (number - 1) worker log applier.workers node).workers (turned_at (number - 1) worker log applier.workers node).node.txns
    by_worker None found = h
    by_worker (Some worker) found =
        let m : Moved = worker_move (entry_left (applied_of node.history) (length log) applier.workers) log worker node in
        stepped_holds count log node.history applier.workers node.txns (number - 1) worker m.worker m.node.history m.node.txns h found
        (move_good count log applier.workers node (number - 1) worker h found)

    still : Turned
    still = record { turn = Stopped; workers = applier.workers; node = node }

    moves : Turned
    moves = turned_at (number - 1) (slice_get applier.workers (number - 1)) log applier.workers node

    by_stop : (b : Bool) → Holds count log (cond {A = Turned} b still moves).node.history (cond {A = Turned} b still moves).workers (cond {A = Turned} b still moves).node.txns
    by_stop true = h
    by_stop false = by_worker (slice_get applier.workers (number - 1)) refl
