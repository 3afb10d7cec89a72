-- A worker whose turn moves nothing waits, or has no entry and finds none to take.
use Rattle.std.proofs.Common.{◌≡◌, ◌∙◌, ◌⊎◌, inl, inr, ℕ, suc, ◌-◌, ◌<◌, ◌≤◌, Bool, false, cond, List, Option, None, Some, length, refl, ap, sym, subst, arith}
use Rattle.std.specs.Prelude.{is_some, option_and_then}
use Rattle.std.specs.List.{slice_get}
use Rattle.ptc_statement.specs.declared.statements.Statement.{Statement}
use Rattle.statement_log.specs.declared.entries.Entry.{Entry}
use Rattle.history.specs.Replay.{applied_of}
use Rattle.node_model.specs.declared.txns.Walk.{Walk}
use Rattle.node_model.specs.declared.txns.Txn.{Txn}
use Rattle.node_model.specs.Txns.{txn_of}
use Rattle.node_model.specs.Node.{NodeView}
use Rattle.node_visits.specs.Answers.{visit_answer}
use Rattle.node_parts.specs.Views.{walk_of}
use Rattle.applier.specs.declared.turns.Turn.{Turn}
use Rattle.applier.specs.declared.turns.Turn.TheVariants.{Stopped}
use Rattle.applier.specs.declared.workers.Worker.{Worker}
use Rattle.applier.specs.Appliers.{ApplierView, statement_behind, next_statement, entry_of, entry_left, earlier_open}
use Rattle.applier.specs.Moves.{took, take_move, take_again, visit_move, commit_move, done_move, begin_move, idle_move, walking_move, worker_move, turned_at, next_move}
use Rattle.applier_laws.proofs.ListLemmas.{got_within}
use Rattle.applier_laws.proofs.TeamLemmas.{HasEntry, Works}
use Rattle.turn_notes.specs.declared.actors.Place.TheVariants.{Replica}
use Rattle.turn_notes.specs.Notes.{applier_note, has_moved}
use Rattle.run_laws.proofs.SessionLemmas.{Says, no_move, waits}

-- a worker with this entry, where this one is left to take; so many of the log's entries were applied
abbrev pub Done : List Entry → ℕ → Option ℕ → Option ℕ → Type 0
Done log applied entry left = (length log ≤ applied) ⊎ ((entry ≡ None) × (left ≡ None))

abbrev SaysOf : ℕ → List Entry → NodeView → Worker → Option ℕ → Turn → Type 0
SaysOf number log node worker left turn = Says (applier_note number turn) (Done log (applied_of node.history) worker.entry left)

-- a worker with an entry has not finished
not_done : (log : List Entry) (applied : ℕ) (entry left : Option ℕ) (started : ℕ) (txn : Option Txn) (number : ℕ) → entry ≡ Some number → Works log applied entry started txn → Done log applied entry left → ⊥
not_done log applied entry left started txn number has works done = at (subst (λ (e : Option ℕ). Works log applied e started txn) has works) done
  where
    at : HasEntry log applied number started txn → Done log applied entry left → ⊥
    at h (inl all) =
        let later : applied < number = h.later in
        let within : number - 1 < length log = got_within log (number - 1) h.entry h.found in
        absurd (omega (arith, later, within, all))
    at h (inr none) = let q : None ≡ Some number = sym none.0 ∙ has in absurd (cc)

idle_entry : (log : List Entry) (applied : ℕ) (entry : Option ℕ) (started : ℕ) (txn : Txn) {P : Type 0} → entry ≡ None → Works log applied entry started (Some txn) → P
idle_entry log applied entry started txn none works =
    let q : Some txn ≡ None = subst (λ (e : Option ℕ). Works log applied e started (Some txn)) none works in
    absurd (cc)

took_moves : (number entry : ℕ) (statement : Option Statement) (worker : Worker) (node : NodeView) {P : Type 0} → has_moved (applier_note number (took entry statement worker node).turn) ≡ false → P
took_moves number entry None worker node still = no_move still
took_moves number entry (Some statement) worker node still = no_move still

take_says : (number : ℕ) (left : Option ℕ) (log : List Entry) (worker : Worker) (node : NodeView) → worker.entry ≡ None
    → has_moved (applier_note number (take_move left log worker node).turn) ≡ false → SaysOf number log node worker left (take_move left log worker node).turn
take_says number None log worker node none still = (λ why. inr (none, refl), λ reason some. absurd (cc))
take_says number (Some entry) log worker node none still = took_moves number entry (statement_behind 0 entry log) worker node still

again_says : (number : ℕ) (earlier : Option ℕ) (entry : ℕ) (log : List Entry) (worker : Worker) (node : NodeView) (left : Option ℕ) → (Done log (applied_of node.history) worker.entry left → ⊥)
    → has_moved (applier_note number (take_again earlier entry log worker node).turn) ≡ false → SaysOf number log node worker left (take_again earlier entry log worker node).turn
again_says number None entry log worker node left not_yet still = took_moves number entry (statement_behind 0 entry log) worker node still
again_says number (Some earlier) entry log worker node left not_yet still = (λ none. absurd (cc), λ reason some. not_yet)

commit_says : (number : ℕ) (earlier : Option ℕ) (entry : ℕ) (log : List Entry) (worker : Worker) (node : NodeView) (left : Option ℕ) → (Done log (applied_of node.history) worker.entry left → ⊥)
    → has_moved (applier_note number (commit_move earlier entry worker node).turn) ≡ false → SaysOf number log node worker left (commit_move earlier entry worker node).turn
commit_says number None entry log worker node left not_yet still = no_move still
commit_says number (Some earlier) entry log worker node left not_yet still = (λ none. absurd (cc), λ reason some. not_yet)

done_says : (number : ℕ) (entry : Option ℕ) (log : List Entry) (worker : Worker) (node : NodeView) (left : Option ℕ) (txn : Txn) → worker.entry ≡ entry → Works log (applied_of node.history) worker.entry worker.started (Some txn)
    → has_moved (applier_note number (done_move entry worker node).turn) ≡ false → SaysOf number log node worker left (done_move entry worker node).turn
done_says number None log worker node left txn is works still = idle_entry log (applied_of node.history) worker.entry worker.started txn is works
done_says number (Some entry) log worker node left txn is works still =
    commit_says number (earlier_open (applied_of node.history) entry) entry log worker node left (not_done log (applied_of node.history) worker.entry left worker.started (Some txn) entry is works) still

begin_says : (number : ℕ) (entry : Option ℕ) (log : List Entry) (worker : Worker) (node : NodeView) (left : Option ℕ) (txn : Option Txn) → worker.entry ≡ entry → Works log (applied_of node.history) worker.entry worker.started txn
    → has_moved (applier_note number (begin_move entry left log worker node).turn) ≡ false → SaysOf number log node worker left (begin_move entry left log worker node).turn
begin_says number None log worker node left txn is works still = take_says number left log worker node is still
begin_says number (Some entry) log worker node left txn is works still =
    again_says number (earlier_open (applied_of node.history) entry) entry log worker node left (not_done log (applied_of node.history) worker.entry left worker.started txn entry is works) still

idle_says : (number : ℕ) (log : List Entry) (worker : Worker) (node : NodeView) (left : Option ℕ) (txn : Option Txn) → Works log (applied_of node.history) worker.entry worker.started txn
    → has_moved (applier_note number (idle_move (is_some txn) left log worker node).turn) ≡ false → SaysOf number log node worker left (idle_move (is_some txn) left log worker node).turn
idle_says number log worker node left (Some txn) works still = done_says number worker.entry log worker node left txn refl works still
idle_says number log worker node left None works still = begin_says number worker.entry log worker node left None refl works still

-- a worker with a statement in progress has an entry
abbrev walk_in : Option Txn → Option Walk
walk_in = option_and_then (λ (t : Txn). t.current)

walks_not_done : (log : List Entry) (applied : ℕ) (entry left : Option ℕ) (started : ℕ) (txn : Option Txn) (walk : Walk) → walk_in txn ≡ Some walk → Works log applied entry started txn → Done log applied entry left → ⊥
walks_not_done log applied None left started txn walk walks works done = let q : None ≡ Some walk = sym (ap walk_in works) ∙ walks in absurd (cc)
walks_not_done log applied (Some number) left started txn walk walks works done = not_done log applied (Some number) left started txn number refl works done

visit_says : (number : ℕ) (next : Option Statement) (log : List Entry) (worker : Worker) (node : NodeView) (left : Option ℕ) → (Done log (applied_of node.history) worker.entry left → ⊥)
    → has_moved (applier_note number (visit_move next worker node).turn) ≡ false → SaysOf number log node worker left (visit_move next worker node).turn
visit_says number None log worker node left not_yet still = waits (Replica number) (visit_answer worker.owner.0 node) (Done log (applied_of node.history) worker.entry left) not_yet still
visit_says number (Some next) log worker node left not_yet still = waits (Replica number) (visit_answer worker.owner.0 node) (Done log (applied_of node.history) worker.entry left) not_yet still

walking_says : (number : ℕ) (walk : Option Walk) (log : List Entry) (worker : Worker) (node : NodeView) (left : Option ℕ) → walk_of worker.owner.0 node.txns ≡ walk
    → Works log (applied_of node.history) worker.entry worker.started (txn_of worker.owner.0 node.txns)
    → has_moved (applier_note number (walking_move walk left log worker node).turn) ≡ false → SaysOf number log node worker left (walking_move walk left log worker node).turn
walking_says number (Some walk) log worker node left walks works still =
    visit_says number (next_statement worker.started worker.entry log) log worker node left
    (walks_not_done log (applied_of node.history) worker.entry left worker.started (txn_of worker.owner.0 node.txns) walk walks works) still
walking_says number None log worker node left walks works still = idle_says number log worker node left (txn_of worker.owner.0 node.txns) works still

-- the worker at this place of an applier that is not stopped
pub worker_says : (number place : ℕ) (log : List Entry) (applier : ApplierView) (node : NodeView) (worker : Worker) → applier.stopped ≡ false → slice_get applier.workers place ≡ Some worker
    → Works log (applied_of node.history) worker.entry worker.started (txn_of worker.owner.0 node.txns)
    → has_moved (applier_note number (next_move (suc place) log applier node).turn) ≡ false
    → Says (applier_note number (next_move (suc place) log applier node).turn)
    ((length log ≤ applied_of node.history) ⊎ ((entry_of (slice_get applier.workers place) ≡ None) × (entry_left (applied_of node.history) (length log) applier.workers ≡ None)))
worker_says number place log applier node worker running found works =
    subst (λ (t : Turn). has_moved (applier_note number t) ≡ false → Says (applier_note number t) (Finishes (slice_get applier.workers place))) (sym turn_is)
    (subst (λ (o : Option Worker). has_moved (applier_note number moved) ≡ false → Says (applier_note number moved) (Finishes o)) (sym found)
    (walking_says number (walk_of worker.owner.0 node.txns) log worker node left refl works))
  where
    left : Option ℕ
    left = entry_left (applied_of node.history) (length log) applier.workers

    Finishes : Option Worker → Type 0
    Finishes o = (length log ≤ applied_of node.history) ⊎ ((entry_of o ≡ None) × (left ≡ None))

    moved : Turn
    moved = (worker_move left log worker node).turn

    turn_is : (next_move (suc place) log applier node).turn ≡ moved
    turn_is =
        ap (λ (b : Bool). (cond b (record { turn = Stopped; workers = applier.workers; node = node }) (turned_at (suc place - 1) (slice_get applier.workers (suc place - 1)) log applier.workers node)).turn) running
        ∙ ap (λ (p : ℕ). (turned_at p (slice_get applier.workers p) log applier.workers node).turn) (let same : suc place - 1 ≡ place = omega arith in same)
        ∙ ap (λ (o : Option Worker). (turned_at place o log applier.workers node).turn) found
