-- Each actor of a round whose turn moves nothing is told.
use Rattle.std.proofs.Common.{◌≡◌, ◌∙◌, ◌⊎◌, ℕ, suc, ◌-◌, ◌<◌, ◌≤◌, ◌==◌, ◌&&◌, Bool, true, false, cond, List, Option, None, Some, length, ap, sym, subst, arith}
use Rattle.std.specs.Prelude.{nat_lt, nat_le}
use Rattle.std.specs.List.{slice_get}
use Rattle.std.proofs.lemmas.Bool.Decides.{nat_tests}
use Rattle.statement_log.specs.declared.entries.Entry.{Entry}
use Rattle.history.specs.Replay.{applied_of}
use Rattle.lock_table.proofs.HoldLemmas.{other_number}
use Rattle.node_model.specs.Txns.{txn_of}
use Rattle.session.specs.Sessions.{SessionView}
use Rattle.session.specs.Moves.{next_move}
use Rattle.session_laws.specs.Standing.{Stands}
use Rattle.applier.specs.declared.workers.Worker.{Worker}
use Rattle.applier.specs.Appliers.{entry_of, entry_left}
use Rattle.applier.specs.Moves as worker_moves
use Rattle.applier_laws.proofs.ListLemmas.{got_within}
use Rattle.applier_laws.proofs.TeamLemmas.{Works}
use Rattle.workload.specs.declared.actors.Actor.{Actor}
use Rattle.workload.specs.declared.actors.Actor.TheVariants as a
use Rattle.trace_text.specs.declared.notes.Note.{Note}
use Rattle.turn_notes.specs.declared.actors.Place.TheVariants.{Source, Replica}
use Rattle.turn_notes.specs.Notes.{session_note, applier_note, has_moved}
use Rattle.world_model.specs.Worlds.{WorldView, ReplicaView}
use Rattle.world_model.specs.Turns.{off, session_at, ReplicaTurned, off_there, local_at, local_turn, worker_turned, worker_turn, replica_at, on_replica, turn}
use Rattle.world_model.specs.Ends.{SessionIsFinished, WorkerIsFinished, LocalIsFinished}
use Rattle.run_laws.specs.Finished.{IsTold}
use Rattle.run_laws.proofs.ListLemmas.{before, got_before}
use Rattle.run_laws.proofs.SessionLemmas.{Says, session_says}
use Rattle.run_laws.proofs.ToolLemmas.{tool_says}
use Rattle.run_laws.proofs.WorkerLemmas.{worker_says}

abbrev pub IsStillActor : WorldView → Actor → Type 0
IsStillActor world actor = has_moved (turn actor world).note ≡ false

-- what is said of a note, and of who finished
abbrev SaysIf : Note → Type 0 → Type 0
SaysIf note P = has_moved note ≡ false → Says note P

not_zero : (place : ℕ) → (suc place == 0) ≡ false
not_zero place = other_number (suc place) 0 (λ is. absurd (omega (arith, is)))

pub session_told : (world : WorldView) (place : ℕ) (session : SessionView) → slice_get world.sessions place ≡ Some session → Stands session world.source → IsStillActor world (a.Session (suc place))
    → IsTold world (a.Session (suc place))
session_told world place session found stands =
    subst (λ (note : Note). SaysIf note (SessionIsFinished (slice_get world.sessions (suc place - 1)))) (sym note_is)
    (subst (λ (o : Option SessionView). SaysIf (session_note Source (next_move world.options.retries session world.source).turn) (SessionIsFinished o)) (sym there)
    (session_says Source world.options.retries session world.source stands))
  where
    there : slice_get world.sessions (suc place - 1) ≡ Some session
    there = got_before world.sessions place session found

    note_is : (turn (a.Session (suc place)) world).note ≡ session_note Source (next_move world.options.retries session world.source).turn
    note_is =
        ap (λ (b : Bool). (cond b (off world) (session_at (suc place - 1) (slice_get world.sessions (suc place - 1)) world)).note) (not_zero place)
        ∙ ap (λ (o : Option SessionView). (session_at (suc place - 1) o world).note) there

pub tool_told : (world : WorldView) → IsStillActor world a.Tool → IsTold world a.Tool
tool_told world = tool_says world.tool world.source

-- on a replica
there_note : (world : WorldView) (place : ℕ) (replica : ReplicaView) (turn_there : ReplicaView → ReplicaTurned) → slice_get world.replicas (suc place - 1) ≡ Some replica
    → (on_replica (suc place) turn_there world).note ≡ (turn_there replica).note
there_note world place replica turn_there there =
    ap (λ (b : Bool). (cond b (off world) (replica_at (suc place - 1) (slice_get world.replicas (suc place - 1)) turn_there world)).note) (not_zero place)
    ∙ ap (λ (o : Option ReplicaView). (replica_at (suc place - 1) o turn_there world).note) there

pub local_told : (world : WorldView) (number place : ℕ) (replica : ReplicaView) (session : SessionView) → slice_get world.replicas number ≡ Some replica → slice_get replica.locals place ≡ Some session
    → Stands session replica.node → IsStillActor world (a.Local (suc number) (suc place)) → IsTold world (a.Local (suc number) (suc place))
local_told world number place replica session found_there found stands =
    subst (λ (note : Note). SaysIf note (LocalIsFinished (suc place) (slice_get world.replicas (suc number - 1)))) (sym note_is)
    (subst (λ (o : Option ReplicaView). SaysIf note (LocalIsFinished (suc place) o)) (sym there)
    (subst (λ (o : Option SessionView). SaysIf note (SessionIsFinished o)) (sym here)
    (session_says (Replica (suc number)) world.options.retries session replica.node stands)))
  where
    note : Note
    note = session_note (Replica (suc number)) (next_move world.options.retries session replica.node).turn

    there : slice_get world.replicas (suc number - 1) ≡ Some replica
    there = got_before world.replicas number replica found_there

    here : slice_get replica.locals (suc place - 1) ≡ Some session
    here = got_before replica.locals place session found

    note_is : (turn (a.Local (suc number) (suc place)) world).note ≡ note
    note_is =
        there_note world number replica (local_turn (suc number) world.options.retries (suc place)) there
        ∙ ap (λ (b : Bool). (cond b (off_there replica) (local_at (suc number) world.options.retries (suc place - 1) (slice_get replica.locals (suc place - 1)) replica)).note) (not_zero place)
        ∙ ap (λ (o : Option SessionView). (local_at (suc number) world.options.retries (suc place - 1) o replica).note) here

both : (place count : ℕ) → place < count → (nat_lt 0 (suc place) && nat_le (suc place) count) ≡ true
both place count within = grind (arith, nat_tests)

pub worker_told : (world : WorldView) (number place : ℕ) (replica : ReplicaView) (worker : Worker) → slice_get world.replicas number ≡ Some replica → replica.applier.stopped ≡ false
    → slice_get replica.applier.workers place ≡ Some worker
    → Works world.source.history (applied_of replica.node.history) worker.entry worker.started (txn_of worker.owner.0 replica.node.txns)
    → IsStillActor world (a.Worker (suc number) (suc place)) → IsTold world (a.Worker (suc number) (suc place))
worker_told world number place replica worker found_there running found works =
    subst (λ (note : Note). SaysIf note (WorkerIsFinished (suc place) log (slice_get world.replicas (suc number - 1)))) (sym note_is)
    (subst (λ (o : Option ReplicaView). SaysIf note (WorkerIsFinished (suc place) log o)) (sym there)
    (subst (λ (p : ℕ). SaysIf note ((length log ≤ applied_of replica.node.history) ⊎ ((entry_of (slice_get replica.applier.workers p) ≡ None) × (entry_left (applied_of replica.node.history) (length log) replica.applier.workers ≡ None))))
    (sym (before place))
    (worker_says (suc number) place log replica.applier replica.node worker running found works)))
  where
    log : List Entry
    log = world.source.history

    note : Note
    note = applier_note (suc number) (worker_moves.next_move (suc place) log replica.applier replica.node).turn

    there : slice_get world.replicas (suc number - 1) ≡ Some replica
    there = got_before world.replicas number replica found_there

    note_is : (turn (a.Worker (suc number) (suc place)) world).note ≡ note
    note_is =
        there_note world number replica (worker_turn (suc number) (suc place) log) there
        ∙ ap (λ (b : Bool). (cond b (worker_turned (suc number) (worker_moves.next_move (suc place) log replica.applier replica.node) replica) (off_there replica)).note)
        (both place (length replica.applier.workers) (got_within replica.applier.workers place worker found))
