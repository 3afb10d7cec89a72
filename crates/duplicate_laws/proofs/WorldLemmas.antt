-- What is known of each session of a world, after each item that is played.
use Rattle.std.proofs.Common.{◌≡◌, ◌∙◌, ℕ, zero, suc, ◌+◌, ◌-◌, ◌≤◌, ◌==◌, Bool, true, false, cond, List, [], ◌∷◌, Option, None, Some, length, refl, ap, sym, subst, arith}
use Rattle.std.specs.Prelude.{slice_set}
use Rattle.std.specs.List.{slice_get}
use Rattle.std.proofs.lemmas.List.{length-set}
use Rattle.row_types.specs.declared.values.Value.{Value}
use Rattle.statement_log.specs.declared.entries.Entry.{Entry}
use Rattle.lock_table.proofs.HoldLemmas.{number_apart}
use Rattle.node_visits.specs.declared.visits.Visit.TheVariants.{Duplicate}
use Rattle.session.specs.declared.stages.SessionTurn.TheVariants.{Visited}
use Rattle.session.specs.Sessions.{SessionView}
use Rattle.session.specs.Moves.{next_move}
use Rattle.applier.specs.Moves as applier
use Rattle.checksum_tool.specs.Moves as tool
use Rattle.turn_laws.specs.Stays.{owners_of}
use Rattle.turn_laws.proofs.StayLemmas.{appliers_stay}
use Rattle.workload.specs.declared.actors.Actor.{Actor}
use Rattle.workload.specs.declared.actors.Actor.TheVariants as a
use Rattle.workload.specs.declared.schedule.Item.{Item}
use Rattle.workload.specs.declared.schedule.Item.TheVariants as i
use Rattle.trace_text.specs.declared.notes.Note.TheVariants as note
use Rattle.turn_notes.specs.declared.actors.Place.TheVariants.{Source, Replica}
use Rattle.turn_notes.specs.Notes.{session_note}
use Rattle.world_model.specs.Worlds.{WorldView, ReplicaView}
use Rattle.world_model.specs.Turns.{off, session_at, session_turn, tool_turn, ReplicaTurned, off_there, local_at, local_turn, worker_turned, is_worker, worker_turn, replica_at, on_replica, turn, move, line_of, written_if, is_written, stepped}
use Rattle.duplicate_laws.specs.Duplicates.{Seat, seat_on, local_seat, seat_of, MeetsKey}
use Rattle.duplicate_laws.proofs.MeetLemmas.{meets_key}
use Rattle.duplicate_laws.proofs.OtherLemmas.{AreAbove, tool_spares, workers_spare}
use Rattle.duplicate_laws.proofs.HereLemmas.{TellsRefusal, AreHere, told_more, spared, here_at, turned}

-- a replica: its local sessions, its few of them, and its workers, which hold locks as 201 and so on
pub record IsThere (told : ℕ → ℕ → Type 0) (replica : ReplicaView) : Type 0 where
  pub here : AreHere told replica.node 1 replica.locals
  pub few : length replica.locals ≤ 16
  pub workers : AreAbove (owners_of replica.applier.workers)

abbrev pub AreThere : (ℕ → ℕ → ℕ → Type 0) → ℕ → List ReplicaView → Type 0
AreThere told number [] = Unit {0}
AreThere told number (replica ∷ replicas) = IsThere (told number) replica × AreThere told (number + 1) replicas

-- the source's sessions, and those of replicas: their refused lines are told by who they are
pub record WorldHere (told : Actor → ℕ → Type 0) (world : WorldView) : Type 0 where
  pub source : AreHere (λ (number line : ℕ). told (a.Session number) line) world.source 1 world.sessions
  pub replicas : AreThere (λ (number local line : ℕ). told (a.Local number local) line) 1 world.replicas

-- a turn of the actor that refuses a line tells so
abbrev pub TellsTurn : (Actor → ℕ → Type 0) → WorldView → Actor → Type 0
TellsTurn told world actor = (seat : Seat) (number : ℕ) → seat_of actor world ≡ Some seat → MeetsKey seat number → (turn actor world).note ≡ note.Duplicate → told actor number

from_one : (number : ℕ) → (number == 0) ≡ false → number ≡ 1 + (number - 1)
from_one zero is = absurd (number_apart 0 0 is refl)
from_one (suc number) is = omega arith

-- On the source.

session_here : (told : Actor → ℕ → Type 0) (world : WorldView) (number : ℕ) (session : SessionView) → (number == 0) ≡ false → slice_get world.sessions (number - 1) ≡ Some session
    → TellsTurn told world (a.Session number) → WorldHere told world → WorldHere told (session_at (number - 1) (Some session) world).world
session_here told world number session some found tells h = record {
  source = turned mine world.options.retries world.source (number - 1) number world.sessions session found (from_one number some) refuses h.source;
  replicas = h.replicas;
}
  where
    mine : ℕ → ℕ → Type 0
    mine = λ (one line : ℕ). told (a.Session one) line

    noted : (key : List Value) → (next_move world.options.retries session world.source).turn ≡ Visited (Duplicate key) → (turn (a.Session number) world).note ≡ note.Duplicate
    noted key turn_is =
        ap (λ (b : Bool). (cond b (off world) (session_at (number - 1) (slice_get world.sessions (number - 1)) world)).note) some
        ∙ ap (λ (o : Option SessionView). (session_at (number - 1) o world).note) found
        ∙ ap (session_note Source) turn_is

    refuses : TellsRefusal (told (a.Session number)) world.options.retries session world.source
    refuses line key next answer turn_is =
        tells (record { session = session; node = world.source }) line.line (ap (seat_on world.source) found)
        (meets_key session world.source line key (here_at mine world.source (number - 1) 1 number world.sessions session found (from_one number some) h.source).linked next answer)
        (noted key turn_is)

session_turn_here : (told : Actor → ℕ → Type 0) (world : WorldView) (number : ℕ) → TellsTurn told world (a.Session number) → WorldHere told world → WorldHere told (session_turn number world).world
session_turn_here told world number tells h = at (number == 0) refl
  where
    there : (number == 0) ≡ false → (found : Option SessionView) → slice_get world.sessions (number - 1) ≡ found → WorldHere told (session_at (number - 1) found world).world
    there some None found = h
    there some (Some session) found = session_here told world number session some found tells h

    at : (b : Bool) → (number == 0) ≡ b → WorldHere told (cond b (off world) (session_at (number - 1) (slice_get world.sessions (number - 1)) world)).world
    at true none = h
    at false some = there some (slice_get world.sessions (number - 1)) refl

tool_turn_here : (told : Actor → ℕ → Type 0) (world : WorldView) → length world.sessions ≤ 64 → WorldHere told world → WorldHere told (tool_turn world).world
tool_turn_here told world few h = record {
  source = spared (λ (number line : ℕ). told (a.Session number) line) world.source (tool.next_move world.tool world.source).node 1 world.sessions
      (λ n least most. tool_spares n world.tool world.source (omega (arith, most, few))) h.source;
  replicas = h.replicas;
}

-- On a replica.

pub there_at : (told : ℕ → ℕ → ℕ → Type 0) (place number theirs : ℕ) (replicas : List ReplicaView) (replica : ReplicaView) → slice_get replicas place ≡ Some replica → theirs ≡ number + place
    → AreThere told number replicas → IsThere (told theirs) replica
there_at told place number theirs [] replica found is are = absurd (cc)
there_at told zero number theirs (other ∷ replicas) replica found is are =
    let same : other ≡ replica = cc in
    let first : number ≡ theirs = omega (arith, is) in
    subst (λ (n : ℕ). IsThere (told n) replica) first (subst (IsThere (told number)) same are.0)
there_at told (suc place) number theirs (other ∷ replicas) replica found is are = there_at told place (number + 1) theirs replicas replica found (omega (arith, is)) are.1

there_set : (told : ℕ → ℕ → ℕ → Type 0) (place number theirs : ℕ) (replicas : List ReplicaView) (new : ReplicaView) → theirs ≡ number + place → IsThere (told theirs) new
    → AreThere told number replicas → AreThere told number (slice_set replicas place new)
there_set told place number theirs [] new is there are = tt
there_set told zero number theirs (other ∷ replicas) new is there are =
    let first : theirs ≡ number = omega (arith, is) in
    (subst (λ (n : ℕ). IsThere (told n) new) first there, are.1)
there_set told (suc place) number theirs (other ∷ replicas) new is there are = (are.0, there_set told place (number + 1) theirs replicas new (omega (arith, is)) there are.1)

on_replica_here : (told : Actor → ℕ → Type 0) (world : WorldView) (number : ℕ) (turn_there : ReplicaView → ReplicaTurned)
    → ((replica : ReplicaView) → (number == 0) ≡ false → slice_get world.replicas (number - 1) ≡ Some replica → IsThere (λ (local line : ℕ). told (a.Local number local) line) replica
    → IsThere (λ (local line : ℕ). told (a.Local number local) line) (turn_there replica).replica)
    → WorldHere told world → WorldHere told (on_replica number turn_there world).world
on_replica_here told world number turn_there stays h = at (number == 0) refl
  where
    all : ℕ → ℕ → ℕ → Type 0
    all = λ (one local line : ℕ). told (a.Local one local) line

    there : (number == 0) ≡ false → (found : Option ReplicaView) → slice_get world.replicas (number - 1) ≡ found → WorldHere told (replica_at (number - 1) found turn_there world).world
    there some None found = h
    there some (Some replica) found = record {
      source = h.source;
      replicas = there_set all (number - 1) 1 number world.replicas (turn_there replica).replica (from_one number some)
          (stays replica some found (there_at all (number - 1) 1 number world.replicas replica found (from_one number some) h.replicas)) h.replicas;
    }

    at : (b : Bool) → (number == 0) ≡ b → WorldHere told (cond b (off world) (replica_at (number - 1) (slice_get world.replicas (number - 1)) turn_there world)).world
    at true none = h
    at false some = there some (slice_get world.replicas (number - 1)) refl

worker_there : (told : ℕ → ℕ → Type 0) (number worker : ℕ) (log : List Entry) (replica : ReplicaView) → IsThere told replica → IsThere told (worker_turn number worker log replica).replica
worker_there told number worker log replica h = at (is_worker worker replica)
  where
    few : length replica.locals ≤ 16
    few = h.few

    at : (b : Bool) → IsThere told (cond b (worker_turned number (applier.next_move worker log replica.applier replica.node) replica) (off_there replica)).replica
    at true = record {
      here = spared told replica.node (applier.next_move worker log replica.applier replica.node).node 1 replica.locals
          (λ n least most. workers_spare n worker log replica.applier replica.node (omega (arith, most, few)) h.workers) h.here;
      few = h.few;
      workers = subst AreAbove (sym (appliers_stay worker log replica.applier replica.node).1) h.workers;
    }
    at false = h

-- a local session of the replica of this number
local_here : (told : Actor → ℕ → Type 0) (world : WorldView) (number local : ℕ) (replica : ReplicaView) (session : SessionView) → (number == 0) ≡ false
    → slice_get world.replicas (number - 1) ≡ Some replica → (local == 0) ≡ false → slice_get replica.locals (local - 1) ≡ Some session → TellsTurn told world (a.Local number local)
    → IsThere (λ (one line : ℕ). told (a.Local number one) line) replica
    → IsThere (λ (one line : ℕ). told (a.Local number one) line) (local_at number world.options.retries (local - 1) (Some session) replica).replica
local_here told world number local replica session some at_place some_local found tells h = record {
  here = turned mine world.options.retries replica.node (local - 1) local replica.locals session found (from_one local some_local) refuses h.here;
  few = subst (λ (count : ℕ). count ≤ 16) (sym (length-set replica.locals (local - 1) (next_move world.options.retries session replica.node).session)) h.few;
  workers = h.workers;
}
  where
    mine : ℕ → ℕ → Type 0
    mine = λ (one line : ℕ). told (a.Local number one) line

    noted : (key : List Value) → (next_move world.options.retries session replica.node).turn ≡ Visited (Duplicate key) → (turn (a.Local number local) world).note ≡ note.Duplicate
    noted key turn_is =
        ap (λ (b : Bool). (cond b (off world) (replica_at (number - 1) (slice_get world.replicas (number - 1)) (local_turn number world.options.retries local) world)).note) some
        ∙ ap (λ (o : Option ReplicaView). (replica_at (number - 1) o (local_turn number world.options.retries local) world).note) at_place
        ∙ ap (λ (b : Bool). (cond b (off_there replica) (local_at number world.options.retries (local - 1) (slice_get replica.locals (local - 1)) replica)).note) some_local
        ∙ ap (λ (o : Option SessionView). (local_at number world.options.retries (local - 1) o replica).note) found
        ∙ ap (session_note (Replica number)) turn_is

    refuses : TellsRefusal (told (a.Local number local)) world.options.retries session replica.node
    refuses line key next answer turn_is =
        tells (record { session = session; node = replica.node }) line.line (ap (local_seat local) at_place ∙ ap (seat_on replica.node) found)
        (meets_key session replica.node line key (here_at mine replica.node (local - 1) 1 local replica.locals session found (from_one local some_local) h.here).linked next answer)
        (noted key turn_is)

local_there : (told : Actor → ℕ → Type 0) (world : WorldView) (number local : ℕ) (replica : ReplicaView) → TellsTurn told world (a.Local number local) → (number == 0) ≡ false
    → slice_get world.replicas (number - 1) ≡ Some replica → IsThere (λ (one line : ℕ). told (a.Local number one) line) replica
    → IsThere (λ (one line : ℕ). told (a.Local number one) line) (local_turn number world.options.retries local replica).replica
local_there told world number local replica tells some at_place h = at (local == 0) refl
  where
    there : (local == 0) ≡ false → (found : Option SessionView) → slice_get replica.locals (local - 1) ≡ found
        → IsThere (λ (one line : ℕ). told (a.Local number one) line) (local_at number world.options.retries (local - 1) found replica).replica
    there some_local None found = h
    there some_local (Some session) found = local_here told world number local replica session some at_place some_local found tells h

    at : (b : Bool) → (local == 0) ≡ b
        → IsThere (λ (one line : ℕ). told (a.Local number one) line) (cond b (off_there replica) (local_at number world.options.retries (local - 1) (slice_get replica.locals (local - 1)) replica)).replica
    at true none = h
    at false some_local = there some_local (slice_get replica.locals (local - 1)) refl

-- Items.

turn_here : (told : Actor → ℕ → Type 0) (world : WorldView) (actor : Actor) → length world.sessions ≤ 64 → TellsTurn told world actor → WorldHere told world → WorldHere told (turn actor world).world
turn_here told world (a.Session number) few tells h = session_turn_here told world number tells h
turn_here told world a.Tool few tells h = tool_turn_here told world few h
turn_here told world (a.Sync number) few tells h = h
turn_here told world (a.Worker number worker) few tells h =
    on_replica_here told world number (worker_turn number worker world.source.history)
    (λ replica some found there. worker_there (λ (local line : ℕ). told (a.Local number local) line) number worker world.source.history replica there) h
turn_here told world (a.Local number local) few tells h =
    on_replica_here told world number (local_turn number world.options.retries local) (λ replica some found there. local_there told world number local replica tells some found there) h

move_here : (told : Actor → ℕ → Type 0) (world : WorldView) (item : Item) → length world.sessions ≤ 64 → ((actor : Actor) → item ≡ i.Turn actor → TellsTurn told world actor)
    → WorldHere told world → WorldHere told (move item world).world
move_here told world (i.Turn actor) few tells h = turn_here told world actor few (tells actor refl) h
move_here told world i.StopTool few tells h = h
move_here told world i.ResumeTool few tells h = h
move_here told world (i.StopReplica number) few tells h = h
move_here told world (i.StartReplica number) few tells h = h

pub step_here : (told : Actor → ℕ → Type 0) (world : WorldView) (item : Item) → length world.sessions ≤ 64 → ((actor : Actor) → item ≡ i.Turn actor → TellsTurn told world actor)
    → WorldHere told world → WorldHere told (stepped item world)
step_here told world item few tells h = at (is_written world (move item world).note)
  where
    moved : WorldHere told (move item world).world
    moved = move_here told world item few tells h

    at : (b : Bool) → WorldHere told (written_if b (line_of item (move item world).note) (move item world).world)
    at true = record { source = moved.source; replicas = moved.replicas }
    at false = moved

-- What is told may say less.

there_more : (told more : ℕ → ℕ → ℕ → Type 0) (number : ℕ) (replicas : List ReplicaView) → ((n local line : ℕ) → told n local line → more n local line) → AreThere told number replicas → AreThere more number replicas
there_more told more number [] less are = tt
there_more told more number (replica ∷ replicas) less are = (
  record { here = told_more (told number) (more number) replica.node 1 replica.locals (less number) are.0.here; few = are.0.few; workers = are.0.workers },
  there_more told more (number + 1) replicas less are.1,
)

pub world_more : (told more : Actor → ℕ → Type 0) (world : WorldView) → ((actor : Actor) (line : ℕ) → told actor line → more actor line) → WorldHere told world → WorldHere more world
world_more told more world less h = record {
  source = told_more (λ (number line : ℕ). told (a.Session number) line) (λ (number line : ℕ). more (a.Session number) line) world.source 1 world.sessions (λ n line is. less (a.Session n) line is) h.source;
  replicas = there_more (λ (number local line : ℕ). told (a.Local number local) line) (λ (number local line : ℕ). more (a.Local number local) line) 1 world.replicas
      (λ n local line is. less (a.Local n local) line is) h.replicas;
}
