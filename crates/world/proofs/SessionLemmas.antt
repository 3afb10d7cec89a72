-- The turn of one of a node's sessions is that of a session of the source, or of a replica's own.
use Rattle.std.proofs.Common.{◌≡◌, ◌≤◌, ◌∙◌, ◌<◌, ℕ, zero, suc, ◌-◌, ◌==◌, Bool, true, false, cond, List, [], ◌∷◌, length, get_or, Option, None, Some, refl, ap, sym, arith}
use Rattle.std.proofs.lemmas.Bool.Decides.{nat_tests}
use Rattle.std.specs.List.{slice_get}
use Rattle.std.specs.Prelude.{slice_set}
use Rattle.node_model.specs.Node.{NodeView}
use Rattle.session.specs.Sessions.{SessionView}
use Rattle.session.specs.declared.stages.SessionTurn.{SessionTurn}
use Rattle.session.specs.Moves.{Moved, next_move}
use Rattle.trace_text.specs.declared.notes.Note.{Note}
use Rattle.turn_notes.specs.declared.actors.Place.{Place}
use Rattle.turn_notes.specs.Notes.{session_note}
use Rattle.turn_notes.specs.declared.actors.Place.TheVariants.{Source, Replica}
use Rattle.world_model.specs.Worlds.{WorldView, ReplicaView}
use Rattle.world_model.specs.Turns.{Turned, off, session_at, session_turn, ReplicaTurned, off_there, local_at, local_turn}
use Rattle.world.specs.SessionTurns.{SessionsTurned, none_turned, one_turned, turned_at, sessions_turned}

abbrev on_source : SessionsTurned → WorldView → Turned
on_source turned world = record { note = turned.note; world = record world { source = turned.node; sessions = turned.sessions } }

abbrev on_node : SessionsTurned → ReplicaView → ReplicaTurned
on_node turned replica = record { note = turned.note; replica = record replica { node = turned.node; locals = turned.sessions } }

source_at : (at : ℕ) (one : Option SessionView) (world : WorldView) → on_source (turned_at Source world.options.retries at one world.sessions world.source) world ≡ session_at at one world
source_at at None world = refl
source_at at (Some one) world = refl

source_if : (b : Bool) (at : ℕ) (world : WorldView)
    → on_source (cond b (none_turned world.sessions world.source) (turned_at Source world.options.retries at (slice_get world.sessions at) world.sessions world.source)) world
    ≡ cond b (off world) (session_at at (slice_get world.sessions at) world)
source_if true at world = refl
source_if false at world = source_at at (slice_get world.sessions at) world

pub source_turn : (number : ℕ) (world : WorldView) (note : Note) (sessions : List SessionView) (node : NodeView)
    → record { note = note; sessions = sessions; node = node } ≡ sessions_turned Source world.options.retries number world.sessions world.source
    → record { note = note; world = record world { source = node; sessions = sessions } } ≡ session_turn number world
source_turn number world note sessions node same = ap (λ (t : SessionsTurned). on_source t world) same ∙ source_if (number == 0) (number - 1) world

node_at : (number retries at : ℕ) (one : Option SessionView) (replica : ReplicaView)
    → on_node (turned_at (Replica number) retries at one replica.locals replica.node) replica ≡ local_at number retries at one replica
node_at number retries at None replica = refl
node_at number retries at (Some one) replica = refl

node_if : (b : Bool) (number retries at : ℕ) (replica : ReplicaView)
    → on_node (cond b (none_turned replica.locals replica.node) (turned_at (Replica number) retries at (slice_get replica.locals at) replica.locals replica.node)) replica
    ≡ cond b (off_there replica) (local_at number retries at (slice_get replica.locals at) replica)
node_if true number retries at replica = refl
node_if false number retries at replica = node_at number retries at (slice_get replica.locals at) replica

pub node_turn : (number retries local : ℕ) (replica : ReplicaView) (note : Note) (sessions : List SessionView) (node : NodeView)
    → record { note = note; sessions = sessions; node = node } ≡ sessions_turned (Replica number) retries local replica.locals replica.node
    → record { note = note; replica = record replica { node = node; locals = sessions } } ≡ local_turn number retries local replica
node_turn number retries local replica note sessions node same = ap (λ (t : SessionsTurned). on_node t replica) same ∙ node_if (local == 0) number retries (local - 1) replica

-- where there is no session of this number

pub none_at : (place : Place) (retries number : ℕ) (sessions : List SessionView) (node : NodeView) → slice_get sessions (number - 1) ≡ None
    → none_turned sessions node ≡ sessions_turned place retries number sessions node
none_at place retries number sessions node none = at (number == 0) ∙ ap (λ (o : Option SessionView). cond (number == 0) (none_turned sessions node) (turned_at place retries (number - 1) o sessions node)) (sym none)
  where
    at : (b : Bool) → none_turned sessions node ≡ cond b (none_turned sessions node) (none_turned sessions node)
    at true = refl
    at false = refl

pub none_zero : (place : Place) (retries number : ℕ) (sessions : List SessionView) (node : NodeView) → number ≡ 0
    → none_turned sessions node ≡ sessions_turned place retries number sessions node
none_zero place retries number sessions node is = ap (λ (n : ℕ). cond (n == 0) (none_turned sessions node) (turned_at place retries (number - 1) (slice_get sessions (number - 1)) sessions node)) (sym is)

is_not : (number : ℕ) → 1 ≤ number → (number == 0) ≡ false
is_not number some = grind (arith, nat_tests)

pub one_at : (place : Place) (retries number : ℕ) (sessions : List SessionView) (node : NodeView) (turned : SessionsTurned) → 1 ≤ number
    → turned ≡ turned_at place retries (number - 1) (slice_get sessions (number - 1)) sessions node
    → turned ≡ sessions_turned place retries number sessions node
one_at place retries number sessions node turned some same =
    same ∙ ap (λ (b : Bool). cond b (none_turned sessions node) (turned_at place retries (number - 1) (slice_get sessions (number - 1)) sessions node)) (sym (is_not number some))

pub turned_one : (place : Place) (retries at : ℕ) (sessions : List SessionView) (one new : SessionView) (node left : NodeView) (turn : SessionTurn)
    → slice_get sessions at ≡ Some one → record { turn = turn; session = new; node = left } ≡ next_move retries one node
    → record { note = session_note place turn; sessions = slice_set sessions at new; node = left } ≡ turned_at place retries at (slice_get sessions at) sessions node
turned_one place retries at sessions one new node left turn found same =
    ap (λ (moved : Moved). one_turned place at moved sessions) same ∙ sym (ap (λ (o : Option SessionView). turned_at place retries at o sessions node) found)

pub found_at : (sessions : List SessionView) (at : ℕ) (one : SessionView) → at < length sessions → one ≡ get_or sessions at one → slice_get sessions at ≡ Some one
found_at [] at one there is = absurd (omega (arith, there))
found_at (first ∷ sessions) zero one there is = ap Some (sym is)
found_at (first ∷ sessions) (suc at) one there is = found_at sessions at one (omega (arith, there)) is
