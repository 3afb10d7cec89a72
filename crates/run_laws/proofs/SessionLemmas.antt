-- A session whose turn moves nothing waits, or is at the end of its script.
use Rattle.std.proofs.Common.{◌≡◌, ◌∙◌, ℕ, zero, suc, ◌<◌, ◌≤◌, ◌&&◌, not, Bool, true, false, cond, List, [], ◌∷◌, Option, None, Some, length, refl, ap, sym, arith}
use Rattle.std.specs.Prelude.{option_and_then, nat_le}
use Rattle.std.specs.List.{slice_get}
use Rattle.std.proofs.lemmas.Bool.Decides.{nat_tests}
use Rattle.ptc_statement.specs.declared.scripts.ScriptLine.{ScriptLine}
use Rattle.ptc_statement.specs.declared.scripts.ScriptStep.{ScriptStep}
use Rattle.ptc_statement.specs.declared.scripts.ScriptStep.TheVariants.{Begin, Commit, Rollback, Run}
use Rattle.node_model.specs.declared.txns.Walk.{Walk}
use Rattle.node_model.specs.declared.txns.Txn.{Txn}
use Rattle.node_model.specs.Txns.{txn_of}
use Rattle.node_model.specs.Node.{NodeView}
use Rattle.node_visits.specs.declared.visits.Visit.{Visit}
use Rattle.node_visits.specs.declared.visits.Visit.TheVariants.{Stepped, Done, Duplicate, Waits, Deadlock}
use Rattle.node_visits.specs.Answers.{visit_answer}
use Rattle.node_parts.specs.Views.{walk_of}
use Rattle.node_engine.specs.Commits.{commit_answer}
use Rattle.session.specs.declared.stages.Stage.{Stage}
use Rattle.session.specs.declared.stages.Stage.TheVariants.{Between, Within, Alone}
use Rattle.session.specs.declared.stages.SessionTurn.TheVariants.{Victim}
use Rattle.session.specs.Sessions.{SessionView, is_open, is_at_end, rolled_back}
use Rattle.session.specs.Moves.{Moved, is_victim, visit_move, step_move, line_move, idle_move, begun_move, next_move}
use Rattle.session_laws.specs.Standing.{Stands}
use Rattle.trace_text.specs.declared.notes.Note.{Note}
use Rattle.trace_text.specs.declared.notes.Why.{Why}
use Rattle.turn_notes.specs.declared.actors.Place.{Place}
use Rattle.turn_notes.specs.declared.actors.Place.TheVariants.{Source, Replica}
use Rattle.turn_notes.specs.Notes.{visit_note, commit_note, session_note, has_moved}
use Rattle.world_model.specs.Ends.{why_of}

-- a note tells of one for whom P says that it has finished
abbrev pub Says : Note → Type 0 → Type 0
Says note P = (why_of note ≡ None → P) × ((reason : Why) → why_of note ≡ Some reason → P → ⊥)

pub no_move : {P : Type 0} → true ≡ false → P
no_move is = absurd (let no : true ≡ false = is in cc)

-- one that waits has not finished
pub waits : (place : Place) (answer : Visit) (P : Type 0) → (P → ⊥) → has_moved (visit_note place answer) ≡ false → Says (visit_note place answer) P
waits place Stepped P not_yet still = no_move still
waits place Done P not_yet still = no_move still
waits place (Duplicate key) P not_yet still = no_move still
waits place (Waits by) P not_yet still = (λ none. absurd (cc), λ reason is. not_yet)
waits place (Deadlock victim cycle) P not_yet still = no_move still

committed_moves : (place : Place) (position : Option ℕ) {P : Type 0} → has_moved (commit_note place position) ≡ false → P
committed_moves Source None still = no_move still
committed_moves Source (Some position) still = no_move still
committed_moves (Replica number) position still = no_move still

-- a session of a script without a next line
pub none_behind : {A : Type 0} (xs : List A) (place : ℕ) → slice_get xs place ≡ None → length xs ≤ place
none_behind [] place none = omega arith
none_behind (x ∷ xs) zero none = absurd (let q : Some x ≡ None = none in cc)
none_behind (x ∷ xs) (suc place) none = let more = none_behind xs place none in omega (arith, more)

no_line : {P : Type 0} (session : SessionView) → slice_get session.script session.next ≡ None → session.next < length session.script → P
no_line session none less = let over = none_behind session.script session.next none in absurd (omega (arith, over, less))

le_true : (a b : ℕ) → a ≤ b → nat_le a b ≡ true
le_true a b within = grind (arith, nat_tests)

at_end : (session : SessionView) → session.stage ≡ Between → slice_get session.script session.next ≡ None → is_at_end session ≡ true
at_end session stage none =
    ap (λ (st : Stage). not (is_open st) && nat_le (length session.script) session.next) stage
    ∙ le_true (length session.script) session.next (none_behind session.script session.next none)

not_at_end : (session : SessionView) → is_open session.stage ≡ true → is_at_end session ≡ true → ⊥
not_at_end session opened is =
    let q : false ≡ true = sym (ap (λ (b : Bool). not b && nat_le (length session.script) session.next) opened) ∙ is in
    absurd (cc)

opens : (stage : Stage) → (stage ≡ Between → ⊥) → is_open stage ≡ true
opens Between apart = absurd (apart refl)
opens Within apart = refl
opens Alone apart = refl

abbrev SaysOf : Place → SessionView → Moved → Type 0
SaysOf place session moved = Says (session_note place moved.turn) (is_at_end session ≡ true)

step_says : (place : Place) (session : SessionView) (node : NodeView) (step : ScriptStep) {P : Type 0} → has_moved (session_note place (step_move step session node).turn) ≡ false → P
step_says place session node Begin still = no_move still
step_says place session node Commit still = committed_moves place (commit_answer session.owner.0 session.origin node) still
step_says place session node Rollback still = no_move still
step_says place session node (Run statement) still = no_move still

idle_says : (place : Place) (session : SessionView) (node : NodeView) (stage : Stage) → Stands session node → session.stage ≡ stage
    → has_moved (session_note place (idle_move stage session node).turn) ≡ false → SaysOf place session (idle_move stage session node)
idle_says place session node Alone stands is still = committed_moves place (commit_answer session.owner.0 session.origin node) still
idle_says place session node Within stands is still = at (slice_get session.script session.next) refl still
  where
    at : (line : Option ScriptLine) → slice_get session.script session.next ≡ line → has_moved (session_note place (line_move line session node).turn) ≡ false → SaysOf place session (line_move line session node)
    at None e calm = no_line session e (stands.within is)
    at (Some line) e calm = step_says place session node line.step calm
idle_says place session node Between stands is still = at (slice_get session.script session.next) refl still
  where
    at : (line : Option ScriptLine) → slice_get session.script session.next ≡ line → has_moved (session_note place (line_move line session node).turn) ≡ false → SaysOf place session (line_move line session node)
    at None e calm = (λ none. at_end session is e, λ reason some. absurd (cc))
    at (Some line) e calm = step_says place session node line.step calm

walk_gone : (owner : ℕ) (node : NodeView) (walk : Walk) → walk_of owner node.txns ≡ Some walk → txn_of owner node.txns ≡ None → ⊥
walk_gone owner node walk walks none =
    let q : None ≡ Some walk = sym (ap (option_and_then (λ (t : Txn). t.current)) none) ∙ walks in
    absurd (cc)

begun_says : (place : Place) (retries : ℕ) (session : SessionView) (node : NodeView) (walk : Option Walk) → Stands session node → walk_of session.owner.0 node.txns ≡ walk
    → has_moved (session_note place (begun_move retries walk session node).turn) ≡ false → SaysOf place session (begun_move retries walk session node)
begun_says place retries session node None stands walks still = idle_says place session node session.stage stands refl still
begun_says place retries session node (Some walk) stands walks still = at (slice_get session.script session.next) refl still
  where
    opened : is_open session.stage ≡ true
    opened = opens session.stage (λ is. walk_gone session.owner.0 node walk walks (stands.between is))

    at : (line : Option ScriptLine) → slice_get session.script session.next ≡ line → has_moved (session_note place (visit_move retries line session node).turn) ≡ false → SaysOf place session (visit_move retries line session node)
    at None e calm = no_line session e (stands.walking walk walks)
    at (Some line) e calm = waits place (visit_answer session.owner.0 node) (is_at_end session ≡ true) (not_at_end session opened) calm

pub session_says : (place : Place) (retries : ℕ) (session : SessionView) (node : NodeView) → Stands session node → has_moved (session_note place (next_move retries session node).turn) ≡ false
    → Says (session_note place (next_move retries session node).turn) (is_at_end session ≡ true)
session_says place retries session node stands = at (is_victim session node)
  where
    victim : Moved
    victim = record { turn = Victim; session = rolled_back retries session; node = node }

    at : (b : Bool) → has_moved (session_note place (cond b victim (begun_move retries (walk_of session.owner.0 node.txns) session node)).turn) ≡ false
        → SaysOf place session (cond b victim (begun_move retries (walk_of session.owner.0 node.txns) session node))
    at true still = no_move still
    at false still = begun_says place retries session node (walk_of session.owner.0 node.txns) stands refl still
