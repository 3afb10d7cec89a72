-- What is known of each session of a node, after its own turns and those of others.
use Rattle.std.proofs.Common.{◌≡◌, ◌∙◌, ℕ, zero, suc, ◌+◌, ◌<◌, ◌≤◌, ◌==◌, Bool, true, false, cond, List, [], ◌∷◌, ◌++◌, Option, None, Some, length, take, refl, ap, sym, subst, arith}
use Rattle.std.specs.Prelude.{nat_lt, slice_set}
use Rattle.std.specs.List.{AllByRecursion, slice_get}
use Rattle.row_types.specs.declared.values.Value.{Value}
use Rattle.ptc_statement.specs.declared.scripts.ScriptLine.{ScriptLine}
use Rattle.ptc_statement.specs.declared.scripts.ScriptStep.{ScriptStep}
use Rattle.ptc_statement.specs.declared.scripts.ScriptStep.TheVariants.{Begin as BeginStep, Commit as CommitStep, Rollback as RollbackStep, Run}
use Rattle.lock_table.specs.declared.wants.Owner.{Owner}
use Rattle.node_model.specs.declared.txns.Walk.{Walk}
use Rattle.node_model.specs.Txns.{txn_of}
use Rattle.node_model.specs.Node.{NodeView}
use Rattle.node_visits.specs.declared.visits.Visit.{Visit}
use Rattle.node_visits.specs.declared.visits.Visit.TheVariants.{Stepped, Done, Duplicate, Waits, Deadlock}
use Rattle.node_visits.specs.Answers.{visit_answer}
use Rattle.node_parts.specs.Views.{walk_of}
use Rattle.session.specs.declared.stages.Stage.{Stage}
use Rattle.session.specs.declared.stages.Stage.TheVariants.{Between, Within, Alone}
use Rattle.session.specs.declared.stages.SessionTurn.TheVariants.{Visited, Victim}
use Rattle.session.specs.Sessions.{SessionView, entered_alone, begun_again, abandoning, rolled_back}
use Rattle.session.specs.Moves.{Moved, is_victim, after_answer, visit_move, step_move, line_move, idle_move, begun_move, next_move}
use Rattle.turn_laws.proofs.StayLemmas.{sessions_stay}
use Rattle.world_model.proofs.EachLemmas.{each_more}
use Rattle.duplicate_laws.proofs.SpareLemmas.{Spares}
use Rattle.duplicate_laws.proofs.OtherLemmas.{session_spares}
use Rattle.duplicate_laws.proofs.LinkLemmas.{IsLinked, left_links, turn_links}

-- What a session counts as refused.

-- a turn that refuses a line, which is then told
abbrev pub TellsRefusal : (ℕ → Type 0) → ℕ → SessionView → NodeView → Type 0
TellsRefusal told retries session node =
    (line : ScriptLine) (key : List Value) → slice_get session.script session.next ≡ Some line → visit_answer session.owner.0 node ≡ Duplicate key
    → (next_move retries session node).turn ≡ Visited (Duplicate key) → told line.line

pub taken : (told : ℕ → Type 0) (count : ℕ) (lines : List ℕ) → AllByRecursion told lines → AllByRecursion told (take count lines)
taken told zero lines are = tt
taken told (suc count) [] are = tt
taken told (suc count) (line ∷ lines) are = (are.0, taken told count lines are.1)

one_more : (told : ℕ → Type 0) (lines : List ℕ) (line : ℕ) → AllByRecursion told lines → told line → AllByRecursion told (lines ++ line ∷ [])
one_more told [] line are is = (is, tt)
one_more told (first ∷ lines) line are is = (are.0, one_more told lines line are.1 is)

rolled_refused : (told : ℕ → Type 0) (retries : ℕ) (session : SessionView) → AllByRecursion told session.refused → AllByRecursion told (rolled_back retries session).refused
rolled_refused told retries session are = at (nat_lt session.rollbacks retries)
  where
    at : (b : Bool) → AllByRecursion told (cond b (begun_again session) (abandoning session)).refused
    at true = taken told session.settled session.refused are
    at false = taken told session.settled session.refused are

answer_refused : (told : ℕ → Type 0) (retries line : ℕ) (session : SessionView) (answer : Visit) → AllByRecursion told session.refused
    → ((key : List Value) → answer ≡ Duplicate key → told line) → AllByRecursion told (after_answer retries answer line session).refused
answer_refused told retries line session Stepped are tells = are
answer_refused told retries line session Done are tells = are
answer_refused told retries line session (Duplicate key) are tells = one_more told session.refused line are (tells key refl)
answer_refused told retries line session (Waits by) are tells = are
answer_refused told retries line session (Deadlock victim cycle) are tells = at (victim.0 == session.owner.0)
  where
    at : (b : Bool) → AllByRecursion told (cond b (rolled_back retries session) session).refused
    at true = rolled_refused told retries session are
    at false = are

alone_refused : (told : ℕ → Type 0) (stage : Stage) (session : SessionView) → AllByRecursion told session.refused → AllByRecursion told (entered_alone stage session).refused
alone_refused told Between session are = are
alone_refused told Within session are = are
alone_refused told Alone session are = are

step_refused : (told : ℕ → Type 0) (session : SessionView) (node : NodeView) (step : ScriptStep) → AllByRecursion told session.refused → AllByRecursion told (step_move step session node).session.refused
step_refused told session node BeginStep are = are
step_refused told session node CommitStep are = are
step_refused told session node RollbackStep are = taken told session.settled session.refused are
step_refused told session node (Run statement) are = alone_refused told session.stage session are

line_refused : (told : ℕ → Type 0) (session : SessionView) (node : NodeView) (line : Option ScriptLine) → AllByRecursion told session.refused → AllByRecursion told (line_move line session node).session.refused
line_refused told session node None are = are
line_refused told session node (Some line) are = step_refused told session node line.step are

idle_refused : (told : ℕ → Type 0) (session : SessionView) (node : NodeView) (stage : Stage) → AllByRecursion told session.refused → AllByRecursion told (idle_move stage session node).session.refused
idle_refused told session node Alone are = are
idle_refused told session node Within are = line_refused told session node (slice_get session.script session.next) are
idle_refused told session node Between are = line_refused told session node (slice_get session.script session.next) are

turn_refused : (told : ℕ → Type 0) (retries : ℕ) (session : SessionView) (node : NodeView) → AllByRecursion told session.refused → TellsRefusal told retries session node
    → AllByRecursion told (next_move retries session node).session.refused
turn_refused told retries session node are tells = at (is_victim session node) refl
  where
    victim : Moved
    victim = record { turn = Victim; session = rolled_back retries session; node = node }

    visits : (line : Option ScriptLine) → slice_get session.script session.next ≡ line
        → ((key : List Value) → visit_answer session.owner.0 node ≡ Duplicate key → (visit_move retries line session node).turn ≡ Visited (visit_answer session.owner.0 node) → (next_move retries session node).turn ≡ Visited (Duplicate key))
        → AllByRecursion told (visit_move retries line session node).session.refused
    visits None found turned = are
    visits (Some line) found turned =
        answer_refused told retries line.line session (visit_answer session.owner.0 node) are (λ key is. tells line key found is (turned key is refl))

    begins : is_victim session node ≡ false → (walk : Option Walk) → walk_of session.owner.0 node.txns ≡ walk → AllByRecursion told (begun_move retries walk session node).session.refused
    begins free (Some walk) current =
        visits (slice_get session.script session.next) refl
        (λ key is visited.
        ap (λ (b : Bool). (cond b victim (begun_move retries (walk_of session.owner.0 node.txns) session node)).turn) free
        ∙ ap (λ (w : Option Walk). (begun_move retries w session node).turn) current
        ∙ visited
        ∙ ap Visited is)
    begins free None current = idle_refused told session node session.stage are

    at : (b : Bool) → is_victim session node ≡ b → AllByRecursion told (cond b victim (begun_move retries (walk_of session.owner.0 node.txns) session node)).session.refused
    at true is = rolled_refused told retries session are
    at false is = begins is (walk_of session.owner.0 node.txns) refl

-- A session, and all sessions of a node, the first of this number: lines of the session of a number are told by it.

pub record IsHere (told : ℕ → Type 0) (number : ℕ) (session : SessionView) (node : NodeView) : Type 0 where
  pub owner : session.owner.0 ≡ number
  pub linked : IsLinked session node
  pub refused : AllByRecursion told session.refused

abbrev pub AreHere : (ℕ → ℕ → Type 0) → NodeView → ℕ → List SessionView → Type 0
AreHere told node number [] = Unit {0}
AreHere told node number (session ∷ sessions) = IsHere (told number) number session node × AreHere told node (number + 1) sessions

pub told_more : (told more : ℕ → ℕ → Type 0) (node : NodeView) (number : ℕ) (sessions : List SessionView) → ((n line : ℕ) → told n line → more n line)
    → AreHere told node number sessions → AreHere more node number sessions
told_more told more node number [] less are = tt
told_more told more node number (session ∷ sessions) less are = (
  record { owner = are.0.owner; linked = are.0.linked; refused = each_more (told number) (more number) session.refused (λ line is. less number line is) are.0.refused },
  told_more told more node (number + 1) sessions less are.1,
)

pub spared : (told : ℕ → ℕ → Type 0) (old new : NodeView) (number : ℕ) (sessions : List SessionView)
    → ((n : ℕ) → number ≤ n → n < number + length sessions → Spares n old new) → AreHere told old number sessions → AreHere told new number sessions
spared told old new number [] spares are = tt
spared told old new number (session ∷ sessions) spares are = (
  record {
    owner = are.0.owner;
    linked = left_links session.script session.next (txn_of session.owner.0 old.txns) (txn_of session.owner.0 new.txns)
        (subst (λ (n : ℕ). Spares n old new) (sym are.0.owner) (spares number (omega arith) (omega arith))) are.0.linked;
    refused = are.0.refused;
  },
  spared told old new (number + 1) sessions (λ n least most. spares n (omega (arith, least)) (omega (arith, most))) are.1,
)

pub here_at : (told : ℕ → ℕ → Type 0) (node : NodeView) (place number theirs : ℕ) (sessions : List SessionView) (session : SessionView) → slice_get sessions place ≡ Some session
    → theirs ≡ number + place → AreHere told node number sessions → IsHere (told theirs) theirs session node
here_at told node place number theirs [] session found is are = absurd (cc)
here_at told node zero number theirs (other ∷ sessions) session found is are =
    let same : other ≡ session = cc in
    let first : number ≡ theirs = omega (arith, is) in
    subst (λ (n : ℕ). IsHere (told n) n session node) first (subst (λ (s : SessionView). IsHere (told number) number s node) same are.0)
here_at told node (suc place) number theirs (other ∷ sessions) session found is are = here_at told node place (number + 1) theirs sessions session found (omega (arith, is)) are.1

turned_here : (told : ℕ → Type 0) (number retries : ℕ) (session : SessionView) (node : NodeView) → TellsRefusal told retries session node → IsHere told number session node
    → IsHere told number (next_move retries session node).session (next_move retries session node).node
turned_here told number retries session node tells here = record {
  owner = ap (λ (o : Owner). o.0) (sessions_stay retries session node).0 ∙ here.owner;
  linked = turn_links retries session node here.linked;
  refused = turn_refused told retries session node here.refused tells;
}

turned_at : (told : ℕ → ℕ → Type 0) (retries : ℕ) (node : NodeView) (place number theirs : ℕ) (sessions : List SessionView) (session : SessionView) → slice_get sessions place ≡ Some session
    → theirs ≡ number + place → session.owner.0 ≡ theirs → TellsRefusal (told theirs) retries session node → AreHere told node number sessions
    → AreHere told (next_move retries session node).node number (slice_set sessions place (next_move retries session node).session)
turned_at told retries node place number theirs [] session found is own tells are = tt
turned_at told retries node zero number theirs (other ∷ sessions) session found is own tells are =
    let same : other ≡ session = cc in
    let first : theirs ≡ number = omega (arith, is) in (
      turned_here (told number) number retries session node (subst (λ (n : ℕ). TellsRefusal (told n) retries session node) first tells)
          (subst (λ (s : SessionView). IsHere (told number) number s node) same are.0),
      spared told node (next_move retries session node).node (number + 1) sessions
          (λ n least most. session_spares n retries session node (λ also. absurd (omega (arith, is, own, also, least)))) are.1,
    )
turned_at told retries node (suc place) number theirs (other ∷ sessions) session found is own tells are = (
  record {
    owner = are.0.owner;
    linked = left_links other.script other.next (txn_of other.owner.0 node.txns) (txn_of other.owner.0 (next_move retries session node).node.txns)
        (session_spares other.owner.0 retries session node (λ also. apart also)) are.0.linked;
    refused = are.0.refused;
  },
  turned_at told retries node place (number + 1) theirs sessions session found (omega (arith, is)) own tells are.1,
)
  where
    theirs_own : other.owner.0 ≡ number
    theirs_own = are.0.owner

    apart : session.owner.0 ≡ other.owner.0 → ⊥
    apart also = absurd (omega (arith, is, own, theirs_own, also))

pub turned : (told : ℕ → ℕ → Type 0) (retries : ℕ) (node : NodeView) (place theirs : ℕ) (sessions : List SessionView) (session : SessionView) → slice_get sessions place ≡ Some session
    → theirs ≡ 1 + place → TellsRefusal (told theirs) retries session node → AreHere told node 1 sessions
    → AreHere told (next_move retries session node).node 1 (slice_set sessions place (next_move retries session node).session)
turned told retries node place theirs sessions session found is tells are =
    turned_at told retries node place 1 theirs sessions session found is (here_at told node place 1 theirs sessions session found is are).owner tells are
