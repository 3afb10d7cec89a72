-- A session's statement in progress on its node is that of the next line of its script, through each turn.
use Rattle.std.proofs.Common.{◌≡◌, ◌∙◌, inl, inr, ℕ, ◌+◌, ◌==◌, Bool, true, false, cond, List, [], ◌∷◌, ◌++◌, Option, None, Some, refl, ap, sym, subst}
use Rattle.std.specs.Prelude.{is_some, option_and_then, not, ◌&&◌}
use Rattle.std.specs.List.{slice_get}
use Rattle.ptc_statement.specs.declared.statements.Statement.{Statement}
use Rattle.ptc_statement.specs.declared.scripts.ScriptLine.{ScriptLine}
use Rattle.ptc_statement.specs.declared.scripts.ScriptStep.{ScriptStep}
use Rattle.ptc_statement.specs.declared.scripts.ScriptStep.TheVariants.{Begin, Commit, Rollback, Run}
use Rattle.ptc_statement.specs.Effect.{table_of}
use Rattle.statement_log.specs.declared.origins.Origin.{Origin}
use Rattle.lock_table.specs.declared.wants.Owner.{Owner}
use Rattle.lock_table.proofs.HoldLemmas.{number_is, number_apart}
use Rattle.txn_walk.specs.declared.plans.Plan.{Plan}
use Rattle.node_model.specs.declared.parts.Part.{Part}
use Rattle.node_model.specs.declared.parts.Part.TheVariants.{Client}
use Rattle.node_model.specs.declared.txns.Walk.{Walk}
use Rattle.node_model.specs.declared.txns.Txn.{Txn}
use Rattle.node_model.specs.Txns.{txn_of, with_txn, without_txn}
use Rattle.node_model.specs.Node.{NodeView, plan_of, plan_excluder, is_duplicate, moved, start_of}
use Rattle.node_model.specs.Waits.{cycle_of, victim_of, after_wait, visited_unless}
use Rattle.node_model.specs.Calls.{after_call, begun_if, started_if, started_idle, visit_if, visited_if, committed_if, committed_idle, Begin as BeginCall, Start as StartCall, Commit as CommitCall}
use Rattle.node_model.proofs.TxnLemmas.{txn_same, txn_left, txn_gone, txn_owner}
use Rattle.node_visits.specs.Answers.{duplicate_key, answer_of, answer_wait, answer_by, answer_in, answer_if}
use Rattle.node_parts.specs.Views.{walk_of}
use Rattle.session.specs.declared.stages.Stage.{Stage}
use Rattle.session.specs.declared.stages.Stage.TheVariants.{Between, Within, Alone}
use Rattle.session.specs.declared.stages.SessionTurn.TheVariants.{Victim}
use Rattle.session.specs.Sessions.{SessionView, is_open, entered_alone, rolled_back}
use Rattle.session.specs.Moves.{Moved, is_victim, after_answer, visit_move, step_move, line_move, idle_move, begun_move, next_move}
use Rattle.duplicate_laws.proofs.SpareLemmas.{own_moved, IsLeft}
use Rattle.turn_laws.proofs.StayLemmas.{sessions_stay}

-- the line at this place of a script runs the statement
pub record RunsAt (script : List ScriptLine) (place : ℕ) (statement : Statement) : Type 0 where
  pub line : ScriptLine
  pub found : slice_get script place ≡ Some line
  pub runs : line.step ≡ Run statement

abbrev pub IsAt : List ScriptLine → ℕ → Option Walk → Type 0
IsAt script place None = Unit {0}
IsAt script place (Some walk) = RunsAt script place walk.statement

abbrev pub Links : List ScriptLine → ℕ → Option Txn → Type 0
Links script place None = Unit {0}
Links script place (Some txn) = IsAt script place txn.current

abbrev pub IsLinked : SessionView → NodeView → Type 0
IsLinked session node = Links session.script session.next (txn_of session.owner.0 node.txns)

-- where no statement is in progress, nothing is said

abbrev IsIdle : Option Txn → Type 0
IsIdle None = Unit {0}
IsIdle (Some txn) = txn.current ≡ None

none_at : (script : List ScriptLine) (place : ℕ) (walk : Option Walk) → walk ≡ None → IsAt script place walk
none_at script place None is = tt
none_at script place (Some walk) is = absurd (cc)

idle_links : (script : List ScriptLine) (place : ℕ) (txn : Option Txn) → IsIdle txn → Links script place txn
idle_links script place None idle = tt
idle_links script place (Some txn) idle = none_at script place txn.current idle

gone_links : (script : List ScriptLine) (place : ℕ) (txn : Option Txn) → txn ≡ None → Links script place txn
gone_links script place None is = tt
gone_links script place (Some txn) is = absurd (cc)

gone_idle : (txn : Option Txn) → txn ≡ None → IsIdle txn
gone_idle None is = tt
gone_idle (Some txn) is = absurd (cc)

some_idle : (txn : Option Txn) (one : Txn) → txn ≡ Some one → one.current ≡ None → IsIdle txn
some_idle txn one is none = subst IsIdle (sym is) none

-- what the others leave of it

pub left_links : (script : List ScriptLine) (place : ℕ) (old new : Option Txn) → IsLeft old new → Links script place old → Links script place new
left_links script place old new (inl same) links = subst (Links script place) (sym same) links
left_links script place old new (inr none) links = gone_links script place new none

-- A visit.

-- where a session goes on, and its transaction then
abbrev GoesOn : SessionView → ℕ → NodeView → Type 0
GoesOn session next node = Links session.script next (txn_of session.owner.0 node.txns)

outcome : (retries line : ℕ) (session : SessionView) (txn : Txn) (walk : Walk) (plan : Plan) → RunsAt session.script session.next walk.statement → (dup ends : Bool)
    → IsAt session.script (after_answer retries (answer_of (duplicate_key dup plan.on_key) ends) line session).next
    (cond dup (record txn { current = None })
    (cond ends (record txn { done = txn.done ++ walk.statement ∷ []; current = None })
    (record txn { current = Some (record { statement = walk.statement; cursor = plan.after }) }))).current
outcome retries line session txn walk plan runs true ends = tt
outcome retries line session txn walk plan runs false true = tt
outcome retries line session txn walk plan runs false false = runs

free_visit : (retries line : ℕ) (session : SessionView) (node : NodeView) (txn : Txn) (walk : Walk) (plan : Plan) → txn_of session.owner.0 node.txns ≡ Some txn
    → RunsAt session.script session.next walk.statement
    → GoesOn session (after_answer retries (answer_by None txn walk plan node) line session).next (visited_unless None txn walk plan node)
free_visit retries line session node txn walk plan found runs =
    subst (Links session.script (after_answer retries (answer_by None txn walk plan node) line session).next) (sym there)
    (outcome retries line session txn walk plan runs (is_duplicate txn.part walk.statement plan) plan.ends)
  where
    own : (moved txn walk plan).owner.0 ≡ session.owner.0
    own = ap (λ (o : Owner). o.0) (own_moved txn walk plan) ∙ txn_owner session.owner.0 txn node.txns found

    there : txn_of session.owner.0 (with_txn (moved txn walk plan) node.txns) ≡ Some (moved txn walk plan)
    there = subst (λ (n : ℕ). txn_of n (with_txn (moved txn walk plan) node.txns) ≡ Some (moved txn walk plan)) own (txn_same (moved txn walk plan) node.txns)

victim_visit : (retries victim : ℕ) (session : SessionView) (node : NodeView) → IsLinked session node → (own : Bool) → (victim == session.owner.0) ≡ own
    → Links session.script (cond own (rolled_back retries session) session).next (txn_of session.owner.0 (without_txn victim node.txns))
victim_visit retries victim session node links true is =
    gone_links session.script (rolled_back retries session).next (txn_of session.owner.0 (without_txn victim node.txns))
    (ap (λ (o : ℕ). txn_of o (without_txn victim node.txns)) (sym (number_is victim session.owner.0 is)) ∙ txn_gone victim node.txns)
victim_visit retries victim session node links false is =
    subst (Links session.script session.next) (sym (txn_left session.owner.0 victim node.txns (λ same. number_apart victim session.owner.0 is (sym same)))) links

wait_visit : (retries line by owner : ℕ) (session : SessionView) (node : NodeView) → IsLinked session node → (cycle : Option (List ℕ))
    → GoesOn session (after_answer retries (answer_wait cycle by owner node) line session).next (after_wait cycle owner node)
wait_visit retries line by owner session node links None = links
wait_visit retries line by owner session node links (Some cycle) =
    victim_visit retries (victim_of node.txns owner cycle) session node links (victim_of node.txns owner cycle == session.owner.0) refl

visit_by : (retries line : ℕ) (session : SessionView) (node : NodeView) (txn : Txn) (walk : Walk) (plan : Plan) → IsLinked session node → txn_of session.owner.0 node.txns ≡ Some txn
    → RunsAt session.script session.next walk.statement → (by : Option ℕ)
    → GoesOn session (after_answer retries (answer_by by txn walk plan node) line session).next (visited_unless by txn walk plan node)
visit_by retries line session node txn walk plan links found runs None = free_visit retries line session node txn walk plan found runs
visit_by retries line session node txn walk plan links found runs (Some by) = wait_visit retries line by txn.owner.0 session node links (cycle_of node txn.owner.0)

visit_in : (retries line : ℕ) (session : SessionView) (node : NodeView) (txn : Txn) → IsLinked session node → txn_of session.owner.0 node.txns ≡ Some txn → (walk : Option Walk) → txn.current ≡ walk
    → GoesOn session (after_answer retries (answer_in walk txn node) line session).next (visited_if walk txn node)
visit_in retries line session node txn links found None current =
    idle_links session.script (session.next + 1) (txn_of session.owner.0 node.txns) (some_idle (txn_of session.owner.0 node.txns) txn found current)
visit_in retries line session node txn links found (Some walk) current =
    visit_by retries line session node txn walk (plan_of node txn walk) links found
    (subst (IsAt session.script session.next) current (subst (Links session.script session.next) found links))
    (plan_excluder txn.owner (table_of walk.statement) (plan_of node txn walk) node.held)

visit_if_links : (retries line : ℕ) (session : SessionView) (node : NodeView) → IsLinked session node → (txn : Option Txn) → txn_of session.owner.0 node.txns ≡ txn
    → GoesOn session (after_answer retries (answer_if txn node) line session).next (visit_if txn node)
visit_if_links retries line session node links None found = gone_links session.script (session.next + 1) (txn_of session.owner.0 node.txns) found
visit_if_links retries line session node links (Some txn) found = visit_in retries line session node txn links found txn.current refl

abbrev Stays : SessionView → Moved → Type 0
Stays session moved = GoesOn session moved.session.next moved.node

visit_links : (retries : ℕ) (session : SessionView) (node : NodeView) → IsLinked session node → (line : Option ScriptLine) → Stays session (visit_move retries line session node)
visit_links retries session node links None = links
visit_links retries session node links (Some line) = visit_if_links retries line.line session node links (txn_of session.owner.0 node.txns) refl

-- A turn without a statement in progress.

begun_idle : (owner : Owner) (part : Part) (node : NodeView) → IsIdle (txn_of owner.0 node.txns) → IsIdle (txn_of owner.0 (after_call (BeginCall owner part) node).txns)
begun_idle owner part node idle = at (txn_of owner.0 node.txns) refl
  where
    new : Txn
    new = record { owner = owner; part = part; done = []; current = None }

    at : (o : Option Txn) → txn_of owner.0 node.txns ≡ o → IsIdle (txn_of owner.0 (begun_if o owner part node).txns)
    at None found = some_idle (txn_of owner.0 (with_txn new node.txns)) new (txn_same new node.txns) refl
    at (Some txn) found = idle

ended_idle : (owner other : ℕ) (node : NodeView) → other ≡ owner → IsIdle (txn_of owner (without_txn other node.txns))
ended_idle owner other node same =
    gone_idle (txn_of owner (without_txn other node.txns)) (ap (λ (o : ℕ). txn_of o (without_txn other node.txns)) (sym same) ∙ txn_gone other node.txns)

committed_is_idle : (owner : Owner) (origin : Origin) (node : NodeView) → IsIdle (txn_of owner.0 node.txns) → IsIdle (txn_of owner.0 (after_call (CommitCall owner origin) node).txns)
committed_is_idle owner origin node idle = at (txn_of owner.0 node.txns) refl
  where
    there : (txn : Txn) → txn_of owner.0 node.txns ≡ Some txn → (w : Option Walk) → IsIdle (txn_of owner.0 (committed_idle w txn origin node).txns)
    there txn found None = ended_idle owner.0 txn.owner.0 node (txn_owner owner.0 txn node.txns found)
    there txn found (Some walk) = idle

    at : (o : Option Txn) → txn_of owner.0 node.txns ≡ o → IsIdle (txn_of owner.0 (committed_if o origin node).txns)
    at None found = idle
    at (Some txn) found = there txn found txn.current

started_links : (owner : Owner) (statement : Statement) (node : NodeView) (script : List ScriptLine) (place : ℕ) → IsIdle (txn_of owner.0 node.txns) → RunsAt script place statement
    → Links script place (txn_of owner.0 (after_call (StartCall owner statement) node).txns)
started_links owner statement node script place idle runs = at (txn_of owner.0 node.txns) refl
  where
    new : Txn → Txn
    new txn = record txn { current = Some (record { statement = statement; cursor = start_of node.schemas statement }) }

    there : (txn : Txn) → txn_of owner.0 node.txns ≡ Some txn → (w : Option Walk) → Links script place (txn_of owner.0 (started_idle w txn statement node).txns)
    there txn found None =
        subst (Links script place)
        (sym (subst (λ (n : ℕ). txn_of n (with_txn (new txn) node.txns) ≡ Some (new txn)) (txn_owner owner.0 txn node.txns found) (txn_same (new txn) node.txns)))
        runs
    there txn found (Some walk) = idle_links script place (txn_of owner.0 node.txns) idle

    at : (o : Option Txn) → txn_of owner.0 node.txns ≡ o → Links script place (txn_of owner.0 (started_if o statement node).txns)
    at None found = idle_links script place (txn_of owner.0 node.txns) idle
    at (Some txn) found = there txn found txn.current

alone_next : (stage : Stage) (session : SessionView) → (entered_alone stage session).next ≡ session.next
alone_next Between session = refl
alone_next Within session = refl
alone_next Alone session = refl

commit_links : (session : SessionView) (node : NodeView) (next : ℕ) → IsIdle (txn_of session.owner.0 node.txns) → GoesOn session next (after_call (CommitCall session.owner session.origin) node)
commit_links session node next idle =
    idle_links session.script next (txn_of session.owner.0 (after_call (CommitCall session.owner session.origin) node).txns) (committed_is_idle session.owner session.origin node idle)

step_links : (session : SessionView) (node : NodeView) (line : ScriptLine) → IsIdle (txn_of session.owner.0 node.txns) → slice_get session.script session.next ≡ Some line
    → (step : ScriptStep) → line.step ≡ step → Stays session (step_move step session node)
step_links session node line idle found Begin runs =
    idle_links session.script (session.next + 1) (txn_of session.owner.0 (after_call (BeginCall session.owner Client) node).txns) (begun_idle session.owner Client node idle)
step_links session node line idle found Commit runs = commit_links session node (session.next + 1) idle
step_links session node line idle found Rollback runs =
    idle_links session.script (session.next + 1) (txn_of session.owner.0 (without_txn session.owner.0 node.txns)) (ended_idle session.owner.0 session.owner.0 node refl)
step_links session node line idle found (Run statement) runs =
    subst (λ (next : ℕ). GoesOn session next (after_call (StartCall session.owner statement) (after_call (BeginCall session.owner Client) node))) (sym (alone_next session.stage session))
    (started_links session.owner statement (after_call (BeginCall session.owner Client) node) session.script session.next (begun_idle session.owner Client node idle)
    (record { line = line; found = found; runs = runs }))

line_links : (session : SessionView) (node : NodeView) → IsIdle (txn_of session.owner.0 node.txns) → (line : Option ScriptLine) → slice_get session.script session.next ≡ line
    → Stays session (line_move line session node)
line_links session node idle None found = idle_links session.script session.next (txn_of session.owner.0 node.txns) idle
line_links session node idle (Some line) found = step_links session node line idle found line.step refl

idle_moves : (session : SessionView) (node : NodeView) → IsIdle (txn_of session.owner.0 node.txns) → (stage : Stage) → Stays session (idle_move stage session node)
idle_moves session node idle Alone = commit_links session node session.next idle
idle_moves session node idle Within = line_links session node idle (slice_get session.script session.next) refl
idle_moves session node idle Between = line_links session node idle (slice_get session.script session.next) refl

walk_idle : (owner : ℕ) (txns : List Txn) (txn : Option Txn) → txn_of owner txns ≡ txn → walk_of owner txns ≡ None → IsIdle txn
walk_idle owner txns None found none = tt
walk_idle owner txns (Some txn) found none = sym (ap (option_and_then (λ (t : Txn). t.current)) found) ∙ none

begun_links : (retries : ℕ) (session : SessionView) (node : NodeView) → IsLinked session node → (walk : Option Walk) → walk_of session.owner.0 node.txns ≡ walk
    → Stays session (begun_move retries walk session node)
begun_links retries session node links (Some walk) is = visit_links retries session node links (slice_get session.script session.next)
begun_links retries session node links None is = idle_moves session node (walk_idle session.owner.0 node.txns (txn_of session.owner.0 node.txns) refl is) session.stage

-- another's turn has rolled the transaction back
victim_links : (retries : ℕ) (session : SessionView) (node : NodeView) → IsLinked session node → is_victim session node ≡ true
    → Links session.script (rolled_back retries session).next (txn_of session.owner.0 node.txns)
victim_links retries session node links is = at (txn_of session.owner.0 node.txns) (is_open session.stage) is
  where
    at : (o : Option Txn) (opened : Bool) → (opened && not (is_some o)) ≡ true → Links session.script (rolled_back retries session).next o
    at None opened e = tt
    at (Some txn) true e = absurd (let no : false ≡ true = e in cc)
    at (Some txn) false e = absurd (let no : false ≡ true = e in cc)

next_links : (retries : ℕ) (session : SessionView) (node : NodeView) → IsLinked session node → Stays session (next_move retries session node)
next_links retries session node links = at (is_victim session node) refl
  where
    at : (b : Bool) → is_victim session node ≡ b
        → Stays session (cond b (record { turn = Victim; session = rolled_back retries session; node = node }) (begun_move retries (walk_of session.owner.0 node.txns) session node))
    at true is = victim_links retries session node links is
    at false is = begun_links retries session node links (walk_of session.owner.0 node.txns) refl

-- a session's own turn
pub turn_links : (retries : ℕ) (session : SessionView) (node : NodeView) → IsLinked session node → IsLinked (next_move retries session node).session (next_move retries session node).node
turn_links retries session node links =
    let stays = sessions_stay retries session node in
    subst (λ (owner : Owner). Links (next_move retries session node).session.script (next_move retries session node).session.next (txn_of owner.0 (next_move retries session node).node.txns)) (sym stays.0)
    (subst (λ (script : List ScriptLine). Links script (next_move retries session node).session.next (txn_of session.owner.0 (next_move retries session node).node.txns)) (sym stays.2)
    (next_links retries session node links))
