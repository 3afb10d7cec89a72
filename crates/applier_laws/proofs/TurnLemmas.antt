-- What a worker's next move leaves: it takes an entry, visits, commits or waits for its order.
use Rattle.std.proofs.Common.{◌≡◌, ◌≢◌, ◌∙◌, ◌⊎◌, inl, ℕ, ◌+◌, ◌-◌, ◌<◌, ◌≤◌, Bool, true, false, cond, List, [], ◌∷◌, ◌++◌, Option, None, Some, length, refl, ap, sym, subst, arith}
use Rattle.std.specs.Prelude.{nat_lt, option_and_then}
use Rattle.std.specs.List.{AllByRecursion, slice_get}
use Rattle.std.proofs.lemmas.Bool.Decides.{nat_tests}
use Rattle.ptc_statement.specs.declared.statements.Statement.{Statement}
use Rattle.ptc_statement.specs.Effect.{table_of, is_logged}
use Rattle.statement_log.specs.declared.entries.Entry.{Entry}
use Rattle.statement_log.specs.declared.origins.Origin.TheVariants.{Applied}
use Rattle.history.specs.Replay.{Follows, applied_of, applying}
use Rattle.history.proofs.ReplayLemmas.{follows_more, applied_of-more}
use Rattle.node_model.specs.declared.parts.Part.{Part}
use Rattle.node_model.specs.declared.parts.Part.TheVariants.{Apply}
use Rattle.node_model.specs.declared.txns.Walk.{Walk}
use Rattle.node_model.specs.declared.txns.Txn.{Txn}
use Rattle.node_model.specs.Txns.{txn_of, with_txn, without_txn}
use Rattle.node_model.specs.Node.{NodeView, begun, plan_of, plan_excluder, is_duplicate, start_of, ended, written, logged, with_entries, taken}
use Rattle.node_model.specs.Waits.{cycle_of, victim_of, after_wait, visited_unless}
use Rattle.node_model.specs.Calls.{after_call, begun_if, started_if, started_idle, visit_if, visited_if, committed_if, committed_idle, Begin as BeginCall, Start as StartCall, Visit as VisitCall, Commit as CommitCall}
use Rattle.node_model.proofs.TxnLemmas.{txn_same, txn_gone, txn_owner, with_twice}
use Rattle.node_engine.proofs.EachLemmas.{each_at}
use Rattle.node_visits.specs.declared.visits.Visit.{Visit}
use Rattle.node_visits.specs.declared.visits.Visit.TheVariants.{Stepped, Done, Duplicate, Waits, Deadlock}
use Rattle.node_visits.specs.Answers.{visit_answer, duplicate_key, answer_of, answer_wait, answer_by, answer_in, answer_if, owner_at}
use Rattle.node_visits.specs.NextStarts.{next_started}
use Rattle.txn_walk.specs.declared.plans.Plan.{Plan}
use Rattle.applier.specs.declared.turns.Turn.TheVariants.{Visited}
use Rattle.applier.specs.declared.workers.Worker.{Worker}
use Rattle.applier.specs.Appliers.{statement_behind, next_statement, is_taken, earlier_open, with_entry}
use Rattle.applier.specs.Moves.{Moved, took, after_answer, visit_move, commit_move}
use Rattle.applier_laws.specs.Follows.{AreLogged}
use Rattle.applier_laws.proofs.ListLemmas.{first_of, first_got, got_behind, moved_over, snoc_length, entry_is, all_kept}
use Rattle.applier_laws.proofs.TxnLemmas.{Passes, still_passes, put_passes, ended_each, ended_passes, put_own, moved_by}
use Rattle.applier_laws.proofs.TeamLemmas.{UpTo, DoneSoFar, IsApplying, Doing, HasEntry, Works, Steps, works_on}

abbrev pub Good : List Entry → List Worker → NodeView → Worker → Moved → Type 0
Good log workers node worker m = Steps log node.history workers node.txns worker m.worker m.node.history m.node.txns

some_entry : (a b : ℕ) → Some a ≡ Some b → a ≡ b
some_entry a b e = cc

none_entry : (n : ℕ) → None ≡ Some n → ⊥
none_entry n e = absurd (let q : None ≡ Some n = e in cc)

-- the same worker and history, and other transactions
pub calm_steps : (log history : List Entry) (workers : List Worker) (txns left : List Txn) (worker : Worker) → Follows log history → Passes worker.owner.0 txns left
    → Works log (applied_of history) worker.entry worker.started (txn_of worker.owner.0 left) → Steps log history workers txns worker worker history left
calm_steps log history workers txns left worker follows passes works = record {
  owner = refl;
  passes = passes;
  works = works;
  follows = follows;
  later = λ n apart less. less;
  free = λ n has. inl has;
}

-- an entry is taken

behind_is : (log : List Entry) (applied number started : ℕ) (entry : Entry) → applied < number → slice_get log (number - 1) ≡ Some entry → statement_behind started number log ≡ slice_get entry.statements started
behind_is log applied number started entry later found =
    ap (option_and_then (λ (e : Entry). slice_get e.statements started)) (entry_is log number (λ e. absurd (omega (arith, later, e))) ∙ found)

abbrev begun_txn : ℕ → Worker → Txn
begun_txn number worker = record { owner = worker.owner; part = Apply number; done = []; current = None }

abbrev first_txn : ℕ → Worker → Statement → NodeView → Txn
first_txn number worker statement node = record {
  owner = worker.owner;
  part = Apply number;
  done = [];
  current = Some (record { statement = statement; cursor = start_of node.schemas statement });
}

starts : (number : ℕ) (worker : Worker) (statement : Statement) (node : NodeView) → txn_of worker.owner.0 node.txns ≡ None
    → after_call (StartCall worker.owner statement) (after_call (BeginCall worker.owner (Apply number)) node) ≡ record node { txns = with_txn (first_txn number worker statement node) node.txns }
starts number worker statement node none =
    ap (λ (o : Option Txn). after_call (StartCall worker.owner statement) (begun_if o worker.owner (Apply number) node)) none
    ∙ ap (λ (o : Option Txn). started_if o statement (begun worker.owner (Apply number) node)) (txn_same (begun_txn number worker) node.txns)
    ∙ ap (λ (ts : List Txn). record node { txns = ts }) (with_twice (first_txn number worker statement node) (begun_txn number worker) node.txns refl)

took_steps : (log : List Entry) (workers : List Worker) (node : NodeView) (worker : Worker) (number started : ℕ) (entry : Entry) (txn : Txn) → Follows log node.history
    → applied_of node.history < number → slice_get log (number - 1) ≡ Some entry → (worker.entry ≡ Some number) ⊎ (is_taken number workers ≡ false)
    → txn.owner.0 ≡ worker.owner.0 → IsApplying number entry.statements started txn
    → Steps log node.history workers node.txns worker (with_entry number started worker) node.history (with_txn txn node.txns)
took_steps log workers node worker number started entry txn follows later found free own applying = record {
  owner = refl;
  passes = put_passes worker.owner.0 txn node.txns own;
  works = record {
    later = later;
    entry = entry;
    found = found;
    doing = subst (Doing number entry.statements started) (sym (put_own worker.owner.0 txn node.txns own)) applying;
  };
  follows = follows;
  later = λ n apart less. less;
  free = λ n has. subst (λ (m : ℕ). (worker.entry ≡ Some m) ⊎ (is_taken m workers ≡ false)) (some_entry number n has) free;
}

pub took_good : (log : List Entry) (workers : List Worker) (node : NodeView) (worker : Worker) (number : ℕ) (entry : Entry) → Follows log node.history
    → applied_of node.history < number → slice_get log (number - 1) ≡ Some entry → (worker.entry ≡ Some number) ⊎ (is_taken number workers ≡ false)
    → txn_of worker.owner.0 node.txns ≡ None → Good log workers node worker (took number (statement_behind 0 number log) worker node)
took_good log workers node worker number entry follows later found free none =
    subst (λ (o : Option Statement). Good log workers node worker (took number o worker node)) (sym (behind_is log (applied_of node.history) number 0 entry later found ∙ first_got entry.statements))
    (at entry.statements refl)
  where
    at : (statements : List Statement) → statements ≡ entry.statements → Good log workers node worker (took number (first_of statements) worker node)
    at [] is = subst (λ (n : NodeView). Good log workers node worker (record (took number None worker node) { node = n })) (sym (ap (λ (o : Option Txn). begun_if o worker.owner (Apply number) node) none))
        (took_steps log workers node worker number 0 entry (begun_txn number worker) follows later found free refl (record { part = refl; so_far = is }))
    at (statement ∷ rest) is = subst (λ (n : NodeView). Good log workers node worker (record (took number (Some statement) worker node) { node = n })) (sym (starts number worker statement node none))
        (took_steps log workers node worker number 1 entry (first_txn number worker statement node) follows later found free refl
        (record { part = refl; so_far = record { rest = rest; whole = is; count = refl } }))

-- a visit, and the start of the next statement where it was done with one

abbrev answered : Option Statement → Visit → Worker → NodeView → Moved
answered None answer worker node = record { turn = Visited answer; worker = worker; node = node }
answered (Some next) answer worker node = record { turn = Visited answer; worker = after_answer answer worker; node = next_started answer worker.owner next node }

visit_is : (next : Option Statement) (worker : Worker) (node : NodeView) → visit_move next worker node ≡ answered next (visit_answer worker.owner.0 node) worker (after_call (VisitCall worker.owner) node)
visit_is None worker node = refl
visit_is (Some next) worker node = refl

-- where no statement is done the worker stays as it is
abbrev IsCalm : Visit → Type 0
IsCalm Stepped = Unit {0}
IsCalm Done = ⊥
IsCalm (Duplicate key) = Unit {0}
IsCalm (Waits by) = Unit {0}
IsCalm (Deadlock victim cycle) = Unit {0}

calm_answer : (log : List Entry) (workers : List Worker) (node : NodeView) (worker : Worker) (next : Option Statement) (answer : Visit) (left : NodeView) → IsCalm answer
    → Steps log node.history workers node.txns worker worker left.history left.txns → Good log workers node worker (answered next answer worker left)
calm_answer log workers node worker None answer left calm steps = steps
calm_answer log workers node worker (Some next) Stepped left calm steps = steps
calm_answer log workers node worker (Some next) Done left calm steps = absurd calm
calm_answer log workers node worker (Some next) (Duplicate key) left calm steps = steps
calm_answer log workers node worker (Some next) (Waits by) left calm steps = steps
calm_answer log workers node worker (Some next) (Deadlock victim cycle) left calm steps = steps

-- a worker's statement is never refused
no_duplicate : (number : ℕ) (part : Part) (statement : Statement) (plan : Plan) → part ≡ Apply number → is_duplicate part statement plan ≡ false
no_duplicate number part statement plan is = ap (λ (p : Part). is_duplicate p statement plan) is

next_is : (log : List Entry) (applied number started : ℕ) (entry : Entry) (done : List Statement) (statement : Statement) (rest : List Statement) → applied < number
    → slice_get log (number - 1) ≡ Some entry → done ++ statement ∷ rest ≡ entry.statements → started ≡ length done + 1 → statement_behind started number log ≡ first_of rest
next_is log applied number started entry done statement rest later found whole count =
    behind_is log applied number started entry later found
    ∙ ap (λ (ss : List Statement). slice_get ss started) (sym whole)
    ∙ got_behind done statement rest started count

-- the worker's node after a visit that nobody excludes
abbrev stepped_node : Bool → Txn → Walk → Plan → NodeView → NodeView
stepped_node ends txn walk plan node = record node { txns = with_txn (moved_by false ends txn walk plan) node.txns; held = taken txn.owner (table_of walk.statement) plan node.held }

-- the next statement is in progress
abbrev with_statement : Txn → Statement → NodeView → Txn
with_statement txn statement node = record txn { current = Some (record { statement = statement; cursor = start_of node.schemas statement }) }

next_starts : (owner : ℕ) (txn : Txn) (next : Statement) (old : List Txn) (node : NodeView) → node.txns ≡ with_txn txn old → txn.owner.0 ≡ owner → txn.current ≡ None
    → started_if (txn_of owner node.txns) next node ≡ record node { txns = with_txn (with_statement txn next node) old }
next_starts owner txn next old node are own idle =
    ap (λ (o : Option Txn). started_if o next node) (ap (txn_of owner) are ∙ put_own owner txn old own)
    ∙ ap (λ (w : Option Walk). started_idle w txn next node) idle
    ∙ ap (λ (ts : List Txn). record node { txns = ts }) (ap (with_txn (with_statement txn next node)) are ∙ with_twice (with_statement txn next node) txn old refl)

pub visit_good : (log : List Entry) (workers : List Worker) (node : NodeView) (worker : Worker) (number : ℕ) (txn : Txn) (walk : Walk) → Follows log node.history
    → worker.entry ≡ Some number → HasEntry log (applied_of node.history) number worker.started (Some txn) → txn_of worker.owner.0 node.txns ≡ Some txn → txn.current ≡ Some walk
    → Good log workers node worker (visit_move (next_statement worker.started worker.entry log) worker node)
visit_good log workers node worker number txn walk follows has works found current =
    subst (λ (o : Option Statement). Good log workers node worker (visit_move o worker node)) (sym next_same)
    (subst (Good log workers node worker) (sym (visit_is (first_of so_far.rest) worker node))
    (subst (λ (a : Visit). Good log workers node worker (answered (first_of so_far.rest) a worker (after_call (VisitCall worker.owner) node)))
    (sym (ap (λ (t : Option Txn). answer_if t node) found ∙ ap (λ (w : Option Walk). answer_in w txn node) current))
    (subst (λ (n : NodeView). Good log workers node worker (answered (first_of so_far.rest) (answer_by excluder txn walk plan node) worker n))
    (sym (ap (λ (t : Option Txn). visit_if t node) found ∙ ap (λ (w : Option Walk). visited_if w txn node) current))
    (by_excluder excluder))))
  where
    plan : Plan
    plan = plan_of node txn walk

    excluder : Option ℕ
    excluder = plan_excluder txn.owner (table_of walk.statement) plan node.held

    applying : IsApplying number works.entry.statements worker.started txn
    applying = works.doing

    so_far : UpTo works.entry.statements worker.started txn.done walk.statement
    so_far = subst (DoneSoFar works.entry.statements worker.started txn.done) current applying.so_far

    own : txn.owner.0 ≡ worker.owner.0
    own = txn_owner worker.owner.0 txn node.txns found

    next_same : next_statement worker.started worker.entry log ≡ first_of so_far.rest
    next_same =
        ap (λ (e : Option ℕ). next_statement worker.started e log) has
        ∙ next_is log (applied_of node.history) number worker.started works.entry txn.done walk.statement so_far.rest works.later works.found so_far.whole so_far.count

    -- its transaction is as it was, or gone
    as_before : (new : Option Txn) → (new ≡ txn_of worker.owner.0 node.txns) ⊎ (new ≡ None) → Works log (applied_of node.history) worker.entry worker.started new
    as_before new or = subst (λ (e : Option ℕ). Works log (applied_of node.history) e worker.started new) (sym has)
        (works_on log (applied_of node.history) (applied_of node.history) (Some number) worker.started (txn_of worker.owner.0 node.txns) new (λ n is less. less) or
        (subst (HasEntry log (applied_of node.history) number worker.started) (sym found) works))

    after : (started : ℕ) (new : Txn) → new.owner.0 ≡ worker.owner.0 → new.part ≡ txn.part → DoneSoFar works.entry.statements started new.done new.current
        → HasEntry log (applied_of node.history) number started (txn_of worker.owner.0 (with_txn new node.txns))
    after started new mine same done = record {
      later = works.later;
      entry = works.entry;
      found = works.found;
      doing = subst (Doing number works.entry.statements started) (sym (put_own worker.owner.0 new node.txns mine)) (record { part = same ∙ applying.part; so_far = done });
    }

    stays : (left : NodeView) (new : Txn) → left.txns ≡ with_txn new node.txns → left.history ≡ node.history → new.owner.0 ≡ worker.owner.0 → new.part ≡ txn.part → DoneSoFar works.entry.statements worker.started new.done new.current
        → Steps log node.history workers node.txns worker worker left.history left.txns
    stays left new txns history mine same done =
        subst (λ (ts : List Txn). Steps log node.history workers node.txns worker worker left.history ts) (sym txns)
        (subst (λ (es : List Entry). Steps log node.history workers node.txns worker worker es (with_txn new node.txns)) (sym history)
        (calm_steps log node.history workers node.txns (with_txn new node.txns) worker follows (put_passes worker.owner.0 new node.txns mine)
        (subst (λ (e : Option ℕ). Works log (applied_of node.history) e worker.started (txn_of worker.owner.0 (with_txn new node.txns))) (sym has) (after worker.started new mine same done))))

    goes_on : Good log workers node worker (answered (first_of so_far.rest) Stepped worker (stepped_node false txn walk plan node))
    goes_on = calm_answer log workers node worker (first_of so_far.rest) Stepped (stepped_node false txn walk plan node) tt
        (stays (stepped_node false txn walk plan node) (moved_by false false txn walk plan) refl refl own refl so_far)

    going : Statement → Txn
    going next = with_statement (moved_by false true txn walk plan) next node

    starts_next : (next : Statement) → started_if (txn_of worker.owner.0 (with_txn (moved_by false true txn walk plan) node.txns)) next (stepped_node true txn walk plan node)
        ≡ record (stepped_node true txn walk plan node) { txns = with_txn (going next) node.txns }
    starts_next next = next_starts worker.owner.0 (moved_by false true txn walk plan) next node.txns (stepped_node true txn walk plan node) refl own refl

    done_with : (rest : List Statement) → txn.done ++ walk.statement ∷ rest ≡ works.entry.statements → Good log workers node worker (answered (first_of rest) Done worker (stepped_node true txn walk plan node))
    done_with [] whole = stays (stepped_node true txn walk plan node) (moved_by false true txn walk plan) refl refl own refl whole
    done_with (next ∷ rest) whole = subst (λ (n : NodeView). Steps log node.history workers node.txns worker (record worker { started = worker.started + 1 }) n.history n.txns) (sym (starts_next next)) (record {
      owner = refl;
      passes = put_passes worker.owner.0 (going next) node.txns own;
      works = subst (λ (e : Option ℕ). Works log (applied_of node.history) e (worker.started + 1) (txn_of worker.owner.0 (with_txn (going next) node.txns))) (sym has)
          (after (worker.started + 1) (going next) own refl (record {
            rest = rest;
            whole = moved_over txn.done walk.statement (next ∷ rest) ∙ whole;
            count = let one = snoc_length txn.done walk.statement in let count = so_far.count in omega (arith, one, count);
          }));
      follows = follows;
      later = λ n apart less. less;
      free = λ n is. inl is;
    })

    waits : (by : ℕ) (cycle : Option (List ℕ)) → Good log workers node worker (answered (first_of so_far.rest) (answer_wait cycle by txn.owner.0 node) worker (after_wait cycle txn.owner.0 node))
    waits by None = calm_answer log workers node worker (first_of so_far.rest) (Waits (owner_at by)) node tt
        (calm_steps log node.history workers node.txns node.txns worker follows (still_passes worker.owner.0 node.txns) (as_before (txn_of worker.owner.0 node.txns) (inl refl)))
    waits by (Some cycle) = ends (victim_of node.txns txn.owner.0 cycle)
      where
        ends : (v : ℕ) → Good log workers node worker (answered (first_of so_far.rest) (answer_wait (Some cycle) by txn.owner.0 node) worker (ended v node))
        ends v = calm_answer log workers node worker (first_of so_far.rest) (answer_wait (Some cycle) by txn.owner.0 node) (ended v node) tt
            (calm_steps log node.history workers node.txns (without_txn v node.txns) worker follows (ended_passes worker.owner.0 v node.txns)
            (as_before (txn_of worker.owner.0 (without_txn v node.txns)) (ended_each v node.txns worker.owner.0)))

    steps_by : (refused : Bool) → refused ≡ false → (stop : Bool)
        → Good log workers node worker (answered (first_of so_far.rest) (answer_of (duplicate_key refused plan.on_key) stop) worker (record node { txns = with_txn (moved_by refused stop txn walk plan) node.txns; held = taken txn.owner (table_of walk.statement) plan node.held }))
    steps_by true e stop = absurd (let q : true ≡ false = e in cc)
    steps_by false e true = done_with so_far.rest so_far.whole
    steps_by false e false = goes_on

    by_excluder : (ex : Option ℕ) → Good log workers node worker (answered (first_of so_far.rest) (answer_by ex txn walk plan node) worker (visited_unless ex txn walk plan node))
    by_excluder (Some by) = waits by (cycle_of node txn.owner.0)
    by_excluder None = steps_by (is_duplicate txn.part walk.statement plan) (no_duplicate number txn.part walk.statement plan applying.part) plan.ends

-- a commit

not_less : (a b : ℕ) → nat_lt a b ≡ false → b ≤ a
not_less a b e = grind (arith, nat_tests)

commits : (node : NodeView) (worker : Worker) (number : ℕ) (txn : Txn) (entry : Entry) → txn_of worker.owner.0 node.txns ≡ Some txn → txn.current ≡ None → txn.done ≡ entry.statements → AreLogged entry
    → after_call (CommitCall worker.owner (Applied number)) node ≡ ended worker.owner.0 (record node { history = node.history ++ applying number entry ∷ [] })
commits node worker number txn entry found idle done all =
    ap (λ (o : Option Txn). committed_if o (Applied number) node) found
    ∙ ap (λ (w : Option Walk). committed_idle w txn (Applied number) node) idle
    ∙ (λ i. ended (txn_owner worker.owner.0 txn node.txns found i) (with_entries (written (Applied number) (logged (done i))) node))
    ∙ ap (λ (ss : List Statement). ended worker.owner.0 (with_entries (written (Applied number) ss) node)) (all_kept is_logged entry.statements all)

pub commit_good : (log : List Entry) (workers : List Worker) (node : NodeView) (worker : Worker) (number : ℕ) (txn : Txn) → AllByRecursion AreLogged log → Follows log node.history
    → worker.entry ≡ Some number → HasEntry log (applied_of node.history) number worker.started (Some txn) → txn_of worker.owner.0 node.txns ≡ Some txn → txn.current ≡ None
    → Good log workers node worker (commit_move (earlier_open (applied_of node.history) number) number worker node)
commit_good log workers node worker number txn all follows has works found idle = at (nat_lt (applied_of node.history + 1) number) refl
  where
    applied : ℕ
    applied = applied_of node.history

    applying_it : IsApplying number works.entry.statements worker.started txn
    applying_it = works.doing

    done : txn.done ≡ works.entry.statements
    done = subst (DoneSoFar works.entry.statements worker.started txn.done) idle applying_it.so_far

    entry_logged : AreLogged works.entry
    entry_logged = each_at AreLogged log (number - 1) works.entry all works.found

    next : number ≡ applied + 1 → Good log workers node worker (commit_move None number worker node)
    next is = subst (λ (n : NodeView). Good log workers node worker (record (commit_move None number worker node) { node = n })) (sym (commits node worker number txn works.entry found idle done entry_logged)) (record {
      owner = refl;
      passes = ended_passes worker.owner.0 worker.owner.0 node.txns;
      works = txn_gone worker.owner.0 node.txns;
      follows = subst (λ (n : ℕ). Follows log (node.history ++ applying n works.entry ∷ [])) (sym is) (follows_more log node.history works.entry follows (ap (slice_get log) place ∙ works.found));
      later = λ n apart less.
          let other : number ≢ n = λ same. apart (has ∙ ap Some same) in
          let more = applied_of-more node.history (applying number works.entry) in
          omega (arith, is, other, less, more);
      free = λ n is_taken. absurd (none_entry n is_taken);
    })
      where
        place : applied ≡ number - 1
        place = omega (arith, is)

    at : (b : Bool) → nat_lt (applied + 1) number ≡ b → Good log workers node worker (commit_move (cond b (Some (applied + 1)) None) number worker node)
    at true e = calm_steps log node.history workers node.txns node.txns worker follows (still_passes worker.owner.0 node.txns)
        (subst (λ (o : Option ℕ). Works log applied o worker.started (txn_of worker.owner.0 node.txns)) (sym has) (subst (HasEntry log applied number worker.started) (sym found) works))
    at false e = next (let not = not_less (applied + 1) number e in let later = works.later in omega (arith, not, later))
