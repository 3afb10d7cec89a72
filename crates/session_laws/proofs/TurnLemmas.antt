-- What a session has written stays what its lines call for, after each turn and each call of others.
use Rattle.std.proofs.Common.{◌≡◌, ◌∙◌, ◌⊎◌, inl, inr, ℕ, ◌+◌, ◌==◌, ◌&&◌, not, Bool, true, false, cond, List, [], ◌∷◌, ◌++◌, length, take, Option, None, Some, refl, ap, sym, subst, append_assoc, append-nil, length-append, arith}
use Rattle.std.specs.Prelude.{is_some, option_and_then}
use Rattle.std.specs.Option.{option_map_or}
use Rattle.std.specs.List.{AllByRecursion, slice_get}
use Rattle.row_types.specs.declared.values.Value.{Value}
use Rattle.row_types.specs.declared.lock_modes.LockMode.{LockMode}
use Rattle.row_types.specs.declared.edges.Edge.{Edge}
use Rattle.row_types.specs.declared.table_schema.Schema.{Schema}
use Rattle.row_types.specs.Fit.{key_of}
use Rattle.ptc_statement.specs.declared.statements.Statement.{Statement}
use Rattle.ptc_statement.specs.declared.statements.Statement.TheVariants.{Insert, Replace, Delete, Update, LockRead, Check, SetMaster, ClearChecks}
use Rattle.ptc_statement.specs.Effect.{table_of}
use Rattle.ptc_statement.specs.Fits.{FitsSchemas}
use Rattle.ptc_statement.specs.declared.scripts.ScriptLine.{ScriptLine}
use Rattle.ptc_statement.specs.declared.scripts.ScriptStep.{ScriptStep}
use Rattle.ptc_statement.specs.declared.scripts.ScriptStep.TheVariants.{Begin, Commit, Rollback, Run}
use Rattle.statement_log.specs.declared.entries.Entry.{Entry}
use Rattle.statement_log.specs.declared.origins.Origin.{Origin}
use Rattle.lock_table.specs.declared.wants.Owner.{Owner}
use Rattle.lock_table.proofs.HoldLemmas.{number_is, number_apart}
use Rattle.txn_walk.specs.declared.plans.Plan.{Plan}
use Rattle.txn_walk.specs.Plans.{next_visit, row_visit}
use Rattle.node_model.specs.declared.parts.Part.TheVariants.{Client}
use Rattle.node_model.specs.declared.txns.Walk.{Walk}
use Rattle.node_model.specs.declared.txns.Txn.{Txn}
use Rattle.node_model.specs.Txns.{txn_of, with_txn}
use Rattle.node_model.specs.Node.{NodeView, begun, started, ended, taken as taken_locks, plan_of, empty_plan, plan_excluder, is_duplicate, is_client, is_insert, stops, is_live}
use Rattle.node_model.specs.Waits.{cycle_of, victim_of, after_wait, visited_unless}
use Rattle.node_model.specs.Calls.{Call, Begin as BeginCall, Start as StartCall, Visit as VisitCall, after_call, begun_if, started_if, started_idle, visit_if, visited_if, committed_if, committed_idle}
use Rattle.node_model.proofs.TxnLemmas.{txn_same, txn_left, txn_gone, txn_owner}
use Rattle.node_model.proofs.CallLemmas.{same_schemas}
use Rattle.node_visits.specs.declared.visits.Visit.{Visit}
use Rattle.node_visits.specs.Answers.{duplicate_key, answer_of, answer_wait, answer_by, answer_in, answer_if, visit_answer}
use Rattle.node_parts.specs.Views.{walk_of}
use Rattle.session.specs.declared.stages.Stage.{Stage}
use Rattle.session.specs.declared.stages.Stage.TheVariants.{Between, Within, Alone}
use Rattle.session.specs.declared.stages.SessionTurn.TheVariants.{Victim}
use Rattle.session.specs.Sessions.{SessionView, RunFits, new_session, is_open, advanced, entered, entered_alone, rolled_back}
use Rattle.session.specs.Moves.{Moved, after_answer, visit_move, line_move, step_move, idle_move, begun_move, next_move}
use Rattle.session_laws.specs.OwnCalls.{is_among, entry_of, entries_at, calls_from, lines_behind, calls_of, is_own, own_entries, IsOthers, goes_on, is_whole, LinesRise, Event, Own, Other, after_event, after_events, EventFits}
use Rattle.session_laws.proofs.LineLemmas.{IsRun, IsEnd, kept_at, closed, calls_same, lone_place, lone_calls, txn_place, txn_calls}
use Rattle.session_laws.proofs.CallLemmas.{Leaves, others_leave}
use Rattle.session_laws.proofs.ListLemmas.{got_at, got_none, taken, all_right, all_joined, all_map, among_joined, whole_after_run}
use Rattle.session_laws.proofs.OwnLemmas.{fresh_none, Going, IsDoing, Staged, stays, done_more, refused_more, kept_done, kept_refused}
use Rattle.session_laws.proofs.LeaveLemmas.{Ground, Holds, Fine, IsGone, rolled, commits, rolled_by_script}

-- the next line

there : (g : Ground) (behind mid rest : List ScriptLine) (before more : List ℕ) (session : SessionView) (node : NodeView) → Holds g behind mid rest before more session node
    → slice_get session.script session.next ≡ slice_get ((behind ++ mid) ++ rest) (length (behind ++ mid))
there g behind mid rest before more session node o =
    λ i. slice_get ((o.script_is ∙ o.split ∙ sym (append_assoc behind mid rest)) i) ((o.next ∙ sym (length-append behind mid)) i)

next_line : (g : Ground) (behind mid : List ScriptLine) (line : ScriptLine) (rest : List ScriptLine) (before more : List ℕ) (session : SessionView) (node : NodeView) → Holds g behind mid (line ∷ rest) before more session node
    → slice_get session.script session.next ≡ Some line
next_line g behind mid line rest before more session node o = there g behind mid (line ∷ rest) before more session node o ∙ got_at (behind ++ mid) line rest

no_line : (g : Ground) (behind mid : List ScriptLine) (before more : List ℕ) (session : SessionView) (node : NodeView) → Holds g behind mid [] before more session node → slice_get session.script session.next ≡ None
no_line g behind mid before more session node o = there g behind mid [] before more session node o ∙ got_none (behind ++ mid)

line_fits : (g : Ground) (behind mid : List ScriptLine) (line : ScriptLine) (rest : List ScriptLine) (before more : List ℕ) (session : SessionView) (node : NodeView) (statement : Statement) → Holds g behind mid (line ∷ rest) before more session node
    → line.step ≡ Run statement → FitsSchemas node.schemas statement
line_fits g behind mid line rest before more session node statement o step =
    subst (λ (ss : List Schema). FitsSchemas ss statement) (sym o.schemas_are)
    (subst (RunFits g.schemas) step
    (all_right (λ (l : ScriptLine). RunFits g.schemas l.step) mid (line ∷ rest)
    (all_right (λ (l : ScriptLine). RunFits g.schemas l.step) behind (mid ++ line ∷ rest) (subst (AllByRecursion (λ (l : ScriptLine). RunFits g.schemas l.step)) o.split g.fits))).0)

put_found : (owner : ℕ) (txn : Txn) (txns : List Txn) → txn.owner.0 ≡ owner → txn_of owner (with_txn txn txns) ≡ Some txn
put_found owner txn txns same = ap (λ (o : ℕ). txn_of o (with_txn txn txns)) (sym same) ∙ txn_same txn txns

-- an INSERT that is refused has a key

row_key : (key : List Value) (mode : LockMode) (live : Bool) → (row_visit key mode live).on_key ≡ None → ⊥
row_key key mode true e = cc
row_key key mode false e = cc

not_insert : (client insert : Bool) → (client && false && insert) ≡ true → ⊥
not_insert true insert e = let q : false ≡ true = e in cc
not_insert false insert e = let q : false ≡ true = e in cc

insert_key : (schema : Schema) (statement : Statement) (cursor : Edge) (stop : List (List Value)) (live : List Value → Bool) (client : Bool)
    → (client && is_insert statement && not (next_visit schema statement cursor stop live).insert) ≡ true → (next_visit schema statement cursor stop live).on_key ≡ None → ⊥
insert_key schema (Insert table row) cursor stop live client e none = row_key (key_of schema row) _ (live (key_of schema row)) none
insert_key schema (Replace table row) cursor stop live client e none = not_insert client _ e
insert_key schema (Delete table where_true) cursor stop live client e none = not_insert client _ e
insert_key schema (Update table sets where_true) cursor stop live client e none = not_insert client _ e
insert_key schema (LockRead table mode span where_true) cursor stop live client e none = not_insert client _ e
insert_key schema (Check table chunk span kind) cursor stop live client e none = not_insert client _ e
insert_key schema (SetMaster table chunk kind master) cursor stop live client e none = not_insert client _ e
insert_key schema (ClearChecks table) cursor stop live client e none = not_insert client _ e

refused_key : (node : NodeView) (txn : Txn) (walk : Walk) → FitsSchemas node.schemas walk.statement → is_duplicate txn.part walk.statement (plan_of node txn walk) ≡ true → (plan_of node txn walk).on_key ≡ None → ⊥
refused_key node txn walk fits e none =
    insert_key fits.schema walk.statement walk.cursor (stops node txn.owner.0 (table_of walk.statement)) (is_live node (table_of walk.statement)) (is_client txn.part)
    (ap (λ (p : Plan). is_client txn.part && is_insert walk.statement && not p.insert) (sym plan) ∙ e) (ap (λ (p : Plan). p.on_key) (sym plan) ∙ none)
  where
    plan : plan_of node txn walk ≡ next_visit fits.schema walk.statement walk.cursor (stops node txn.owner.0 (table_of walk.statement)) (is_live node (table_of walk.statement))
    plan =
        ap (λ (o : Option Schema).
        option_map_or (λ (schema : Schema). next_visit schema walk.statement walk.cursor (stops node txn.owner.0 (table_of walk.statement)) (is_live node (table_of walk.statement))) o (empty_plan walk.cursor))
        fits.found

-- where a session is after a visit

record Steps (stage : Stage) (behind mid : List ScriptLine) (line : ScriptLine) (rest : List ScriptLine) (before more : List ℕ) (session : SessionView) (txn : Txn) (walk : Walk) : Type 0 where
  stepped : (new : Txn) (cursor : Edge) → new.done ≡ txn.done → new.current ≡ Some (record { statement = walk.statement; cursor = cursor })
      → Staged stage (length behind) session.first (before ++ more) more mid (line ∷ rest) (Some new)
  done : (new : Txn) → new.done ≡ txn.done ++ walk.statement ∷ [] → new.current ≡ None → Staged stage (length behind) session.first (before ++ more) more (mid ++ line ∷ []) rest (Some new)
  refused : (new : Txn) → new.done ≡ txn.done → new.current ≡ None
      → Staged stage (length behind) session.first (before ++ (more ++ line.line ∷ [])) (more ++ line.line ∷ []) (mid ++ line ∷ []) rest (Some new)

within_steps : (g : Ground) (behind : List ScriptLine) (begin : ScriptLine) (runs : List ScriptLine) (line : ScriptLine) (rest : List ScriptLine) (before more : List ℕ) (session : SessionView) (node : NodeView) (txn : Txn) (walk : Walk)
    → Holds g behind (begin ∷ runs) (line ∷ rest) before more session node → Staged Within (length behind) session.first (before ++ more) more (begin ∷ runs) (line ∷ rest) (Some txn) → line.step ≡ Run walk.statement
    → Steps Within behind (begin ∷ runs) line rest before more session txn walk
within_steps g behind begin runs line rest before more session node txn walk o s step = record {
  stepped = λ new cursor same current. (s.0, s.1, s.2, s.3, (same ∙ s.4.0, subst (λ (w : Option Walk). Going w (line ∷ rest)) (sym current) step));
  done = λ new same current. (
    s.0,
    s.1,
    all_joined (λ (l : ScriptLine). IsRun l.step) runs (line ∷ []) s.2 (run, tt),
    whole_after_run true line rest run s.3,
    (
      same ∙ kept_done before more (begin ∷ runs) line walk.statement txn.done s.4.0 step (all_right (λ (l : ScriptLine). is_among l.line before ≡ false) (begin ∷ runs) (line ∷ rest) o.core.fresh).0 o.fresh.0,
      subst (λ (w : Option Walk). Going w rest) (sym current) tt,
    ),
  );
  refused = λ new same current. (
    s.0,
    s.1,
    all_joined (λ (l : ScriptLine). IsRun l.step) runs (line ∷ []) s.2 (run, tt),
    whole_after_run true line rest run s.3,
    (same ∙ kept_refused g.script behind (begin ∷ runs) line rest before more walk.statement txn.done g.rise o.split s.4.0 step, subst (λ (w : Option Walk). Going w rest) (sym current) tt),
  );
}
  where
    run : IsRun line.step
    run = subst IsRun (sym step) tt

alone_steps : (g : Ground) (behind : List ScriptLine) (line : ScriptLine) (rest : List ScriptLine) (before more : List ℕ) (session : SessionView) (node : NodeView) (txn : Txn) (walk : Walk)
    → Holds g behind [] (line ∷ rest) before more session node → Staged Alone (length behind) session.first (before ++ more) more [] (line ∷ rest) (Some txn) → line.step ≡ Run walk.statement
    → Steps Alone behind [] line rest before more session txn walk
alone_steps g behind line rest before more session node txn walk o s step = record {
  stepped = λ new cursor same current. (s.0, s.1, (same ∙ s.2.0, subst (λ (w : Option Walk). IsDoing w line) (sym current) step));
  done = λ new same current. (s.0, s.1, (same ∙ kept_done before more [] line walk.statement txn.done s.2.0 step o.core.fresh.0 o.fresh.0, current));
  refused = λ new same current. (s.0, s.1, (same ∙ kept_refused g.script behind [] line rest before more walk.statement txn.done g.rise o.split s.2.0 step, current));
}

visit_fine : (g : Ground) (retries : ℕ) (stage : Stage) (behind mid : List ScriptLine) (line : ScriptLine) (rest : List ScriptLine) (before more : List ℕ) (session : SessionView) (node : NodeView) (txn : Txn) (walk : Walk)
    → Holds g behind mid (line ∷ rest) before more session node → session.stage ≡ stage → is_open stage ≡ true → Staged stage (length behind) session.first (before ++ more) more mid (line ∷ rest) (Some txn)
    → txn_of session.owner.0 node.txns ≡ Some txn → txn.current ≡ Some walk → line.step ≡ Run walk.statement → Steps stage behind mid line rest before more session txn walk
    → Fine g (after_answer retries (visit_answer session.owner.0 node) line.line session) (after_call (VisitCall session.owner) node)
visit_fine g retries stage behind mid line rest before more session node txn walk o at_stage opened staged found current step steps =
    subst (λ (a : Visit). Fine g (after_answer retries a line.line session) (after_call (VisitCall session.owner) node)) (sym (ap (λ (t : Option Txn). answer_if t node) found ∙ ap (λ (w : Option Walk). answer_in w txn node) current))
    (subst (Fine g (after_answer retries (answer_by excluder txn walk (plan_of node txn walk) node) line.line session)) (sym (ap (λ (t : Option Txn). visit_if t node) found ∙ ap (λ (w : Option Walk). visited_if w txn node) current))
    (by_excluder excluder))
  where
    excluder : Option ℕ
    excluder = plan_excluder txn.owner (table_of walk.statement) (plan_of node txn walk) node.held

    mine : txn.owner.0 ≡ session.owner.0
    mine = txn_owner session.owner.0 txn node.txns found

    victim : (v : ℕ) (b : Bool) → (v == session.owner.0) ≡ b → Fine g (cond b (rolled_back retries session) session) (ended v node)
    victim v true e =
        rolled g retries stage behind mid (line ∷ rest) before more session node (ended v node) (Some txn) o at_stage opened staged
        (record { schemas = refl; entries = refl; txn = ap (λ (n : ℕ). txn_of n (ended v node).txns) (sym (number_is v session.owner.0 e)) ∙ txn_gone v node.txns })
    victim v false e = record {
      behind = behind;
      mid = mid;
      rest = line ∷ rest;
      before = before;
      more = more;
      is = stays g.owner g.origin g.script g.schemas g.start behind mid (line ∷ rest) before more session node (ended v node) o refl refl
          (subst (Staged session.stage (length behind) session.first (before ++ more) more mid (line ∷ rest)) (sym (txn_left session.owner.0 v node.txns (λ same. number_apart v session.owner.0 e (sym same)))) o.staged);
    }

    by_cycle : (by : ℕ) (cycle : Option (List ℕ)) → Fine g (after_answer retries (answer_wait cycle by txn.owner.0 node) line.line session) (after_wait cycle txn.owner.0 node)
    by_cycle by None = record { behind = behind; mid = mid; rest = line ∷ rest; before = before; more = more; is = o }
    by_cycle by (Some cycle) = victim (victim_of node.txns txn.owner.0 cycle) (victim_of node.txns txn.owner.0 cycle == session.owner.0) refl

    put : (new : Txn) → new.owner.0 ≡ txn.owner.0 → NodeView
    put new same = record node { txns = with_txn new node.txns; held = taken_locks txn.owner (table_of walk.statement) (plan_of node txn walk) node.held }

    staged_at : (m r : List ScriptLine) (rf mo : List ℕ) (new : Txn) → new.owner.0 ≡ txn.owner.0 → Staged stage (length behind) session.first rf mo m r (Some new)
        → Staged session.stage (length behind) session.first rf mo m r (txn_of session.owner.0 (with_txn new node.txns))
    staged_at m r rf mo new same s =
        subst (λ (st : Stage). Staged st (length behind) session.first rf mo m r (txn_of session.owner.0 (with_txn new node.txns))) (sym at_stage)
        (subst (Staged stage (length behind) session.first rf mo m r) (sym (put_found session.owner.0 new node.txns (same ∙ txn_owner session.owner.0 txn node.txns found))) s)

    outcome : (dup ends : Bool) (on_key : Option (List Value × LockMode)) (after : Edge) → (dup ≡ true → on_key ≡ None → ⊥)
        → Fine g (after_answer retries (answer_of (duplicate_key dup on_key) ends) line.line session)
        (record node {
          txns = with_txn (cond dup (record txn { current = None })
              (cond ends (record txn { done = txn.done ++ walk.statement ∷ []; current = None }) (record txn { current = Some (record { statement = walk.statement; cursor = after }) }))) node.txns;
          held = taken_locks txn.owner (table_of walk.statement) (plan_of node txn walk) node.held;
        })
    outcome true ends None after keyed = absurd (keyed refl refl)
    outcome true ends (Some lock) after keyed =
        refused_more g.owner g.origin g.script g.schemas g.start behind mid line rest before more session node (put (record txn { current = None }) refl) g.rise o refl refl
        (staged_at (mid ++ line ∷ []) rest (before ++ (more ++ line.line ∷ [])) (more ++ line.line ∷ []) (record txn { current = None }) refl (steps.refused (record txn { current = None }) refl refl))
    outcome false true on_key after keyed =
        done_more g.owner g.origin g.script g.schemas g.start behind mid line rest before more session node (put (record txn { done = txn.done ++ walk.statement ∷ []; current = None }) refl) o refl refl
        (staged_at (mid ++ line ∷ []) rest (before ++ more) more (record txn { done = txn.done ++ walk.statement ∷ []; current = None }) refl (steps.done (record txn { done = txn.done ++ walk.statement ∷ []; current = None }) refl refl))
    outcome false false on_key after keyed = record {
      behind = behind;
      mid = mid;
      rest = line ∷ rest;
      before = before;
      more = more;
      is = stays g.owner g.origin g.script g.schemas g.start behind mid (line ∷ rest) before more session node (put (record txn { current = Some (record { statement = walk.statement; cursor = after }) }) refl) o refl refl
          (staged_at mid (line ∷ rest) (before ++ more) more (record txn { current = Some (record { statement = walk.statement; cursor = after }) }) refl
          (steps.stepped (record txn { current = Some (record { statement = walk.statement; cursor = after }) }) after refl refl));
    }

    by_excluder : (ex : Option ℕ) → Fine g (after_answer retries (answer_by ex txn walk (plan_of node txn walk) node) line.line session) (visited_unless ex txn walk (plan_of node txn walk) node)
    by_excluder (Some by) = by_cycle by (cycle_of node txn.owner.0)
    by_excluder None =
        outcome (is_duplicate txn.part walk.statement (plan_of node txn walk)) (plan_of node txn walk).ends (plan_of node txn walk).on_key (plan_of node txn walk).after
        (refused_key node txn walk (line_fits g behind mid line rest before more session node walk.statement o step))

abbrev Good : Ground → Moved → Type 0
Good g moved = Fine g moved.session moved.node

visit_good : (g : Ground) (retries : ℕ) (line : ScriptLine) (session : SessionView) (node : NodeView) → slice_get session.script session.next ≡ Some line
    → Fine g (after_answer retries (visit_answer session.owner.0 node) line.line session) (after_call (VisitCall session.owner) node) → Good g (visit_move retries (slice_get session.script session.next) session node)
visit_good g retries line session node next fine = subst (λ (o : Option ScriptLine). Good g (visit_move retries o session node)) (sym next) fine

-- a line between transactions

marked : (g : Ground) (session : SessionView) (node : NodeView) → Fine g session node → Fine g (record session { in_progress = true }) node
marked g session node f = record {
  behind = f.behind;
  mid = f.mid;
  rest = f.rest;
  before = f.before;
  more = f.more;
  is = record {
    owner_is = f.is.owner_is;
    origin_is = f.is.origin_is;
    script_is = f.is.script_is;
    schemas_are = f.is.schemas_are;
    split = f.is.split;
    next = f.is.next;
    refused = f.is.refused;
    settled = f.is.settled;
    fresh = f.is.fresh;
    apart = f.is.apart;
    core = f.is.core;
    staged = f.is.staged;
  };
}

begin_fine : (g : Ground) (behind : List ScriptLine) (line : ScriptLine) (rest : List ScriptLine) (before more : List ℕ) (session : SessionView) (node : NodeView) → Holds g behind [] (line ∷ rest) before more session node
    → line.step ≡ Begin → is_whole true rest ≡ true → Fine g (advanced (entered Within session)) (begun session.owner Client node)
begin_fine g behind line rest before more session node o step whole = record {
  behind = behind;
  mid = line ∷ [];
  rest = rest;
  before = before;
  more = more;
  is = record {
    owner_is = o.owner_is;
    origin_is = o.origin_is;
    script_is = o.script_is;
    schemas_are = o.schemas_are;
    split = o.split;
    next = ap (λ (n : ℕ). n + 1) (o.next ∙ first_is);
    refused = o.refused;
    settled = o.settled;
    fresh = o.fresh.1;
    apart = o.apart;
    core = o.core;
    staged =
        subst (Staged Within (length behind) session.next (before ++ more) more (line ∷ []) rest) (sym (txn_same (record { owner = session.owner; part = Client; done = []; current = None }) node.txns))
        (o.next ∙ first_is, step, tt, whole, (ap (λ (s : ScriptStep). kept_at (is_among line.line (before ++ more)) s ++ []) (sym step), tt));
  };
}
  where
    first_is : length behind + 0 ≡ length behind
    first_is = omega arith

lone_fine : (g : Ground) (behind : List ScriptLine) (line : ScriptLine) (rest : List ScriptLine) (before more : List ℕ) (session : SessionView) (node : NodeView) (statement : Statement) → Holds g behind [] (line ∷ rest) before more session node
    → line.step ≡ Run statement → Fine g (record (entered_alone Between session) { in_progress = true }) (started (record { owner = session.owner; part = Client; done = []; current = None }) statement (begun session.owner Client node))
lone_fine g behind line rest before more session node statement o step = record {
  behind = behind;
  mid = [];
  rest = line ∷ rest;
  before = before;
  more = more;
  is = record {
    owner_is = o.owner_is;
    origin_is = o.origin_is;
    script_is = o.script_is;
    schemas_are = o.schemas_are;
    split = o.split;
    next = o.next;
    refused = o.refused;
    settled = o.settled;
    fresh = o.fresh;
    apart = o.apart;
    core = o.core;
    staged =
        subst (Staged Alone (length behind) session.next (before ++ more) more [] (line ∷ rest)) (sym (put_found session.owner.0 _ (begun session.owner Client node).txns refl))
        (o.next ∙ first_is, subst IsRun (sym step) tt, (refl, step));
  };
}
  where
    first_is : length behind + 0 ≡ length behind
    first_is = omega arith

not_whole : {A : Type 0} → false ≡ true → A
not_whole e = absurd (let q : false ≡ true = e in cc)

between_fine : (g : Ground) (behind rest : List ScriptLine) (before more : List ℕ) (session : SessionView) (node : NodeView) → Holds g behind [] rest before more session node → session.stage ≡ Between
    → txn_of session.owner.0 node.txns ≡ None → Good g (line_move (slice_get session.script session.next) session node)
between_fine g behind [] before more session node o stage none =
    subst (λ (l : Option ScriptLine). Good g (line_move l session node)) (sym (no_line g behind [] before more session node o)) (record { behind = behind; mid = []; rest = []; before = before; more = more; is = o })
between_fine g behind (line ∷ rest) before more session node o stage none =
    subst (λ (l : Option ScriptLine). Good g (line_move l session node)) (sym (next_line g behind [] line rest before more session node o)) (at line.step refl o.core.whole)
  where
    at : (step : ScriptStep) → line.step ≡ step → goes_on false step (λ (after : Bool). is_whole after rest) ≡ true → Good g (step_move step session node)
    at Begin e w = subst (Fine g (advanced (entered Within session))) (sym (ap (λ (t : Option Txn). begun_if t session.owner Client node) none)) (begin_fine g behind line rest before more session node o e w)
    at Commit e w = not_whole w
    at Rollback e w = not_whole w
    at (Run statement) e w =
        subst (λ (st : Stage). Fine g (record (entered_alone st session) { in_progress = true }) (after_call (StartCall session.owner statement) (after_call (BeginCall session.owner Client) node))) (sym stage)
        (subst (Fine g (record (entered_alone Between session) { in_progress = true }))
        (sym (ap (after_call (StartCall session.owner statement)) (ap (λ (t : Option Txn). begun_if t session.owner Client node) none)
        ∙ ap (λ (t : Option Txn). started_if t statement (begun session.owner Client node)) (txn_same (record { owner = session.owner; part = Client; done = []; current = None }) node.txns)))
        (lone_fine g behind line rest before more session node statement o e))

-- a line within a transaction

within_fine : (g : Ground) (behind : List ScriptLine) (begin : ScriptLine) (runs rest : List ScriptLine) (before more : List ℕ) (session : SessionView) (node : NodeView) (txn : Txn) → Holds g behind (begin ∷ runs) rest before more session node
    → session.stage ≡ Within → txn_of session.owner.0 node.txns ≡ Some txn → txn.current ≡ None → Staged Within (length behind) session.first (before ++ more) more (begin ∷ runs) rest (Some txn)
    → Good g (line_move (slice_get session.script session.next) session node)
within_fine g behind begin runs [] before more session node txn o stage found current s =
    subst (λ (l : Option ScriptLine). Good g (line_move l session node)) (sym (no_line g behind (begin ∷ runs) before more session node o)) (record { behind = behind; mid = begin ∷ runs; rest = []; before = before; more = more; is = o })
within_fine g behind begin runs (line ∷ rest) before more session node txn o stage found current s =
    subst (λ (l : Option ScriptLine). Good g (line_move l session node)) (sym (next_line g behind (begin ∷ runs) line rest before more session node o)) (at line.step refl s.3)
  where
    started_is : (statement : Statement) → after_call (StartCall session.owner statement) (after_call (BeginCall session.owner Client) node) ≡ started txn statement node
    started_is statement =
        ap (after_call (StartCall session.owner statement)) (ap (λ (t : Option Txn). begun_if t session.owner Client node) found)
        ∙ ap (λ (t : Option Txn). started_if t statement node) found
        ∙ ap (λ (w : Option Walk). started_idle w txn statement node) current

    at : (step : ScriptStep) → line.step ≡ step → goes_on true step (λ (after : Bool). is_whole after rest) ≡ true → Good g (step_move step session node)
    at Begin e w = not_whole w
    at (Run statement) e w =
        subst (λ (st : Stage). Fine g (record (entered_alone st session) { in_progress = true }) (after_call (StartCall session.owner statement) (after_call (BeginCall session.owner Client) node))) (sym stage)
        (subst (Fine g (record session { in_progress = true })) (sym (started_is statement))
        (marked g session (started txn statement node) (record {
          behind = behind;
          mid = begin ∷ runs;
          rest = line ∷ rest;
          before = before;
          more = more;
          is = stays g.owner g.origin g.script g.schemas g.start behind (begin ∷ runs) (line ∷ rest) before more session node (started txn statement node) o refl refl
              (subst (λ (st : Stage). Staged st (length behind) session.first (before ++ more) more (begin ∷ runs) (line ∷ rest) (txn_of session.owner.0 (started txn statement node).txns)) (sym stage)
              (subst (Staged Within (length behind) session.first (before ++ more) more (begin ∷ runs) (line ∷ rest)) (sym (put_found session.owner.0 _ node.txns (txn_owner session.owner.0 txn node.txns found)))
              (s.0, s.1, s.2, s.3, (s.4.0, e))));
        })))
    at Commit e w =
        subst (Fine g (record session { next = session.next + 1; stage = Between; in_progress = false; rollbacks = 0; ended = session.ended + 1; settled = length session.refused }))
        (sym (ap (λ (t : Option Txn). committed_if t session.origin node) found ∙ ap (λ (wk : Option Walk). committed_idle wk txn session.origin node) current))
        (commits g behind (begin ∷ runs) (line ∷ rest) before more session node txn ((begin ∷ runs) ++ line ∷ []) rest (session.next + 1) o found (sym (append_assoc (begin ∷ runs) (line ∷ []) rest))
        (txn_place (before ++ more) (session.ended + 1) begin line runs s.1 s.2 (subst IsEnd (sym e) tt))
        (txn_calls g.origin session.abandoned (before ++ more) (session.ended + 1) begin line runs s.1 s.2
        ∙ (λ i. entries_at g.origin (is_among (session.ended + 1) session.abandoned) (is_among line.line (before ++ more)) (e i) (Some (sym s.4.0 i))))
        w o.fresh.1
        (let l : length ((begin ∷ runs) ++ line ∷ []) ≡ length (begin ∷ runs) + 1 = length-append (begin ∷ runs) (line ∷ []) in
        omega (arith, o.next)))
    at Rollback e w = rolled_by_script g behind begin runs line rest before more session node o s.1 s.2 e w

-- the next turn, by its stage and its transaction

abbrev begun_at : ℕ → Option Walk → Stage → SessionView → NodeView → Moved
begun_at retries (Some walk) stage session node = visit_move retries (slice_get session.script session.next) session node
begun_at retries None stage session node = idle_move stage session node

abbrev move_at : ℕ → Stage → Option Txn → SessionView → NodeView → Moved
move_at retries stage txn session node =
    cond (is_open stage && not (is_some txn)) (record { turn = Victim; session = rolled_back retries session; node = node })
    (begun_at retries (option_and_then (λ (t : Txn). t.current) txn) stage session node)

begun_same : (retries : ℕ) (walk : Option Walk) (session : SessionView) (node : NodeView) → begun_at retries walk session.stage session node ≡ begun_move retries walk session node
begun_same retries (Some walk) session node = refl
begun_same retries None session node = refl

gone_now : (g : Ground) (session : SessionView) (node : NodeView) → txn_of session.owner.0 node.txns ≡ None → IsGone g session node node
gone_now g session node none = record { schemas = refl; entries = refl; txn = none }

turn_at : (g : Ground) (retries : ℕ) (stage : Stage) (txn : Option Txn) (behind mid rest : List ScriptLine) (before more : List ℕ) (session : SessionView) (node : NodeView) → Holds g behind mid rest before more session node → session.stage ≡ stage
    → txn_of session.owner.0 node.txns ≡ txn → Staged stage (length behind) session.first (before ++ more) more mid rest txn → Good g (move_at retries stage txn session node)
turn_at g retries Between None behind [] rest before more session node o e found s = between_fine g behind rest before more session node o e found
turn_at g retries Between (Some txn) behind [] rest before more session node o e found s = absurd (let q : Some txn ≡ None = s.0 in cc)
turn_at g retries Between txn behind (line ∷ mid) rest before more session node o e found s = absurd s
turn_at g retries Within None behind mid rest before more session node o e found s = rolled g retries Within behind mid rest before more session node node None o e refl s (gone_now g session node found)
turn_at g retries Within (Some txn) behind [] rest before more session node o e found s = absurd s
turn_at g retries Within (Some txn) behind (begin ∷ runs) rest before more session node o e found s = at txn.current refl rest o s s.4.1
  where
    at : (w : Option Walk) → txn.current ≡ w → (r : List ScriptLine) → Holds g behind (begin ∷ runs) r before more session node → Staged Within (length behind) session.first (before ++ more) more (begin ∷ runs) r (Some txn) → Going txn.current r
        → Good g (begun_at retries w Within session node)
    at None c r h st going = within_fine g behind begin runs r before more session node txn h e found c st
    at (Some walk) c [] h st going = absurd (subst (λ (w : Option Walk). Going w []) c going)
    at (Some walk) c (line ∷ r) h st going =
        let step : line.step ≡ Run walk.statement = subst (λ (w : Option Walk). Going w (line ∷ r)) c going in
        visit_good g retries line session node (next_line g behind (begin ∷ runs) line r before more session node h)
        (visit_fine g retries Within behind (begin ∷ runs) line r before more session node txn walk h e refl st found c step (within_steps g behind begin runs line r before more session node txn walk h st step))
turn_at g retries Alone None behind mid rest before more session node o e found s = rolled g retries Alone behind mid rest before more session node node None o e refl s (gone_now g session node found)
turn_at g retries Alone (Some txn) behind [] [] before more session node o e found s = absurd s
turn_at g retries Alone (Some txn) behind [] (line ∷ rest) before more session node o e found s = at txn.current refl s.2.1
  where
    at : (w : Option Walk) → txn.current ≡ w → IsDoing txn.current line → Good g (begun_at retries w Alone session node)
    at None c doing = absurd (subst (λ (w : Option Walk). IsDoing w line) c doing)
    at (Some walk) c doing =
        let step : line.step ≡ Run walk.statement = subst (λ (w : Option Walk). IsDoing w line) c doing in
        visit_good g retries line session node (next_line g behind [] line rest before more session node o)
        (visit_fine g retries Alone behind [] line rest before more session node txn walk o e refl s found c step (alone_steps g behind line rest before more session node txn walk o s step))
turn_at g retries Alone (Some txn) behind (line ∷ []) rest before more session node o e found s =
    subst (λ (w : Option Walk). Good g (begun_at retries w Alone session node)) (sym s.2.1)
    (subst (Fine g (record session { stage = Between; in_progress = false; rollbacks = 0; ended = session.ended + 1; settled = length session.refused }))
    (sym (ap (λ (t : Option Txn). committed_if t session.origin node) found ∙ ap (λ (w : Option Walk). committed_idle w txn session.origin node) s.2.1))
    (commits g behind (line ∷ []) rest before more session node txn (line ∷ []) rest session.next o found refl (lone_place (before ++ more) (session.ended + 1) line s.1)
    (lone_calls g.origin session.abandoned (before ++ more) (session.ended + 1) line s.1 ∙ ap (entry_of g.origin (is_among (session.ended + 1) session.abandoned)) (sym s.2.0))
    (whole_after_run false line rest s.1 o.core.whole) o.fresh o.next))
turn_at g retries Alone (Some txn) behind (line ∷ other ∷ mid) rest before more session node o e found s = absurd s

turn_fine : (g : Ground) (retries : ℕ) (session : SessionView) (node : NodeView) → Fine g session node → Good g (next_move retries session node)
turn_fine g retries session node f =
    subst (Good g)
    (ap (λ (m : Moved). cond (is_open session.stage && not (is_some (txn_of session.owner.0 node.txns))) (record { turn = Victim; session = rolled_back retries session; node = node }) m)
    (begun_same retries (walk_of session.owner.0 node.txns) session node))
    (turn_at g retries session.stage (txn_of session.owner.0 node.txns) f.behind f.mid f.rest f.before f.more session node f.is refl refl f.is.staged)

-- a call of another

without : (stage : Stage) (behind first : ℕ) (refused more : List ℕ) (mid rest : List ScriptLine) (txn : Option Txn) → Staged stage behind first refused more mid rest txn → Staged stage behind first refused more mid rest None
without Between behind first refused more [] rest txn s = (refl, s.1)
without Between behind first refused more (line ∷ mid) rest txn s = absurd s
without Within behind first refused more [] rest txn s = absurd s
without Within behind first refused more (line ∷ mid) rest txn s = (s.0, s.1, s.2, s.3, tt)
without Alone behind first refused more [] [] txn s = absurd s
without Alone behind first refused more [] (line ∷ rest) txn s = (s.0, s.1, tt)
without Alone behind first refused more (line ∷ []) rest txn s = (s.0, s.1, tt)
without Alone behind first refused more (line ∷ other ∷ mid) rest txn s = absurd s

call_fine : (g : Ground) (call : Call) (session : SessionView) (node : NodeView) → IsOthers g.owner g.origin call → Fine g session node → Fine g session (after_call call node)
call_fine g call session node others f = record {
  behind = f.behind;
  mid = f.mid;
  rest = f.rest;
  before = f.before;
  more = f.more;
  is = stays g.owner g.origin g.script g.schemas g.start f.behind f.mid f.rest f.before f.more session node (after_call call node) f.is (same_schemas call node) leaves.entries (at leaves.txn);
}
  where
    leaves : Leaves session.owner.0 g.origin node (after_call call node)
    leaves = subst (λ (o : Owner). Leaves o.0 g.origin node (after_call call node)) (sym f.is.owner_is) (others_leave g.owner g.origin call node others)

    at : (txn_of session.owner.0 (after_call call node).txns ≡ txn_of session.owner.0 node.txns) ⊎ (txn_of session.owner.0 (after_call call node).txns ≡ None)
        → Staged session.stage (length f.behind) session.first (f.before ++ f.more) f.more f.mid f.rest (txn_of session.owner.0 (after_call call node).txns)
    at (inl same) = subst (Staged session.stage (length f.behind) session.first (f.before ++ f.more) f.more f.mid f.rest) (sym same) f.is.staged
    at (inr none) =
        subst (Staged session.stage (length f.behind) session.first (f.before ++ f.more) f.more f.mid f.rest) (sym none)
        (without session.stage (length f.behind) session.first (f.before ++ f.more) f.more f.mid f.rest (txn_of session.owner.0 node.txns) f.is.staged)

event_fine : (g : Ground) (retries : ℕ) (event : Event) (session : SessionView) (node : NodeView) → EventFits g.owner g.origin event → Fine g session node
    → Fine g (after_event retries event (record { session = session; node = node })).session (after_event retries event (record { session = session; node = node })).node
event_fine g retries Own session node fits f = turn_fine g retries session node f
event_fine g retries (Other call) session node fits f = call_fine g call session node fits f

pub events_fine : (g : Ground) (retries : ℕ) (events : List Event) (session : SessionView) (node : NodeView) → AllByRecursion (EventFits g.owner g.origin) events → Fine g session node
    → Fine g (after_events retries events (record { session = session; node = node })).session (after_events retries events (record { session = session; node = node })).node
events_fine g retries [] session node fits f = f
events_fine g retries (event ∷ events) session node fits f =
    let next = after_event retries event (record { session = session; node = node }) in
    events_fine g retries events next.session next.node fits.1 (event_fine g retries event session node fits.0 f)

-- at first, and what this says

pub at_first : (g : Ground) (node : NodeView) → node.schemas ≡ g.schemas → own_entries g.origin node.history ≡ g.start → is_whole false g.script ≡ true → txn_of g.owner.0 node.txns ≡ None → Fine g (new_session g.owner g.origin g.script) node
at_first g node schemas start whole none = record {
  behind = [];
  mid = [];
  rest = g.script;
  before = [];
  more = [];
  is = record {
    owner_is = refl;
    origin_is = refl;
    script_is = refl;
    schemas_are = schemas;
    split = refl;
    next = refl;
    refused = refl;
    settled = refl;
    fresh = fresh_none g.script;
    apart = tt;
    core = record { place = refl; calls = start ∙ sym (append-nil g.start); few = λ k above. refl; whole = whole; fresh = fresh_none g.script };
    staged = (none, refl);
  };
}

says : (g : Ground) (session : SessionView) (node : NodeView) → Fine g session node → own_entries g.origin node.history ≡ g.start ++ calls_of session
says g session node f =
    f.is.core.calls
    ∙ ap (λ (es : List Entry). g.start ++ es)
    (sym (calls_same g.origin session.abandoned (f.before ++ f.more) f.before (closed 1) f.behind
    (all_map (λ (l : ScriptLine). is_among l.line f.more ≡ false) (λ (l : ScriptLine). is_among l.line (f.before ++ f.more) ≡ is_among l.line f.before) f.behind (λ l a. among_joined l.line f.before f.more a) f.is.apart))
    ∙ (λ i. calls_from (sym f.is.origin_is i) session.abandoned (sym f.is.refused i) (closed 1) (sym lines i)))
  where
    place : (stage : Stage) (mid rest : List ScriptLine) → Staged stage (length f.behind) session.first (f.before ++ f.more) f.more mid rest (txn_of session.owner.0 node.txns) → session.next ≡ length f.behind + length mid
        → cond (is_open stage) session.first session.next ≡ length f.behind
    place Between [] rest s n = n ∙ (let z : length f.behind + 0 ≡ length f.behind = omega arith in z)
    place Between (line ∷ mid) rest s n = absurd s
    place Within [] rest s n = absurd s
    place Within (line ∷ mid) rest s n = s.0
    place Alone [] [] s n = absurd s
    place Alone [] (line ∷ rest) s n = s.0
    place Alone (line ∷ []) rest s n = s.0
    place Alone (line ∷ other ∷ mid) rest s n = absurd s

    lines : lines_behind session ≡ f.behind
    lines = (λ i. take (place session.stage f.mid f.rest f.is.staged f.is.next i) ((f.is.script_is ∙ f.is.split) i)) ∙ taken f.behind (f.mid ++ f.rest)

pub writes_own : (retries : ℕ) (owner : Owner) (origin : Origin) (script : List ScriptLine) (node : NodeView) (events : List Event)
    → is_own origin origin ≡ true → is_whole false script ≡ true → LinesRise script → AllByRecursion (λ (line : ScriptLine). RunFits node.schemas line.step) script
    → txn_of owner.0 node.txns ≡ None → AllByRecursion (EventFits owner origin) events
    → own_entries origin (after_events retries events (record { session = new_session owner origin script; node = node })).node.history
    ≡ own_entries origin node.history ++ calls_of (after_events retries events (record { session = new_session owner origin script; node = node })).session
writes_own retries owner origin script node events own whole rise fits none each =
    let g : Ground = record { owner = owner; origin = origin; script = script; schemas = node.schemas; start = own_entries origin node.history; own = own; rise = rise; fits = fits } in
    let last = after_events retries events (record { session = new_session owner origin script; node = node }) in
    says g last.session last.node (events_fine g retries events (new_session owner origin script) node each (at_first g node refl refl whole none))
