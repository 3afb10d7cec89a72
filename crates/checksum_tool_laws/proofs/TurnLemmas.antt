-- What holds of the tool and its node holds after each of its turns.
use Rattle.std.proofs.Common.{◌≡◌, ◌≢◌, ◌∙◌, ◌⊎◌, inl, inr, ℕ, ◌+◌, ◌==◌, Bool, true, false, cond, List, [], ◌∷◌, ◌++◌, Option, None, Some, length, refl, ap, sym, subst, append-nil}
use Rattle.std.specs.Prelude.{nat_lt}
use Rattle.row_types.specs.declared.values.Value.{Value}
use Rattle.row_types.specs.declared.edges.Edge.TheVariants.{Low}
use Rattle.row_types.specs.declared.edges.Span.{Span}
use Rattle.ptc_statement.specs.declared.statements.Statement.{Statement}
use Rattle.ptc_statement.specs.declared.statements.Statement.TheVariants.{ClearChecks}
use Rattle.ptc_statement.specs.Effect.{table_of}
use Rattle.statement_log.specs.declared.entries.Entry.{Entry}
use Rattle.statement_log.specs.declared.origins.Origin.TheVariants.{Checksum}
use Rattle.checksum_table.specs.declared.check_rows.CheckRow.{CheckRow}
use Rattle.checksum_table.specs.declared.check_rows.CheckEntry.{CheckEntry}
use Rattle.checksum_table.specs.Checks.{check_at, with_check, without_table}
use Rattle.checksum_table.proofs.CheckLemmas.{check_at-with_check_same, check_at-with_check_other, check_at-without_table_same, check_at-without_table_other}
use Rattle.row_digest.specs.Digest.{digest_of}
use Rattle.history.specs.Replay.{Replayed, fold, after_statement, chunk_rows}
use Rattle.history.specs.Headline.{IsTrueMaster}
use Rattle.history.proofs.ReplayLemmas.{fold_more}
use Rattle.ptc_statement.specs.Fits.{IsTools}
use Rattle.lock_table.specs.declared.wants.Owner.{Owner}
use Rattle.lock_table.proofs.HoldLemmas.{same_or_apart, number_is, number_apart}
use Rattle.txn_walk.specs.declared.plans.Plan.{Plan}
use Rattle.node_model.specs.declared.parts.Part.{Part}
use Rattle.node_model.specs.declared.parts.Part.TheVariants.{Client, Apply}
use Rattle.node_model.specs.declared.txns.Walk.{Walk}
use Rattle.node_model.specs.declared.txns.Txn.{Txn}
use Rattle.node_model.specs.Txns.{txn_of, with_txn, without_txn}
use Rattle.node_model.specs.Node.{NodeView, moved, begun, plan_of, plan_excluder, is_duplicate, start_of, visited, ended, written, logged, with_entries}
use Rattle.node_model.specs.Waits.{cycle_of, victim_of, after_wait, visited_unless}
use Rattle.node_model.specs.Calls.{after_call, begun_if, started_if, visit_if, visited_if, committed_if, committed_idle, Begin as BeginCall, Start as StartCall, Visit as VisitCall, Commit as CommitCall}
use Rattle.node_model.proofs.TxnLemmas.{txn_same, txn_left, txn_gone, txn_owner, with_twice}
use Rattle.node_visits.specs.declared.visits.Visit.{Visit}
use Rattle.node_visits.specs.Answers.{duplicate_key, answer_of, answer_wait, answer_by, answer_in, answer_if}
use Rattle.checksum_tool.specs.declared.phases.ToolPhase.{ToolPhase}
use Rattle.checksum_tool.specs.declared.phases.ToolPhase.TheVariants.{Clear, Choose, Walk as WalkPhase}
use Rattle.checksum_tool.specs.Tools.{ToolView, tool_owner, span_of, check_of, chosen, walked, begun_again, given_up, rolled_back}
use Rattle.checksum_tool.specs.Clears.{tool_txn, begun_txn}
use Rattle.checksum_tool.specs.Moves.{Moved, clear_entry, clear_move, choose_move, after_answer, visit_move, commit_move}
use Rattle.checksum_tool_laws.specs.Cover.{Reaches, mastered_in, mastered_at, span_at}
use Rattle.checksum_tool_laws.specs.Deeds.{Deed, Clears as ClearsDeed, Checks as ChecksDeed, alone, deeds_in, table_deeds, tables_deeds, now_deeds}
use Rattle.checksum_tool_laws.specs.Told.{checks_of}
use Rattle.checksum_tool_laws.proofs.ListLemmas.{span_none, span_empty, deeds_more, append_assoc}
use Rattle.checksum_tool_laws.proofs.CallLemmas.{Logged, logged_more, put_fits, left_fits, own_moved}
use Rattle.checksum_tool_laws.proofs.HoldLemmas.{Core, Checking, Walking, Walks, Clears, Chooses, Staged, Holds, with_txns}

abbrev pub Good : Moved → Type 0
Good m = Holds m.tool m.node

abbrev found_at : ToolView → NodeView → Option CheckRow
found_at tool node = check_at tool.table tool.chunk (checks_of node)

abbrev pub own_txn : NodeView → Option Txn
own_txn node = txn_of tool_owner.0 node.txns

-- one entry of the tool more

abbrev pub tool_entry : Statement → Entry
tool_entry statement = record { origin = Checksum; statements = statement ∷ [] }

abbrev pub with_tool : Statement → NodeView → NodeView
with_tool statement node = record node { history = node.history ++ tool_entry statement ∷ [] }

pub checks_more : (statement : Statement) (node : NodeView)
    → checks_of (with_tool statement node) ≡ (after_statement node.schemas (length node.history + 1) statement (fold node.schemas node.start node.history)).checks
checks_more statement node = ap (λ (r : Replayed). r.checks) (fold_more node.schemas node.start node.history (tool_entry statement))

-- which is one of the tool's, and publishes nothing but the source's own checksum
pub tool_logs : (statement : Statement) (node : NodeView) → Logged node.schemas node.start node.history → IsTools statement → IsTrueMaster statement (fold node.schemas node.start node.history)
    → Logged node.schemas node.start (node.history ++ tool_entry statement ∷ [])
tool_logs statement node log tools is =
    logged_more node.schemas node.start node.history (tool_entry statement) log (record { statement = statement; only = refl; tools = tools }) (is, tt)

-- the entries of a node whose tool has a phase
abbrev pub Told : (ℕ → List Span) → ToolPhase → ToolView → NodeView → Type 0
Told spans phase tool node = deeds_in node.history ≡ tables_deeds spans tool.table ++ now_deeds phase tool (spans tool.table)

abbrev pub Log : NodeView → Type 0
Log node = Logged node.schemas node.start node.history

abbrev pub Ground : (ℕ → List Span) → ToolView → NodeView → Type 0
Ground spans tool node = Core spans tool.table tool.tables tool.after (checks_of node) node.txns

-- a chunk has the source's checksum where it had it, but for the one that the tool is at
same_rows : (spans : ℕ → List Span) (tool : ToolView) (node : NodeView) (checks : List CheckEntry) → Ground spans tool node → (number : tool.chunk ≡ length (spans tool.table) + 1)
    → mastered_at tool.table tool.chunk checks ≡ None
    → ((t c : ℕ) → (t ≢ tool.table) ⊎ (c ≢ tool.chunk) → check_at t c checks ≡ check_at t c (checks_of node))
    → (t c : ℕ) → mastered_at t c checks ≡ span_at c (spans t)
same_rows spans tool node checks core number here others t c = at (same_or_apart t tool.table) (same_or_apart c tool.chunk)
  where
    at : (t ≡ tool.table) ⊎ (t ≢ tool.table) → (c ≡ tool.chunk) ⊎ (c ≢ tool.chunk) → mastered_at t c checks ≡ span_at c (spans t)
    at (inr apart) chunk = ap mastered_in (others t c (inl apart)) ∙ core.rows t c
    at (inl same) (inr apart) = ap mastered_in (others t c (inr apart)) ∙ core.rows t c
    at (inl same) (inl own) =
        (λ i. mastered_at (same i) (own i) checks) ∙ here
        ∙ sym (span_none (spans tool.table) tool.chunk number)
        ∙ (λ i. span_at (sym own i) (spans (sym same i)))

-- CLEARCHECKS

clear_rows : (spans : ℕ → List Span) (tool : ToolView) (node : NodeView) → Ground spans tool node → spans tool.table ≡ []
    → (t c : ℕ) → mastered_at t c (without_table tool.table (checks_of node)) ≡ span_at c (spans t)
clear_rows spans tool node core none t c = at (same_or_apart t tool.table)
  where
    at : (t ≡ tool.table) ⊎ (t ≢ tool.table) → mastered_at t c (without_table tool.table (checks_of node)) ≡ span_at c (spans t)
    at (inl same) =
        ap (λ (k : ℕ). mastered_at k c (without_table tool.table (checks_of node))) same
        ∙ ap mastered_in (check_at-without_table_same tool.table c (checks_of node))
        ∙ sym (ap (λ (k : ℕ). span_at c (spans k)) same ∙ ap (span_at c) none ∙ span_empty c)
    at (inr apart) = ap mastered_in (check_at-without_table_other t c tool.table (checks_of node) apart) ∙ core.rows t c

pub clear_good : (spans : ℕ → List Span) (tool : ToolView) (node : NodeView) → Ground spans tool node → Told spans Clear tool node → Log node → Clears tool (spans tool.table) (own_txn node) → Good (clear_move tool node)
clear_good spans tool node core entries log s = record {
  log = tool_logs (ClearChecks tool.table) node log (λ c. c) tt;
  spans = spans;
  core = record {
    behind = core.behind;
    ahead = core.ahead;
    rows = subst (λ (checks : List CheckEntry). (t c : ℕ) → mastered_at t c checks ≡ span_at c (spans t)) (sym (checks_more (ClearChecks tool.table) node)) (clear_rows spans tool node core s.none);
    begins = core.begins;
    others = core.others;
    within = core.within;
  };
  entries =
      deeds_more node.history (clear_entry tool.table ∷ [])
      ∙ ap (λ (ds : List (List Deed)). ds ++ alone (ClearsDeed tool.table)) (entries ∙ append-nil (tables_deeds spans tool.table))
      ∙ ap (λ (ss : List Span). tables_deeds spans tool.table ++ table_deeds tool.table ss) (sym s.none);
  staged = record {
    number = s.number ∙ sym (ap (λ (ss : List Span). length ss + 1) s.none);
    reaches = subst (λ (ss : List Span). Reaches Low ss tool.after) (sym s.none) (sym s.after);
    txn = s.txn;
  };
}

-- the start of a CHECKSUM

abbrev pub checking : ToolView → NodeView → Txn
checking tool node = tool_txn [] (Some (record { statement = check_of tool; cursor = start_of node.schemas (check_of tool) }))

pub choose_moves : (tool : ToolView) (node : NodeView) → own_txn node ≡ None
    → after_call (StartCall tool_owner (check_of tool)) (after_call (BeginCall tool_owner Client) node) ≡ record node { txns = with_txn (checking tool node) node.txns }
choose_moves tool node none =
    ap (λ (o : Option Txn). after_call (StartCall tool_owner (check_of tool)) (begun_if o tool_owner Client node)) none
    ∙ ap (λ (o : Option Txn). started_if o (check_of tool) (begun tool_owner Client node)) (txn_same begun_txn node.txns)
    ∙ ap (λ (ts : List Txn). record node { txns = ts }) (with_twice (checking tool node) begun_txn node.txns refl)

pub choose_good : (spans : ℕ → List Span) (tool : ToolView) (node : NodeView) → Ground spans tool node → Told spans Choose tool node → Log node → Chooses tool (spans tool.table) (own_txn node) → Good (choose_move tool node)
choose_good spans tool node core entries log s = subst (Holds (chosen tool)) (sym (choose_moves tool node s.txn)) (record {
  spans = spans;
  core = with_txns spans tool.table tool.tables tool.after (checks_of node) node.txns (with_txn (checking tool node) node.txns) core
      (put_fits (checking tool node) node.txns core.others (λ apart. absurd (apart refl)));
  entries = entries;
  log = log;
  staged = record {
    number = s.number;
    reaches = s.reaches;
    until = refl;
    txn = subst (λ (o : Option Txn). Walking o (check_of tool)) (sym (txn_same (checking tool node) node.txns)) refl;
  };
})

-- a chunk that was rolled back

pub rolled_holds : (spans : ℕ → List Span) (tool : ToolView) (node : NodeView) → Ground spans tool node → Told spans WalkPhase tool node → Log node → tool.chunk ≡ length (spans tool.table) + 1 → Reaches Low (spans tool.table) tool.after
    → own_txn node ≡ None → Holds (rolled_back tool) node
rolled_holds spans tool node core entries log number reaches none = at (nat_lt tool.rollbacks tool.retries)
  where
    at : (b : Bool) → Holds (cond b (begun_again tool) (given_up tool)) node
    at true = record { spans = spans; core = core; entries = entries; log = log; staged = record { number = number; reaches = reaches; txn = none } }
    at false = record { spans = spans; core = core; entries = entries; log = log; staged = record { reaches = reaches; txn = none } }

-- a visit

pub calm : (tool : ToolView) (key : Option (List Value)) (ends : Bool) → tool ≡ after_answer (answer_of key ends) tool
calm tool (Some key) ends = refl
calm tool None true = refl
calm tool None false = refl

no_duplicate : (part : Part) (statement : Statement) (plan : Plan) (tool : ToolView) → statement ≡ check_of tool → is_duplicate part statement plan ≡ false
no_duplicate part statement plan tool is = ap (λ (s : Statement). is_duplicate part s plan) is ∙ at part
  where
    at : (p : Part) → is_duplicate p (check_of tool) plan ≡ false
    at Client = refl
    at (Apply entry) = refl

moved_checks : (tool : ToolView) (txn : Txn) (walk : Walk) (plan : Plan) → txn.done ≡ [] → walk.statement ≡ check_of tool → Walking (Some (moved txn walk plan)) (check_of tool)
moved_checks tool txn walk plan none is = at (is_duplicate txn.part walk.statement plan) (no_duplicate txn.part walk.statement plan tool is) plan.ends
  where
    after : Bool → Bool → Txn
    after refused ends = cond refused (record txn { current = None })
        (cond ends (record txn { done = txn.done ++ walk.statement ∷ []; current = None })
        (record txn { current = Some (record { statement = walk.statement; cursor = plan.after }) }))

    at : (refused : Bool) → refused ≡ false → (ends : Bool) → Walking (Some (after refused ends)) (check_of tool)
    at true e ends = absurd (let q : true ≡ false = e in cc)
    at false e true = subst (λ (done : List Statement). Checking (done ++ walk.statement ∷ []) None (check_of tool)) (sym none) is
    at false e false = subst (λ (done : List Statement). Checking done (Some (record { statement = walk.statement; cursor = plan.after })) (check_of tool)) (sym none) is

pub visit_good : (spans : ℕ → List Span) (tool : ToolView) (node : NodeView) (txn : Txn) (walk : Walk) → tool.phase ≡ WalkPhase → Holds tool node → Ground spans tool node → Told spans WalkPhase tool node
    → Walks tool (spans tool.table) (own_txn node) → own_txn node ≡ Some txn → txn.current ≡ Some walk → txn.done ≡ [] → walk.statement ≡ check_of tool → Good (visit_move tool node)
visit_good spans tool node txn walk phase h core entries s found current none is =
    subst (λ (a : Visit). Holds (after_answer a tool) (after_call (VisitCall tool_owner) node)) (sym (ap (λ (t : Option Txn). answer_if t node) found ∙ ap (λ (w : Option Walk). answer_in w txn node) current))
    (subst (Holds (after_answer (answer_by excluder txn walk plan node) tool)) (sym (ap (λ (t : Option Txn). visit_if t node) found ∙ ap (λ (w : Option Walk). visited_if w txn node) current))
    (by_excluder excluder))
  where
    plan : Plan
    plan = plan_of node txn walk

    excluder : Option ℕ
    excluder = plan_excluder txn.owner (table_of walk.statement) plan node.held

    own : txn.owner.0 ≡ tool_owner.0
    own = txn_owner tool_owner.0 txn node.txns found

    own_moves : (moved txn walk plan).owner.0 ≡ tool_owner.0
    own_moves = ap (λ (o : Owner). o.0) (own_moved txn walk plan) ∙ own

    there : txn_of tool_owner.0 (with_txn (moved txn walk plan) node.txns) ≡ Some (moved txn walk plan)
    there = ap (λ (o : ℕ). txn_of o (with_txn (moved txn walk plan) node.txns)) (sym own_moves) ∙ txn_same (moved txn walk plan) node.txns

    at_phase : (found : Option CheckRow) (here : Option Txn) → Walks tool (spans tool.table) here → Staged tool.phase tool (spans tool.table) found here
    at_phase found here w = subst (λ (p : ToolPhase). Staged p tool (spans tool.table) found here) (sym phase) w

    told_here : deeds_in node.history ≡ tables_deeds spans tool.table ++ now_deeds tool.phase tool (spans tool.table)
    told_here = entries ∙ ap (λ (p : ToolPhase). tables_deeds spans tool.table ++ now_deeds p tool (spans tool.table)) (sym phase)

    steps : Holds tool (visited txn walk plan node)
    steps = record {
      spans = spans;
      core = with_txns spans tool.table tool.tables tool.after (checks_of node) node.txns (with_txn (moved txn walk plan) node.txns) core
          (put_fits (moved txn walk plan) node.txns core.others (λ apart. absurd (apart own_moves)));
      entries = told_here;
      log = h.log;
      staged = at_phase _ _ (record {
        number = s.number;
        reaches = s.reaches;
        until = s.until;
        txn = subst (λ (o : Option Txn). Walking o (check_of tool)) (sym there) (moved_checks tool txn walk plan none is);
      });
    }

    ends : (v : ℕ) → Holds (cond (v == tool_owner.0) (rolled_back tool) tool) (ended v node)
    ends v = by_victim (v == tool_owner.0) refl
      where
        left : Ground spans tool (ended v node)
        left = with_txns spans tool.table tool.tables tool.after (checks_of node) node.txns (without_txn v node.txns) core (left_fits v node.txns core.others)

        by_victim : (b : Bool) → (v == tool_owner.0) ≡ b → Holds (cond b (rolled_back tool) tool) (ended v node)
        by_victim true e = rolled_holds spans tool (ended v node) left entries h.log s.number s.reaches
            (ap (λ (o : ℕ). txn_of o (without_txn v node.txns)) (sym (number_is v tool_owner.0 e)) ∙ txn_gone v node.txns)
        by_victim false e = record {
          spans = spans;
          core = left;
          entries = told_here;
          log = h.log;
          staged = at_phase _ _ (record {
            number = s.number;
            reaches = s.reaches;
            until = s.until;
            txn = subst (λ (o : Option Txn). Walking o (check_of tool)) (sym (txn_left tool_owner.0 v node.txns (λ same. number_apart v tool_owner.0 e (sym same)))) s.txn;
          });
        }

    waits : (by : ℕ) (cycle : Option (List ℕ)) → Holds (after_answer (answer_wait cycle by txn.owner.0 node) tool) (after_wait cycle txn.owner.0 node)
    waits by None = h
    waits by (Some cycle) = ends (victim_of node.txns txn.owner.0 cycle)

    by_excluder : (ex : Option ℕ) → Holds (after_answer (answer_by ex txn walk plan node) tool) (visited_unless ex txn walk plan node)
    by_excluder (Some by) = waits by (cycle_of node txn.owner.0)
    by_excluder None = subst (λ (t : ToolView). Holds t (visited txn walk plan node)) (calm tool (duplicate_key (is_duplicate txn.part walk.statement plan) plan.on_key) plan.ends) steps

-- the commit of a CHECKSUM

pub done_is : (done : List Statement) (check : Statement) → Checking done None check → done ≡ check ∷ []
done_is [] check c = absurd c
done_is (statement ∷ []) check c = ap (λ (s : Statement). s ∷ []) c
done_is (statement ∷ other ∷ others) check c = absurd c

pub committed_is : (tool : ToolView) (node : NodeView) (txn : Txn) → own_txn node ≡ Some txn → txn.current ≡ None → txn.done ≡ check_of tool ∷ []
    → after_call (CommitCall tool_owner Checksum) node ≡ ended tool_owner.0 (with_tool (check_of tool) node)
committed_is tool node txn found rests done =
    ap (λ (o : Option Txn). committed_if o Checksum node) found
    ∙ ap (λ (w : Option Walk). committed_idle w txn Checksum node) rests
    ∙ (λ i. ended (txn_owner tool_owner.0 txn node.txns found i) (with_entries (written Checksum (logged (done i))) node))

abbrev row_of : ToolView → NodeView → CheckRow
row_of tool node = record {
  span = span_of tool;
  kind = tool.kind;
  this = digest_of tool.kind (chunk_rows node.schemas (fold node.schemas node.start node.history).tables tool.table (span_of tool));
  master = None;
  position = length node.history + 1;
}

pub commit_good : (spans : ℕ → List Span) (tool : ToolView) (node : NodeView) (txn : Txn) → Ground spans tool node → Told spans WalkPhase tool node → Log node → Walks tool (spans tool.table) (own_txn node)
    → own_txn node ≡ Some txn → txn.current ≡ None → txn.done ≡ check_of tool ∷ [] → Good (commit_move tool node)
commit_good spans tool node txn core entries log s found rests done = subst (Holds (walked tool)) (sym (committed_is tool node txn found rests done)) (record {
  spans = spans;
  log = tool_logs (check_of tool) node log (λ c. c) tt;
  core = record {
    behind = core.behind;
    ahead = core.ahead;
    rows = subst (λ (checks : List CheckEntry). (t c : ℕ) → mastered_at t c checks ≡ span_at c (spans t)) (sym checks_are)
        (same_rows spans tool node (with_check tool.table tool.chunk (row_of tool node) (checks_of node)) core s.number
        (ap mastered_in (check_at-with_check_same tool.table tool.chunk (row_of tool node) (checks_of node)))
        (λ t c apart. check_at-with_check_other t c tool.table tool.chunk (row_of tool node) (checks_of node) apart));
    begins = core.begins;
    others = left_fits tool_owner.0 node.txns core.others;
    within = core.within;
  };
  entries =
      deeds_more node.history (tool_entry (check_of tool) ∷ [])
      ∙ ap (λ (ds : List (List Deed)). ds ++ alone (ChecksDeed tool.table tool.chunk (span_of tool))) entries
      ∙ append_assoc (tables_deeds spans tool.table) (table_deeds tool.table (spans tool.table)) (alone (ChecksDeed tool.table tool.chunk (span_of tool)));
  staged = record {
    number = s.number;
    reaches = s.reaches;
    until = s.until;
    row = record {
      row = row_of tool node;
      is = ap (check_at tool.table tool.chunk) checks_are ∙ check_at-with_check_same tool.table tool.chunk (row_of tool node) (checks_of node);
      over = refl;
    };
    txn = txn_gone tool_owner.0 node.txns;
  };
})
  where
    checks_are : checks_of (with_tool (check_of tool) node) ≡ with_check tool.table tool.chunk (row_of tool node) (checks_of node)
    checks_are = checks_more (check_of tool) node
