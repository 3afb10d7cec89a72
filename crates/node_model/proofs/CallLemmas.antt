-- What holds after every list of calls.
use Rattle.std.proofs.Common.{◌≡◌, ◌≢◌, ◌⊎◌, inl, inr, ℕ, List, [], ◌∷◌, ◌++◌, ◌&&◌, ◌==◌, Bool, true, false, cond, Option, None, Some, refl, sym, ap, subst, ◌∙◌}
use Rattle.std.specs.Prelude.{is_some, IsSome}
use Rattle.std.specs.List.{AllByRecursion, slice_get}
use Rattle.std.specs.Option.{option_map_or}
use Rattle.row_types.specs.declared.values.Value.{Value}
use Rattle.row_types.specs.declared.lock_modes.LockMode.{LockMode}
use Rattle.row_types.specs.declared.lock_modes.LockMode.TheVariants.{Shared, Exclusive}
use Rattle.row_types.specs.declared.edges.Edge.TheVariants.{Low}
use Rattle.row_types.specs.declared.edges.Span.{Span}
use Rattle.row_types.specs.declared.table_schema.Schema.{Schema}
use Rattle.row_types.specs.Order.{has, is_past_edge, is_before_edge}
use Rattle.row_types.specs.Fit.{AreTables}
use Rattle.ptc_statement.specs.declared.statements.Statement.{Statement}
use Rattle.ptc_statement.specs.declared.statements.Statement.TheVariants.{SetMaster}
use Rattle.ptc_statement.specs.Reach.{reach_of}
use Rattle.ptc_statement.specs.Effect.{table_of}
use Rattle.ptc_statement.specs.Fits.{FitsSchemas, StatementFits}
use Rattle.statement_log.specs.declared.origins.Origin.{Origin}
use Rattle.statement_log.specs.declared.origins.Origin.TheVariants.{Checksum}
use Rattle.statement_log.specs.declared.entries.Entry.{Entry}
use Rattle.checksum_table.specs.declared.check_rows.CheckRow.{CheckRow}
use Rattle.checksum_table.specs.Checks.{check_at}
use Rattle.history.specs.Replay.{Replayed, fold}
use Rattle.history.proofs.ReplayLemmas.{fold_more}
use Rattle.lock_table.specs.declared.wants.Owner.{Owner}
use Rattle.lock_table.specs.declared.wants.Want.{Want}
use Rattle.lock_table.specs.declared.wants.Want.TheVariants.{OnKey, OnGap}
use Rattle.lock_table.specs.declared.wants.Holding.{Holding}
use Rattle.lock_table.specs.Locks.{exclusive_owner, Holds}
use Rattle.lock_table.proofs.GapLemmas.{both_true}
use Rattle.lock_table.proofs.HoldLemmas.{same_or_apart, number_is, exclusive_found, exclusive_none}
use Rattle.node_model.specs.Kept.{FactsOf, IsKept, TablesOf, TxnFits, WalkFits}
use Rattle.node_model.specs.declared.parts.Part.{Part}
use Rattle.txn_walk.specs.declared.plans.Plan.{Plan}
use Rattle.node_model.specs.declared.txns.Walk.{Walk}
use Rattle.node_model.specs.declared.txns.Txn.{Txn}
use Rattle.node_model.specs.Txns.{txn_of, with_txn, without_txn}
use Rattle.node_model.specs.Node.{NodeView, act, acts, act_so_far, seen_by, live_row, live_from, committed_row, reaches, plan_of, plan_excluder, is_duplicate, moved, begun, start_of, started, visited, ended, with_entries, committed}
use Rattle.node_model.specs.Waits.{cycle_of, victim_of, after_wait, visited_unless}
use Rattle.node_model.specs.LockFacts.{CommittedRows, LockFacts, TxnCovered, Walks, IsCovered}
use Rattle.node_model.specs.Calls.{Call, Begin, Start, Visit, Commit, Rollback, Publish, begun_if, started_idle, started_if, visited_if, visit_if, committed_idle, committed_if, published, after_call, after_calls, CallFits, fresh_node, LocksKeep, LocksKeepAlways, CommitsLeaveLiveRows}
use Rattle.node_model.proofs.TxnLemmas.{txn_same, txn_other, txn_left, txn_gone, txn_owner}
use Rattle.node_model.proofs.ActLemmas.{act_outside}
use Rattle.node_model.proofs.FactLemmas.{txn_facts, txn_kept}
use Rattle.node_model.proofs.PlanLemmas.{not_both}
use Rattle.node_model.proofs.VisitLemmas.{visit_facts}
use Rattle.node_model.proofs.CommitLemmas.{table_row, tables_left}
use Rattle.node_model.proofs.LiveLemmas.{committed_facts, committed_tables, rollback_facts, committed_live}

some_txn : (a b : Txn) → Some a ≡ Some b → a ≡ b
some_txn a b e = cc

-- transactions that fit, and one of them that goes on

fits_with : (schemas : List Schema) (txns : List Txn) (txn : Txn) → ((a : ℕ) (t : Txn) → txn_of a txns ≡ Some t → TxnFits schemas t) → TxnFits schemas txn
    → (a : ℕ) (t : Txn) → txn_of a (with_txn txn txns) ≡ Some t → TxnFits schemas t
fits_with schemas txns txn fits is a t found = at (same_or_apart a txn.owner.0)
  where
    at : (a ≡ txn.owner.0) ⊎ (a ≢ txn.owner.0) → TxnFits schemas t
    at (inl same) = subst (TxnFits schemas) (some_txn txn t (sym (txn_same txn txns) ∙ ap (λ (o : ℕ). txn_of o (with_txn txn txns)) (sym same) ∙ found)) is
    at (inr apart) = fits a t (sym (txn_other a txn txns apart) ∙ found)

fits_without : (schemas : List Schema) (txns : List Txn) (owner : ℕ) → ((a : ℕ) (t : Txn) → txn_of a txns ≡ Some t → TxnFits schemas t)
    → (a : ℕ) (t : Txn) → txn_of a (without_txn owner txns) ≡ Some t → TxnFits schemas t
fits_without schemas txns owner fits a t found = at (same_or_apart a owner)
  where
    at : (a ≡ owner) ⊎ (a ≢ owner) → TxnFits schemas t
    at (inl same) = absurd (let q : None ≡ Some t = sym (txn_gone owner txns) ∙ ap (λ (o : ℕ). txn_of o (without_txn owner txns)) (sym same) ∙ found in cc)
    at (inr apart) = fits a t (sym (txn_left a owner txns apart) ∙ found)

fits_more : (schemas : List Schema) (statements : List Statement) (statement : Statement) → AllByRecursion (FitsSchemas schemas) statements → FitsSchemas schemas statement
    → AllByRecursion (FitsSchemas schemas) (statements ++ statement ∷ [])
fits_more schemas [] statement fit is = (is, tt)
fits_more schemas (first ∷ statements) statement fit is = (fit.0, fits_more schemas statements statement fit.1 is)

moved_fits : (schemas : List Schema) (txn : Txn) (walk : Walk) (plan : Plan) → TxnFits schemas txn → FitsSchemas schemas walk.statement → TxnFits schemas (moved txn walk plan)
moved_fits schemas txn walk plan fits is = at (is_duplicate txn.part walk.statement plan) plan.ends
  where
    at : (refused ends : Bool) → TxnFits schemas (cond refused (record txn { current = None })
        (cond ends (record txn { done = txn.done ++ walk.statement ∷ []; current = None })
        (record txn { current = Some (record { statement = walk.statement; cursor = plan.after }) })))
    at true ends = record { done = fits.done; current = tt }
    at false true = record { done = fits_more schemas txn.done walk.statement fits.done is; current = tt }
    at false false = record { done = fits.done; current = is }

-- each call

pub begun_kept : (node : NodeView) (owner : Owner) (part : Part) (found : Option Txn) → IsKept node → IsKept (begun_if found owner part node)
begun_kept node owner part (Some txn) kept = kept
begun_kept node owner part None kept = record {
  facts = txn_facts node.schemas (committed_row node) node.txns node.held (record { owner = owner; part = part; done = []; current = None }) kept.facts (record { done = tt; so_far = tt });
  tables = kept.tables;
  fits = fits_with node.schemas node.txns (record { owner = owner; part = part; done = []; current = None }) kept.fits (record { done = tt; current = tt });
}

-- at its start a statement has passed no key
none_passed : (schemas : List Schema) (statement : Statement) (table : ℕ) (key : List Value) → reaches schemas statement table key ≡ true
    → is_before_edge (start_of schemas statement) key ≡ true → ⊥
none_passed schemas statement table key reached before =
    at (slice_get schemas table) both.1 (ap (λ (t : ℕ). is_before_edge (option_map_or (λ (s : Schema). (reach_of s statement).lo) (slice_get schemas t) Low) key) (sym (number_is (table_of statement) table both.0)) ∙ before)
  where
    both : ((table_of statement == table) ≡ true) × (option_map_or (λ (s : Schema). has (reach_of s statement) key) (slice_get schemas table) false ≡ true)
    both = both_true (table_of statement == table) (option_map_or (λ (s : Schema). has (reach_of s statement) key) (slice_get schemas table) false) reached

    at : (o : Option Schema) → option_map_or (λ (s : Schema). has (reach_of s statement) key) o false ≡ true → is_before_edge (option_map_or (λ (s : Schema). (reach_of s statement).lo) o Low) key ≡ true → ⊥
    at None over b = cc
    at (Some schema) over b = not_both (reach_of schema statement).lo key b (both_true (is_past_edge (reach_of schema statement).lo key) (is_before_edge (reach_of schema statement).hi key) over).0

started_kept : (node : NodeView) (owner : ℕ) (txn : Txn) (statement : Statement) → txn_of owner node.txns ≡ Some txn → FitsSchemas node.schemas statement → (walk : Option Walk) → txn.current ≡ walk
    → IsKept node → IsKept (started_idle walk txn statement node)
started_kept node owner txn statement found fit (Some walk) current kept = kept
started_kept node owner txn statement found fit None current kept = record {
  facts = txn_facts node.schemas (committed_row node) node.txns node.held begins kept.facts (record {
    done = here.done;
    so_far = λ table key reached before. absurd (none_passed node.schemas statement table key reached before);
  });
  tables = kept.tables;
  fits = fits_with node.schemas node.txns begins kept.fits (record { done = (kept.fits owner txn found).done; current = fit });
}
  where
    begins : Txn
    begins = record txn { current = Some (record { statement = statement; cursor = start_of node.schemas statement }) }

    here : TxnCovered node.schemas (committed_row node) node.held txn.owner.0 txn
    here = subst (λ (o : ℕ). TxnCovered node.schemas (committed_row node) node.held o txn) (sym (txn_owner owner txn node.txns found)) (kept.facts.covered owner txn found)

pub own_txn : (node : NodeView) (owner : ℕ) (txn : Txn) → txn_of owner node.txns ≡ Some txn → txn_of txn.owner.0 node.txns ≡ Some txn
own_txn node owner txn found = ap (λ (o : ℕ). txn_of o node.txns) (txn_owner owner txn node.txns found) ∙ found

ended_kept : (node : NodeView) (owner : ℕ) → IsKept node → IsKept (ended owner node)
ended_kept node owner kept = record { facts = rollback_facts node owner kept.facts; tables = kept.tables; fits = fits_without node.schemas node.txns owner kept.fits }

visited_kept : (node : NodeView) (owner : ℕ) (txn : Txn) → txn_of owner node.txns ≡ Some txn → (walk : Option Walk) → txn.current ≡ walk → IsKept node → IsKept (visited_if walk txn node)
visited_kept node owner txn found None current kept = kept
visited_kept node owner txn found (Some walk) current kept = at (plan_excluder txn.owner (table_of walk.statement) (plan_of node txn walk) node.held) refl
  where
    waits : (a : ℕ) (cycle : Option (List ℕ)) → IsKept (after_wait cycle a node)
    waits a None = kept
    waits a (Some cycle) = ended_kept node (victim_of node.txns a cycle) kept

    at : (by : Option ℕ) → plan_excluder txn.owner (table_of walk.statement) (plan_of node txn walk) node.held ≡ by → IsKept (visited_unless by txn walk (plan_of node txn walk) node)
    at (Some by) e = waits txn.owner.0 (cycle_of node txn.owner.0)
    at None e = record {
      facts = visit_facts node txn walk kept.facts (own_txn node owner txn found) current e;
      tables = kept.tables;
      fits = fits_with node.schemas node.txns (moved txn walk (plan_of node txn walk)) kept.fits
          (moved_fits node.schemas txn walk (plan_of node txn walk) (kept.fits owner txn found) (subst (WalkFits node.schemas) current (kept.fits owner txn found).current));
    }

committed_kept : (node : NodeView) (owner : ℕ) (txn : Txn) (origin : Origin) → txn_of owner node.txns ≡ Some txn → (walk : Option Walk) → IsKept node → IsKept (committed_idle walk txn origin node)
committed_kept node owner txn origin found (Some walk) kept = kept
committed_kept node owner txn origin found None kept = record {
  facts = committed_facts node txn origin kept.facts kept.tables (kept.fits owner txn found).done (own_txn node owner txn found);
  tables = committed_tables node txn origin kept.tables (kept.fits owner txn found).done;
  fits = fits_without node.schemas node.txns txn.owner.0 kept.fits;
}

-- a publication leaves the committed tables, and so the rows

published_tables : (node : NodeView) (table chunk : ℕ) (row : CheckRow)
    → (fold node.schemas node.start (node.history ++ record { origin = Checksum; statements = SetMaster table chunk row.kind row.this ∷ [] } ∷ [])).tables ≡ (fold node.schemas node.start node.history).tables
published_tables node table chunk row =
    ap (λ (r : Replayed). r.tables) (fold_more node.schemas node.start node.history (record { origin = Checksum; statements = SetMaster table chunk row.kind row.this ∷ [] }))
    ∙ tables_left node.schemas (SetMaster table chunk row.kind row.this) (fold node.schemas node.start node.history).tables tt

pub published_row : (node : NodeView) (table chunk : ℕ) (row : CheckRow) → (of : ℕ) (key : List Value)
    → committed_row (with_entries (record { origin = Checksum; statements = SetMaster table chunk row.kind row.this ∷ [] } ∷ []) node) of key ≡ committed_row node of key
published_row node table chunk row of key =
    ap (λ (tables : List (List (List Value))). table_row node.schemas tables of key) (published_tables node table chunk row)

same_facts : (schemas : List Schema) (rows now : CommittedRows) (txns : List Txn) (held : List Holding) → LockFacts schemas rows txns held → ((table : ℕ) (key : List Value) → now table key ≡ rows table key) → LockFacts schemas now txns held
same_facts schemas rows now txns held facts same = record {
  alone_on_key = facts.alone_on_key;
  alone_in_gap = facts.alone_in_gap;
  gap_is_free = λ a table key span over h. still table key (facts.gap_is_free a table key span over h);
  covered = λ a txn found. txn_kept schemas rows now held held a txn (λ table want h. h) (λ table key on there. subst IsSome (sym (same table key)) there) (facts.covered a txn found);
  owned = facts.owned;
}
  where
    still : (table : ℕ) (key : List Value) {A : Type 0} → (rows table key ≡ None) ⊎ A → (now table key ≡ None) ⊎ A
    still table key (inl none) = inl (same table key ∙ none)
    still table key (inr a) = inr a

published_kept : (node : NodeView) (table chunk : ℕ) (found : Option CheckRow) → IsKept node → IsKept (published table chunk found node)
published_kept node table chunk None kept = kept
published_kept node table chunk (Some row) kept = record {
  facts = same_facts node.schemas (committed_row node) (committed_row (published table chunk (Some row) node)) node.txns node.held kept.facts (published_row node table chunk row);
  tables = subst (AreTables node.schemas) (sym (published_tables node table chunk row)) kept.tables;
  fits = kept.fits;
}

pub call_kept : (call : Call) (node : NodeView) → CallFits node.schemas call → IsKept node → IsKept (after_call call node)
call_kept (Begin owner part) node fit kept = begun_kept node owner part (txn_of owner.0 node.txns) kept
call_kept (Start owner statement) node fit kept = at (txn_of owner.0 node.txns) refl
  where
    at : (o : Option Txn) → txn_of owner.0 node.txns ≡ o → IsKept (started_if o statement node)
    at None e = kept
    at (Some txn) e = started_kept node owner.0 txn statement e fit txn.current refl kept
call_kept (Visit owner) node fit kept = at (txn_of owner.0 node.txns) refl
  where
    at : (o : Option Txn) → txn_of owner.0 node.txns ≡ o → IsKept (visit_if o node)
    at None e = kept
    at (Some txn) e = visited_kept node owner.0 txn e txn.current refl kept
call_kept (Commit owner origin) node fit kept = at (txn_of owner.0 node.txns) refl
  where
    at : (o : Option Txn) → txn_of owner.0 node.txns ≡ o → IsKept (committed_if o origin node)
    at None e = kept
    at (Some txn) e = committed_kept node owner.0 txn origin e txn.current kept
call_kept (Rollback owner) node fit kept = ended_kept node owner.0 kept
call_kept (Publish table chunk) node fit kept = published_kept node table chunk (check_at table chunk (fold node.schemas node.start node.history).checks) kept

-- the schemas stay

pub same_schemas : (call : Call) (node : NodeView) → (after_call call node).schemas ≡ node.schemas
same_schemas (Begin owner part) node = at (txn_of owner.0 node.txns)
  where
    at : (o : Option Txn) → (begun_if o owner part node).schemas ≡ node.schemas
    at None = refl
    at (Some txn) = refl
same_schemas (Start owner statement) node = at (txn_of owner.0 node.txns)
  where
    idle : (txn : Txn) (w : Option Walk) → (started_idle w txn statement node).schemas ≡ node.schemas
    idle txn None = refl
    idle txn (Some walk) = refl

    at : (o : Option Txn) → (started_if o statement node).schemas ≡ node.schemas
    at None = refl
    at (Some txn) = idle txn txn.current
same_schemas (Visit owner) node = at (txn_of owner.0 node.txns)
  where
    waits : (a : ℕ) (cycle : Option (List ℕ)) → (after_wait cycle a node).schemas ≡ node.schemas
    waits a None = refl
    waits a (Some cycle) = refl

    unless : (txn : Txn) (walk : Walk) (plan : Plan) (by : Option ℕ) → (visited_unless by txn walk plan node).schemas ≡ node.schemas
    unless txn walk plan None = refl
    unless txn walk plan (Some by) = waits txn.owner.0 (cycle_of node txn.owner.0)

    busy : (txn : Txn) (w : Option Walk) → (visited_if w txn node).schemas ≡ node.schemas
    busy txn None = refl
    busy txn (Some walk) = unless txn walk (plan_of node txn walk) (plan_excluder txn.owner (table_of walk.statement) (plan_of node txn walk) node.held)

    at : (o : Option Txn) → (visit_if o node).schemas ≡ node.schemas
    at None = refl
    at (Some txn) = busy txn txn.current
same_schemas (Commit owner origin) node = at (txn_of owner.0 node.txns)
  where
    idle : (txn : Txn) (w : Option Walk) → (committed_idle w txn origin node).schemas ≡ node.schemas
    idle txn None = refl
    idle txn (Some walk) = refl

    at : (o : Option Txn) → (committed_if o origin node).schemas ≡ node.schemas
    at None = refl
    at (Some txn) = idle txn txn.current
same_schemas (Rollback owner) node = refl
same_schemas (Publish table chunk) node = at (check_at table chunk (fold node.schemas node.start node.history).checks)
  where
    at : (o : Option CheckRow) → (published table chunk o node).schemas ≡ node.schemas
    at None = refl
    at (Some row) = refl

pub calls_kept : (calls : List Call) (node : NodeView) → AllByRecursion (CallFits node.schemas) calls → IsKept node → IsKept (after_calls calls node)
calls_kept [] node fit kept = kept
calls_kept (call ∷ calls) node fit kept =
    calls_kept calls (after_call call node) (subst (λ (schemas : List Schema). AllByRecursion (CallFits schemas) calls) (sym (same_schemas call node)) fit.1) (call_kept call node fit.0 kept)

pub fresh_kept : (schemas : List Schema) (start : List (List (List Value))) → AreTables schemas start → IsKept (fresh_node schemas start)
fresh_kept schemas start are = record {
  facts = record {
    alone_on_key = λ a b table key mode apart ours theirs. absurd ours;
    alone_in_gap = λ a b table key span apart over ours theirs. absurd ours;
    gap_is_free = λ a table key span over ours. absurd ours;
    covered = λ a txn found. absurd (let q : None ≡ Some txn = found in cc);
    owned = λ a table want ours. absurd ours;
  };
  tables = are;
  fits = λ a txn found. absurd (let q : None ≡ Some txn = found in cc);
}

nobody_live : (node : NodeView) (table : ℕ) (key : List Value) → ((a : ℕ) → Holds a table (OnKey key Exclusive) node.held → ⊥) → live_row node table key ≡ committed_row node table key
nobody_live node table key nobody = at (exclusive_owner table key node.held) refl
  where
    at : (o : Option ℕ) → exclusive_owner table key node.held ≡ o → live_from node.schemas node.txns o table key (committed_row node table key) ≡ committed_row node table key
    at None e = refl
    at (Some a) e = absurd (nobody a (exclusive_found a table key node.held e))

gap_is_empty : (node : NodeView) → FactsOf node → (a table : ℕ) (key : List Value) (span : Span) → has span key ≡ true → Holds a table (OnGap span) node.held
    → ((live_row node table key ≡ None) × (committed_row node table key ≡ None)) ⊎ Holds a table (OnKey key Exclusive) node.held
gap_is_empty node facts a table key span over h = both (facts.gap_is_free a table key span over h)
  where
    at : committed_row node table key ≡ None → (o : Option ℕ) → exclusive_owner table key node.held ≡ o
        → ((live_from node.schemas node.txns o table key (committed_row node table key) ≡ None) × (committed_row node table key ≡ None)) ⊎ Holds a table (OnKey key Exclusive) node.held
    at none None e = inl (none, none)
    at none (Some b) e = one (same_or_apart b a)
      where
        one : (b ≡ a) ⊎ (b ≢ a) → ((live_from node.schemas node.txns (Some b) table key (committed_row node table key) ≡ None) × (committed_row node table key ≡ None)) ⊎ Holds a table (OnKey key Exclusive) node.held
        one (inl same) = inr (subst (λ (o : ℕ). Holds o table (OnKey key Exclusive) node.held) same (exclusive_found b table key node.held e))
        one (inr apart) = absurd (facts.alone_in_gap b a table key span apart over (exclusive_found b table key node.held e) h)

    both : (committed_row node table key ≡ None) ⊎ Holds a table (OnKey key Exclusive) node.held → ((live_row node table key ≡ None) × (committed_row node table key ≡ None)) ⊎ Holds a table (OnKey key Exclusive) node.held
    both (inl none) = at none (exclusive_owner table key node.held) refl
    both (inr on) = inr on

locks_keep : (node : NodeView) → IsKept node → LocksKeep node
locks_keep node kept = record {
  alone_on_key = kept.facts.alone_on_key;
  alone_in_gap = kept.facts.alone_in_gap;
  live = nobody_live node;
  gap = gap_is_empty node kept.facts;
  covered = kept.facts.covered;
}

pub locks_keep_always : LocksKeepAlways
locks_keep_always schemas start calls are fit = locks_keep (after_calls calls (fresh_node schemas start)) (calls_kept calls (fresh_node schemas start) fit (fresh_kept schemas start are))

commit_live : (node : NodeView) → IsKept node → (owner : Owner) (origin : Origin) (table : ℕ) (key : List Value) → live_row (after_call (Commit owner origin) node) table key ≡ live_row node table key
commit_live node kept owner origin table key = at (txn_of owner.0 node.txns) refl
  where
    idle : (txn : Txn) → txn_of owner.0 node.txns ≡ Some txn → (w : Option Walk) → txn.current ≡ w → live_row (committed_idle w txn origin node) table key ≡ live_row node table key
    idle txn e None current = committed_live node txn origin kept.facts kept.tables (kept.fits owner.0 txn e).done (own_txn node owner.0 txn e) current table key
    idle txn e (Some walk) current = refl

    at : (o : Option Txn) → txn_of owner.0 node.txns ≡ o → live_row (committed_if o origin node) table key ≡ live_row node table key
    at None e = refl
    at (Some txn) e = idle txn e txn.current refl

pub commits_leave_live_rows : CommitsLeaveLiveRows
commits_leave_live_rows schemas start calls owner origin table key are fit =
    commit_live (after_calls calls (fresh_node schemas start)) (calls_kept calls (fresh_node schemas start) fit (fresh_kept schemas start are)) owner origin table key

-- a statement that is started leaves the live rows
started_seen : (schemas : List Schema) (statement : Statement) (table : ℕ) (key : List Value) (old : Option (List Value))
    → act_so_far schemas (Some (record { statement = statement; cursor = start_of schemas statement })) table key old ≡ old
started_seen schemas statement table key old = at (is_before_edge (start_of schemas statement) key) refl (reaches schemas statement table key) refl
  where
    at : (before : Bool) → is_before_edge (start_of schemas statement) key ≡ before → (reached : Bool) → reaches schemas statement table key ≡ reached
        → cond before (act schemas statement table key old) old ≡ old
    at false e reached f = refl
    at true e false f = act_outside schemas statement table key old f
    at true e true f = absurd (none_passed schemas statement table key f e)

pub started_live : (node : NodeView) (txn : Txn) (statement : Statement) → txn_of txn.owner.0 node.txns ≡ Some txn → txn.current ≡ None
    → (table : ℕ) (key : List Value) → live_row (started txn statement node) table key ≡ live_row node table key
started_live node txn statement found idle table key = at (exclusive_owner table key node.held)
  where
    at : (o : Option ℕ) → live_from node.schemas (with_txn (record txn { current = Some (record { statement = statement; cursor = start_of node.schemas statement }) }) node.txns) o table key (committed_row node table key)
        ≡ live_from node.schemas node.txns o table key (committed_row node table key)
    at None = refl
    at (Some a) = one (same_or_apart a txn.owner.0)
      where
        one : (a ≡ txn.owner.0) ⊎ (a ≢ txn.owner.0)
            → seen_by node.schemas (txn_of a (with_txn (record txn { current = Some (record { statement = statement; cursor = start_of node.schemas statement }) }) node.txns)) table key (committed_row node table key)
            ≡ seen_by node.schemas (txn_of a node.txns) table key (committed_row node table key)
        one (inl same) =
            ap (λ (t : Option Txn). seen_by node.schemas t table key (committed_row node table key))
            (ap (λ (o : ℕ). txn_of o (with_txn (record txn { current = Some (record { statement = statement; cursor = start_of node.schemas statement }) }) node.txns)) same
            ∙ txn_same (record txn { current = Some (record { statement = statement; cursor = start_of node.schemas statement }) }) node.txns)
            ∙ started_seen node.schemas statement table key (acts node.schemas txn.done table key (committed_row node table key))
            ∙ sym (ap (λ (w : Option Walk). act_so_far node.schemas w table key (acts node.schemas txn.done table key (committed_row node table key))) idle)
            ∙ sym (ap (λ (t : Option Txn). seen_by node.schemas t table key (committed_row node table key)) (ap (λ (o : ℕ). txn_of o node.txns) same ∙ found))
        one (inr apart) =
            ap (λ (t : Option Txn). seen_by node.schemas t table key (committed_row node table key))
            (txn_other a (record txn { current = Some (record { statement = statement; cursor = start_of node.schemas statement }) }) node.txns apart)
