-- What a walk reads is what its transaction sees, and stays so until the transaction ends.
use Rattle.std.proofs.Common.{◌≡◌, ◌≢◌, ◌⊎◌, inl, inr, ℕ, List, [], ◌∷◌, ◌++◌, ◌&&◌, ◌||◌, ◌==◌, Bool, true, false, not, cond, Option, None, Some, refl, sym, ap, subst, ◌∙◌}
use Rattle.std.specs.Prelude.{is_some, IsSome, option_and_then}
use Rattle.row_types.specs.declared.values.Value.{Value}
use Rattle.row_types.specs.declared.lock_modes.LockMode.{LockMode}
use Rattle.row_types.specs.declared.lock_modes.LockMode.TheVariants.{Shared, Exclusive}
use Rattle.row_types.specs.declared.table_schema.Schema.{Schema}
use Rattle.row_types.specs.Order.{has, is_before_edge, is_past_edge}
use Rattle.row_types.proofs.SpanLemmas.{past_or_before}
use Rattle.ptc_statement.specs.declared.statements.Statement.{Statement}
use Rattle.ptc_statement.specs.Effect.{table_of}
use Rattle.statement_log.specs.declared.origins.Origin.{Origin}
use Rattle.checksum_table.specs.declared.check_rows.CheckRow.{CheckRow}
use Rattle.checksum_table.specs.Checks.{check_at}
use Rattle.history.specs.Replay.{fold}
use Rattle.lock_table.specs.declared.wants.Owner.{Owner}
use Rattle.lock_table.specs.declared.wants.Want.{Want}
use Rattle.lock_table.specs.declared.wants.Want.TheVariants.{OnKey, OnGap, InsertAt}
use Rattle.lock_table.specs.declared.wants.Holding.{Holding}
use Rattle.lock_table.specs.Stops.{IsAmong}
use Rattle.lock_table.specs.Locks.{excluder, is_exclusive, exclusive_owner, Holds}
use Rattle.lock_table.proofs.HoldLemmas.{same_or_apart, shut_key, shut_insert_key, exclusive_found, exclusive_none}
use Rattle.node_model.specs.Kept.{FactsOf, IsKept}
use Rattle.txn_walk.specs.declared.plans.Plan.{Plan}
use Rattle.node_model.specs.declared.txns.Walk.{Walk}
use Rattle.node_model.specs.declared.txns.Txn.{Txn}
use Rattle.node_model.specs.Txns.{txn_of}
use Rattle.node_model.specs.Node.{NodeView, acts, act, act_so_far, seen, seen_by, live_row, live_from, committed_row, is_live, stops, plan_of, plan_excluder, asked, committed}
use Rattle.node_model.specs.Waits.{cycle_of, after_wait, visited_unless}
use Rattle.node_model.specs.LockFacts.{HoldsGapOver, Guards, TxnCovered}
use Rattle.node_model.specs.Calls.{Call, Begin, Start, Visit, Commit, Rollback, Publish, IsNoCommitOf, GuardedRowsStay, after_calls, fresh_node, begun_if, started_idle, started_if, visited_if, visit_if, committed_idle, committed_if, published, after_call, CallFits}
use Rattle.node_model.proofs.FactLemmas.{done_left}
use Rattle.node_model.proofs.StopLemmas.{live_is_stop}
use Rattle.node_model.proofs.PlanLemmas.{InGap}
use Rattle.node_model.proofs.VisitLemmas.{sound_in, not_stop_free}
use Rattle.node_model.proofs.LiveLemmas.{committed_change}
use Rattle.node_model.proofs.TxnLemmas.{txn_owner}
use Rattle.node_model.proofs.CallLemmas.{published_row, own_txn, calls_kept, fresh_kept}

-- where nobody else has a key exclusively, its live row is what the transaction has made of the committed one
pub live_is_own : (node : NodeView) (txn : Txn) (table : ℕ) (key : List Value) → FactsOf node → txn_of txn.owner.0 node.txns ≡ Some txn
    → ((b : ℕ) → b ≢ txn.owner.0 → Holds b table (OnKey key Exclusive) node.held → ⊥)
    → (act_so_far node.schemas txn.current table key (acts node.schemas txn.done table key (committed_row node table key)) ≡ acts node.schemas txn.done table key (committed_row node table key))
    → live_row node table key ≡ acts node.schemas txn.done table key (committed_row node table key)
live_is_own node txn table key facts found nobody ahead = at (exclusive_owner table key node.held) refl
  where
    at : (o : Option ℕ) → exclusive_owner table key node.held ≡ o
        → live_from node.schemas node.txns o table key (committed_row node table key) ≡ acts node.schemas txn.done table key (committed_row node table key)
    at None e = unheld (done_left node.schemas (committed_row node) node.txns node.held txn.owner.0 txn.done table key facts (facts.covered txn.owner.0 txn found).done)
      where
        unheld : (acts node.schemas txn.done table key (committed_row node table key) ≡ committed_row node table key) ⊎ Holds txn.owner.0 table (OnKey key Exclusive) node.held
            → committed_row node table key ≡ acts node.schemas txn.done table key (committed_row node table key)
        unheld (inl same) = sym same
        unheld (inr on) = absurd (exclusive_none txn.owner.0 table key node.held e on)
    at (Some a) e = one (same_or_apart a txn.owner.0)
      where
        one : (a ≡ txn.owner.0) ⊎ (a ≢ txn.owner.0) → seen_by node.schemas (txn_of a node.txns) table key (committed_row node table key) ≡ acts node.schemas txn.done table key (committed_row node table key)
        one (inl same) = ap (λ (t : Option Txn). seen_by node.schemas t table key (committed_row node table key)) (ap (λ (o : ℕ). txn_of o node.txns) same ∙ found) ∙ ahead
        one (inr apart) = absurd (nobody a apart (exclusive_found a table key node.held e))

not_passed : (schemas : List Schema) (walk : Walk) (table : ℕ) (key : List Value) (old : Option (List Value)) → is_past_edge walk.cursor key ≡ true → act_so_far schemas (Some walk) table key old ≡ old
not_passed schemas walk table key old past = at (is_before_edge walk.cursor key) refl
  where
    at : (b : Bool) → is_before_edge walk.cursor key ≡ b → cond b (act schemas walk.statement table key old) old ≡ old
    at false e = refl
    at true e = absurd (let q : true ≡ false = sym past ∙ past_or_before walk.cursor key ∙ ap not e in cc)

-- the row that a visit of a walk reads is what its transaction saw there with its earlier statements
pub visit_reads : (node : NodeView) (txn : Txn) (walk : Walk) (key : List Value) (mode : LockMode) → FactsOf node → txn_of txn.owner.0 node.txns ≡ Some txn → txn.current ≡ Some walk
    → plan_excluder txn.owner (table_of walk.statement) (plan_of node txn walk) node.held ≡ None
    → (plan_of node txn walk).on_key ≡ Some (key, mode) → is_past_edge walk.cursor key ≡ true
    → live_row node (table_of walk.statement) key ≡ acts node.schemas txn.done (table_of walk.statement) key (committed_row node (table_of walk.statement) key)
visit_reads node txn walk key mode facts found current none is past =
    live_is_own node txn (table_of walk.statement) key facts found nobody
    (ap (λ (w : Option Walk). act_so_far node.schemas w (table_of walk.statement) key rows) current ∙ not_passed node.schemas walk (table_of walk.statement) key rows past)
  where
    rows : Option (List Value)
    rows = acts node.schemas txn.done (table_of walk.statement) key (committed_row node (table_of walk.statement) key)

    strong : (m : LockMode) → is_exclusive m || true ≡ true
    strong Shared = refl
    strong Exclusive = refl

    asks : option_and_then (λ (want : Want). excluder txn.owner.0 (table_of walk.statement) want node.held) (asked (plan_of node txn walk).insert (Some (key, mode))) ≡ None
    asks = subst (λ (o : Option (List Value × LockMode)). option_and_then (λ (want : Want). excluder txn.owner.0 (table_of walk.statement) want node.held) (asked (plan_of node txn walk).insert o) ≡ None) is none

    by : (insert : Bool) → option_and_then (λ (want : Want). excluder txn.owner.0 (table_of walk.statement) want node.held) (asked insert (Some (key, mode))) ≡ None
        → (b : ℕ) → b ≢ txn.owner.0 → Holds b (table_of walk.statement) (OnKey key Exclusive) node.held → ⊥
    by true e b apart h = shut_insert_key txn.owner.0 b (table_of walk.statement) key Exclusive node.held e apart h
    by false e b apart h = shut_key txn.owner.0 b (table_of walk.statement) key mode Exclusive node.held e apart (strong mode) h

    nobody : (b : ℕ) → b ≢ txn.owner.0 → Holds b (table_of walk.statement) (OnKey key Exclusive) node.held → ⊥
    nobody = by (plan_of node txn walk).insert asks

-- in the gap of a visit the transaction sees no row
pub gap_reads : (node : NodeView) (txn : Txn) (walk : Walk) (key : List Value) → FactsOf node → txn_of txn.owner.0 node.txns ≡ Some txn → txn.current ≡ Some walk
    → InGap (plan_of node txn walk) key → is_past_edge walk.cursor key ≡ true
    → acts node.schemas txn.done (table_of walk.statement) key (committed_row node (table_of walk.statement) key) ≡ None
gap_reads node txn walk key facts found current in_gap past = at (exclusive_owner table key node.held) refl
  where
    table : ℕ
    table = table_of walk.statement

    no_stop : IsAmong key (stops node txn.owner.0 table) → ⊥
    no_stop = (sound_in node txn walk).gap in_gap.span in_gap.is key in_gap.over

    dead : (row : Option (List Value)) → live_row node table key ≡ row → live_row node table key ≡ None
    dead None e = e
    dead (Some row) e = absurd (no_stop (live_is_stop node txn.owner.0 table key (ap is_some e)))

    acts_none : (committed_row node table key ≡ None) → Holds txn.owner.0 table (OnKey key Exclusive) node.held ⊎ (acts node.schemas txn.done table key (committed_row node table key) ≡ committed_row node table key)
        → (Holds txn.owner.0 table (OnKey key Exclusive) node.held → ⊥) → acts node.schemas txn.done table key (committed_row node table key) ≡ None
    acts_none none (inl on) off = absurd (off on)
    acts_none none (inr same) off = same ∙ none

    turned : {A B : Type 0} → A ⊎ B → B ⊎ A
    turned (inl a) = inr a
    turned (inr b) = inl b

    free : (committed_row node table key ≡ None) ⊎ Holds txn.owner.0 table (OnKey key Exclusive) node.held → (Holds txn.owner.0 table (OnKey key Exclusive) node.held → ⊥)
        → acts node.schemas txn.done table key (committed_row node table key) ≡ None
    free (inl none) off = acts_none none (turned (done_left node.schemas (committed_row node) node.txns node.held txn.owner.0 txn.done table key facts (facts.covered txn.owner.0 txn found).done)) off
    free (inr on) off = absurd (off on)

    at : (o : Option ℕ) → exclusive_owner table key node.held ≡ o → acts node.schemas txn.done table key (committed_row node table key) ≡ None
    at None e = free (not_stop_free node txn.owner.0 table key no_stop) (λ on. exclusive_none txn.owner.0 table key node.held e on)
    at (Some a) e = one (same_or_apart a txn.owner.0)
      where
        one : (a ≡ txn.owner.0) ⊎ (a ≢ txn.owner.0) → acts node.schemas txn.done table key (committed_row node table key) ≡ None
        one (inl same) =
            sym (ap (λ (o : Option ℕ). live_from node.schemas node.txns o table key (committed_row node table key)) e
            ∙ ap (λ (t : Option Txn). seen_by node.schemas t table key (committed_row node table key)) (ap (λ (o : ℕ). txn_of o node.txns) same ∙ found)
            ∙ ap (λ (w : Option Walk). act_so_far node.schemas w table key (acts node.schemas txn.done table key (committed_row node table key))) current
            ∙ not_passed node.schemas walk table key (acts node.schemas txn.done table key (committed_row node table key)) past)
            ∙ dead (live_row node table key) refl
        one (inr apart) = free (not_stop_free node txn.owner.0 table key no_stop)
            (λ on. facts.alone_on_key a txn.owner.0 table key Exclusive apart (exclusive_found a table key node.held e) on)

-- what an owner guards nobody else changes
pub guarded_stays : (call : Call) (node : NodeView) (a table : ℕ) (key : List Value) → IsKept node → IsNoCommitOf a call → Guards a table key node.held
    → committed_row (after_call call node) table key ≡ committed_row node table key
guarded_stays (Begin owner part) node a table key kept other guards = at (txn_of owner.0 node.txns)
  where
    at : (o : Option Txn) → committed_row (begun_if o owner part node) table key ≡ committed_row node table key
    at None = refl
    at (Some txn) = refl
guarded_stays (Start owner statement) node a table key kept other guards = at (txn_of owner.0 node.txns)
  where
    idle : (txn : Txn) (w : Option Walk) → committed_row (started_idle w txn statement node) table key ≡ committed_row node table key
    idle txn None = refl
    idle txn (Some walk) = refl

    at : (o : Option Txn) → committed_row (started_if o statement node) table key ≡ committed_row node table key
    at None = refl
    at (Some txn) = idle txn txn.current
guarded_stays (Visit owner) node a table key kept other guards = at (txn_of owner.0 node.txns)
  where
    waits : (a : ℕ) (cycle : Option (List ℕ)) → committed_row (after_wait cycle a node) table key ≡ committed_row node table key
    waits a None = refl
    waits a (Some cycle) = refl

    unless : (txn : Txn) (walk : Walk) (plan : Plan) (by : Option ℕ) → committed_row (visited_unless by txn walk plan node) table key ≡ committed_row node table key
    unless txn walk plan None = refl
    unless txn walk plan (Some by) = waits txn.owner.0 (cycle_of node txn.owner.0)

    busy : (txn : Txn) (w : Option Walk) → committed_row (visited_if w txn node) table key ≡ committed_row node table key
    busy txn None = refl
    busy txn (Some walk) = unless txn walk (plan_of node txn walk) (plan_excluder txn.owner (table_of walk.statement) (plan_of node txn walk) node.held)

    at : (o : Option Txn) → committed_row (visit_if o node) table key ≡ committed_row node table key
    at None = refl
    at (Some txn) = busy txn txn.current
guarded_stays (Commit owner origin) node a table key kept other guards = at (txn_of owner.0 node.txns) refl
  where
    change : (txn : Txn) → txn.owner.0 ≡ owner.0 → (committed_row (committed txn origin node) table key ≡ committed_row node table key) ⊎ Holds txn.owner.0 table (OnKey key Exclusive) node.held
        → ((mode : LockMode) × Holds a table (OnKey key mode) node.held) ⊎ HoldsGapOver a table key node.held → committed_row (committed txn origin node) table key ≡ committed_row node table key
    change txn own (inl same) guard = same
    change txn own (inr on) (inl lock) = absurd (kept.facts.alone_on_key txn.owner.0 a table key lock.0 (λ e. other (sym own ∙ e)) on lock.1)
    change txn own (inr on) (inr over) = absurd (kept.facts.alone_in_gap txn.owner.0 a table key over.span (λ e. other (sym own ∙ e)) over.over on over.holds)

    idle : (txn : Txn) → txn_of owner.0 node.txns ≡ Some txn → (w : Option Walk) → committed_row (committed_idle w txn origin node) table key ≡ committed_row node table key
    idle txn e (Some walk) = refl
    idle txn e None = change txn (txn_owner owner.0 txn node.txns e)
        (committed_change node txn origin kept.facts kept.tables (kept.fits owner.0 txn e).done (own_txn node owner.0 txn e) table key) guards

    at : (o : Option Txn) → txn_of owner.0 node.txns ≡ o → committed_row (committed_if o origin node) table key ≡ committed_row node table key
    at None e = refl
    at (Some txn) e = idle txn e txn.current
guarded_stays (Rollback owner) node a table key kept other guards = refl
guarded_stays (Publish of chunk) node a table key kept other guards = at (check_at of chunk (fold node.schemas node.start node.history).checks)
  where
    at : (o : Option CheckRow) → committed_row (published of chunk o node) table key ≡ committed_row node table key
    at None = refl
    at (Some row) = published_row node of chunk row table key

pub guarded_rows_stay : GuardedRowsStay
guarded_rows_stay schemas start calls call owner table key are fit other guards =
    guarded_stays call (after_calls calls (fresh_node schemas start)) owner table key (calls_kept calls (fresh_node schemas start) fit (fresh_kept schemas start are)) other guards
