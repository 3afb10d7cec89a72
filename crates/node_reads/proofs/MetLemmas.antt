-- The rows that a walk meets: none where it begins, and more with each visit.
use Rattle.std.proofs.Common.{◌≡◌, ◌⊎◌, inl, inr, ◌∙◌, ℕ, Bool, true, false, cond, List, [], ◌∷◌, ◌++◌, Option, None, Some, refl, ap, sym}
use Rattle.std.specs.List.{slice_get, AllByRecursion}
use Rattle.std.specs.Option.{option_to_list}
use Rattle.std.specs.Ordering.{is_eq, is_le, ordering_then}
use Rattle.std.specs.declared.cmp.Ordering.{Ordering}
use Rattle.std.specs.declared.cmp.Ordering.TheVariants.{Less, Equal, Greater}
use Rattle.std.proofs.lemmas.List.{append-nil}
use Rattle.row_types.specs.declared.values.Value.{Value}
use Rattle.row_types.specs.declared.lock_modes.LockMode.{LockMode}
use Rattle.row_types.specs.declared.edges.Edge.{Edge}
use Rattle.row_types.specs.declared.edges.Edge.TheVariants.{Before, After}
use Rattle.row_types.specs.declared.edges.Span.{Span}
use Rattle.row_types.specs.declared.table_schema.Schema.{Schema}
use Rattle.row_types.specs.Order.{edge_cmp, edge_le, has, is_past_edge, is_before_edge}
use Rattle.row_types.specs.Fit.{key_of, IsSchema}
use Rattle.row_types.specs.KeyRows.{TableRows}
use Rattle.row_types.proofs.OrderLemmas.{key_ties}
use Rattle.row_types.proofs.SpanLemmas.{edge_ties, edge_le_trans, edge_le_turned, edges_exact}
use Rattle.ptc_statement.specs.declared.statements.Statement.{Statement}
use Rattle.ptc_statement.specs.Reach.{reach_of}
use Rattle.ptc_statement.specs.Effect.{table_of}
use Rattle.ptc_statement.specs.Fits.{FitsSchemas}
use Rattle.row_digest.specs.Digest.{rows_in}
use Rattle.history.specs.Replay.{Replayed, table_rows, after_statement, after_statements, fold}
use Rattle.lock_table.specs.Stops.{least_key_past}
use Rattle.lock_table.proofs.GapLemmas.{both_true}
use Rattle.txn_walk.specs.declared.plans.Plan.{Plan}
use Rattle.txn_walk.specs.Plans.{no_visit, last_visit, stop_visit, visit_within, walk_visit}
use Rattle.node_model.specs.Kept.{FactsOf, TablesOf}
use Rattle.node_model.specs.declared.txns.Walk.{Walk}
use Rattle.node_model.specs.declared.txns.Txn.{Txn}
use Rattle.node_model.specs.Txns.{txn_of}
use Rattle.node_model.specs.Node.{NodeView, live_row, stops, plan_of, plan_excluder}
use Rattle.node_model.proofs.PlanLemmas.{not_both, walk_stop}
use Rattle.node_model.proofs.WalkReads.{rows_seen, visit_read_more, last_visit_reads}
use Rattle.node_reads.specs.Gains.{row_met}
use Rattle.node_reads.specs.Reads.{rows_met, tables_after_all}
use Rattle.node_reads.specs.ReadBy.{IsOnWay}

-- the rows between two edges of which the upper one is not above the lower one
pub none_between : (schema : Schema) (lo hi : Edge) (rows : List (List Value)) → edge_le hi lo ≡ true → rows_in schema (record { lo = lo; hi = hi }) rows ≡ []
none_between schema lo hi [] le = refl
none_between schema lo hi (row ∷ rows) le = at (has (record { lo = lo; hi = hi }) (key_of schema row)) refl (none_between schema lo hi rows le)
  where
    at : (b : Bool) → has (record { lo = lo; hi = hi }) (key_of schema row) ≡ b → rows_in schema (record { lo = lo; hi = hi }) rows ≡ []
        → cond b (row ∷ rows_in schema (record { lo = lo; hi = hi }) rows) (rows_in schema (record { lo = lo; hi = hi }) rows) ≡ []
    at true e more =
        let both = both_true (is_past_edge lo (key_of schema row)) (is_before_edge hi (key_of schema row)) e in
        absurd (not_both lo (key_of schema row) (edge_le_trans (After (key_of schema row)) hi lo both.1 le) both.0)
    at false e more = more

pub not_above : (edge : Edge) → edge_le edge edge ≡ true
not_above edge = ap is_le (edge_ties edge)

-- the tables after statements are those of their replay
pub tables_are : (schemas : List Schema) (position : ℕ) (statements : List Statement) (here : Replayed) → (after_statements schemas position statements here).tables ≡ tables_after_all schemas statements here.tables
tables_are schemas position [] here = refl
tables_are schemas position (statement ∷ statements) here = tables_are schemas position statements (after_statement schemas position statement here)

-- what a walk does next: nothing, as it has no keys; a stop; or the gap behind the last one

pub record AtStop (mode : LockMode) (reach : Span) (cursor : Edge) (stops : List (List Value)) : Type 0 where
  pub stop : List Value
  pub apart : edge_le reach.hi reach.lo ≡ false
  pub within : edge_le (After stop) reach.hi ≡ true
  pub is : walk_visit mode reach cursor stops ≡ stop_visit mode reach cursor stops stop

abbrev pub IsEmptyWalk : LockMode → Span → Edge → List (List Value) → Type 0
IsEmptyWalk mode reach cursor stops = (edge_le reach.hi reach.lo ≡ true) × (walk_visit mode reach cursor stops ≡ no_visit reach)

abbrev pub IsLastVisit : LockMode → Span → Edge → List (List Value) → Type 0
IsLastVisit mode reach cursor stops = (edge_le reach.hi reach.lo ≡ false) × (walk_visit mode reach cursor stops ≡ last_visit reach cursor stops)

abbrev pub WalkCase : LockMode → Span → Edge → List (List Value) → Type 0
WalkCase mode reach cursor stops = IsEmptyWalk mode reach cursor stops ⊎ AtStop mode reach cursor stops ⊎ IsLastVisit mode reach cursor stops

pub walk_case : (mode : LockMode) (reach : Span) (cursor : Edge) (stops : List (List Value)) → WalkCase mode reach cursor stops
walk_case mode reach cursor stops = at (edge_le reach.hi reach.lo) refl
  where
    chosen : (b : Bool) → edge_le reach.hi reach.lo ≡ b → walk_visit mode reach cursor stops ≡ cond b (no_visit reach) (visit_within mode reach cursor stops (least_key_past cursor stops))
    chosen b e = ap (λ (x : Bool). cond x (no_visit reach) (visit_within mode reach cursor stops (least_key_past cursor stops))) e

    near : (stop : List Value) → edge_le reach.hi reach.lo ≡ false → walk_visit mode reach cursor stops ≡ visit_within mode reach cursor stops (Some stop) → (b : Bool) → edge_le (After stop) reach.hi ≡ b
        → WalkCase mode reach cursor stops
    near stop apart is true e =
        inr (inl (record { stop = stop; apart = apart; within = e; is = is ∙ ap (λ (x : Bool). cond x (stop_visit mode reach cursor stops stop) (last_visit reach cursor stops)) e }))
    near stop apart is false e = inr (inr (apart, is ∙ ap (λ (x : Bool). cond x (stop_visit mode reach cursor stops stop) (last_visit reach cursor stops)) e))

    by : edge_le reach.hi reach.lo ≡ false → (o : Option (List Value)) → walk_visit mode reach cursor stops ≡ visit_within mode reach cursor stops o → WalkCase mode reach cursor stops
    by apart None is = inr (inr (apart, is))
    by apart (Some stop) is = near stop apart is (edge_le (After stop) reach.hi) refl

    at : (b : Bool) → edge_le reach.hi reach.lo ≡ b → WalkCase mode reach cursor stops
    at true e = inl (e, chosen true e)
    at false e = by e (least_key_past cursor stops) (chosen false e)

-- what a visit of a walk meets: the rows up to its cursor, or to the end of the reach where it ends, are those
-- before and the row at its stop
pub record Meets (node : NodeView) (schema : Schema) (tables : TableRows) (walk : Walk) (plan : Plan) : Type 0 where
  pub rows : (b : Bool) → plan.ends ≡ b → rows_met schema tables walk.statement (cond b (reach_of schema walk.statement).hi plan.after)
      ≡ rows_met schema tables walk.statement walk.cursor ++ option_to_list (row_met node (table_of walk.statement) plan.on_key)
  pub on_way : plan.ends ≡ false → IsOnWay (reach_of schema walk.statement) plan.after

low_of : (reach : Span) (cursor : Edge) → IsOnWay reach cursor → edge_le reach.lo cursor ≡ true
low_of reach cursor (inl at_lo) = ap (edge_le reach.lo) at_lo ∙ not_above reach.lo
low_of reach cursor (inr way) = way.0

high_of : (reach : Span) (cursor : Edge) → edge_le reach.hi reach.lo ≡ false → IsOnWay reach cursor → edge_le cursor reach.hi ≡ true
high_of reach cursor apart (inl at_lo) = ap (λ (e : Edge). edge_le e reach.hi) at_lo ∙ edge_le_turned reach.hi reach.lo apart
high_of reach cursor apart (inr way) = way.1

-- up to a cursor of an empty reach
before_none : (schema : Schema) (reach : Span) (cursor : Edge) (rows : List (List Value)) → edge_le reach.hi reach.lo ≡ true → IsOnWay reach cursor → rows_in schema (record { lo = reach.lo; hi = cursor }) rows ≡ []
before_none schema reach cursor rows le (inl at_lo) = none_between schema reach.lo cursor rows (ap (λ (e : Edge). edge_le e reach.lo) at_lo ∙ not_above reach.lo)
before_none schema reach cursor rows le (inr way) = none_between schema reach.lo cursor rows (edge_le_trans cursor reach.hi reach.lo way.1 le)

end_at : (e f : Edge) (o : Ordering) → edge_cmp e f ≡ o → is_eq o ≡ true → e ≡ f
end_at e f Less is eq = cc
end_at e f Equal is eq = edges_exact e f is
end_at e f Greater is eq = cc

pub record Walking (node : NodeView) (txn : Txn) (walk : Walk) (schema : Schema) (mode : LockMode) : Type 0 where
  pub facts : FactsOf node
  pub are : TablesOf node
  pub is : IsSchema schema
  pub fit : AllByRecursion (FitsSchemas node.schemas) txn.done
  pub found : txn_of txn.owner.0 node.txns ≡ Some txn
  pub current : txn.current ≡ Some walk
  pub there : slice_get node.schemas (table_of walk.statement) ≡ Some schema
  pub plan : plan_of node txn walk ≡ walk_visit mode (reach_of schema walk.statement) walk.cursor (stops node txn.owner.0 (table_of walk.statement))
  pub none : plan_excluder txn.owner (table_of walk.statement) (plan_of node txn walk) node.held ≡ None
  pub on_way : IsOnWay (reach_of schema walk.statement) walk.cursor

-- what the transaction sees
abbrev pub seen_tables : NodeView → Txn → TableRows
seen_tables node txn = tables_after_all node.schemas txn.done (fold node.schemas node.start node.history).tables

seen_rows : (node : NodeView) (txn : Txn) (table : ℕ) → rows_seen node txn.done table ≡ table_rows (seen_tables node txn) table
seen_rows node txn table = ap (λ (t : TableRows). table_rows t table) (tables_are node.schemas 0 txn.done (fold node.schemas node.start node.history))

pub visit_meets : (node : NodeView) (txn : Txn) (walk : Walk) (schema : Schema) (mode : LockMode) → Walking node txn walk schema mode → Meets node schema (seen_tables node txn) walk (plan_of node txn walk)
visit_meets node txn walk schema mode w = at (walk_case mode (reach_of schema walk.statement) walk.cursor (stops node txn.owner.0 (table_of walk.statement)))
  where
    statement : Statement
    statement = walk.statement

    reach : Span
    reach = reach_of schema walk.statement

    cursor : Edge
    cursor = walk.cursor

    over : List (List Value)
    over = stops node txn.owner.0 (table_of walk.statement)

    plan : Plan
    plan = plan_of node txn walk

    rows : List (List Value)
    rows = table_rows (seen_tables node txn) (table_of walk.statement)

    seen : rows_seen node txn.done (table_of walk.statement) ≡ table_rows (seen_tables node txn) (table_of walk.statement)
    seen = seen_rows node txn (table_of walk.statement)

    up_to : Edge → List (List Value)
    up_to edge = rows_in schema (record { lo = (reach_of schema walk.statement).lo; hi = edge }) (table_rows (seen_tables node txn) (table_of walk.statement))

    -- an empty reach
    none_rows : (p : Plan) → p ≡ no_visit (reach_of schema walk.statement) → edge_le (reach_of schema walk.statement).hi (reach_of schema walk.statement).lo ≡ true → (b : Bool) → p.ends ≡ b
        → up_to (cond b (reach_of schema walk.statement).hi p.after) ≡ up_to walk.cursor ++ option_to_list (row_met node (table_of walk.statement) p.on_key)
    none_rows p is le true e =
        none_between schema (reach_of schema walk.statement).lo (reach_of schema walk.statement).hi rows le
        ∙ sym (append-nil (up_to walk.cursor) ∙ before_none schema (reach_of schema walk.statement) walk.cursor rows le w.on_way)
        ∙ ap (λ (o : Option (List Value × LockMode)). up_to walk.cursor ++ option_to_list (row_met node (table_of walk.statement) o)) (sym (ap (λ (q : Plan). q.on_key) is))
    none_rows p is le false e = absurd (let q : true ≡ false = sym (ap (λ (q : Plan). q.ends) is) ∙ e in cc)

    ends_none : (p : Plan) → p ≡ no_visit (reach_of schema walk.statement) → p.ends ≡ false → IsOnWay (reach_of schema walk.statement) p.after
    ends_none p is e = absurd (let q : true ≡ false = sym (ap (λ (q : Plan). q.ends) is) ∙ e in cc)

    -- the last visit
    last_rows : plan_of node txn walk ≡ last_visit (reach_of schema walk.statement) walk.cursor (stops node txn.owner.0 (table_of walk.statement))
        → edge_le (reach_of schema walk.statement).hi (reach_of schema walk.statement).lo ≡ false → (b : Bool) → (plan_of node txn walk).ends ≡ b
        → up_to (cond b (reach_of schema walk.statement).hi (plan_of node txn walk).after) ≡ up_to walk.cursor ++ option_to_list (row_met node (table_of walk.statement) (plan_of node txn walk).on_key)
    last_rows is apart true e =
        let no_key : (plan_of node txn walk).on_key ≡ None = ap (λ (q : Plan). q.on_key) is in
        (λ i. rows_in schema (record { lo = (reach_of schema walk.statement).lo; hi = (reach_of schema walk.statement).hi }) (sym seen i))
        ∙ last_visit_reads node txn walk schema mode w.facts w.are w.is w.fit w.found w.current w.there w.plan (low_of (reach_of schema walk.statement) walk.cursor w.on_way)
        (high_of (reach_of schema walk.statement) walk.cursor apart w.on_way) no_key e
        ∙ (λ i. rows_in schema (record { lo = (reach_of schema walk.statement).lo; hi = walk.cursor }) (seen i))
        ∙ sym (append-nil (up_to walk.cursor))
        ∙ ap (λ (o : Option (List Value × LockMode)). up_to walk.cursor ++ option_to_list (row_met node (table_of walk.statement) o)) (sym no_key)
    last_rows is apart false e = absurd (let q : true ≡ false = sym (ap (λ (q : Plan). q.ends) is) ∙ e in cc)

    ends_last : (p : Plan) → p ≡ last_visit (reach_of schema walk.statement) walk.cursor (stops node txn.owner.0 (table_of walk.statement)) → p.ends ≡ false → IsOnWay (reach_of schema walk.statement) p.after
    ends_last p is e = absurd (let q : true ≡ false = sym (ap (λ (q : Plan). q.ends) is) ∙ e in cc)

    -- a stop
    on_stop : (s : AtStop mode (reach_of schema walk.statement) walk.cursor (stops node txn.owner.0 (table_of walk.statement))) → (plan_of node txn walk).on_key ≡ Some (s.stop, mode)
    on_stop s = ap (λ (q : Plan). q.on_key) (w.plan ∙ s.is)

    after_stop : (s : AtStop mode (reach_of schema walk.statement) walk.cursor (stops node txn.owner.0 (table_of walk.statement))) → (plan_of node txn walk).after ≡ After s.stop
    after_stop s = ap (λ (q : Plan). q.after) (w.plan ∙ s.is)

    stop_more : (s : AtStop mode (reach_of schema walk.statement) walk.cursor (stops node txn.owner.0 (table_of walk.statement)))
        → up_to (After s.stop) ≡ up_to walk.cursor ++ option_to_list (row_met node (table_of walk.statement) (plan_of node txn walk).on_key)
    stop_more s =
        (λ i. rows_in schema (record { lo = (reach_of schema walk.statement).lo; hi = After s.stop }) (sym seen i))
        ∙ visit_read_more node txn walk schema mode s.stop w.facts w.are w.is w.fit w.found w.current w.there w.plan w.none (low_of (reach_of schema walk.statement) walk.cursor w.on_way) (on_stop s) s.within
        ∙ (λ i. rows_in schema (record { lo = (reach_of schema walk.statement).lo; hi = walk.cursor }) (seen i) ++ option_to_list (live_row node (table_of walk.statement) s.stop))
        ∙ ap (λ (o : Option (List Value × LockMode)). up_to walk.cursor ++ option_to_list (row_met node (table_of walk.statement) o)) (sym (on_stop s))

    stop_rows : (s : AtStop mode (reach_of schema walk.statement) walk.cursor (stops node txn.owner.0 (table_of walk.statement))) → (b : Bool) → (plan_of node txn walk).ends ≡ b
        → up_to (cond b (reach_of schema walk.statement).hi (plan_of node txn walk).after) ≡ up_to walk.cursor ++ option_to_list (row_met node (table_of walk.statement) (plan_of node txn walk).on_key)
    stop_rows s true e =
        let at_end : is_eq (edge_cmp (After s.stop) (reach_of schema walk.statement).hi) ≡ true = sym (ap (λ (q : Plan). q.ends) (w.plan ∙ s.is)) ∙ e in
        ap up_to (sym (end_at (After s.stop) (reach_of schema walk.statement).hi (edge_cmp (After s.stop) (reach_of schema walk.statement).hi) refl at_end)) ∙ stop_more s
    stop_rows s false e = ap up_to (after_stop s) ∙ stop_more s

    past_stop : (s : AtStop mode (reach_of schema walk.statement) walk.cursor (stops node txn.owner.0 (table_of walk.statement))) → is_past_edge walk.cursor s.stop ≡ true
    past_stop s =
        (walk_stop mode (reach_of schema walk.statement) walk.cursor (stops node txn.owner.0 (table_of walk.statement)) (s.stop, mode) (ap (λ (q : Plan). q.on_key) s.is)).past

    stop_way : (s : AtStop mode (reach_of schema walk.statement) walk.cursor (stops node txn.owner.0 (table_of walk.statement))) → IsOnWay (reach_of schema walk.statement) (plan_of node txn walk).after
    stop_way s =
        let step : edge_le (Before s.stop) (After s.stop) ≡ true = ap (λ (o : Ordering). is_le (ordering_then o Less)) (key_ties s.stop) in
        let low = edge_le_trans (reach_of schema walk.statement).lo walk.cursor (After s.stop) (low_of (reach_of schema walk.statement) walk.cursor w.on_way)
        (edge_le_trans walk.cursor (Before s.stop) (After s.stop) (past_stop s) step) in
        inr (ap (edge_le (reach_of schema walk.statement).lo) (after_stop s) ∙ low, ap (λ (e : Edge). edge_le e (reach_of schema walk.statement).hi) (after_stop s) ∙ s.within)

    at : WalkCase mode (reach_of schema walk.statement) walk.cursor (stops node txn.owner.0 (table_of walk.statement)) → Meets node schema (seen_tables node txn) walk (plan_of node txn walk)
    at (inl empty) = record { rows = none_rows (plan_of node txn walk) (w.plan ∙ empty.1) empty.0; on_way = ends_none (plan_of node txn walk) (w.plan ∙ empty.1) }
    at (inr (inl s)) = record { rows = stop_rows s; on_way = λ e. stop_way s }
    at (inr (inr last)) = record { rows = last_rows (w.plan ∙ last.1) last.0; on_way = ends_last (plan_of node txn walk) (w.plan ∙ last.1) }
