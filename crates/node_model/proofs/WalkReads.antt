-- What a walk has read is, as a list, the rows of its reach up to its cursor as its transaction sees them.
use Rattle.std.proofs.Common.{◌≡◌, ◌≢◌, ◌⊎◌, inl, inr, ◌∙◌, ℕ, List, [], ◌∷◌, ◌++◌, ◌&&◌, Bool, true, false, not, cond, Option, None, Some, refl, ap, sym, subst, slice_get}
use Rattle.std.specs.Prelude.{option_and_then}
use Rattle.std.specs.List.{AllByRecursion}
use Rattle.std.specs.Option.{option_map_or, option_to_list}
use Rattle.std.specs.Ordering.{is_eq, is_le, ordering_then}
use Rattle.std.specs.declared.cmp.Ordering.{Ordering}
use Rattle.std.specs.declared.cmp.Ordering.TheVariants.{Less}
use Rattle.row_types.specs.declared.values.Value.{Value}
use Rattle.row_types.specs.declared.lock_modes.LockMode.{LockMode}
use Rattle.row_types.specs.declared.edges.Edge.{Edge}
use Rattle.row_types.specs.declared.edges.Edge.TheVariants.{Before, After}
use Rattle.row_types.specs.declared.edges.Span.{Span}
use Rattle.row_types.specs.declared.table_schema.Schema.{Schema}
use Rattle.row_types.specs.Order.{key_cmp, edge_le, has, is_past_edge, is_before_edge}
use Rattle.row_types.specs.Fit.{IsSchema, IsTable, AreTables}
use Rattle.row_types.proofs.OrderLemmas.{key_ties}
use Rattle.row_types.proofs.SpanLemmas.{past_or_before, edge_le_trans}
use Rattle.ptc_statement.specs.declared.statements.Statement.{Statement}
use Rattle.ptc_statement.specs.Reach.{reach_of}
use Rattle.ptc_statement.specs.Effect.{table_of, row_at}
use Rattle.ptc_statement.specs.Fits.{FitsSchemas}
use Rattle.row_digest.specs.Digest.{rows_in}
use Rattle.history.specs.Replay.{Replayed, table_rows, after_statements, fold}
use Rattle.node_model.specs.Kept.{FactsOf, TablesOf}
use Rattle.node_model.specs.declared.txns.Walk.{Walk}
use Rattle.node_model.specs.declared.txns.Txn.{Txn}
use Rattle.node_model.specs.Txns.{txn_of}
use Rattle.txn_walk.specs.declared.plans.Plan.{Plan}
use Rattle.txn_walk.specs.Plans.{walk_visit}
use Rattle.node_model.specs.Node.{NodeView, acts, live_row, committed_row, stops, plan_of, plan_excluder}
use Rattle.node_model.proofs.PlanLemmas.{InGap, Takes, Passes, walk_passes, walk_stop, not_both}
use Rattle.node_model.proofs.CommitLemmas.{table_row, rows_after_all, tables_after_all, table_at}
use Rattle.node_model.proofs.ReadLemmas.{visit_reads, gap_reads}
use Rattle.node_model.proofs.RowsRead.{rows_same_in, rows_read_more, rows_none_more}

-- the rows of a table as a transaction sees them after these statements of its
abbrev pub rows_seen : NodeView → List Statement → ℕ → List (List Value)
rows_seen node done table = table_rows (after_statements node.schemas 0 done (fold node.schemas node.start node.history)).tables table

-- at each key they have what the statements make of the committed row
pub seen_at : (node : NodeView) (done : List Statement) (table : ℕ) (schema : Schema) (key : List Value) → TablesOf node → AllByRecursion (FitsSchemas node.schemas) done → slice_get node.schemas table ≡ Some schema
    → row_at schema key (rows_seen node done table) ≡ acts node.schemas done table key (committed_row node table key)
seen_at node done table schema key are fit found =
    ap (λ (o : Option Schema). option_and_then (λ (s : Schema). row_at s key (rows_seen node done table)) o) (sym found)
    ∙ rows_after_all node.schemas 0 done (fold node.schemas node.start node.history) table key are fit

pub seen_table : (node : NodeView) (done : List Statement) (table : ℕ) (schema : Schema) → TablesOf node → AllByRecursion (FitsSchemas node.schemas) done → slice_get node.schemas table ≡ Some schema
    → IsTable schema (rows_seen node done table)
seen_table node done table schema are fit found =
    (table_at node.schemas (after_statements node.schemas 0 done (fold node.schemas node.start node.history)).tables table schema
    (tables_after_all node.schemas 0 done (fold node.schemas node.start node.history) are fit) found).is_table

-- the rows of a walk's reach up to an edge, as its transaction sees them with its earlier statements
abbrev pub rows_read : NodeView → Txn → Schema → Statement → Edge → List (List Value)
rows_read node txn schema statement edge = rows_in schema (record { lo = (reach_of schema statement).lo; hi = edge }) (rows_seen node txn.done (table_of statement))

-- a visit to a stop reads the live row there: the rows read grow by it, and by nothing else
pub visit_read_more : (node : NodeView) (txn : Txn) (walk : Walk) (schema : Schema) (mode : LockMode) (key : List Value) → FactsOf node → TablesOf node → IsSchema schema
    → AllByRecursion (FitsSchemas node.schemas) txn.done → txn_of txn.owner.0 node.txns ≡ Some txn → txn.current ≡ Some walk → slice_get node.schemas (table_of walk.statement) ≡ Some schema
    → plan_of node txn walk ≡ walk_visit mode (reach_of schema walk.statement) walk.cursor (stops node txn.owner.0 (table_of walk.statement))
    → plan_excluder txn.owner (table_of walk.statement) (plan_of node txn walk) node.held ≡ None → edge_le (reach_of schema walk.statement).lo walk.cursor ≡ true
    → (plan_of node txn walk).on_key ≡ Some (key, mode) → edge_le (After key) (reach_of schema walk.statement).hi ≡ true
    → rows_read node txn schema walk.statement (After key) ≡ rows_read node txn schema walk.statement walk.cursor ++ option_to_list (live_row node (table_of walk.statement) key)
visit_read_more node txn walk schema mode key facts are is fit found current there plan none low on within =
    rows_read_more schema (reach_of schema walk.statement).lo walk.cursor key rows is (seen_table node txn.done (table_of walk.statement) schema are fit there) low past between
    ∙ ap (λ (o : Option (List Value)). rows_read node txn schema walk.statement walk.cursor ++ option_to_list o)
    (seen_at node txn.done (table_of walk.statement) schema key are fit there ∙ sym (visit_reads node txn walk key mode facts found current none on past))
  where
    rows : List (List Value)
    rows = rows_seen node txn.done (table_of walk.statement)

    there_plan : Plan
    there_plan = walk_visit mode (reach_of schema walk.statement) walk.cursor (stops node txn.owner.0 (table_of walk.statement))

    on_plan : (walk_visit mode (reach_of schema walk.statement) walk.cursor (stops node txn.owner.0 (table_of walk.statement))).on_key ≡ Some (key, mode)
    on_plan = ap (λ (p : Plan). p.on_key) (sym plan) ∙ on

    past : is_past_edge walk.cursor key ≡ true
    past = (walk_stop mode (reach_of schema walk.statement) walk.cursor (stops node txn.owner.0 (table_of walk.statement)) (key, mode) on_plan).past

    after : (walk_visit mode (reach_of schema walk.statement) walk.cursor (stops node txn.owner.0 (table_of walk.statement))).after ≡ After key
    after = (walk_stop mode (reach_of schema walk.statement) walk.cursor (stops node txn.owner.0 (table_of walk.statement)) (key, mode) on_plan).after

    key_of_lock : (a b : List Value × LockMode) → Some a ≡ Some b → a.0 ≡ b.0
    key_of_lock a b e = ap (λ (o : Option (List Value × LockMode)). option_map_or (λ (x : List Value × LockMode). x.0) o a.0) e

    between : (other : List Value) → is_past_edge walk.cursor other ≡ true → is_before_edge (Before key) other ≡ true → row_at schema other rows ≡ None
    between other ahead behind = seen_at node txn.done (table_of walk.statement) schema other are fit there ∙ by (walk_passes mode (reach_of schema walk.statement) walk.cursor (stops node txn.owner.0 (table_of walk.statement)) other over ahead (inr passed))
      where
        step : edge_le (Before key) (After key) ≡ true
        step = ap (λ (o : Ordering). is_le (ordering_then o Less)) (key_ties key)

        to_after : edge_le (After other) (After key) ≡ true
        to_after = edge_le_trans (After other) (Before key) (After key) behind step

        over : has (reach_of schema walk.statement) other ≡ true
        over = λ i. edge_le_trans (reach_of schema walk.statement).lo walk.cursor (Before other) low ahead i && edge_le_trans (After other) (After key) (reach_of schema walk.statement).hi to_after within i

        passed : is_before_edge (walk_visit mode (reach_of schema walk.statement) walk.cursor (stops node txn.owner.0 (table_of walk.statement))).after other ≡ true
        passed = ap (λ (e : Edge). is_before_edge e other) after ∙ to_after

        by : Takes mode (walk_visit mode (reach_of schema walk.statement) walk.cursor (stops node txn.owner.0 (table_of walk.statement))) other
            → acts node.schemas txn.done (table_of walk.statement) other (committed_row node (table_of walk.statement) other) ≡ None
        by (inl lock) =
            let same : other ≡ key = key_of_lock (other, mode) (key, mode) (sym lock ∙ on_plan) in
            absurd (not_both (Before key) other behind (ap (λ (k : List Value). edge_le (Before key) (Before k)) same ∙ ap is_le (key_ties key)))
        by (inr in_gap) = gap_reads node txn walk other facts found current (subst (λ (p : Plan). InGap p other) (sym plan) in_gap) ahead

-- the last visit of a walk reads nothing further
pub last_visit_reads : (node : NodeView) (txn : Txn) (walk : Walk) (schema : Schema) (mode : LockMode) → FactsOf node → TablesOf node → IsSchema schema
    → AllByRecursion (FitsSchemas node.schemas) txn.done → txn_of txn.owner.0 node.txns ≡ Some txn → txn.current ≡ Some walk → slice_get node.schemas (table_of walk.statement) ≡ Some schema
    → plan_of node txn walk ≡ walk_visit mode (reach_of schema walk.statement) walk.cursor (stops node txn.owner.0 (table_of walk.statement))
    → edge_le (reach_of schema walk.statement).lo walk.cursor ≡ true → edge_le walk.cursor (reach_of schema walk.statement).hi ≡ true
    → (plan_of node txn walk).on_key ≡ None → (plan_of node txn walk).ends ≡ true
    → rows_read node txn schema walk.statement (reach_of schema walk.statement).hi ≡ rows_read node txn schema walk.statement walk.cursor
last_visit_reads node txn walk schema mode facts are is fit found current there plan low high none ends =
    rows_none_more schema (reach_of schema walk.statement).lo walk.cursor (reach_of schema walk.statement).hi rows is (seen_table node txn.done (table_of walk.statement) schema are fit there) low high further
  where
    rows : List (List Value)
    rows = rows_seen node txn.done (table_of walk.statement)

    ends_plan : (walk_visit mode (reach_of schema walk.statement) walk.cursor (stops node txn.owner.0 (table_of walk.statement))).ends ≡ true
    ends_plan = ap (λ (p : Plan). p.ends) (sym plan) ∙ ends

    none_plan : (walk_visit mode (reach_of schema walk.statement) walk.cursor (stops node txn.owner.0 (table_of walk.statement))).on_key ≡ None
    none_plan = ap (λ (p : Plan). p.on_key) (sym plan) ∙ none

    further : (other : List Value) → is_past_edge walk.cursor other ≡ true → is_before_edge (reach_of schema walk.statement).hi other ≡ true → row_at schema other rows ≡ None
    further other ahead before = seen_at node txn.done (table_of walk.statement) schema other are fit there ∙ by (walk_passes mode (reach_of schema walk.statement) walk.cursor (stops node txn.owner.0 (table_of walk.statement)) other over ahead (inl ends_plan))
      where
        over : has (reach_of schema walk.statement) other ≡ true
        over = λ i. edge_le_trans (reach_of schema walk.statement).lo walk.cursor (Before other) low ahead i && before i

        by : Takes mode (walk_visit mode (reach_of schema walk.statement) walk.cursor (stops node txn.owner.0 (table_of walk.statement))) other
            → acts node.schemas txn.done (table_of walk.statement) other (committed_row node (table_of walk.statement) other) ≡ None
        by (inl lock) = absurd (let q : None ≡ Some (other, mode) = sym none_plan ∙ lock in cc)
        by (inr in_gap) = gap_reads node txn walk other facts found current (subst (λ (p : Plan). InGap p other) (sym plan) in_gap) ahead
