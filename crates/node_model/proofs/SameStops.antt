-- The next visit depends on which stops there are, and not on their order: so the code may take them from its
-- live table and its lock table.
use Rattle.std.proofs.Common.{◌≡◌, ◌∙◌, List, Bool, true, false, cond, Option, None, Some, refl, ap, sym}
use Rattle.row_types.specs.declared.values.Value.{Value}
use Rattle.row_types.specs.declared.lock_modes.LockMode.{LockMode}
use Rattle.row_types.specs.declared.lock_modes.LockMode.TheVariants.{Shared, Exclusive}
use Rattle.row_types.specs.declared.edges.Edge.{Edge}
use Rattle.row_types.specs.declared.edges.Span.{Span}
use Rattle.row_types.specs.declared.table_schema.Schema.{Schema}
use Rattle.row_types.specs.Order.{edge_cmp, edge_le}
use Rattle.row_types.specs.declared.edges.Edge.TheVariants.{Before, After}
use Rattle.std.specs.Ordering.{is_eq}
use Rattle.row_types.specs.Fit.{key_of}
use Rattle.ptc_statement.specs.declared.statements.Statement.{Statement}
use Rattle.ptc_statement.specs.declared.statements.Statement.TheVariants.{Insert, Replace, Delete, Update, LockRead, Check, SetMaster, ClearChecks}
use Rattle.ptc_statement.specs.Reach.{reach_of}
use Rattle.lock_table.specs.Stops.{least_key_past, greatest_key_before, after_key, before_key, gap_round, IsAmong}
use Rattle.lock_table.proofs.LeastLemmas.{least_of_same, greatest_of_same}
use Rattle.txn_walk.specs.declared.plans.Plan.{Plan}
use Rattle.txn_walk.specs.Plans.{row_visit, gap_before, last_visit, stop_visit, visit_within, no_visit, walk_visit, next_visit}

abbrev pub SameKeys : List (List Value) → List (List Value) → Type 0
SameKeys keys others = ((key : List Value) → IsAmong key keys → IsAmong key others) × ((key : List Value) → IsAmong key others → IsAmong key keys)

same_gap : (cursor : Edge) (stops others : List (List Value)) → SameKeys stops others → gap_round cursor stops ≡ gap_round cursor others
same_gap cursor stops others same = λ i. record {
  lo = after_key (greatest_of_same cursor stops others same.0 same.1 i);
  hi = before_key (least_of_same cursor stops others same.0 same.1 i);
}

same_within : (mode : LockMode) (reach : Span) (cursor : Edge) (stops others : List (List Value)) (stop : Option (List Value)) → gap_round cursor stops ≡ gap_round cursor others
    → visit_within mode reach cursor stops stop ≡ visit_within mode reach cursor others stop
same_within mode reach cursor stops others None gap = λ i. record { gap = Some (gap i); on_key = None; insert = false; after = reach.hi; ends = true }
same_within mode reach cursor stops others (Some stop) gap = λ i. cond (edge_le (After stop) reach.hi)
    (record { gap = cond (is_eq (edge_cmp cursor (Before stop))) None (Some (gap i)); on_key = Some (stop, mode); insert = false; after = After stop; ends = is_eq (edge_cmp (After stop) reach.hi) })
    (record { gap = Some (gap i); on_key = None; insert = false; after = reach.hi; ends = true })

same_walk : (mode : LockMode) (reach : Span) (cursor : Edge) (stops others : List (List Value)) → SameKeys stops others → walk_visit mode reach cursor stops ≡ walk_visit mode reach cursor others
same_walk mode reach cursor stops others same =
    ap (cond (edge_le reach.hi reach.lo) (no_visit reach))
    (same_within mode reach cursor stops others (least_key_past cursor stops) (same_gap cursor stops others same)
    ∙ ap (visit_within mode reach cursor others) (least_of_same cursor stops others same.0 same.1))

pub same_visit : (schema : Schema) (statement : Statement) (cursor : Edge) (stops others : List (List Value)) (live alive : List Value → Bool) → SameKeys stops others → ((key : List Value) → live key ≡ alive key)
    → next_visit schema statement cursor stops live ≡ next_visit schema statement cursor others alive
same_visit schema (Insert of row) cursor stops others live alive same lives = ap (row_visit (key_of schema row) Shared) (lives (key_of schema row))
same_visit schema (Replace of row) cursor stops others live alive same lives = ap (row_visit (key_of schema row) Exclusive) (lives (key_of schema row))
same_visit schema (Delete of where_true) cursor stops others live alive same lives = same_walk Exclusive (reach_of schema (Delete of where_true)) cursor stops others same
same_visit schema (Update of sets where_true) cursor stops others live alive same lives = same_walk Exclusive (reach_of schema (Update of sets where_true)) cursor stops others same
same_visit schema (LockRead of mode span where_true) cursor stops others live alive same lives = same_walk mode (reach_of schema (LockRead of mode span where_true)) cursor stops others same
same_visit schema (Check of chunk span kind) cursor stops others live alive same lives = same_walk Shared span cursor stops others same
same_visit schema (SetMaster of chunk kind master) cursor stops others live alive same lives = refl
same_visit schema (ClearChecks of) cursor stops others live alive same lives = refl
