-- The next visit of a statement: what it takes, and how far it comes.
use Rattle.std.specs.Prelude.{Bool, true, false, cond, List, [], ◌∷◌, Option, None, Some}
use Rattle.std.specs.Ordering.{is_eq}
use Rattle.row_types.specs.declared.values.Value.{Value}
use Rattle.row_types.specs.declared.lock_modes.LockMode.{LockMode}
use Rattle.row_types.specs.declared.lock_modes.LockMode.TheVariants.{Shared, Exclusive}
use Rattle.row_types.specs.declared.edges.Edge.{Edge}
use Rattle.row_types.specs.declared.edges.Edge.TheVariants.{Low, Before, After, High}
use Rattle.row_types.specs.declared.edges.Span.{Span}
use Rattle.row_types.specs.declared.table_schema.Schema.{Schema}
use Rattle.row_types.specs.Order.{edge_cmp, edge_le}
use Rattle.row_types.specs.Fit.{key_of}
use Rattle.ptc_statement.specs.declared.statements.Statement.{Statement}
use Rattle.ptc_statement.specs.declared.statements.Statement.TheVariants.{Insert, Replace, Delete, Update, LockRead, Check, SetMaster, ClearChecks}
use Rattle.ptc_statement.specs.Reach.{reach_of}
use Rattle.ptc_statement.specs.Effect.{mode_of}
use Rattle.txn_walk.specs.declared.plans.Plan.{Plan}
use Rattle.lock_table.specs.Stops.{least_key_past, gap_round}

-- INSERT and REPLACE visit their own key: at a live one with this lock, else to put a row in
abbrev pub row_visit : List Value → LockMode → Bool → Plan
row_visit key mode true = record { gap = None; on_key = Some (key, mode); insert = false; after = After key; ends = true }
row_visit key mode false = record { gap = None; on_key = Some (key, Exclusive); insert = true; after = After key; ends = true }

-- a visit that begins exactly at its stop takes no gap before it
abbrev pub gap_before : Edge → List (List Value) → List Value → Option Span
gap_before cursor stops stop = cond (is_eq (edge_cmp cursor (Before stop))) None (Some (gap_round cursor stops))

-- the last visit of a walk takes the gap behind its last stop
abbrev pub last_visit : Span → Edge → List (List Value) → Plan
last_visit reach cursor stops = record { gap = Some (gap_round cursor stops); on_key = None; insert = false; after = reach.hi; ends = true }

abbrev pub stop_visit : LockMode → Span → Edge → List (List Value) → List Value → Plan
stop_visit mode reach cursor stops stop = record {
  gap = gap_before cursor stops stop;
  on_key = Some (stop, mode);
  insert = false;
  after = After stop;
  ends = is_eq (edge_cmp (After stop) reach.hi);
}

-- the next stop, where it lies within the reach
abbrev pub visit_within : LockMode → Span → Edge → List (List Value) → Option (List Value) → Plan
visit_within mode reach cursor stops None = last_visit reach cursor stops
visit_within mode reach cursor stops (Some stop) =
    cond (edge_le (After stop) reach.hi) (stop_visit mode reach cursor stops stop) (last_visit reach cursor stops)

-- a reach without keys is done at once, and nothing is taken
abbrev pub no_visit : Span → Plan
no_visit reach = record { gap = None; on_key = None; insert = false; after = reach.hi; ends = true }

-- a walk visits the stops in its reach one after the other
abbrev pub walk_visit : LockMode → Span → Edge → List (List Value) → Plan
walk_visit mode reach cursor stops =
    cond (edge_le reach.hi reach.lo) (no_visit reach) (visit_within mode reach cursor stops (least_key_past cursor stops))

-- the next visit of a statement whose walk came to the cursor, among these stops and live keys
abbrev pub next_visit : Schema → Statement → Edge → List (List Value) → (List Value → Bool) → Plan
next_visit schema (Insert table row) cursor stops is_live = row_visit (key_of schema row) Shared (is_live (key_of schema row))
next_visit schema (Replace table row) cursor stops is_live = row_visit (key_of schema row) Exclusive (is_live (key_of schema row))
next_visit schema (Delete table where_true) cursor stops is_live = walk_visit Exclusive (reach_of schema (Delete table where_true)) cursor stops
next_visit schema (Update table sets where_true) cursor stops is_live = walk_visit Exclusive (reach_of schema (Update table sets where_true)) cursor stops
next_visit schema (LockRead table mode span where_true) cursor stops is_live = walk_visit mode (reach_of schema (LockRead table mode span where_true)) cursor stops
next_visit schema (Check table chunk span kind) cursor stops is_live = walk_visit Shared span cursor stops
next_visit schema (SetMaster table chunk kind master) cursor stops is_live = no_visit (reach_of schema (SetMaster table chunk kind master))
next_visit schema (ClearChecks table) cursor stops is_live = no_visit (reach_of schema (ClearChecks table))
