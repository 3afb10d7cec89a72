-- The definitions on small runs: they compute.
use Rattle.std.proofs.Common.{◌≡◌, ℕ, ℤ, pos, List, [], ◌∷◌, Bool, true, false, Option, None, Some, refl}
use Rattle.row_types.specs.declared.values.Value.{Value}
use Rattle.row_types.specs.declared.values.Value.TheVariants.{Null, Int, Text}
use Rattle.row_types.specs.declared.lock_modes.LockMode.TheVariants.{Shared, Exclusive}
use Rattle.row_types.specs.declared.edges.Edge.TheVariants.{Low, Before, After, High}
use Rattle.row_types.specs.declared.edges.Span.{Span}
use Rattle.row_types.specs.declared.table_schema.ColumnKind.TheVariants.{BigInt}
use Rattle.row_types.specs.declared.table_schema.Schema.{Schema}
use Rattle.row_types.specs.declared.digests.DigestKind.TheVariants.{Md5}
use Rattle.row_types.specs.Order.{all_keys}
use Rattle.ptc_statement.specs.declared.statements.Statement.{Statement}
use Rattle.ptc_statement.specs.declared.statements.Statement.TheVariants.{Insert, Replace, Delete, Update, LockRead, Check, SetMaster, ClearChecks}
use Rattle.statement_log.specs.declared.origins.Origin.TheVariants.{Session, Checksum}
use Rattle.lock_table.specs.declared.wants.Owner.{Owner}
use Rattle.node_model.specs.declared.parts.Part.TheVariants.{Client, Apply}
use Rattle.node_model.specs.Node.{NodeView, live_row, committed_rows}
use Rattle.node_model.specs.Calls.{Call, Begin, Start, Visit, Commit, Rollback, after_calls, fresh_node}
use Rattle.node_model.specs.Waits.{next_wait, cycle_of}

pair : Schema
pair = record {
  name = [];
  columns = (record { name = []; kind = BigInt; nullable = false }) ∷ (record { name = []; kind = BigInt; nullable = true }) ∷ [];
  key_len = 1;
}

row : ℕ → ℕ → List Value
row k v = Int (pos k) ∷ Int (pos v) ∷ []

owner : ℕ → Owner
owner n = record { 0 = n }

key : ℕ → List Value
key k = Int (pos k) ∷ []

begun_with : List (List Value) → List Call → NodeView
begun_with rows calls = after_calls calls (fresh_node (pair ∷ []) (rows ∷ []))

reading : ℕ → Span → List Call
reading n span = Begin (owner n) Client ∷ Start (owner n) (LockRead 0 Exclusive span None) ∷ Visit (owner n) ∷ []

-- coexisting gaps, then a deadlock: both hold the gap from 10 to 20, each wants to put a row into it
gap_calls : List Call
gap_calls =
    Begin (owner 1) Client ∷ Start (owner 1) (LockRead 0 Exclusive (record { lo = After (key 12); hi = Before (key 18) }) None) ∷ Visit (owner 1)
    ∷ Begin (owner 2) Client ∷ Start (owner 2) (LockRead 0 Exclusive (record { lo = After (key 12); hi = Before (key 18) }) None) ∷ Visit (owner 2)
    ∷ Start (owner 1) (Insert 0 (row 15 1)) ∷ Visit (owner 1) ∷ Start (owner 2) (Insert 0 (row 16 2)) ∷ []

gap_rows : List (List Value)
gap_rows = row 10 0 ∷ row 20 0 ∷ []

one_waits : next_wait (begun_with gap_rows gap_calls) 1 ≡ Some 2
unfolding begun_with gap_calls gap_rows row key owner pair
one_waits = refl

two_deadlocks : cycle_of (begun_with gap_rows gap_calls) 2 ≡ Some (2 ∷ 1 ∷ [])
unfolding begun_with gap_calls gap_rows row key owner pair
two_deadlocks = refl

after_it : committed_rows (after_calls (Rollback (owner 2) ∷ Visit (owner 1) ∷ Commit (owner 1) (Session 1) ∷ []) (begun_with gap_rows gap_calls)) 0 ≡ row 10 0 ∷ row 15 1 ∷ row 20 0 ∷ []
unfolding begun_with gap_calls gap_rows row key owner pair
after_it = refl

-- the manual's example: a read of what is above 100 locks 102 and the gap from 90 on, and behind it
above_calls : List Call
above_calls =
    Begin (owner 1) Client ∷ Start (owner 1) (LockRead 0 Exclusive (record { lo = After (key 100); hi = High }) None) ∷ Visit (owner 1) ∷ Visit (owner 1)
    ∷ Begin (owner 2) Client ∷ Start (owner 2) (Insert 0 (row 101 1)) ∷ Visit (owner 2) ∷ []

above_waits : next_wait (begun_with (row 90 0 ∷ row 102 0 ∷ []) above_calls) 2 ≡ Some 1
unfolding begun_with above_calls row key owner pair
above_waits = refl

above_goes_on : committed_rows (after_calls (Commit (owner 1) (Session 1) ∷ Visit (owner 2) ∷ Commit (owner 2) (Session 2) ∷ []) (begun_with (row 90 0 ∷ row 102 0 ∷ []) above_calls)) 0
    ≡ row 90 0 ∷ row 101 1 ∷ row 102 0 ∷ []
unfolding begun_with above_calls row key owner pair
above_goes_on = refl

-- a row deleted and not committed: it is not live, but a stop; a checksum waits there, and after a rollback reads it
delete_calls : List Call
delete_calls =
    Begin (owner 1) Client ∷ Start (owner 1) (Delete 0 None) ∷ Visit (owner 1) ∷ Visit (owner 1) ∷ Visit (owner 1)
    ∷ Begin (owner 100) Client ∷ Start (owner 100) (Check 0 1 all_keys Md5) ∷ Visit (owner 100) ∷ []

deleted : live_row (begun_with (row 1 10 ∷ row 2 20 ∷ []) delete_calls) 0 (key 1) ≡ None
unfolding begun_with delete_calls row key owner pair
deleted = refl

check_waits : next_wait (begun_with (row 1 10 ∷ row 2 20 ∷ []) delete_calls) 100 ≡ Some 1
unfolding begun_with delete_calls row key owner pair
check_waits = refl

rolled_back : live_row (after_calls (Rollback (owner 1) ∷ Visit (owner 100) ∷ []) (begun_with (row 1 10 ∷ row 2 20 ∷ []) delete_calls)) 0 (key 1) ≡ Some (row 1 10)
unfolding begun_with delete_calls row key owner pair
rolled_back = refl
