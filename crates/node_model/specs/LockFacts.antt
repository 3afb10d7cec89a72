-- The four facts of the locks, over what is committed at each key.
use Rattle.std.specs.Prelude.{ℕ, ◌≡◌, ◌≢◌, ◌⊎◌, Bool, true, false, List, [], ◌∷◌, Option, None, Some, IsSome}
use Rattle.row_types.specs.declared.values.Value.{Value}
use Rattle.row_types.specs.declared.lock_modes.LockMode.{LockMode}
use Rattle.row_types.specs.declared.lock_modes.LockMode.TheVariants.{Shared, Exclusive}
use Rattle.row_types.specs.declared.edges.Span.{Span}
use Rattle.row_types.specs.declared.table_schema.Schema.{Schema}
use Rattle.row_types.specs.Order.{has, is_before_edge}
use Rattle.ptc_statement.specs.declared.statements.Statement.{Statement}
use Rattle.ptc_statement.specs.declared.statements.Statement.TheVariants.{Insert, Replace, Delete, Update, LockRead, Check, SetMaster, ClearChecks}
use Rattle.lock_table.specs.declared.wants.Want.{Want}
use Rattle.lock_table.specs.declared.wants.Want.TheVariants.{OnKey, OnGap, InsertAt}
use Rattle.lock_table.specs.declared.wants.Holding.{Holding}
use Rattle.lock_table.specs.Locks.{Holds}
use Rattle.node_model.specs.declared.txns.Walk.{Walk}
use Rattle.node_model.specs.declared.txns.Txn.{Txn}
use Rattle.node_model.specs.Txns.{txn_of}
use Rattle.node_model.specs.Node.{NodeView, reaches, committed_row}

-- what is committed at each key of each table
abbrev pub CommittedRows : Type 0
CommittedRows = ℕ → List Value → Option (List Value)

-- an owner holds a gap over the key
pub record HoldsGapOver (owner table : ℕ) (key : List Value) (held : List Holding) : Type 0 where
  pub span : Span
  pub holds : Holds owner table (OnGap span) held
  pub over : has span key ≡ true

-- an owner holds a lock on a key, or a gap over it
abbrev pub IsGuarded : ℕ → ℕ → List Value → LockMode → List Holding → Type 0
IsGuarded owner table key mode held = Holds owner table (OnKey key mode) held ⊎ HoldsGapOver owner table key held

-- an owner holds a lock of any mode on a key, or a gap over it
abbrev pub Guards : ℕ → ℕ → List Value → List Holding → Type 0
Guards owner table key held = ((mode : LockMode) × Holds owner table (OnKey key mode) held) ⊎ HoldsGapOver owner table key held

-- what the owner of a statement holds at a key that the statement has passed
abbrev pub IsCovered : CommittedRows → List Holding → ℕ → Statement → ℕ → List Value → Type 0
IsCovered rows held owner (Insert of row) table key =
    Holds owner table (OnKey key Exclusive) held ⊎ (Holds owner table (OnKey key Shared) held × IsSome (rows table key))
IsCovered rows held owner (Replace of row) table key = Holds owner table (OnKey key Exclusive) held
IsCovered rows held owner (Delete of where_true) table key = IsGuarded owner table key Exclusive held
IsCovered rows held owner (Update of sets where_true) table key = IsGuarded owner table key Exclusive held
IsCovered rows held owner (LockRead of mode span where_true) table key = IsGuarded owner table key mode held
IsCovered rows held owner (Check of chunk span kind) table key = IsGuarded owner table key Shared held
IsCovered rows held owner (SetMaster of chunk kind master) table key = Unit {0}
IsCovered rows held owner (ClearChecks of) table key = Unit {0}

-- a statement that is done has passed each key of its reach
abbrev pub IsCoveredWhole : List Schema → CommittedRows → List Holding → ℕ → Statement → Type 0
IsCoveredWhole schemas rows held owner statement =
    (table : ℕ) (key : List Value) → reaches schemas statement table key ≡ true → IsCovered rows held owner statement table key

abbrev pub AreCovered : List Schema → CommittedRows → List Holding → ℕ → List Statement → Type 0
AreCovered schemas rows held owner [] = Unit {0}
AreCovered schemas rows held owner (statement ∷ statements) =
    IsCoveredWhole schemas rows held owner statement × AreCovered schemas rows held owner statements

-- a statement that walks; INSERT and REPLACE visit one key, and are done with it
abbrev pub Walks : Statement → Type 0
Walks (Insert table row) = ⊥
Walks (Replace table row) = ⊥
Walks (Delete table where_true) = Unit {0}
Walks (Update table sets where_true) = Unit {0}
Walks (LockRead table mode span where_true) = Unit {0}
Walks (Check table chunk span kind) = Unit {0}
Walks (SetMaster table chunk kind master) = Unit {0}
Walks (ClearChecks table) = Unit {0}

-- a statement in progress that walks has passed the keys of its reach before its cursor, any other none
abbrev pub IsCoveredSoFar : List Schema → CommittedRows → List Holding → ℕ → Option Walk → Type 0
IsCoveredSoFar schemas rows held owner None = Unit {0}
IsCoveredSoFar schemas rows held owner (Some walk) =
    (table : ℕ) (key : List Value) → reaches schemas walk.statement table key ≡ true → is_before_edge walk.cursor key ≡ true
    → Walks walk.statement × IsCovered rows held owner walk.statement table key

pub record TxnCovered (schemas : List Schema) (rows : CommittedRows) (held : List Holding) (owner : ℕ) (txn : Txn) : Type 0 where
  pub done : AreCovered schemas rows held owner txn.done
  pub so_far : IsCoveredSoFar schemas rows held owner txn.current

pub record LockFacts (schemas : List Schema) (rows : CommittedRows) (txns : List Txn) (held : List Holding) : Type 0 where
  -- who has a key exclusively is alone on it, and no other holds a gap over it
  pub alone_on_key : (a b table : ℕ) (key : List Value) (mode : LockMode) → a ≢ b
      → Holds a table (OnKey key Exclusive) held → Holds b table (OnKey key mode) held → ⊥
  pub alone_in_gap : (a b table : ℕ) (key : List Value) (span : Span) → a ≢ b → has span key ≡ true
      → Holds a table (OnKey key Exclusive) held → Holds b table (OnGap span) held → ⊥
  -- no row is committed in a gap that is held, but for one that the same owner has exclusively
  pub gap_is_free : (a table : ℕ) (key : List Value) (span : Span) → has span key ≡ true → Holds a table (OnGap span) held
      → (rows table key ≡ None) ⊎ Holds a table (OnKey key Exclusive) held
  -- each key that a statement of an open transaction has passed is covered
  pub covered : (a : ℕ) (txn : Txn) → txn_of a txns ≡ Some txn → TxnCovered schemas rows held a txn
  -- who holds something has an open transaction
  pub owned : (a table : ℕ) (want : Want) → Holds a table want held → IsSome (txn_of a txns)
