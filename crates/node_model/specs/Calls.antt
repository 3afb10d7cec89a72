-- Lists of calls on a node, and what holds after each of them.
use Rattle.std.specs.Prelude.{ℕ, ◌≡◌, ◌≢◌, ◌⊎◌, Bool, true, false, List, [], ◌∷◌, Option, None, Some}
use Rattle.std.specs.List.{AllByRecursion}
use Rattle.row_types.specs.declared.values.Value.{Value}
use Rattle.row_types.specs.declared.lock_modes.LockMode.{LockMode}
use Rattle.row_types.specs.declared.lock_modes.LockMode.TheVariants.{Shared, Exclusive}
use Rattle.row_types.specs.declared.edges.Span.{Span}
use Rattle.row_types.specs.declared.digests.Digest.{Digest}
use Rattle.row_types.specs.declared.digests.DigestKind.{DigestKind}
use Rattle.row_types.specs.declared.table_schema.Schema.{Schema}
use Rattle.row_types.specs.Order.{has}
use Rattle.row_types.specs.Fit.{AreTables}
use Rattle.ptc_statement.specs.declared.statements.Statement.{Statement}
use Rattle.ptc_statement.specs.declared.statements.Statement.TheVariants.{SetMaster}
use Rattle.ptc_statement.specs.Effect.{table_of}
use Rattle.ptc_statement.specs.Fits.{FitsSchemas}
use Rattle.statement_log.specs.declared.origins.Origin.{Origin}
use Rattle.statement_log.specs.declared.origins.Origin.TheVariants.{Checksum}
use Rattle.checksum_table.specs.declared.check_rows.CheckRow.{CheckRow}
use Rattle.checksum_table.specs.Checks.{check_at}
use Rattle.history.specs.Replay.{fold}
use Rattle.lock_table.specs.declared.wants.Owner.{Owner}
use Rattle.lock_table.specs.declared.wants.Want.{Want}
use Rattle.lock_table.specs.declared.wants.Want.TheVariants.{OnKey, OnGap, InsertAt}
use Rattle.lock_table.specs.Locks.{Holds}
use Rattle.node_model.specs.declared.parts.Part.{Part}
use Rattle.node_model.specs.declared.txns.Walk.{Walk}
use Rattle.node_model.specs.declared.txns.Txn.{Txn}
use Rattle.node_model.specs.Txns.{txn_of}
use Rattle.node_model.specs.Node.{NodeView, committed_row, live_row, begun, started, ended, committed, with_entries}
use Rattle.node_model.specs.Waits.{after_visit}
use Rattle.node_model.specs.LockFacts.{Guards, TxnCovered}

pub data Call : Type 0 where
  Begin : (owner : Owner) → (part : Part) → Call
  Start : (owner : Owner) → (statement : Statement) → Call
  Visit : (owner : Owner) → Call
  Commit : (owner : Owner) → (origin : Origin) → Call
  Rollback : (owner : Owner) → Call
  Publish : (table chunk : ℕ) → Call

abbrev pub begun_if : Option Txn → Owner → Part → NodeView → NodeView
begun_if None owner part node = begun owner part node
begun_if (Some txn) owner part node = node

abbrev pub started_idle : Option Walk → Txn → Statement → NodeView → NodeView
started_idle None txn statement node = started txn statement node
started_idle (Some walk) txn statement node = node

abbrev pub started_if : Option Txn → Statement → NodeView → NodeView
started_if None statement node = node
started_if (Some txn) statement node = started_idle txn.current txn statement node

abbrev pub visited_if : Option Walk → Txn → NodeView → NodeView
visited_if None txn node = node
visited_if (Some walk) txn node = after_visit txn walk node

abbrev pub visit_if : Option Txn → NodeView → NodeView
visit_if None node = node
visit_if (Some txn) node = visited_if txn.current txn node

abbrev pub committed_idle : Option Walk → Txn → Origin → NodeView → NodeView
committed_idle None txn origin node = committed txn origin node
committed_idle (Some walk) txn origin node = node

abbrev pub committed_if : Option Txn → Origin → NodeView → NodeView
committed_if None origin node = node
committed_if (Some txn) origin node = committed_idle txn.current txn origin node

-- the source's own checksum is published as an entry of its own
abbrev pub published : ℕ → ℕ → Option CheckRow → NodeView → NodeView
published table chunk None node = node
published table chunk (Some row) node = with_entries (record { origin = Checksum; statements = SetMaster table chunk row.kind row.this ∷ [] } ∷ []) node

-- a call whose condition does not hold changes nothing
abbrev pub after_call : Call → NodeView → NodeView
after_call (Begin owner part) node = begun_if (txn_of owner.0 node.txns) owner part node
after_call (Start owner statement) node = started_if (txn_of owner.0 node.txns) statement node
after_call (Visit owner) node = visit_if (txn_of owner.0 node.txns) node
after_call (Commit owner origin) node = committed_if (txn_of owner.0 node.txns) origin node
after_call (Rollback owner) node = ended owner.0 node
after_call (Publish table chunk) node = published table chunk (check_at table chunk (fold node.schemas node.start node.history).checks) node

abbrev pub after_calls : List Call → NodeView → NodeView
after_calls [] node = node
after_calls (call ∷ calls) node = after_calls calls (after_call call node)

-- a statement that is started fits
abbrev pub CallFits : List Schema → Call → Type 0
CallFits schemas (Begin owner part) = Unit {0}
CallFits schemas (Start owner statement) = FitsSchemas schemas statement
CallFits schemas (Visit owner) = Unit {0}
CallFits schemas (Commit owner origin) = Unit {0}
CallFits schemas (Rollback owner) = Unit {0}
CallFits schemas (Publish table chunk) = Unit {0}

abbrev pub fresh_node : List Schema → List (List (List Value)) → NodeView
fresh_node schemas start = record { schemas = schemas; start = start; history = []; txns = []; held = [] }

-- what the locks keep
pub record LocksKeep (node : NodeView) : Type 0 where
  -- who has a key exclusively is alone on it, and no other holds a gap over it
  pub alone_on_key : (a b table : ℕ) (key : List Value) (mode : LockMode) → a ≢ b
      → Holds a table (OnKey key Exclusive) node.held → Holds b table (OnKey key mode) node.held → ⊥
  pub alone_in_gap : (a b table : ℕ) (key : List Value) (span : Span) → a ≢ b → has span key ≡ true
      → Holds a table (OnKey key Exclusive) node.held → Holds b table (OnGap span) node.held → ⊥
  -- where nobody has a key exclusively the live row is the committed one
  pub live : (table : ℕ) (key : List Value) → ((a : ℕ) → Holds a table (OnKey key Exclusive) node.held → ⊥) → live_row node table key ≡ committed_row node table key
  -- in a gap that is held no row is live or committed, but for one that the same owner has exclusively
  pub gap : (a table : ℕ) (key : List Value) (span : Span) → has span key ≡ true → Holds a table (OnGap span) node.held
      → ((live_row node table key ≡ None) × (committed_row node table key ≡ None)) ⊎ Holds a table (OnKey key Exclusive) node.held
  -- each key that a statement of an open transaction has passed is covered
  pub covered : (a : ℕ) (txn : Txn) → txn_of a node.txns ≡ Some txn → TxnCovered node.schemas (committed_row node) node.held a txn

abbrev pub LocksKeepAlways : Type 0
LocksKeepAlways =
    (schemas : List Schema) (start : List (List (List Value))) (calls : List Call) → AreTables schemas start → AllByRecursion (CallFits schemas) calls
    → LocksKeep (after_calls calls (fresh_node schemas start))

-- a commit leaves each live row: what is committed then is what the owner made of it
abbrev pub CommitsLeaveLiveRows : Type 0
CommitsLeaveLiveRows =
    (schemas : List Schema) (start : List (List (List Value))) (calls : List Call) (owner : Owner) (origin : Origin) (table : ℕ) (key : List Value)
    → AreTables schemas start → AllByRecursion (CallFits schemas) calls
    → live_row (after_call (Commit owner origin) (after_calls calls (fresh_node schemas start))) table key ≡ live_row (after_calls calls (fresh_node schemas start)) table key

-- a call that is no commit of this owner
abbrev pub IsNoCommitOf : ℕ → Call → Type 0
IsNoCommitOf a (Begin owner part) = Unit {0}
IsNoCommitOf a (Start owner statement) = Unit {0}
IsNoCommitOf a (Visit owner) = Unit {0}
IsNoCommitOf a (Commit owner origin) = owner.0 ≢ a
IsNoCommitOf a (Rollback owner) = Unit {0}
IsNoCommitOf a (Publish table chunk) = Unit {0}

-- what is committed at a key that an owner has locked, or holds a gap over, is changed by no call but that
-- owner's commit
abbrev pub GuardedRowsStay : Type 0
GuardedRowsStay =
    (schemas : List Schema) (start : List (List (List Value))) (calls : List Call) (call : Call) (owner table : ℕ) (key : List Value)
    → AreTables schemas start → AllByRecursion (CallFits schemas) calls → IsNoCommitOf owner call → Guards owner table key (after_calls calls (fresh_node schemas start)).held
    → committed_row (after_call call (after_calls calls (fresh_node schemas start))) table key ≡ committed_row (after_calls calls (fresh_node schemas start)) table key
