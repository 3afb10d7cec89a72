-- A node: its history, its open transactions and what they hold; what each owner sees and which rows are
-- live; and what each call does.
use Rattle.std.specs.Prelude.{ℕ, ◌≡◌, ◌+◌, ◌&&◌, ◌||◌, ◌==◌, not, is_some, map, filter, Bool, true, false, cond, List, [], ◌∷◌, ◌++◌, Option, None, Some, option_and_then}
use Rattle.std.specs.List.{slice_get}
use Rattle.std.specs.Option.{option_map_or}
use Rattle.row_types.specs.declared.values.Value.{Value}
use Rattle.row_types.specs.declared.lock_modes.LockMode.{LockMode}
use Rattle.row_types.specs.declared.edges.Edge.{Edge}
use Rattle.row_types.specs.declared.edges.Edge.TheVariants.{Low}
use Rattle.row_types.specs.declared.edges.Span.{Span}
use Rattle.row_types.specs.declared.table_schema.Schema.{Schema}
use Rattle.row_types.specs.Order.{is_before_edge, has}
use Rattle.row_types.specs.Fit.{key_of}
use Rattle.ptc_statement.specs.declared.statements.Statement.{Statement}
use Rattle.ptc_statement.specs.declared.statements.Statement.TheVariants.{Insert, Replace, Delete, Update, LockRead, Check, SetMaster, ClearChecks}
use Rattle.ptc_statement.specs.Reach.{reach_of}
use Rattle.ptc_statement.specs.Effect.{table_of, effect, row_at, is_logged}
use Rattle.statement_log.specs.declared.entries.Entry.{Entry}
use Rattle.statement_log.specs.declared.origins.Origin.{Origin}
use Rattle.statement_log.specs.declared.origins.Origin.TheVariants.{Session, Checksum, Sync, Local, Applied}
use Rattle.history.specs.Replay.{Replayed, table_rows, fold}
use Rattle.lock_table.specs.declared.wants.Owner.{Owner}
use Rattle.lock_table.specs.declared.wants.Want.{Want}
use Rattle.lock_table.specs.declared.wants.Want.TheVariants.{OnKey, OnGap, InsertAt}
use Rattle.lock_table.specs.declared.wants.Holding.{Holding}
use Rattle.lock_table.specs.Locks.{excluder, foreign_keys, locked_keys, with_want, released, exclusive_owner}
use Rattle.node_model.specs.declared.parts.Part.{Part}
use Rattle.node_model.specs.declared.parts.Part.TheVariants.{Client, Apply}
use Rattle.node_model.specs.declared.txns.Walk.{Walk}
use Rattle.node_model.specs.declared.txns.Txn.{Txn}
use Rattle.node_model.specs.Txns.{txn_of, with_txn, without_txn}
use Rattle.txn_walk.specs.declared.plans.Plan.{Plan}
use Rattle.txn_walk.specs.Plans.{next_visit}

pub record NodeView : Type 0 where
  pub schemas : List Schema
  pub start : List (List (List Value))
  pub history : List Entry
  pub txns : List Txn
  pub held : List Holding

-- What is committed, seen and live.

-- the row at a key of a table after a statement, from the row there alone
abbrev pub act : List Schema → Statement → ℕ → List Value → Option (List Value) → Option (List Value)
act schemas statement table key old =
    cond (table_of statement == table) (option_map_or (λ (schema : Schema). effect schema statement key old) (slice_get schemas table) old) old

-- whether a statement reaches a key of a table
abbrev pub reaches : List Schema → Statement → ℕ → List Value → Bool
reaches schemas statement table key =
    (table_of statement == table) && option_map_or (λ (schema : Schema). has (reach_of schema statement) key) (slice_get schemas table) false

abbrev pub acts : List Schema → List Statement → ℕ → List Value → Option (List Value) → Option (List Value)
acts schemas [] table key old = old
acts schemas (statement ∷ statements) table key old = acts schemas statements table key (act schemas statement table key old)

-- the statement in progress has changed the keys that it has passed
abbrev pub act_so_far : List Schema → Option Walk → ℕ → List Value → Option (List Value) → Option (List Value)
act_so_far schemas None table key old = old
act_so_far schemas (Some walk) table key old = cond (is_before_edge walk.cursor key) (act schemas walk.statement table key old) old

-- what a transaction has made of a committed row
abbrev pub seen : List Schema → Txn → ℕ → List Value → Option (List Value) → Option (List Value)
seen schemas txn table key old = act_so_far schemas txn.current table key (acts schemas txn.done table key old)

abbrev pub seen_by : List Schema → Option Txn → ℕ → List Value → Option (List Value) → Option (List Value)
seen_by schemas None table key old = old
seen_by schemas (Some txn) table key old = seen schemas txn table key old

-- the rows that the history's replay leaves
abbrev pub committed_rows : NodeView → ℕ → List (List Value)
committed_rows node table = table_rows (fold node.schemas node.start node.history).tables table

abbrev pub committed_row : NodeView → ℕ → List Value → Option (List Value)
committed_row node table key = option_and_then (λ (schema : Schema). row_at schema key (committed_rows node table)) (slice_get node.schemas table)

abbrev pub live_from : List Schema → List Txn → Option ℕ → ℕ → List Value → Option (List Value) → Option (List Value)
live_from schemas txns None table key old = old
live_from schemas txns (Some owner) table key old = seen_by schemas (txn_of owner txns) table key old

-- the live row at a key: the committed one, changed by the statements of the owner that has the key
-- exclusively, if one has
abbrev pub live_row : NodeView → ℕ → List Value → Option (List Value)
live_row node table key = live_from node.schemas node.txns (exclusive_owner table key node.held) table key (committed_row node table key)

-- Stops and the next visit.

abbrev pub keys_of_rows : List Schema → ℕ → List (List Value) → List (List Value)
keys_of_rows schemas table rows = option_map_or (λ (schema : Schema). map (key_of schema) rows) (slice_get schemas table) []

abbrev pub is_live : NodeView → ℕ → List Value → Bool
is_live node table key = is_some (live_row node table key)

-- the live keys of a table: a live key is committed, or somebody has a lock on it
abbrev pub live_keys : NodeView → ℕ → List (List Value)
live_keys node table = filter (is_live node table) (keys_of_rows node.schemas table (committed_rows node table) ++ locked_keys table node.held)

-- the stops of an owner: the live keys, and those on which another owner has a lock
abbrev pub stops : NodeView → ℕ → ℕ → List (List Value)
stops node owner table = foreign_keys owner table node.held ++ live_keys node table

abbrev pub empty_plan : Edge → Plan
empty_plan cursor = record { gap = None; on_key = None; insert = false; after = cursor; ends = true }

abbrev pub plan_of : NodeView → Txn → Walk → Plan
plan_of node txn walk =
    option_map_or (λ (schema : Schema). next_visit schema walk.statement walk.cursor (stops node txn.owner.0 (table_of walk.statement)) (is_live node (table_of walk.statement)))
    (slice_get node.schemas (table_of walk.statement)) (empty_plan walk.cursor)

-- what a plan asks for: to put a row in, or the lock itself; a gap need not be asked for
abbrev pub asked : Bool → Option (List Value × LockMode) → Option Want
asked insert None = None
asked insert (Some lock) = Some (cond insert (InsertAt lock.0) (OnKey lock.0 lock.1))

abbrev pub plan_excluder : Owner → ℕ → Plan → List Holding → Option ℕ
plan_excluder owner table plan held = option_and_then (λ (want : Want). excluder owner.0 table want held) (asked plan.insert plan.on_key)

abbrev pub with_gap : Owner → ℕ → Option Span → List Holding → List Holding
with_gap owner table None held = held
with_gap owner table (Some span) held = with_want owner table (OnGap span) held

abbrev pub with_lock : Owner → ℕ → Option (List Value × LockMode) → List Holding → List Holding
with_lock owner table None held = held
with_lock owner table (Some lock) held = with_want owner table (OnKey lock.0 lock.1) held

abbrev pub taken : Owner → ℕ → Plan → List Holding → List Holding
taken owner table plan held = with_lock owner table plan.on_key (with_gap owner table plan.gap held)

abbrev pub is_insert : Statement → Bool
is_insert (Insert table row) = true
is_insert (Replace table row) = false
is_insert (Delete table where_true) = false
is_insert (Update table sets where_true) = false
is_insert (LockRead table mode span where_true) = false
is_insert (Check table chunk span kind) = false
is_insert (SetMaster table chunk kind master) = false
is_insert (ClearChecks table) = false

abbrev pub is_client : Part → Bool
is_client Client = true
is_client (Apply entry) = false

-- a client's INSERT that meets a live key is refused, and is not in the transaction
abbrev pub is_duplicate : Part → Statement → Plan → Bool
is_duplicate part statement plan = is_client part && is_insert statement && not plan.insert

-- the transaction after a visit
abbrev pub moved : Txn → Walk → Plan → Txn
moved txn walk plan =
    cond (is_duplicate txn.part walk.statement plan) (record txn { current = None })
    (cond plan.ends (record txn { done = txn.done ++ walk.statement ∷ []; current = None })
    (record txn { current = Some (record { statement = walk.statement; cursor = plan.after }) }))

-- What the calls do.

abbrev pub begun : Owner → Part → NodeView → NodeView
begun owner part node = record node { txns = with_txn (record { owner = owner; part = part; done = []; current = None }) node.txns }

abbrev pub start_of : List Schema → Statement → Edge
start_of schemas statement = option_map_or (λ (schema : Schema). (reach_of schema statement).lo) (slice_get schemas (table_of statement)) Low

abbrev pub started : Txn → Statement → NodeView → NodeView
started txn statement node =
    record node { txns = with_txn (record txn { current = Some (record { statement = statement; cursor = start_of node.schemas statement }) }) node.txns }

-- a visit that nobody excludes
abbrev pub visited : Txn → Walk → Plan → NodeView → NodeView
visited txn walk plan node =
    record node { txns = with_txn (moved txn walk plan) node.txns; held = taken txn.owner (table_of walk.statement) plan node.held }

-- an owner's transaction and all that it holds are gone
abbrev pub ended : ℕ → NodeView → NodeView
ended owner node = record node { txns = without_txn owner node.txns; held = released owner node.held }

abbrev pub logged : List Statement → List Statement
logged = filter is_logged

-- an entry of no statement is written for the repair tool and for a worker
abbrev pub is_written : Origin → List Statement → Bool
is_written (Session session) [] = false
is_written (Session session) (statement ∷ statements) = true
is_written Checksum statements = true
is_written (Sync replica table span) statements = true
is_written (Local session) [] = false
is_written (Local session) (statement ∷ statements) = true
is_written (Applied entry) statements = true

-- the entry of a transaction, if one is written
abbrev pub written : Origin → List Statement → List Entry
written origin statements = cond (is_written origin statements) (record { origin = origin; statements = statements } ∷ []) []

abbrev pub with_entries : List Entry → NodeView → NodeView
with_entries entries node = record node { history = node.history ++ entries }

-- a commit writes the logged statements as one entry, and ends the transaction
abbrev pub committed : Txn → Origin → NodeView → NodeView
committed txn origin node = ended txn.owner.0 (with_entries (written origin (logged txn.done)) node)
