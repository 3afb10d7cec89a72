-- What is due of a visit, and what doing it wants and gives.
use Rattle.std.specs.Prelude.{ℕ, ◌≡◌, ◌≤◌, ◌<◌, ◌+◌, ◌++◌, List, [], ◌∷◌, Option, None, Some, IfSome, IsSome, take, length, option_map, option_and_then, slice_set}
use Rattle.std.specs.List.{slice_get}
use Rattle.std.specs.Option.{option_map_or}
use Rattle.row_types.specs.declared.values.Value.{Value}
use Rattle.row_types.specs.declared.table_schema.Schema.{Schema}
use Rattle.row_types.specs.declared.lock_modes.LockMode.{LockMode}
use Rattle.row_types.specs.declared.lock_modes.LockMode.TheVariants.{Shared, Exclusive}
use Rattle.ptc_statement.specs.Effect.{table_of, effect}
use Rattle.row_types.specs.KeyRows.{HasKey, row_at}
use Rattle.ordered_table.specs.TableView.{TableView}
use Rattle.node_parts.specs.Written.{written}
use Rattle.lock_table.specs.declared.wants.Owner.{Owner}
use Rattle.lock_table.specs.declared.wants.Want.{Want}
use Rattle.lock_table.specs.declared.wants.Want.TheVariants.{OnKey}
use Rattle.lock_table.specs.declared.wants.Holding.{Holding}
use Rattle.lock_table.specs.Locks.{excluder}
use Rattle.txn_walk.specs.declared.plans.Plan.{Plan}
use Rattle.node_model.specs.declared.txns.Walk.{Walk}
use Rattle.node_model.specs.declared.txns.Txn.{Txn}
use Rattle.node_model.specs.Txns.{txn_of}
use Rattle.node_model.specs.Node.{NodeView, plan_of, empty_plan, plan_excluder, is_duplicate}
use Rattle.txn_walk.specs.StopsAt.{plan_at}
use Rattle.node_parts.specs.declared.notes.Note.{Note}
use Rattle.node_parts.specs.declared.notes.Change.{Change}
use Rattle.node_visits.specs.declared.visits.Due.{Due}
use Rattle.node_parts.specs.NotesView.{NotesView}
use Rattle.node_visits.specs.Answers.{change_under, duplicate_key}

-- the next visit, from the live tables and the lock table
abbrev pub plan_in : ℕ → Walk → List Schema → List TableView → List Holding → Plan
plan_in owner walk schemas tables held =
    option_map_or (λ (schema : Schema). option_map_or (λ (live : TableView). plan_at schema walk.statement walk.cursor owner live held) (slice_get tables (table_of walk.statement)) (empty_plan walk.cursor))
    (slice_get schemas (table_of walk.statement)) (empty_plan walk.cursor)

abbrev pub change_to : Walk → List Value → Schema → TableView → Change
change_to walk key schema live = record { table = table_of walk.statement; key = key; new = effect schema walk.statement key (row_at live.key_len key live.rows) }

-- its change
abbrev pub change_in : Walk → Option (List Value × LockMode) → List Schema → List TableView → Option Change
change_in walk None schemas tables = None
change_in walk (Some (key, Shared)) schemas tables = None
change_in walk (Some (key, Exclusive)) schemas tables =
    option_and_then (λ (schema : Schema). option_map (change_to walk key schema) (slice_get tables (table_of walk.statement))) (slice_get schemas (table_of walk.statement))

pub record IsDue (owner : ℕ) (node : NodeView) (due : Due) : Type 0 where
  pub txn : Txn
  pub walk : Walk
  pub found : txn_of owner node.txns ≡ Some txn
  pub current : txn.current ≡ Some walk
  pub number : due.number ≡ table_of walk.statement
  pub plan : due.plan ≡ plan_of node txn walk
  pub by : option_map (λ (o : Owner). o.0) due.by ≡ plan_excluder txn.owner (table_of walk.statement) (plan_of node txn walk) node.held
  pub refused : due.refused ≡ is_duplicate txn.part walk.statement (plan_of node txn walk)
  pub duplicate : due.duplicate ≡ duplicate_key (is_duplicate txn.part walk.statement (plan_of node txn walk)) (plan_of node txn walk).on_key
  pub change : due.change ≡ change_under node walk (plan_of node txn walk).on_key

-- nobody excludes the record lock of a plan
abbrev pub IsFree : ℕ → ℕ → List Holding → Option (List Value × LockMode) → Type 0
IsFree owner number held None = Unit {0}
IsFree owner number held (Some lock) = excluder owner number (OnKey lock.0 lock.1) held ≡ None

abbrev pub lock_wanted : Option (List Value × LockMode) → Option Want
lock_wanted None = None
lock_wanted (Some lock) = Some (OnKey lock.0 lock.1)

abbrev pub IsWithin : ℕ → List TableView → Type 0
IsWithin number tables = number < length tables

-- the table of a change is one of the schemas'
abbrev pub HasTable : List Schema → Option Change → Type 0
HasTable schemas None = Unit {0}
HasTable schemas (Some change) = IsSome (slice_get schemas change.table)

-- a table has room for a row more than there are notes, and there is room for a note
pub record HasRoomAt (number : ℕ) (tables : List TableView) (notes : NotesView) : Type 0 where
  pub live : TableView
  pub there : slice_get tables number ≡ Some live
  pub room : length notes.notes + 2 ≤ live.spare
  pub spare : 1 ≤ notes.spare

abbrev pub HasRoomFor : List TableView → NotesView → Option Change → Type 0
HasRoomFor tables notes None = Unit {0}
HasRoomFor tables notes (Some change) = HasRoomAt change.table tables notes

-- one table has more room
pub record IsRoomier (number : ℕ) (before after : List TableView) : Type 0 where
  pub live : TableView
  pub now : TableView
  pub there : slice_get before number ≡ Some live
  pub is : after ≡ slice_set before number now
  pub rows : now.rows ≡ live.rows
  pub key_len : now.key_len ≡ live.key_len
  pub spare : live.spare ≤ now.spare

pub record CanWriteAt (tables : List TableView) (notes : NotesView) (change : Change) : Type 0 where
  pub live : TableView
  pub there : slice_get tables change.table ≡ Some live
  pub new : IfSome change.new (λ row. HasKey live.key_len row × (change.key ≡ take live.key_len row))
  pub room : 1 ≤ live.spare
  pub spare : 1 ≤ notes.spare

abbrev pub CanWrite : List TableView → NotesView → Option Change → Type 0
CanWrite tables notes None = Unit {0}
CanWrite tables notes (Some change) = CanWriteAt tables notes change

-- the change is made, and what was there is noted
pub record IsWrittenAt (owner : Owner) (change : Change) (tables tables_after : List TableView) (notes notes_after : List Note) : Type 0 where
  pub live : TableView
  pub now : TableView
  pub there : slice_get tables change.table ≡ Some live
  pub is : tables_after ≡ slice_set tables change.table now
  pub rows : now.rows ≡ written live.key_len change.key change.new live.rows
  pub key_len : now.key_len ≡ live.key_len
  pub spare : live.spare ≤ now.spare + 1
  pub noted : notes_after ≡ notes ++ record { owner = owner; table = change.table; key = change.key; was = row_at live.key_len change.key live.rows } ∷ []

pub record IsSame (tables tables_after : List TableView) (notes notes_after : List Note) : Type 0 where
  pub same_tables : tables_after ≡ tables
  pub same_notes : notes_after ≡ notes

abbrev pub IsWritten : Owner → Option Change → List TableView → List TableView → List Note → List Note → Type 0
IsWritten owner None tables tables_after notes notes_after = IsSame tables tables_after notes notes_after
IsWritten owner (Some change) tables tables_after notes notes_after = IsWrittenAt owner change tables tables_after notes notes_after
