-- What a node keeps, and what always holds of it.
use Rattle.std.specs.Prelude.{ℕ, ◌≡◌, ◌≤◌, ◌+◌, ◌==◌, cond, List, [], ◌∷◌, Some, IfSome}
use Rattle.std.specs.List.{slice_get, AllByRecursion}
use Rattle.row_types.specs.declared.values.Value.{Value}
use Rattle.row_types.specs.declared.table_schema.Schema.{Schema}
use Rattle.row_types.specs.Fit.{RowFits, key_of}
use Rattle.row_types.specs.KeyRows.{row_at}
use Rattle.ordered_table.specs.TableView.{TableView}
use Rattle.table_changes.specs.Plans.{IsSound}
use Rattle.history.specs.Replay.{fold, applied_of}
use Rattle.node_model.specs.Node.{NodeView, live_row}
use Rattle.node_model.specs.Kept.{IsKept}
use Rattle.node_model.specs.PutBack.{Noted, LeadsBack}
use Rattle.node_parts.specs.declared.notes.Note.{Note}
use Rattle.node_parts.specs.declared.parts.Parts.{Parts}

abbrev pub node_view : Parts → NodeView
node_view parts = record {
  schemas = parts.schemas.tables;
  start = parts.start;
  history = parts.history.entries;
  txns = parts.txns;
  held = parts.locks.held;
}

-- the notes of an owner
abbrev pub noted_as : Note → Noted
noted_as note = record { table = note.table; key = note.key; was = note.was }

abbrev pub notes_of : ℕ → List Note → List Noted
notes_of owner [] = []
notes_of owner (note ∷ notes) = cond (note.owner.0 == owner) (noted_as note ∷ notes_of owner notes) (notes_of owner notes)

-- how many notes there are on a table
abbrev pub notes_on : ℕ → List Note → ℕ
notes_on table [] = 0
notes_on table (note ∷ notes) = cond (note.table == table) (notes_on table notes + 1) (notes_on table notes)

-- a live table: it has at each key the live row, and room for all that may have to be put back
pub record IsLive (node : NodeView) (number : ℕ) (schema : Schema) (tables : List TableView) (notes : List Note) : Type 0 where
  pub live : TableView
  pub there : slice_get tables number ≡ Some live
  pub sound : IsSound schema live.key_len live.rows
  pub rows : (key : List Value) → row_at live.key_len key live.rows ≡ live_row node number key
  pub room : notes_on number notes ≤ live.spare

-- a note is of a table of the node; the row that was there fits, and has the key
pub record NoteFits (schemas : List Schema) (note : Note) : Type 0 where
  pub schema : Schema
  pub found : slice_get schemas note.table ≡ Some schema
  pub row : IfSome note.was (λ row. RowFits schema row × (note.key ≡ key_of schema row))

-- what always holds of a node
pub record PartsKept (parts : Parts) : Type 0 where
  -- the laws of the locks; the committed tables are tables, and the statements of the open transactions fit
  pub laws : IsKept (node_view parts)
  -- a live table for each schema
  pub live : (number : ℕ) (schema : Schema) → slice_get parts.schemas.tables number ≡ Some schema
      → IsLive (node_view parts) number schema parts.tables.items parts.notes.notes
  -- what each owner has noted leads back to the committed rows
  pub back : (owner : ℕ) → LeadsBack (node_view parts) owner (notes_of owner parts.notes.notes)
  pub notes : AllByRecursion (NoteFits parts.schemas.tables) parts.notes.notes
  -- the check rows and the last entry applied are those of the history
  pub checks : (fold parts.schemas.tables parts.start parts.history.entries).checks ≡ parts.checks
  pub applied : applied_of parts.history.entries ≡ parts.applied
