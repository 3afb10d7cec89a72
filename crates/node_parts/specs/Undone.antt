-- How far a rollback has come.
use Rattle.std.specs.Prelude.{ℕ, ◌≡◌, ◌≢◌, ◌≤◌, ◌+◌, List, [], Some, IfSome, length, take, drop, slice_set}
use Rattle.std.specs.List.{slice_get, remove, AllByRecursion}
use Rattle.row_types.specs.declared.values.Value.{Value}
use Rattle.row_types.specs.declared.table_schema.Schema.{Schema}
use Rattle.row_types.specs.KeyRows.{HasKey, row_at}
use Rattle.ordered_table.specs.TableView.{TableView}
use Rattle.table_changes.specs.Plans.{IsSound}
use Rattle.node_parts.specs.Written.{written}
use Rattle.node_model.specs.PutBack.{put_back}
use Rattle.node_parts.specs.declared.notes.Note.{Note}
use Rattle.node_parts.specs.Kept.{notes_of, notes_on, NoteFits}

-- a table, from which what is still noted leads to where all that was noted led at first
pub record UndoneAt (owner number : ℕ) (schema : Schema) (start : List TableView) (all : List Note) (tables : List TableView) (notes : List Note) : Type 0 where
  pub first : TableView
  pub was : slice_get start number ≡ Some first
  pub live : TableView
  pub there : slice_get tables number ≡ Some live
  pub sound : IsSound schema live.key_len live.rows
  pub rows : (key : List Value) → put_back (notes_of owner notes) number key (row_at live.key_len key live.rows) ≡ put_back (notes_of owner all) number key (row_at first.key_len key first.rows)
  pub room : notes_on number notes ≤ live.spare

-- the notes from a place on have none of the owner
pub record IsUndoing (schemas : List Schema) (owner : ℕ) (start : List TableView) (all : List Note) (tables : List TableView) (notes : List Note) (place : ℕ) : Type 0 where
  pub within : place ≤ length notes
  pub rest : notes_of owner (drop place notes) ≡ []
  pub each : (number : ℕ) (schema : Schema) → slice_get schemas number ≡ Some schema → UndoneAt owner number schema start all tables notes
  pub fits : AllByRecursion (NoteFits schemas) notes
  pub others : (other : ℕ) → other ≢ owner → notes_of other notes ≡ notes_of other all

pub record CanPutBack (place : ℕ) (tables : List TableView) (notes : List Note) : Type 0 where
  pub note : Note
  pub is : slice_get notes place ≡ Some note
  pub live : TableView
  pub there : slice_get tables note.table ≡ Some live
  pub new : IfSome note.was (λ row. HasKey live.key_len row × (note.key ≡ take live.key_len row))
  pub room : 1 ≤ live.spare

pub record IsPutBack (place : ℕ) (tables tables_after : List TableView) (notes notes_after : List Note) : Type 0 where
  pub note : Note
  pub is : slice_get notes place ≡ Some note
  pub live : TableView
  pub now : TableView
  pub there : slice_get tables note.table ≡ Some live
  pub set : tables_after ≡ slice_set tables note.table now
  pub rows : now.rows ≡ written live.key_len note.key note.was live.rows
  pub key_len : now.key_len ≡ live.key_len
  pub spare : live.spare ≤ now.spare + 1
  pub left : notes_after ≡ remove notes place
