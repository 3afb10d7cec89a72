-- What putting back all that is noted gives.
use Rattle.std.specs.Prelude.{ℕ, ◌≡◌, ◌≤◌, List, [], ◌∷◌, length, take, IfSome}
use Rattle.row_types.specs.declared.values.Value.{Value}
use Rattle.row_types.specs.KeyRows.{Rows, HasKey, AreOrdered, row_at}
use Rattle.ordered_table.specs.TableView.{TableView}
use Rattle.node_model.specs.PutBack.{Noted, put_back}
use Rattle.node_parts.specs.declared.notes.Note.{Note}
use Rattle.node_parts.specs.Kept.{noted_as}

-- the notes of all owners
abbrev pub noted_all : List Note → List Noted
noted_all [] = []
noted_all (note ∷ notes) = noted_as note ∷ noted_all notes

-- the row that was there has the key of its note
abbrev pub IsKeyed : ℕ → Note → Type 0
IsKeyed key_len note = IfSome note.was (λ row. HasKey key_len row × (note.key ≡ take key_len row))

-- a note of another table, or one whose row has its key
abbrev pub NoteIsKeyed : ℕ → ℕ → Note → Type 0
NoteIsKeyed number key_len note = note.table ≡ number → IsKeyed key_len note

-- how far putting back has come: what is still noted leads from these rows to where all leads from the live ones
pub record IsPuttingBack (number : ℕ) (live : TableView) (all : List Note) (table : TableView) (index : ℕ) : Type 0 where
  pub within : index ≤ length all
  pub key_len : table.key_len ≡ live.key_len
  pub rows : (key : List Value) → put_back (noted_all (take index all)) number key (row_at table.key_len key table.rows)
      ≡ put_back (noted_all all) number key (row_at live.key_len key live.rows)

-- the rows that putting back all leaves
pub record ArePutBack (number : ℕ) (live : TableView) (all : List Note) (rows : Rows) : Type 0 where
  pub ordered : AreOrdered live.key_len rows
  pub at : (key : List Value) → row_at live.key_len key rows ≡ put_back (noted_all all) number key (row_at live.key_len key live.rows)
