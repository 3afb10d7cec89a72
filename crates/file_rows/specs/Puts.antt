-- A table by its name, and tables with a row more.
use Rattle.std.specs.Prelude.{◌≡◌, ℕ, zero, suc, List, [], ◌∷◌, Option, None, Some, bytes_eq, if◌then◌else◌}
use Rattle.row_types.specs.KeyRows.{Row}
use Rattle.line_words.specs.declared.nodes.NodeWord.{NodeWord}
use Rattle.file_rows.specs.declared.file_tables.FileTable.{FileTable}
use Rattle.file_rows.specs.NodeRows.{rows_of, key_lens, rows_put, TakeRow}

-- the number of the first table of this name, counted from here
abbrev pub place_named : List ℕ → ℕ → List FileTable → Option ℕ
place_named name place [] = None
place_named name place (table ∷ tables) = if bytes_eq table.schema.name name then Some place else place_named name (suc place) tables

-- the table with the row at each node that the word names
pub record IsPut (which : NodeWord) (row : Row) (old new : FileTable) : Type 0 where
  pub schema : new.schema ≡ old.schema
  pub rows : rows_of new.nodes.items ≡ rows_put which row 0 old.nodes.items
  pub keys : key_lens new.nodes.items ≡ key_lens old.nodes.items

-- there is a table of this number, which takes the row
abbrev pub TakesAt : ℕ → Row → List FileTable → Type 0
TakesAt place row [] = ⊥
TakesAt zero row (table ∷ tables) = TakeRow row table.nodes.items
TakesAt (suc place) row (table ∷ tables) = TakesAt place row tables

-- the table of this number has the row, and the others are as they were
abbrev pub IsPutAt : ℕ → NodeWord → Row → List FileTable → List FileTable → Type 0
IsPutAt place which row [] new = ⊥
IsPutAt place which row (table ∷ tables) [] = ⊥
IsPutAt zero which row (table ∷ tables) (other ∷ others) = IsPut which row table other × (others ≡ tables)
IsPutAt (suc place) which row (table ∷ tables) (other ∷ others) = (other ≡ table) × IsPutAt place which row tables others
