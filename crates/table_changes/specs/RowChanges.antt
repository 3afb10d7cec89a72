-- What changes of rows give, and the changes that a statement makes to rows in its reach.
use Rattle.std.specs.Prelude.{ℕ, ◌+◌, Bool, cond, is_some, List, [], ◌∷◌, ◌++◌, Option, None, Some, take}
use Rattle.std.specs.Ordering.{is_eq}
use Rattle.row_types.specs.declared.table_schema.Schema.{Schema}
use Rattle.row_types.specs.Order.{key_cmp}
use Rattle.row_types.specs.Fit.{key_of}
use Rattle.ptc_statement.specs.declared.statements.Statement.{Statement}
use Rattle.ptc_statement.specs.Effect.{effect_within}
use Rattle.row_types.specs.KeyRows.{Row, Rows, HasKey, row_at, put_row, without_key}
use Rattle.table_changes.specs.declared.row_changes.RowChange.{RowChange}
use Rattle.table_changes.specs.declared.row_changes.RowChange.TheVariants.{Gone, Put}

-- the rows after one change
abbrev pub row_changed : ℕ → RowChange → Rows → Rows
row_changed key_len (Gone key) rows = without_key key_len key rows
row_changed key_len (Put row) rows = put_row key_len row rows

-- the rows after all changes, of which the last is done first
abbrev pub done : ℕ → List RowChange → Rows → Rows
done key_len [] rows = rows
done key_len (change ∷ changes) rows = row_changed key_len change (done key_len changes rows)

-- how many rows a change adds: 1 where it puts one at an absent key
abbrev pub room_of : ℕ → RowChange → Rows → ℕ
room_of key_len (Gone key) rows = 0
room_of key_len (Put row) rows = cond (is_some (row_at key_len (take key_len row) rows)) 0 1

-- how many rows all changes put at absent keys
abbrev pub room_for : ℕ → List RowChange → Rows → ℕ
room_for key_len [] rows = 0
room_for key_len (change ∷ changes) rows = room_of key_len change (done key_len changes rows) + room_for key_len changes rows

-- a row that is put has its key
abbrev pub ChangeHasKey : ℕ → RowChange → Type 0
ChangeHasKey key_len (Gone key) = Unit {0}
ChangeHasKey key_len (Put row) = HasKey key_len row

abbrev pub is_same : Row → Row → Bool
is_same ours theirs = is_eq (key_cmp ours theirs)

-- the change of a row to what is left of it: none where that is the row itself
abbrev pub changes_to : Schema → Row → Option Row → List RowChange
changes_to schema row None = Gone (key_of schema row) ∷ []
changes_to schema row (Some new) = cond (is_same new row) [] (Put new ∷ [])

-- the changes that a statement makes to rows in its reach
abbrev pub changes_within : Schema → Statement → Rows → List RowChange
changes_within schema statement [] = []
changes_within schema statement (row ∷ rows) =
    changes_to schema row (effect_within schema statement (Some row)) ++ changes_within schema statement rows
