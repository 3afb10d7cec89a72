-- What a transaction has noted of the rows that it changed, and what putting them back gives.
use Rattle.std.specs.Prelude.{ℕ, ◌≡◌, ◌&&◌, ◌==◌, cond, List, [], ◌∷◌, Option, None, Some}
use Rattle.row_types.specs.declared.values.Value.{Value}
use Rattle.row_types.specs.declared.lock_modes.LockMode.TheVariants.{Exclusive}
use Rattle.lock_table.specs.declared.wants.Want.TheVariants.{OnKey}
use Rattle.lock_table.specs.declared.wants.Holding.{Holding}
use Rattle.lock_table.specs.Locks.{is_same_key, Holds}
use Rattle.node_model.specs.Node.{NodeView, live_row, committed_row}

-- the row, or none, that was at a key of a table before a change there
pub record Noted : Type 0 where
  pub table : ℕ
  pub key : List Value
  pub was : Option (List Value)

-- the row at a key when all is put back, the last noted first: so the first that was noted of a key decides
abbrev pub put_back : List Noted → ℕ → List Value → Option (List Value) → Option (List Value)
put_back [] table key now = now
put_back (note ∷ notes) table key now = cond ((note.table == table) && is_same_key key note.key) note.was (put_back notes table key now)

-- the owner has each key that is noted exclusively
abbrev pub AreOwn : ℕ → List Holding → List Noted → Type 0
AreOwn owner held [] = Unit {0}
AreOwn owner held (note ∷ notes) = Holds owner note.table (OnKey note.key Exclusive) held × AreOwn owner held notes

-- what an owner has noted leads back from the live rows to the committed ones
pub record LeadsBack (node : NodeView) (owner : ℕ) (notes : List Noted) : Type 0 where
  pub own : AreOwn owner node.held notes
  pub back : (table : ℕ) (key : List Value) → Holds owner table (OnKey key Exclusive) node.held → put_back notes table key (live_row node table key) ≡ committed_row node table key
