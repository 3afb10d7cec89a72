-- A text that is being written, as callers see it.
use Rattle.std.specs.Prelude.{ℕ, List, ◌++◌, ◌≡◌}
use Rattle.row_types.specs.declared.table_schema.Schema.{Schema}

-- the schemas whose names it uses, and the text so far
pub record Written : Type 0 where
  pub schemas : List Schema
  pub text : List ℕ

-- these bytes were put at its end, and nothing else changed
abbrev pub Appended : List ℕ → Written → Written → Type 0
Appended bytes old new = new ≡ record old { text = old.text ++ bytes }
