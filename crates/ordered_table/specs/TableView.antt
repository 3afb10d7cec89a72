-- A table as callers see it.
use Rattle.std.specs.Prelude.{ℕ, List}
use Rattle.row_types.specs.declared.values.Value.{Value}

-- how many columns the key has, the rows by rising key, and how many rows can be put back without memory
pub record TableView : Type 0 where
  pub key_len : ℕ
  pub rows : List (List Value)
  pub spare : ℕ
