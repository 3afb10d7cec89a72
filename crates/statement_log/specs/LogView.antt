-- A log as callers see it.
use Rattle.std.specs.Prelude.{ℕ, List}
use Rattle.statement_log.specs.declared.entries.Entry.{Entry}

-- its entries in order, and how many more can be appended without memory
pub record LogView : Type 0 where
  pub entries : List Entry
  pub spare : ℕ
