-- Whether a table is there.
use Rattle.std.specs.Prelude.{ℕ, Bool, true, false, Option, Some, None}
use Rattle.row_types.specs.declared.table_schema.Schema.{Schema}

abbrev pub is_none : Option (ℕ × Schema) → Bool
is_none None = true
is_none (Some found) = false
