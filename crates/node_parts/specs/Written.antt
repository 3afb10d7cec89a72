-- The rows of a table after a change at one key.
use Rattle.std.specs.Prelude.{ℕ, List, Option, None, Some}
use Rattle.row_types.specs.declared.values.Value.{Value}
use Rattle.row_types.specs.KeyRows.{put_row, without_key}

-- the rows with this one, or none, at a key
abbrev pub written : ℕ → List Value → Option (List Value) → List (List Value) → List (List Value)
written key_len key None rows = without_key key_len key rows
written key_len key (Some row) rows = put_row key_len row rows
