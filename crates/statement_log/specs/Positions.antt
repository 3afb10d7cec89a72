-- The entries of a log, numbered from 1.
use Rattle.std.specs.Prelude.{ℕ, ◌-◌, ◌==◌, if◌then◌else◌, List, Option, None, slice_get}
use Rattle.statement_log.specs.declared.entries.Entry.{Entry}

-- the entry at a position, none at 0 and none past the last
abbrev pub entry_at : ℕ → List Entry → Option Entry
entry_at position entries = if position == 0 then None else slice_get entries (position - 1)
