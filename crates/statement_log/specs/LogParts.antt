-- What a log keeps, and what always holds of it.
use Rattle.std.specs.Prelude.{◌≤◌, ◌+◌, vec_len, vec_capacity}
use Rattle.statement_log.specs.declared.logs.Log.TheInside.{Inside}
use Rattle.statement_log.specs.LogView.{LogView}

abbrev pub log_view : Inside → LogView
log_view log = record { entries = log.entries.items; spare = log.spare }

-- there is room for the spare entries
abbrev pub HasRoom : Inside → Type 0
HasRoom log = vec_len log.entries + log.spare ≤ vec_capacity log.entries
