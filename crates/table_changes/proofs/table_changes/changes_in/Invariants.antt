use Rattle.std.proofs.Common.{◌≡◌, ◌++◌, length}
use Rattle.row_types.specs.KeyRows.{rows_in}
use Rattle.table_changes.specs.RowChanges.{changes_within}
use Rattle.table_changes.proofs.table_changes.changes_in.Given as goal

abbrev pub invariant-loop-row : goal.invariant-loop-row
invariant-loop-row l =
    l.changes ++ changes_within l.schema l.statement l.ahead
    ≡ changes_within l.schema l.statement (rows_in l.table.key_len l.span l.table.rows)

abbrev pub decreases-loop-row : goal.decreases-loop-row
decreases-loop-row l = length l.ahead
