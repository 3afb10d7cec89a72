use Rattle.std.proofs.Common.{◌≡◌, length}
use Rattle.line_values.specs.Tables.{fresh, drafted_on}
use Rattle.line_values.proofs.table_texts.draft_of.Given as goal

abbrev pub invariant-loop-item : goal.invariant-loop-item
invariant-loop-item l = drafted_on l.rest l.draft ≡ drafted_on l.items fresh

abbrev pub decreases-loop-item : goal.decreases-loop-item
decreases-loop-item l = length l.rest
