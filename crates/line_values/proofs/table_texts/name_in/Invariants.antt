use Rattle.std.proofs.Common.{◌≡◌, length}
use Rattle.line_values.specs.Tables.{name_in}
use Rattle.line_values.proofs.table_texts.name_in.Given as goal

abbrev pub invariant-loop-item : goal.invariant-loop-item
invariant-loop-item l = name_in l.rest ≡ name_in l.items

abbrev pub decreases-loop-item : goal.decreases-loop-item
decreases-loop-item l = length l.rest
