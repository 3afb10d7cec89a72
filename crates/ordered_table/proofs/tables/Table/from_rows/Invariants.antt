use Rattle.std.proofs.Common.{◌≡◌, ◌++◌, length}
use Rattle.ordered_table.specs.Pages.{flat, ArePages}
use Rattle.ordered_table.proofs.tables.Table.from_rows.Given as goal

abbrev pub invariant-loop-row : goal.invariant-loop-row
invariant-loop-row l = record {
  rows : flat l.store.pages ++ l.rest ≡ l.fn.rows;
  sizes : ArePages 64 l.store.pages;
}

abbrev pub decreases-loop-row : goal.decreases-loop-row
decreases-loop-row l = length l.rest
