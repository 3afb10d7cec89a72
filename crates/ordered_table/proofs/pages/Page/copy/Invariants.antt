use Rattle.std.proofs.Common.{◌≡◌, ◌≤◌, take, vec_capacity}
use Rattle.ordered_table.proofs.pages.Page.copy.Given as goal

abbrev pub invariant-loop-row : goal.invariant-loop-row
invariant-loop-row l = record {
  items : l.rows.items ≡ take l.row-index l.row-items;
  room : 64 ≤ vec_capacity l.rows;
}
