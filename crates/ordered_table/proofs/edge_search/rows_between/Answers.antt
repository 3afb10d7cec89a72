use Rattle.std.proofs.Common.{take}
use Rattle.row_types.specs.Order.{has}
use Rattle.row_types.specs.KeyRows.{Row}
use Rattle.ordered_table.specs.Pages.{flat}
use Rattle.ordered_table.specs.AheadParts.{ahead_rows}
use Rattle.ordered_table.proofs.SearchLemmas.{ordered_left, ordered_right}
use Rattle.ordered_table.proofs.AheadLemmas.{upto_ordered, between_parts, part_fits}
use Rattle.ordered_table.proofs.edge_search.rows_between.Goals as goal

pub pages_past-requires-clause-ordered : goal.pages_past-requires-clause-ordered
pages_past-requires-clause-ordered c =
    ordered_left c.args.key_len (flat c.pages_before.result.0.now) c.pages_before.result.1.now
    (upto_ordered c.args.key_len c.args.span.now.hi (flat c.args.pages.now) c.pages_before.result.0.now c.pages_before.result.1.now c.requires.ordered c.pages_before.ensures.rows)

pub rows_past-requires : goal.rows_past-requires
rows_past-requires c =
    ordered_right c.args.key_len (flat c.pages_before.result.0.now) c.pages_before.result.1.now
    (upto_ordered c.args.key_len c.args.span.now.hi (flat c.args.pages.now) c.pages_before.result.0.now c.pages_before.result.1.now c.requires.ordered c.pages_before.ensures.rows)

pub invariant_of-result : goal.invariant_of-result
invariant_of-result c = record {
  full = c.pages_past.ensures.full;
  fits = part_fits (λ (row : Row). has c.args.span.now (take c.args.key_len row)) (flat c.args.pages.now)
      (ahead_rows c.pages_past.result.0.now c.pages_past.result.1.now c.rows_past.result.now) c.requires.fits
      (between_parts c.args.key_len c.args.span.now (flat c.args.pages.now) c.pages_past.result.0.now c.pages_before.result.0.now c.pages_past.result.1.now
      c.pages_before.result.1.now c.rows_past.result.now c.pages_before.ensures.rows c.pages_past.ensures.rows c.rows_past.ensures);
}

pub returns : goal.returns
returns c =
    between_parts c.args.key_len c.args.span.now (flat c.args.pages.now) c.pages_past.result.0.now c.pages_before.result.0.now c.pages_past.result.1.now
    c.pages_before.result.1.now c.rows_past.result.now c.pages_before.ensures.rows c.pages_past.ensures.rows c.rows_past.ensures
