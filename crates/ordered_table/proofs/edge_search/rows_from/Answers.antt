use Rattle.std.proofs.Common.{◌∙◌, [], take}
use Rattle.row_types.specs.Order.{is_past_edge}
use Rattle.row_types.specs.KeyRows.{Row}
use Rattle.ordered_table.specs.Pages.{flat}
use Rattle.ordered_table.specs.AheadParts.{ahead_rows}
use Rattle.ordered_table.proofs.AheadLemmas.{past_ahead, part_fits}
use Rattle.ordered_table.proofs.edge_search.rows_from.Goals as goal

pub invariant_of-result : goal.invariant_of-result
invariant_of-result c = record {
  full = c.pages_past.ensures.full;
  fits = part_fits (λ (row : Row). is_past_edge c.args.edge.now (take c.args.key_len row)) (flat c.args.pages.now)
      (ahead_rows c.pages_past.result.0.now c.pages_past.result.1.now []) c.requires.fits
      (past_ahead c.pages_past.result.0.now c.pages_past.result.1.now ∙ c.pages_past.ensures.rows);
}
