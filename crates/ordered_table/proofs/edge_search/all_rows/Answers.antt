use Rattle.ordered_table.proofs.AheadLemmas.{all_ahead}
use Rattle.ordered_table.proofs.edge_search.all_rows.Goals as goal

pub invariant_of-result : goal.invariant_of-result
invariant_of-result c = all_ahead c.args.pages.now c.requires.sizes c.requires.fits
