use Rattle.std.proofs.Common.{refl, sym, subst}
use Rattle.ordered_table.specs.Pages.{ArePages}
use Rattle.ordered_table.proofs.ChangeLemmas.{read_ordered}
use Rattle.ordered_table.proofs.AheadLemmas.{take_are}
use Rattle.ordered_table.proofs.edge_search.part_before.Goals as goal

pub rows_before-requires : goal.rows_before-requires
rows_before-requires c =
    read_ordered c.args.key_len c.args.page c.args.pages.now c.args.pages.now c.index-pages-page.result c.rows.result.now c.requires.ordered refl c.requires.within
    c.rows.ensures.value c.index-pages-page.is

pub returns-clause-sizes : goal.returns-clause-sizes
returns-clause-sizes c = subst (ArePages 64) (sym c.split_at.ensures.front) (take_are c.args.page c.args.pages.now c.requires.sizes)
