use Rattle.std.proofs.Common.{◌+◌, refl, sym, subst}
use Rattle.std.specs.List.{AllByRecursion}
use Rattle.ordered_table.specs.Pages.{HasRow}
use Rattle.ordered_table.proofs.ChangeLemmas.{read_ordered}
use Rattle.ordered_table.proofs.AheadLemmas.{are_full, drop_full}
use Rattle.ordered_table.proofs.edge_search.part_past.Goals as goal

pub rows_past-requires : goal.rows_past-requires
rows_past-requires c =
    read_ordered c.args.key_len c.args.page c.args.pages.now c.args.pages.now c.index-pages-page.result c.rows.result.now c.requires.ordered refl c.requires.within
    c.rows.ensures.value c.index-pages-page.is

pub returns-clause-full : goal.returns-clause-full
returns-clause-full c =
    subst (AllByRecursion HasRow) (sym c.split_at.ensures.back) (drop_full (c.args.page + 1) c.args.pages.now (are_full c.args.pages.now c.requires.sizes))
