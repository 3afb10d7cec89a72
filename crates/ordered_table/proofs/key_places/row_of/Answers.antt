use Rattle.std.proofs.Common.{◌∙◌, List, ap, sym, refl}
use Rattle.row_types.specs.declared.values.Value.{Value}
use Rattle.row_types.specs.KeyRows.{row_at}
use Rattle.ordered_table.proofs.ChangeLemmas.{read_ordered, page_read}
use Rattle.ordered_table.proofs.PageOfLemmas.{row_at_page}
use Rattle.ordered_table.proofs.key_places.row_of.Goals as goal

pub row_in-requires : goal.row_in-requires
row_in-requires c =
    read_ordered c.args.key_len c.page_of-page.result c.args.pages.now c.args.pages.now c.index-pages-page.result c.index-pages-page.result c.requires.ordered refl
    c.page_of-page.ensures.within refl c.index-pages-page.is

pub returns : goal.returns
returns c =
    c.row_in.ensures
    ∙ ap (λ (rows : List (List Value)). row_at c.args.key_len c.args.key.now rows)
    (page_read c.page_of-page.result c.args.pages.now c.args.pages.now c.index-pages-page.result refl c.page_of-page.ensures.within c.index-pages-page.is)
    ∙ sym (row_at_page c.args.key_len c.args.key.now c.page_of-page.result c.args.pages.now c.page_of-page.ensures)
