use Rattle.std.proofs.Common.{subst, true}
use Rattle.ordered_table.specs.Places.{is_past, IsCut}
use Rattle.ordered_table.specs.PageOf.{firsts}
use Rattle.ordered_table.proofs.SearchLemmas.{page_first, page_found}
use Rattle.ordered_table.proofs.page_search.page_of.Goals as goal

pub returns-then-past-eq0 : goal.returns-then-past-eq0
returns-then-past-eq0 c =
    page_first c.args.key_len c.args.key.now c.args.pages.now c.requires.ordered c.requires.pages c.requires.some
    (subst (IsCut c.args.key_len (is_past true c.args.key.now) (firsts c.args.pages.now)) c.if-past-eq0.true c.first_page_past-past.ensures)

pub returns : goal.returns
returns c =
    page_found c.args.key_len c.args.key.now c.first_page_past-past.result c.args.pages.now c.requires.ordered c.requires.pages c.requires.some c.first_page_past-past.ensures
