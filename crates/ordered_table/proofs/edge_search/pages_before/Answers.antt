use Rattle.ordered_table.specs.Pages.{flat}
use Rattle.ordered_table.proofs.AheadLemmas.{before_at_low, before_at_high, before_at_before, before_at_after}
use Rattle.ordered_table.proofs.edge_search.pages_before.Goals as goal

pub part_before-requires-clause-parts : goal.part_before-requires-clause-parts
part_before-requires-clause-parts c =
    before_at_before c.args.key_len c.args.edge.now c.in-Before.key c.as_slice.result.now c.page_of.result c.args.pages.now c.in-Before.is c.as_slice.ensures c.page_of.ensures

pub part_before-requires-in-After-clause-parts : goal.part_before-requires-in-After-clause-parts
part_before-requires-in-After-clause-parts c =
    before_at_after c.args.key_len c.args.edge.now c.in-After.key c.as_slice-in-After.result.now c.page_of-in-After.result c.args.pages.now c.in-After.is c.as_slice-in-After.ensures
    c.page_of-in-After.ensures

pub returns-in-Low-clause-rows : goal.returns-in-Low-clause-rows
returns-in-Low-clause-rows c = before_at_low c.args.key_len c.args.edge.now (flat c.args.pages.now) c.in-Low.is

pub returns-in-High-clause-rows : goal.returns-in-High-clause-rows
returns-in-High-clause-rows c = before_at_high c.args.key_len c.args.edge.now (flat c.args.pages.now) c.in-High.is
