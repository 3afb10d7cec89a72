use Rattle.std.proofs.Common.{◌∙◌, length, map, ap}
use Rattle.row_types.specs.KeyRows.{Rows}
use Rattle.ordered_table.specs.TableView.{TableView}
use Rattle.ordered_table.proofs.LengthLemmas.{sum_is, are_sized, do_exceed}
use Rattle.ordered_table.proofs.tables.Table.page_lengths.Goals as goal

pub returns-clause-sum : goal.returns-clause-sum
returns-clause-sum c =
    sum_is c.self.inside.store.pages c.in_ok-lengths.lengths.items
    (c.in_ok-lengths.ensures ∙ ap (map (λ (page : Rows). length page)) c.pages.ensures.value)
    ∙ ap (λ (view : TableView). length view.rows) c.self.view_is

pub returns-clause-lengths : goal.returns-clause-lengths
returns-clause-lengths c =
    are_sized c.self.inside.store.pages c.in_ok-lengths.lengths.items c.self.invariant.sizes
    (c.in_ok-lengths.ensures ∙ ap (map (λ (page : Rows). length page)) c.pages.ensures.value)

pub returns-clause-neighbours : goal.returns-clause-neighbours
returns-clause-neighbours c =
    do_exceed c.self.inside.store.pages c.in_ok-lengths.lengths.items c.self.invariant.sizes
    (c.in_ok-lengths.ensures ∙ ap (map (λ (page : Rows). length page)) c.pages.ensures.value)
