use Rattle.std.proofs.Common.{◌∙◌, ◌-◌, length, ap, sym, arith}
use Rattle.std.specs.Prelude.{slice_get}
use Rattle.row_types.specs.KeyRows.{Rows}
use Rattle.ordered_table.proofs.AheadLemmas.{last_read}
use Rattle.ordered_table.proofs.edge_search.last_of_pages.Goals as goal

pub returns : goal.returns
returns c =
    c.last.ensures.value ∙ ap (λ (rows : Rows). slice_get rows (length rows - 1)) c.rows.ensures.value
    ∙ sym (last_read (length c.args.pages.now - 1) c.args.pages.now c.index-pages-count.result c.requires (grind (arith, c.if-count-eq0.false)) c.index-pages-count.is)
