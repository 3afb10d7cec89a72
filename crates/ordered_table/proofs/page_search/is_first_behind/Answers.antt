use Rattle.std.proofs.Common.{◌∙◌, [], true, take, ap, sym}
use Rattle.std.specs.Prelude.{slice_get, slice_index_or, option_copied}
use Rattle.row_types.specs.KeyRows.{Rows}
use Rattle.ordered_table.specs.Places.{is_past}
use Rattle.ordered_table.proofs.SearchLemmas.{not_below_none}
use Rattle.ordered_table.proofs.AheadLemmas.{nil_first}
use Rattle.ordered_table.proofs.page_search.is_first_behind.Goals as goal

pub returns-in-None : goal.returns-in-None
returns-in-None c =
    not_below_none c.args.key_len c.args.key.now
    ∙ ap (λ (page : Rows). is_past true c.args.key.now (take c.args.key_len (slice_index_or page 0 [])))
    (sym (nil_first c.args.page.now (ap (λ (page : Rows). slice_get page 0) (sym c.rows.ensures.value) ∙ sym c.first.ensures.value ∙ ap option_copied c.in-None.is)))
