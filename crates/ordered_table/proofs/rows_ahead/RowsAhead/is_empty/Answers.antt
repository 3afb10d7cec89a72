use Rattle.std.proofs.Common.{◌∙◌, refl, ap, sym}
use Rattle.std.specs.Prelude.{option_copied}
use Rattle.ordered_table.proofs.AheadLemmas.{nil_first}
use Rattle.ordered_table.proofs.rows_ahead.RowsAhead.is_empty.Goals as goal

pub returns-in-None : goal.returns-in-None
returns-in-None c = (λ t. nil_first c.args.self.now (sym c.get.ensures ∙ ap option_copied c.in-None.is), λ e. refl)
