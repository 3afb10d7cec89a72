use Rattle.std.proofs.Common.{◌∙◌, List, subst}
use Rattle.lock_table.specs.declared.wants.Holding.{Holding}
use Rattle.lock_table.specs.Places.{IsEndOf}
use Rattle.lock_table.proofs.PlaceLemmas.{put_at_end}
use Rattle.lock_table.proofs.holdings.put_behind.Goals as goal

pub returns-clause-items : goal.returns-clause-items
returns-clause-items c =
    c.put_in.ensures.items
    ∙ put_at_end c.args.holding c.args.held.now.items c.end_of-end.result
    (subst (λ (held : List Holding). IsEndOf c.args.holding.owner.0 held c.end_of-end.result) c.as_slice.ensures.value c.end_of-end.ensures)
