use Rattle.std.proofs.Common.{◌∙◌, sym}
use Rattle.lock_table.proofs.OtherLemmas.{excluder_first, excluder_behind}
use Rattle.lock_table.proofs.exclusion.least_excluder.Goals as goal

pub returns-in-None : goal.returns-in-None
returns-in-None c =
    c.first_excluder-in-None.ensures
    ∙ sym (excluder_behind c.args.owner.0 c.args.table c.args.want.now c.args.held.now c.others_of.result.0.now c.others_of.result.1.now c.others_of.ensures (sym c.in-None.ensures))

pub returns-in-Some : goal.returns-in-Some
returns-in-Some c =
    sym (excluder_first c.args.owner.0 c.args.table c.args.want.now c.args.held.now c.others_of.result.0.now c.others_of.result.1.now c.in-Some.by.0 c.others_of.ensures (sym c.in-Some.ensures))
