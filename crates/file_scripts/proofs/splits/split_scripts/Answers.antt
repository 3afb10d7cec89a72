use Rattle.std.proofs.Common.{ap, ◌∙◌}
use Rattle.file_scripts.specs.declared.scripts.Owner.TheVariants as o
use Rattle.file_scripts.specs.Scripts.{others_by}
use Rattle.file_scripts.proofs.SplitLemmas.{locals_beside}
use Rattle.file_scripts.proofs.splits.split_scripts.Goals as goal

pub returns-clause-locals : goal.returns-clause-locals
returns-clause-locals c =
    locals_beside c.args.scripts c.in_ok-split.split.others c.args.replicas c.in_ok-locals_in.field-0
    (c.in_ok-split.ensures.others ∙ ap (others_by o.Session) c.into_list.ensures) c.in_ok-locals_in.ensures
