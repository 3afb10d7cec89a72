use Rattle.file_scripts.proofs.SplitLemmas.{locals_next}
use Rattle.file_scripts.proofs.splits.locals_in.Goals as goal

pub loop-number-preserved : goal.loop-number-preserved
loop-number-preserved c =
    locals_next c.args.scripts c.loop-number.left c.in_ok-split.split.others c.loop-number.number c.loop-number.locals c.push.new.self c.in_ok-split.split.own
    c.loop-number.invariant c.in_ok-split.ensures.own c.in_ok-split.ensures.others c.in_ok-push.ensures.ok
