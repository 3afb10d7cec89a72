use Rattle.std.proofs.Common.{◌≡◌, ◌++◌, drop}
use Rattle.world_model.specs.Verdicts.{verdicts_on}
use Rattle.world_summary.proofs.verdicts.add_verdicts.Given as goal

abbrev pub invariant-loop-entry : goal.invariant-loop-entry
invariant-loop-entry l =
    l.lines ++ verdicts_on l.replica l.own (drop l.entry-index l.entry-items)
    ≡ l.initial.lines ++ verdicts_on l.replica l.own l.entry-items
