use Rattle.std.proofs.Common.{◌≡◌, ◌++◌, drop}
use Rattle.world_summary.specs.Scripts.{abandoned_by}
use Rattle.world_summary.proofs.scripts.add_given_up.Given as goal

abbrev pub invariant-loop-number : goal.invariant-loop-number
invariant-loop-number l = l.lines ++ abandoned_by l.actor (drop l.number-index l.numbers) ≡ l.initial.lines ++ abandoned_by l.actor l.numbers
