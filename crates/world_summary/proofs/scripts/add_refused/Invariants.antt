use Rattle.std.proofs.Common.{◌≡◌, ◌++◌, drop}
use Rattle.world_summary.specs.Scripts.{duplicates_by}
use Rattle.world_summary.proofs.scripts.add_refused.Given as goal

abbrev pub invariant-loop-line : goal.invariant-loop-line
invariant-loop-line l = l.lines ++ duplicates_by l.actor (drop l.line-index l.refused) ≡ l.initial.lines ++ duplicates_by l.actor l.refused
