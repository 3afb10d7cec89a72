use Rattle.std.proofs.Common.{◌≡◌, drop}
use Rattle.std.specs.List.{list_any}
use Rattle.world_model.specs.Verdicts.{differs}
use Rattle.world_summary.proofs.statuses.any_differs.Given as goal

abbrev pub invariant-loop-line : goal.invariant-loop-line
invariant-loop-line l = list_any differs (drop l.line-index l.verdicts) ≡ list_any differs l.verdicts
