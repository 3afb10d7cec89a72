use Rattle.std.proofs.Common.{◌≡◌, drop}
use Rattle.std.specs.List.{list_any}
use Rattle.world_model.specs.Verdicts.{pends}
use Rattle.world_summary.proofs.statuses.any_pends.Given as goal

abbrev pub invariant-loop-line : goal.invariant-loop-line
invariant-loop-line l = list_any pends (drop l.line-index l.verdicts) ≡ list_any pends l.verdicts
