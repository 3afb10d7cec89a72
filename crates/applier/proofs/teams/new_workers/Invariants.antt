use Rattle.std.proofs.Common.{◌≡◌}
use Rattle.applier.specs.Appliers.{new_workers}
use Rattle.applier.proofs.teams.new_workers.Given as goal

abbrev pub invariant-loop-number : goal.invariant-loop-number
invariant-loop-number l = l.workers.items ≡ new_workers l.number
