use Rattle.std.proofs.Common.{◌≡◌, length}
use Rattle.applier.specs.TeamParts.{emptied}
use Rattle.applier.proofs.teams.take_entries.Given as goal

abbrev pub invariant-loop-place : goal.invariant-loop-place
invariant-loop-place l = (l.workers.items ≡ emptied l.place l.fn.workers.items) × (length l.workers.items ≡ length l.fn.workers.items)
