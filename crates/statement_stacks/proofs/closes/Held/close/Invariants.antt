use Rattle.std.proofs.Common.{◌≡◌, length}
use Rattle.statement_stacks.specs.Closes.{closed_at, IsAlike}
use Rattle.statement_stacks.proofs.closes.Held.close.Given as goal

abbrev pub invariant-frames : goal.invariant-frames
invariant-frames l = record {
  result : closed_at l.schema l.level l.fn.self ≡ closed_at l.schema l.level l.held;
  alike : IsAlike l.schema l.fn.self l.held;
}

abbrev pub decreases-frames : goal.decreases-frames
decreases-frames l = length l.held.stack
