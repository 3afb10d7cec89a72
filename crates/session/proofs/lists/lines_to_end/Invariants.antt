use Rattle.std.proofs.Common.{◌≡◌, ◌+◌, length}
use Rattle.session.specs.Sessions.{lines_to_end}
use Rattle.session.proofs.lists.lines_to_end.Given as goal

abbrev pub invariant-loop-line : goal.invariant-loop-line
invariant-loop-line l =
    (l.count + lines_to_end l.rest ≡ lines_to_end l.fn.lines)
    × (l.count + length l.rest ≡ length l.fn.lines)

abbrev pub decreases-loop-line : goal.decreases-loop-line
decreases-loop-line l = length l.rest
