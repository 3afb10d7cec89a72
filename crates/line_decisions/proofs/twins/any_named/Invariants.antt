use Rattle.std.proofs.Common.{◌≡◌, length}
use Rattle.line_decisions.specs.Tests.{any_named}
use Rattle.line_decisions.proofs.twins.any_named.Given as goal

abbrev pub invariant-loop-column : goal.invariant-loop-column
invariant-loop-column l = any_named l.name l.rest ≡ any_named l.name l.columns

abbrev pub decreases-loop-column : goal.decreases-loop-column
decreases-loop-column l = length l.rest
