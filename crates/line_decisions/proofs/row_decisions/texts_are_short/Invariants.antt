use Rattle.std.proofs.Common.{length}
use Rattle.std.specs.List.{AllByRecursion}
use Rattle.row_types.specs.Faults.{TextIsShort}
use Rattle.line_decisions.proofs.row_decisions.texts_are_short.Given as goal

abbrev pub invariant-loop-value : goal.invariant-loop-value
invariant-loop-value l = (AllByRecursion TextIsShort l.rest → AllByRecursion TextIsShort l.values) × (AllByRecursion TextIsShort l.values → AllByRecursion TextIsShort l.rest)

abbrev pub decreases-loop-value : goal.decreases-loop-value
decreases-loop-value l = length l.rest
