use Rattle.std.proofs.Common.{length}
use Rattle.text_check.specs.Checks.{texts_of}
use Rattle.text_check.proofs.AnswerLemmas.{ChecksOn}
use Rattle.text_check.proofs.checks.check.Given as goal

abbrev pub invariant-loop-line : goal.invariant-loop-line
invariant-loop-line l = ChecksOn (texts_of l.text) l.tables (texts_of l.rest)

abbrev pub decreases-loop-line : goal.decreases-loop-line
decreases-loop-line l = length l.rest
