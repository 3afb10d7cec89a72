use Rattle.std.proofs.Common.{length}
use Rattle.text_check.specs.Checks.{texts_of}
use Rattle.text_check.proofs.AnswerLemmas.{AnswersOn}
use Rattle.text_check.proofs.answers.answers.Given as goal

abbrev pub invariant-loop-line : goal.invariant-loop-line
invariant-loop-line l = AnswersOn l.schemas.tables (texts_of l.text) l.out.items (texts_of l.rest)

abbrev pub decreases-loop-line : goal.decreases-loop-line
decreases-loop-line l = length l.rest
