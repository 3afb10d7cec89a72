use Rattle.text_check.specs.Checks.{texts_of}
use Rattle.text_check.proofs.AnswerLemmas.{first_text, answered}
use Rattle.text_check.proofs.answers.answers.Goals as goal

pub loop-line-preserved : goal.loop-line-preserved
loop-line-preserved c =
    let at = c.loop-line in
    let line = c.content.result.now in
    answered c.args.schemas.now.tables (texts_of c.args.text.now) at.out.items c.push_answer.new.out.items line (texts_of at.rest.now) (texts_of c.in-Some.more.now)
    (first_text at.rest.now c.in-Some.line.now line c.in-Some.more.now c.in-Some.ensures.0 c.content.ensures) c.in_ok-push_answer.ensures at.invariant
