use Rattle.ptc_run.proofs.DueLemmas.{run_is_due, not_over}
use Rattle.ptc_run.proofs.top.file_answer.Goals as goal

pub returns-in_ok-answer-in-Ok-clause-due : goal.returns-in_ok-answer-in-Ok-clause-due
returns-in_ok-answer-in-Ok-clause-due c =
    run_is_due c.args.bytes.now c.in-Ok.workload c.in_ok-answer-in-Ok.answer.code c.in_ok-answer-in-Ok.answer.text
    c.in-Ok.ensures.found c.in-Ok.ensures.fits (not_over _ (λ over. let no = c.in-Ok.ensures.limit over in cc)) c.in_ok-answer-in-Ok.ensures.report
