use Rattle.std.proofs.Common.{rules}
use Rattle.line_items.proofs.StepLemmas.{an_item}
use Rattle.line_items.proofs.steps.Walk.take.Goals as goal

pub returns-in_ok-step-in-Some : goal.returns-in_ok-step-in-Some
returns-in_ok-step-in-Some c =
    an_item c.args.section c.args.counts.now c.args.text.now c.args.self.now c.add.new.self c.in_ok-step-in-Some.step c.in-Some.found (search rules) c.in_ok-step-in-Some.ensures.step c.in_ok-step-in-Some.ensures.taken
