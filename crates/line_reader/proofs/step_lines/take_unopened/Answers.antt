use Rattle.std.proofs.Common.{◌∙◌, sym, subst}
use Rattle.script_steps.specs.StepReadings.{IsStepReading}
use Rattle.line_reader.proofs.LineLemmas.{countable, fault_read, step_read, ok_weaker}
use Rattle.line_reader.proofs.step_lines.take_unopened.Goals as goal

pub read_step-requires-clause-countable : goal.read_step-requires-clause-countable
read_step-requires-clause-countable c = countable c.args.state.now c.requires.kept

pub returns-in-Fault : goal.returns-in-Fault
returns-in-Fault c =
    fault_read c.args.number c.args.line.now c.args.state.now c.args.state.now c.in-Fault.fault c.requires.short c.requires.opens c.if-state.false (sym c.is_in_script.ensures ∙ c.if-not-is_in_script.false)
    (λ before e. subst (IsStepReading before c.args.line.now) c.in-Fault.is (c.in_ok-fault.ensures before e))

pub returns-in-Step : goal.returns-in-Step
returns-in-Step c =
    ok_weaker c.take_step.result _ _ c.take_step.ensures
    (λ fault t. step_read c.args.number c.args.line.now c.args.state.now c.take_step.new.state c.in-Step.step fault c.requires.short c.requires.opens c.if-state.false (sym c.is_in_script.ensures ∙ c.if-not-is_in_script.false)
    (λ before e. subst (IsStepReading before c.args.line.now) c.in-Step.is (c.in_ok-fault.ensures before e)) t)
