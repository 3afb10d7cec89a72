use Rattle.file_text.specs.Said.{StepOf}
use Rattle.line_reader.proofs.step_lines.take_step.Goals as goal

pub returns-in-Some : goal.returns-in-Some
returns-in-Some c = λ before line k n o i e s. c.in-Some.ensures before line k.marked o i e s

pub returns-in_ok-take_step-in-None : goal.returns-in_ok-take_step-in-None
returns-in_ok-take_step-in-None c = λ before line k n o i e s.
    let g = c.in-None.ensures before line k.marked o i e s in
    record { said = StepOf c.args.step; good = g; keeps = c.in_ok-take_step-in-None.ensures before line k i n g }
