use Rattle.text_check.proofs.answers.push_answer.Goals as goal

pub returns : goal.returns
returns c = c.push_read.ensures c.args.line.now c.read_line.ensures
