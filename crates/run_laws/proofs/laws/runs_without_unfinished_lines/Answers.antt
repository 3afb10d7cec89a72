use Rattle.run_laws.proofs.EndLemmas.{runs_without_lines}
use Rattle.run_laws.proofs.laws.runs_without_unfinished_lines.Goals as goal

pub returns : goal.returns
returns c = runs_without_lines
