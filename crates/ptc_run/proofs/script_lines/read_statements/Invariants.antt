use Rattle.std.proofs.Common.{length}
use Rattle.ptc_run.proofs.ReadLemmas.{StatementsSoFar}
use Rattle.ptc_run.proofs.script_lines.read_statements.Given as goal

abbrev pub invariant-loop-text : goal.invariant-loop-text
invariant-loop-text l = StatementsSoFar l.fn.bytes l.fn.first l.script l.rest l.count

abbrev pub decreases-loop-text : goal.decreases-loop-text
decreases-loop-text l = length l.rest
