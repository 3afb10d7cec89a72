use Rattle.history.proofs.VerdictLemmas.{each_verdict}
use Rattle.history.proofs.laws.each_verdict_compares.Goals as goal

pub returns : goal.returns
returns c = each_verdict
