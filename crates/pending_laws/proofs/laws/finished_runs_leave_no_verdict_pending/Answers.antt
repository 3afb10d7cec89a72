use Rattle.pending_laws.proofs.LineLemmas.{finished_none}
use Rattle.pending_laws.proofs.laws.finished_runs_leave_no_verdict_pending.Goals as goal

pub returns : goal.returns
returns c = finished_none
