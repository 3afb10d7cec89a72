use Rattle.node_model.proofs.CallLemmas.{commits_leave_live_rows}
use Rattle.node_model.proofs.laws.a_commit_leaves_live_rows.Goals as goal

pub returns : goal.returns
returns c = commits_leave_live_rows
