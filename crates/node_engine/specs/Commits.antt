-- What a commit takes and answers.
use Rattle.std.specs.Prelude.{ℕ, ◌+◌, length, cond, List, [], Option, None, Some}
use Rattle.row_types.specs.declared.digests.Digest.{Digest}
use Rattle.statement_log.specs.declared.origins.Origin.{Origin}
use Rattle.node_model.specs.declared.txns.Txn.{Txn}
use Rattle.node_model.specs.Txns.{txn_of}
use Rattle.node_model.specs.Node.{NodeView, is_written, logged}
use Rattle.node_reads.specs.declared.readings.Reading.{Reading}

-- the checksums of the CHECKSUMs that are done
abbrev pub sums_in : Option Reading → List Digest
sums_in None = []
sums_in (Some reading) = reading.sums.items

-- the position of the entry that a commit writes, if it writes one
abbrev pub answer_written : Origin → Option Txn → NodeView → Option ℕ
answer_written origin None node = None
answer_written origin (Some txn) node = cond (is_written origin (logged txn.done)) (Some (length node.history + 1)) None

abbrev pub commit_answer : ℕ → Origin → NodeView → Option ℕ
commit_answer owner origin node = answer_written origin (txn_of owner node.txns) node
