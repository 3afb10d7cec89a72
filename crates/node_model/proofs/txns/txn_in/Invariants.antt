use Rattle.std.proofs.Common.{◌≡◌, length}
use Rattle.node_model.specs.Txns.{txn_of}
use Rattle.node_model.proofs.txns.txn_in.Given as goal

abbrev pub invariant-loop-txn : goal.invariant-loop-txn
invariant-loop-txn l = txn_of l.fn.owner.0 l.rest ≡ txn_of l.fn.owner.0 l.fn.txns

abbrev pub decreases-loop-txn : goal.decreases-loop-txn
decreases-loop-txn l = length l.rest
