-- The commit of an owner without a transaction.
use Rattle.std.proofs.Common.{◌≡◌, false, Option, None, ap}
use Rattle.std.specs.Prelude.{is_some}
use Rattle.statement_log.specs.declared.origins.Origin.{Origin}
use Rattle.lock_table.specs.declared.wants.Owner.{Owner}
use Rattle.node_model.specs.declared.txns.Txn.{Txn}
use Rattle.node_model.specs.Txns.{txn_of}
use Rattle.node_model.specs.Node.{NodeView}
use Rattle.node_model.specs.Calls.{after_call, committed_if, Commit}
use Rattle.node_engine.specs.Commits.{answer_written, commit_answer}
use Rattle.node_engine.proofs.AskLemmas.{none_of}

pub no_answer : (owner : Owner) (origin : Origin) (node : NodeView) → is_some (txn_of owner.0 node.txns) ≡ false → commit_answer owner.0 origin node ≡ None
no_answer owner origin node none = ap (λ (o : Option Txn). answer_written origin o node) (none_of owner.0 node none)

pub no_commit : (owner : Owner) (origin : Origin) (node : NodeView) → is_some (txn_of owner.0 node.txns) ≡ false → after_call (Commit owner origin) node ≡ node
no_commit owner origin node none = ap (λ (o : Option Txn). committed_if o origin node) (none_of owner.0 node none)
