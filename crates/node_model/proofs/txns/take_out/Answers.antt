use Rattle.std.proofs.Common.{rules, not, ◌==◌}
use Rattle.std.proofs.lemmas.Fn.{filter_same}
use Rattle.node_model.specs.declared.txns.Txn.{Txn}
use Rattle.node_model.proofs.txns.take_out.Goals as goal

pub returns : goal.returns
returns c = filter_same _ (λ (txn : Txn). not (txn.owner.0 == c.args.owner.0)) _ (λ x b f' k. search rules) _ _ c.retain.ensures.filtered
