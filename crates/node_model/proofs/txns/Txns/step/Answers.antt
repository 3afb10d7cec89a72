use Rattle.std.proofs.Common.{◌∙◌, arith}
use Rattle.std.proofs.lemmas.Result.{on_ok_weaker, on_err_weaker}
use Rattle.node_model.proofs.TxnLemmas.{within_for, step_for, same_place}
use Rattle.node_model.proofs.txns.Txns.step.Goals as goal

pub index_mut-requires : goal.index_mut-requires
index_mut-requires c =
    let within = within_for c.args.owner.0 c.self.inside.items.items c.args.self.now c.as_slice.result.now c.place_in-place.result c.self.view_is c.as_slice.ensures.value c.place_in-place.ensures c.requires in
    omega (arith, within, c.self.inside.items.ok)

pub returns-clause-ok : goal.returns-clause-ok
returns-clause-ok c =
    on_ok_weaker c.step_one.result
    (λ changed. step_for c.args.owner.0 c.self.inside.items.items c.args.self.now c.as_slice.result.now c.place_in-place.result c.index_mut.result.now c.step_one.new.txn c.args.refused c.args.ends c.args.after
    c.self.view_is c.as_slice.ensures.value c.place_in-place.ensures c.requires c.index_mut.ensures.value changed)
    c.step_one.ensures.ok

pub returns-clause-err : goal.returns-clause-err
returns-clause-err c =
    on_err_weaker c.step_one.result
    (λ same. same_place c.self.inside.items.items c.place_in-place.result c.index_mut.result.now c.step_one.new.txn c.index_mut.ensures.value same ∙ c.self.view_is)
    c.step_one.ensures.err
