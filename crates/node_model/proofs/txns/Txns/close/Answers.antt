use Rattle.std.proofs.Common.{arith}
use Rattle.node_model.proofs.TxnLemmas.{within_for, close_for, done_for}
use Rattle.node_model.proofs.txns.Txns.close.Goals as goal

pub index_mut-requires : goal.index_mut-requires
index_mut-requires c =
    let within = within_for c.args.owner.0 c.self.inside.items.items c.args.self.now c.as_slice.result.now c.place_in-place.result c.self.view_is c.as_slice.ensures.value c.place_in-place.ensures c.requires in
    omega (arith, within, c.self.inside.items.ok)

pub returns-clause-done : goal.returns-clause-done
returns-clause-done c =
    done_for c.args.owner.0 c.self.inside.items.items c.args.self.now c.as_slice.result.now c.place_in-place.result c.index_mut.result.now c.take_done-done.result
    c.self.view_is c.as_slice.ensures.value c.place_in-place.ensures c.requires c.index_mut.ensures.value c.take_done-done.ensures.done

pub returns-clause-left : goal.returns-clause-left
returns-clause-left c =
    close_for c.args.owner.0 c.self.inside.items.items c.args.self.now c.as_slice.result.now c.place_in-place.result c.index_mut.result.now c.take_done-done.new.txn _
    c.self.view_is c.as_slice.ensures.value c.place_in-place.ensures c.requires c.index_mut.ensures.value c.take_done-done.ensures.left c.take_out.ensures
