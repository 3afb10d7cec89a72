use Rattle.std.proofs.Common.{None, arith}
use Rattle.node_model.proofs.TxnLemmas.{within_for, start_for}
use Rattle.node_model.proofs.txns.Txns.withdraw.Goals as goal

pub index_mut-requires : goal.index_mut-requires
index_mut-requires c =
    let within = within_for c.args.owner.0 c.self.inside.items.items c.args.self.now c.as_slice.result.now c.place_in-place.result c.self.view_is c.as_slice.ensures.value c.place_in-place.ensures c.requires in
    omega (arith, within, c.self.inside.items.ok)

pub returns : goal.returns
returns c =
    start_for c.args.owner.0 c.self.inside.items.items c.args.self.now c.as_slice.result.now c.place_in-place.result c.index_mut.result.now c.clear_current.new.txn None
    c.self.view_is c.as_slice.ensures.value c.place_in-place.ensures c.requires c.index_mut.ensures.value c.clear_current.ensures
