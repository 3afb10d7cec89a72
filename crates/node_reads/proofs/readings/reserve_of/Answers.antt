use Rattle.std.proofs.Common.{arith}
use Rattle.node_reads.proofs.ReadingLemmas.{at_within, set_room, set_same}
use Rattle.node_reads.proofs.readings.reserve_of.Goals as goal

pub index_mut-requires : goal.index_mut-requires
index_mut-requires c =
    let within = at_within c.args.owner.0 c.args.readings.now.items c.as_slice.result.now c.place_of-place.result c.requires c.as_slice.ensures.value c.place_of-place.ensures in
    omega (arith, within, c.args.readings.now.ok)

pub returns-clause-ok : goal.returns-clause-ok
returns-clause-ok c =
    set_room c.args.owner.0 c.args.readings.now.items c.as_slice.result.now c.place_of-place.result c.index_mut.result.now c.reserve.new.reading
    (record { there = c.requires; same = c.as_slice.ensures.value; placed = c.place_of-place.ensures; is = c.index_mut.ensures.value }) c.reserve.ensures.same.whose c.in_ok-reserve.ensures.ok

pub returns-clause-same : goal.returns-clause-same
returns-clause-same c =
    set_same c.args.owner.0 c.args.readings.now.items c.as_slice.result.now c.place_of-place.result c.index_mut.result.now c.reserve.new.reading
    (record { there = c.requires; same = c.as_slice.ensures.value; placed = c.place_of-place.ensures; is = c.index_mut.ensures.value }) c.reserve.ensures.same

pub returns-in_err-reserve-clause-same : goal.returns-in_err-reserve-clause-same
returns-in_err-reserve-clause-same c =
    set_same c.args.owner.0 c.args.readings.now.items c.as_slice.result.now c.place_of-place.result c.index_mut.result.now c.reserve.new.reading
    (record { there = c.requires; same = c.as_slice.ensures.value; placed = c.place_of-place.ensures; is = c.index_mut.ensures.value }) c.reserve.ensures.same
