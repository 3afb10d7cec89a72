use Rattle.std.proofs.Common.{arith}
use Rattle.node_reads.proofs.ReadingLemmas.{at_within, room_there, room_here, set_grown, set_other}
use Rattle.node_reads.proofs.readings.grow_of.Goals as goal

pub index_mut-requires : goal.index_mut-requires
index_mut-requires c =
    let within = at_within c.args.owner.0 c.args.readings.now.items c.as_slice.result.now c.place_of-place.result (room_there c.args.owner.0 c.args.readings.now.items c.requires) c.as_slice.ensures.value c.place_of-place.ensures in
    omega (arith, within, c.args.readings.now.ok)

pub grow-requires : goal.grow-requires
grow-requires c =
    room_here c.args.owner.0 c.args.readings.now.items c.as_slice.result.now c.place_of-place.result c.index_mut.result.now
    (record { there = room_there c.args.owner.0 c.args.readings.now.items c.requires; same = c.as_slice.ensures.value; placed = c.place_of-place.ensures; is = c.index_mut.ensures.value }) c.requires

pub returns-clause-own : goal.returns-clause-own
returns-clause-own c =
    set_grown c.args.owner.0 c.args.readings.now.items c.as_slice.result.now c.place_of-place.result c.index_mut.result.now c.grow.new.reading c.args.gain c.args.ends
    (record { there = room_there c.args.owner.0 c.args.readings.now.items c.requires; same = c.as_slice.ensures.value; placed = c.place_of-place.ensures; is = c.index_mut.ensures.value }) c.grow.ensures

pub returns-clause-others : goal.returns-clause-others
returns-clause-others c other apart =
    set_other c.args.owner.0 c.args.readings.now.items c.as_slice.result.now c.place_of-place.result c.index_mut.result.now c.grow.new.reading other
    (record { there = room_there c.args.owner.0 c.args.readings.now.items c.requires; same = c.as_slice.ensures.value; placed = c.place_of-place.ensures; is = c.index_mut.ensures.value }) c.grow.ensures.whose apart
