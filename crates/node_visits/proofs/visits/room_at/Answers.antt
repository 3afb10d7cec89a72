use Rattle.node_visits.proofs.RoomLemmas.{room_at_is}
use Rattle.node_visits.proofs.visits.room_at.Goals as goal

pub returns-clause-ok : goal.returns-clause-ok
returns-clause-ok c =
    room_at_is c.args.tables.now.items c.args.number c.len-count.result c.index_mut.result.now c.reserve.new.self c.args.notes.now c.reserve-2.new.self c.requires c.len-count.ensures.value
    c.in_ok-reserve.ensures.ok c.in_ok-reserve-2.ensures.ok c.reserve-2.ensures.notes
