use Rattle.std.proofs.Common.{refl, subst}
use Rattle.node_visits.specs.Dues.{HasTable}
use Rattle.node_visits.proofs.RoomLemmas.{roomier_kept, table_within}
use Rattle.node_visits.proofs.visits.make_room.Goals as goal

pub room_at-requires : goal.room_at-requires
room_at-requires c =
    table_within c.args.parts.now c.in-Some.change.table c.requires.kept
    (subst (HasTable c.args.parts.now.schemas.tables) c.in-Some.is c.requires.there)

pub returns-in-Some-clause-kept : goal.returns-in-Some-clause-kept
returns-in-Some-clause-kept c =
    roomier_kept c.args.parts.now _ c.in-Some.change.table c.requires.kept (record { schemas = refl; start = refl; history = refl; checks = refl; applied = refl })
    refl c.reserve.ensures.held c.room_at.ensures.notes c.room_at.ensures.tables
