use Rattle.std.proofs.Common.{◌≤◌, subst}
use Rattle.table_changes.proofs.DoneLemmas.{next_room, next_way, last_way}
use Rattle.table_changes.proofs.table_changes.perform.Goals as goal

pub change_row-requires-clause-room : goal.change_row-requires-clause-room
change_row-requires-clause-room c =
    next_room c.args.change.rows c.args.table.now c.loop-change.changes c.pop.new.self c.in-Some.change c.loop-change.table c.loop-change.invariant c.in-Some.ensures.items
    (subst (λ n. n ≤ c.args.table.now.spare) c.requires.fits.room c.requires.room)

pub loop-change-preserved : goal.loop-change-preserved
loop-change-preserved c =
    next_way c.args.change.rows c.args.table.now c.loop-change.changes c.pop.new.self c.in-Some.change c.loop-change.table c.change_row.new.table c.loop-change.invariant c.in-Some.ensures.items
    c.change_row.ensures.rows c.change_row.ensures.key_len c.change_row.ensures.spare

pub returns-clause-rows : goal.returns-clause-rows
returns-clause-rows c =
    last_way c.args.change.rows c.args.table.now c.loop-change.changes c.loop-change.table c.loop-change.invariant
    (c.pop.ensures.none c.in_default.is)
