use Rattle.std.proofs.Common.{arith, ap, ◌∙◌}
use Rattle.std.specs.Prelude.{slice_set}
use Rattle.trace_text.specs.declared.notes.Note.{Note}
use Rattle.world.proofs.CycleLemmas.{session_room}
use Rattle.world.proofs.SessionLemmas.{found_at, turned_one}
use Rattle.world.proofs.sessions.turn_at.Goals as goal

pub session_note-requires-clause-room : goal.session_note-requires-clause-room
session_note-requires-clause-room c =
    let few = session_room c.args.retries c.index_mut-one.result.now c.turn.new.self c.args.node.now c.turn.new.node c.in_ok-turn.turn c.in_ok-turn.ensures.ok in
    omega (arith, few, c.in_ok-spare.ensures.len, c.in_ok-spare.ensures.capacity, c.open_count.ensures)

pub returns-clause-ok : goal.returns-clause-ok
returns-clause-ok c =
    ap (λ (note : Note). record { note = note; sessions = slice_set c.args.sessions.now.items c.args.at c.turn.new.self; node = c.turn.new.node }) c.session_note.ensures
    ∙ turned_one c.args.place c.args.retries c.args.at c.args.sessions.now.items c.index_mut-one.result.now c.turn.new.self c.args.node.now c.turn.new.node c.in_ok-turn.turn
    (found_at c.args.sessions.now.items c.args.at c.index_mut-one.result.now c.requires.there c.index_mut-one.ensures.value) c.in_ok-turn.ensures.ok
