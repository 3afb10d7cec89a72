use Rattle.std.proofs.Common.{arith}
use Rattle.world.proofs.CycleLemmas.{tool_room}
use Rattle.world.proofs.turns.tool_turn.Goals as goal

pub tool_note-requires-clause-room : goal.tool_note-requires-clause-room
tool_note-requires-clause-room c =
    let few = tool_room c.args.parts.now.tool c.turn.new.self c.args.parts.now.source c.turn.new.node c.in_ok-turn.turn c.in_ok-turn.ensures.ok in
    omega (arith, few, c.in_ok-spare.ensures.len, c.in_ok-spare.ensures.capacity, c.open_count.ensures)
