use Rattle.std.proofs.Common.{arith}
use Rattle.world.proofs.CycleLemmas.{worker_room}
use Rattle.world.proofs.replicas.Replica.worker_turn.Goals as goal

pub applier_note-requires-clause-room : goal.applier_note-requires-clause-room
applier_note-requires-clause-room c =
    let few = worker_room c.args.worker c.args.log.now.entries c.self.inside.applier c.turn.new.self.workers c.self.inside.node c.turn.new.node c.in_ok-turn.turn c.in_ok-turn.ensures.ok in
    omega (arith, few, c.in_ok-spare.ensures.len, c.in_ok-spare.ensures.capacity, c.open_count.ensures)
