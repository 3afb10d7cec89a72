use Rattle.std.proofs.Common.{take}
use Rattle.cluster_core.specs.World.{sessions_from}
use Rattle.cluster_core.specs.Turns.{TookTurns}
use Rattle.cluster_core.proofs.worlds.World.session_turns.Given as goal

abbrev pub invariant-loop-place : goal.invariant-loop-place
invariant-loop-place l = TookTurns l.fn.self l.self (sessions_from 1 (take l.place l.fn.self.sessions)) l.moved
