use Rattle.std.proofs.Common.{◌≡◌, ◌≤◌, ◌+◌, ◌++◌, length, vec_len}
use Rattle.world_model.specs.Worlds.{begun_sessions}
use Rattle.world.specs.Teams.{origin_of}
use Rattle.world.proofs.begins.new_sessions.Given as goal

abbrev pub invariant-loop-alloc : goal.invariant-loop-alloc
invariant-loop-alloc l = record {
  left : l.sessions.items ++ begun_sessions (origin_of l.place) l.number l.scripts.items ≡ begun_sessions (origin_of l.place) 1 l.fn.scripts.items;
  few : l.number + length l.scripts.items ≤ 65;
}

abbrev pub decreases-loop-alloc : goal.decreases-loop-alloc
decreases-loop-alloc l = vec_len l.scripts
