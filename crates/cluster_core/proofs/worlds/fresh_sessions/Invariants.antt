use Rattle.std.proofs.Common.{vec_len, ◌≡◌, ◌++◌, map}
use Rattle.cluster_core.specs.Sessions.{unstarted}
use Rattle.cluster_core.proofs.worlds.fresh_sessions.Given as goal

abbrev pub invariant-loop-alloc : goal.invariant-loop-alloc
invariant-loop-alloc l = l.sessions.items ++ map unstarted l.scripts.items ≡ map unstarted l.fn.scripts.items

abbrev pub decreases-loop-alloc : goal.decreases-loop-alloc
decreases-loop-alloc l = vec_len l.scripts
