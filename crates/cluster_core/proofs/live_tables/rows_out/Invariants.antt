use Rattle.std.proofs.Common.{◌≡◌, ◌++◌, vec_len}
use Rattle.cluster_core.specs.LiveTables.{rows_of_each}
use Rattle.cluster_core.proofs.live_tables.rows_out.Given as goal

abbrev pub invariant-loop-alloc : goal.invariant-loop-alloc
invariant-loop-alloc l = l.rows ++ rows_of_each l.tables.items ≡ rows_of_each l.fn.tables.items

abbrev pub decreases-loop-alloc : goal.decreases-loop-alloc
decreases-loop-alloc l = vec_len l.tables
