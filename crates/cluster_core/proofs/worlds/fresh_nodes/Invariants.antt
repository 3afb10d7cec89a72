use Rattle.std.proofs.Common.{◌≡◌, ◌++◌, map, vec_len}
use Rattle.std.specs.List.{AllByRecursion}
use Rattle.row_types.specs.Fit.{AreTables}
use Rattle.cluster_core.specs.World.{fresh}
use Rattle.cluster_core.proofs.worlds.fresh_nodes.Given as goal

abbrev pub invariant-loop-alloc : goal.invariant-loop-alloc
invariant-loop-alloc l = record {
  rest : l.nodes.items ++ map (fresh l.schemas.tables) l.copies.items ≡ map (fresh l.schemas.tables) l.fn.copies.items;
  tables : AllByRecursion (AreTables l.schemas.tables) l.copies.items;
}

abbrev pub decreases-loop-alloc : goal.decreases-loop-alloc
decreases-loop-alloc l = vec_len l.copies
