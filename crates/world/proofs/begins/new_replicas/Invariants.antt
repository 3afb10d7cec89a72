use Rattle.std.proofs.Common.{◌≡◌, ◌≤◌, ◌+◌, ◌++◌, List, length, vec_len}
use Rattle.std.specs.List.{AllByRecursion}
use Rattle.row_types.specs.Fit.{AreTables}
use Rattle.ptc_statement.specs.declared.scripts.Script.{Script}
use Rattle.world_model.specs.Worlds.{begun_replicas}
use Rattle.world.proofs.begins.new_replicas.Given as goal

abbrev pub invariant-loop-alloc : goal.invariant-loop-alloc
invariant-loop-alloc l = record {
  left : l.replicas.items ++ begun_replicas l.options l.schemas.tables l.number l.copies.items l.locals.items
      ≡ begun_replicas l.options l.schemas.tables 1 l.fn.copies.items l.fn.locals.items;
  few : l.number + length l.copies.items ≤ 9;
  each : length l.locals.items ≡ length l.copies.items;
  tables : AllByRecursion (AreTables l.schemas.tables) l.copies.items;
  scripts : AllByRecursion (λ (scripts : List Script). length scripts ≤ 16) l.locals.items;
}

abbrev pub decreases-loop-alloc : goal.decreases-loop-alloc
decreases-loop-alloc l = vec_len l.copies
