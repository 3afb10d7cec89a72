use Rattle.std.proofs.Common.{◌≡◌, take}
use Rattle.cluster_core.specs.LiveTables.{rows_of_each}
use Rattle.cluster_core.specs.LiveParts.{AreSound}
use Rattle.cluster_core.proofs.live_tables.tables_of.Given as goal

abbrev pub invariant-loop-place : goal.invariant-loop-place
invariant-loop-place l = record {
  sound : AreSound (take l.place l.schemas) l.tables.items;
  rows : rows_of_each l.tables.items ≡ take l.place l.start;
}
