use Rattle.std.proofs.Common.{◌≡◌, map, take}
use Rattle.cluster_core.specs.LiveParts.{without_spare}
use Rattle.cluster_core.proofs.live_tables.table_copies.Given as goal

abbrev pub invariant-loop-table : goal.invariant-loop-table
invariant-loop-table l = l.copies.items ≡ map without_spare (take l.table-index l.tables)
