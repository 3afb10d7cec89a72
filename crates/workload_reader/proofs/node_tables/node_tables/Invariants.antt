use Rattle.std.proofs.Common.{◌≡◌, vec_len}
use Rattle.workload_reader.specs.Nodes.{with_tables, tables_by_node}
use Rattle.std.specs.Prelude.{replicate, []}
use Rattle.workload_reader.proofs.node_tables.node_tables.Given as goal

abbrev pub invariant-tables : goal.invariant-tables
invariant-tables l = with_tables l.nodes (tables_by_node l.left.items) ≡ with_tables (replicate l.fn.count []) (tables_by_node l.fn.tables.items)

abbrev pub decreases-tables : goal.decreases-tables
decreases-tables l = vec_len l.left
