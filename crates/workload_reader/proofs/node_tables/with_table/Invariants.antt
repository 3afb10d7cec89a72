use Rattle.std.proofs.Common.{◌≡◌, ◌++◌, vec_len}
use Rattle.file_rows.specs.NodeRows.{rows_of}
use Rattle.workload_reader.specs.Nodes.{with_table}
use Rattle.workload_reader.proofs.node_tables.with_table.Given as goal

abbrev pub invariant-nodes : goal.invariant-nodes
invariant-nodes l = l.with ++ with_table l.nodes.items (rows_of l.tables.items) ≡ with_table l.fn.nodes (rows_of l.fn.tables.items)

abbrev pub decreases-nodes : goal.decreases-nodes
decreases-nodes l = vec_len l.nodes
