use Rattle.std.proofs.Common.{◌≡◌, drop}
use Rattle.file_rows.specs.NodeRows.{any_has}
use Rattle.file_rows.proofs.node_rows.has_row.Given as goal

abbrev pub invariant-loop-node : goal.invariant-loop-node
invariant-loop-node l = any_has l.which l.key l.node (drop l.node l.nodes) ≡ any_has l.which l.key 0 l.nodes
