use Rattle.std.proofs.Common.{◌≡◌, ◌++◌, length}
use Rattle.file_rows.specs.NodeRows.{rows_of, key_lens, rows_put, TakeRow}
use Rattle.file_rows.proofs.node_rows.with_row.Given as goal

abbrev pub invariant-nodes : goal.invariant-nodes
invariant-nodes l =
    (rows_of l.done.items ++ rows_put l.which l.row (length l.done.items) l.nodes.items ≡ rows_put l.which l.row 0 l.fn.nodes.items)
    × (key_lens l.done.items ++ key_lens l.nodes.items ≡ key_lens l.fn.nodes.items)
    × TakeRow l.row l.nodes.items

abbrev pub decreases-nodes : goal.decreases-nodes
decreases-nodes l = length l.nodes.items
