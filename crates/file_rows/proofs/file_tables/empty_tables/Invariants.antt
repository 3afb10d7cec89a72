use Rattle.std.proofs.Common.{◌≡◌, []}
use Rattle.std.specs.Prelude.{replicate}
use Rattle.std.specs.List.{AllByRecursion}
use Rattle.file_rows.specs.NodeRows.{rows_of}
use Rattle.file_rows.specs.Holds.{IsOfKey}
use Rattle.file_rows.proofs.file_tables.empty_tables.Given as goal

abbrev pub invariant-loop-node : goal.invariant-loop-node
invariant-loop-node l = (rows_of l.tables.items ≡ replicate l.node []) × AllByRecursion (IsOfKey l.key_len) l.tables.items
