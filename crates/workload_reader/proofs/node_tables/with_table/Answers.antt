use Rattle.std.proofs.Common.{arith}
use Rattle.std.proofs.lemmas.List.{length-map}
use Rattle.ordered_table.specs.TableView.{TableView}
use Rattle.file_rows.specs.NodeRows.{rows_of}
use Rattle.workload_reader.specs.Nodes.{with_table}
use Rattle.workload_reader.proofs.NodeLemmas.{tables_out}
use Rattle.workload_reader.proofs.node_tables.with_table.Goals as goal

pub returns-then-len-eq0 : goal.returns-then-len-eq0
returns-then-len-eq0 c =
    let counted = length-map c.nodes.tables.items (λ (table : TableView). table.rows) in
    let none = c.if-len-eq0.true in
    let is = c.len-in-nodes.ensures in
    tables_out c.nodes.with c.nodes.nodes.items (with_table c.args.nodes (rows_of c.args.tables.items)) (rows_of c.nodes.tables.items) c.nodes.invariant (omega (arith, counted, none, is))
