use Rattle.row_types.specs.declared.edges.Edge.{Edge}
use Rattle.row_types.proofs.SpanLemmas.{edges_total, edges_exact, edge_tied}
use Rattle.row_types.proofs.order_laws.edges_are_ordered.Goals as goal

pub returns-clause-total : goal.returns-clause-total
returns-clause-total c = edges_total

pub returns-clause-exact : goal.returns-clause-exact
returns-clause-exact c = λ (e f : Edge). (edges_exact e f, edge_tied e f)
