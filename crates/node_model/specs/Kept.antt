-- What each call keeps of a node.
use Rattle.std.specs.Prelude.{ℕ, ◌≡◌, List, Option, None, Some}
use Rattle.std.specs.List.{AllByRecursion}
use Rattle.row_types.specs.declared.table_schema.Schema.{Schema}
use Rattle.row_types.specs.Fit.{AreTables}
use Rattle.ptc_statement.specs.Fits.{FitsSchemas}
use Rattle.history.specs.Replay.{fold}
use Rattle.node_model.specs.declared.txns.Walk.{Walk}
use Rattle.node_model.specs.declared.txns.Txn.{Txn}
use Rattle.node_model.specs.Txns.{txn_of}
use Rattle.node_model.specs.Node.{NodeView, committed_row}
use Rattle.node_model.specs.LockFacts.{LockFacts}

abbrev pub FactsOf : NodeView → Type 0
FactsOf node = LockFacts node.schemas (committed_row node) node.txns node.held

abbrev pub TablesOf : NodeView → Type 0
TablesOf node = AreTables node.schemas (fold node.schemas node.start node.history).tables

-- the statements of a transaction fit
abbrev pub WalkFits : List Schema → Option Walk → Type 0
WalkFits schemas None = Unit {0}
WalkFits schemas (Some walk) = FitsSchemas schemas walk.statement

pub record TxnFits (schemas : List Schema) (txn : Txn) : Type 0 where
  pub done : AllByRecursion (FitsSchemas schemas) txn.done
  pub current : WalkFits schemas txn.current

pub record IsKept (node : NodeView) : Type 0 where
  pub facts : FactsOf node
  pub tables : TablesOf node
  pub fits : (a : ℕ) (txn : Txn) → txn_of a node.txns ≡ Some txn → TxnFits node.schemas txn
