-- How CLEARCHECKS comes into the log: in a transaction of its own.
use Rattle.std.specs.Prelude.{ℕ, List, [], ◌∷◌, Option, None}
use Rattle.ptc_statement.specs.declared.statements.Statement.{Statement}
use Rattle.ptc_statement.specs.declared.statements.Statement.TheVariants.{ClearChecks}
use Rattle.statement_log.specs.declared.origins.Origin.TheVariants.{Checksum}
use Rattle.node_model.specs.declared.parts.Part.TheVariants.{Client}
use Rattle.node_model.specs.declared.txns.Walk.{Walk}
use Rattle.node_model.specs.declared.txns.Txn.{Txn}
use Rattle.node_model.specs.Node.{NodeView}
use Rattle.node_model.specs.Calls.{after_call, Start as StartCall, Visit as VisitCall, Commit as CommitCall}
use Rattle.checksum_tool.specs.Tools.{tool_owner}

-- a transaction of the tool
abbrev pub tool_txn : List Statement → Option Walk → Txn
tool_txn done current = record { owner = tool_owner; part = Client; done = done; current = current }

abbrev pub begun_txn : Txn
begun_txn = tool_txn [] None

abbrev pub cleared_txn : ℕ → Txn
cleared_txn table = tool_txn (ClearChecks table ∷ []) None

-- CLEARCHECKS started and visited in the tool's transaction
abbrev pub visited_clear : ℕ → NodeView → NodeView
visited_clear table node = after_call (VisitCall tool_owner) (after_call (StartCall tool_owner (ClearChecks table)) node)

-- and committed
abbrev pub logged_clear : ℕ → NodeView → NodeView
logged_clear table node = after_call (CommitCall tool_owner Checksum) (visited_clear table node)
