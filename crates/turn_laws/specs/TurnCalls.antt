-- The calls on its node that a turn comes to.
use Rattle.std.specs.Prelude.{ℕ, ◌≡◌, ◌-◌, ◌⊎◌, List, None, Some}
use Rattle.std.specs.List.{AllByRecursion, slice_get}
use Rattle.ptc_statement.specs.declared.scripts.ScriptLine.{ScriptLine}
use Rattle.ptc_statement.specs.declared.scripts.ScriptStep.TheVariants.{Run}
use Rattle.ptc_statement.specs.declared.statements.Statement.{Statement}
use Rattle.ptc_statement.specs.declared.statements.Statement.TheVariants.{ClearChecks}
use Rattle.statement_log.specs.declared.entries.Entry.{Entry}
use Rattle.statement_log.specs.declared.origins.Origin.{Origin}
use Rattle.statement_log.specs.declared.origins.Origin.TheVariants.{Checksum, Applied}
use Rattle.lock_table.specs.declared.wants.Owner.{Owner}
use Rattle.node_model.specs.declared.parts.Part.{Part}
use Rattle.node_model.specs.declared.parts.Part.TheVariants.{Client, Apply}
use Rattle.node_model.specs.Node.{NodeView}
use Rattle.node_model.specs.Kept.{IsKept}
use Rattle.node_model.specs.Calls.{Call, Begin, Start, Visit, Commit, Rollback, Publish, after_calls}
use Rattle.session.specs.Sessions.{SessionView}
use Rattle.session.specs.Moves.{next_move}
use Rattle.applier.specs.declared.workers.Worker.{Worker}
use Rattle.applier.specs.Appliers.{ApplierView}
use Rattle.applier.specs.Moves.{next_move as worker_move, stop_move}
use Rattle.checksum_tool.specs.Tools.{ToolView, tool_owner, check_of}
use Rattle.checksum_tool.specs.Moves.{next_move as tool_move}

-- calls of one kind make the one node of the other
pub record LeadsBy (P : Call → Type 0) (old new : NodeView) : Type 0 where
  pub calls : List Call
  pub are : AllByRecursion P calls
  pub leads : new ≡ after_calls calls old

-- Sessions.

-- a line of a script runs the statement
pub record RunsIn (script : List ScriptLine) (statement : Statement) : Type 0 where
  pub place : ℕ
  pub line : ScriptLine
  pub found : slice_get script place ≡ Some line
  pub runs : line.step ≡ Run statement

-- a call of a session: it begins a client's transaction, starts a statement of its script, visits, commits in its
-- own name, or rolls its transaction back
abbrev pub IsSessions : SessionView → Call → Type 0
IsSessions session (Begin owner part) = (owner ≡ session.owner) × (part ≡ Client)
IsSessions session (Start owner statement) = (owner ≡ session.owner) × RunsIn session.script statement
IsSessions session (Visit owner) = owner ≡ session.owner
IsSessions session (Commit owner origin) = (owner ≡ session.owner) × (origin ≡ session.origin)
IsSessions session (Rollback owner) = owner ≡ session.owner
IsSessions session (Publish table chunk) = ⊥

abbrev pub SessionsMakeCalls : Type 0
SessionsMakeCalls =
    (retries : ℕ) (session : SessionView) (node : NodeView) → LeadsBy (IsSessions session) node (next_move retries session node).node

-- Workers.

-- an entry of a log has the statement
pub record StandsIn (log : List Entry) (statement : Statement) : Type 0 where
  pub place : ℕ
  pub entry : Entry
  pub found : slice_get log place ≡ Some entry
  pub number : ℕ
  pub stands : slice_get entry.statements number ≡ Some statement

-- a transaction that applies an entry
pub record IsAppliers (part : Part) : Type 0 where
  pub number : ℕ
  pub applies : part ≡ Apply number

-- an entry that was applied
pub record IsApplied (origin : Origin) : Type 0 where
  pub number : ℕ
  pub applied : origin ≡ Applied number

-- a call of the worker that holds locks as this owner, of a replica whose source has this log
abbrev pub IsWorkers : Owner → List Entry → Call → Type 0
IsWorkers worker log (Begin owner part) = (owner ≡ worker) × IsAppliers part
IsWorkers worker log (Start owner statement) = (owner ≡ worker) × StandsIn log statement
IsWorkers worker log (Visit owner) = owner ≡ worker
IsWorkers worker log (Commit owner origin) = (owner ≡ worker) × IsApplied origin
IsWorkers worker log (Rollback owner) = ⊥
IsWorkers worker log (Publish table chunk) = ⊥

abbrev pub WorkersMakeCalls : Type 0
WorkersMakeCalls =
    (number : ℕ) (log : List Entry) (applier : ApplierView) (node : NodeView) (worker : Worker) → slice_get applier.workers (number - 1) ≡ Some worker
    → LeadsBy (IsWorkers worker.owner log) node (worker_move number log applier node).node

-- where the applier has no worker of this number
abbrev pub OthersMakeNone : Type 0
OthersMakeNone =
    (number : ℕ) (log : List Entry) (applier : ApplierView) (node : NodeView) → slice_get applier.workers (number - 1) ≡ None
    → (worker_move number log applier node).node ≡ node

-- a stop rolls workers' transactions back

pub record IsWorkerOf (workers : List Worker) (owner : Owner) : Type 0 where
  pub place : ℕ
  pub worker : Worker
  pub found : slice_get workers place ≡ Some worker
  pub is : owner ≡ worker.owner

abbrev pub IsStops : List Worker → Call → Type 0
IsStops workers (Begin owner part) = ⊥
IsStops workers (Start owner statement) = ⊥
IsStops workers (Visit owner) = ⊥
IsStops workers (Commit owner origin) = ⊥
IsStops workers (Rollback owner) = IsWorkerOf workers owner
IsStops workers (Publish table chunk) = ⊥

abbrev pub StopsMakeCalls : Type 0
StopsMakeCalls = (applier : ApplierView) (node : NodeView) → LeadsBy (IsStops applier.workers) node (stop_move applier node).node

-- The checksum tool.

-- CLEARCHECKS of the tool's table, or the CHECKSUM of its chunk
abbrev pub ToolRuns : ToolView → Statement → Type 0
ToolRuns tool statement = (statement ≡ ClearChecks tool.table) ⊎ (statement ≡ check_of tool)

abbrev pub IsTools : ToolView → Call → Type 0
IsTools tool (Begin owner part) = (owner ≡ tool_owner) × (part ≡ Client)
IsTools tool (Start owner statement) = (owner ≡ tool_owner) × ToolRuns tool statement
IsTools tool (Visit owner) = owner ≡ tool_owner
IsTools tool (Commit owner origin) = (owner ≡ tool_owner) × (origin ≡ Checksum)
IsTools tool (Rollback owner) = ⊥
IsTools tool (Publish table chunk) = (table ≡ tool.table) × (chunk ≡ tool.chunk)

abbrev pub ToolMakesCalls : Type 0
ToolMakesCalls = (tool : ToolView) (node : NodeView) → IsKept node → LeadsBy (IsTools tool) node (tool_move tool node).node
