-- Calls on a node keep that the statements of its log fit.
use Rattle.std.proofs.Common.{◌≡◌, ◌∙◌, ℕ, Bool, true, false, cond, List, [], ◌∷◌, ◌++◌, Option, None, Some, refl, sym, subst}
use Rattle.std.specs.List.{AllByRecursion}
use Rattle.row_types.specs.declared.table_schema.Schema.{Schema}
use Rattle.ptc_statement.specs.declared.statements.Statement.{Statement}
use Rattle.ptc_statement.specs.Effect.{table_of}
use Rattle.ptc_statement.specs.Fits.{FitsSchemas}
use Rattle.statement_log.specs.declared.entries.Entry.{Entry}
use Rattle.statement_log.specs.declared.origins.Origin.{Origin}
use Rattle.lock_table.specs.declared.wants.Owner.{Owner}
use Rattle.txn_walk.specs.declared.plans.Plan.{Plan}
use Rattle.node_model.specs.declared.parts.Part.{Part}
use Rattle.node_model.specs.declared.txns.Walk.{Walk}
use Rattle.node_model.specs.declared.txns.Txn.{Txn}
use Rattle.node_model.specs.Txns.{txn_of}
use Rattle.node_model.specs.Node.{NodeView, plan_of, plan_excluder, is_written, written, logged}
use Rattle.node_model.specs.Kept.{IsKept}
use Rattle.node_model.specs.Waits.{cycle_of, after_wait, visited_unless}
use Rattle.node_model.specs.Calls.{after_call, begun_if, started_idle, started_if, visited_if, visit_if, committed_idle, committed_if, Begin, Start, Visit, Commit}
use Rattle.node_model.proofs.CommitLemmas.{logged_fit}
use Rattle.applier.specs.Appliers.{LogFits}
use Rattle.turn_laws.specs.LogsFit.{HistoryFits}

pub more_fits : (schemas : List Schema) (log more : List Entry) → LogFits schemas log → LogFits schemas more → LogFits schemas (log ++ more)
more_fits schemas [] more fit is = is
more_fits schemas (entry ∷ log) more fit is = (fit.0, more_fits schemas log more fit.1 is)

pub same_fits : (schemas : List Schema) (old new : List Entry) → new ≡ old → LogFits schemas old → LogFits schemas new
same_fits schemas old new same fit = subst (LogFits schemas) (sym same) fit

-- A begin, a start and a visit write nothing.

pub begin_same : (owner : Owner) (part : Part) (node : NodeView) → (after_call (Begin owner part) node).history ≡ node.history
begin_same owner part node = at (txn_of owner.0 node.txns)
  where
    at : (o : Option Txn) → (begun_if o owner part node).history ≡ node.history
    at None = refl
    at (Some txn) = refl

pub start_same : (owner : Owner) (statement : Statement) (node : NodeView) → (after_call (Start owner statement) node).history ≡ node.history
start_same owner statement node = at (txn_of owner.0 node.txns)
  where
    idle : (txn : Txn) (w : Option Walk) → (started_idle w txn statement node).history ≡ node.history
    idle txn None = refl
    idle txn (Some walk) = refl

    at : (o : Option Txn) → (started_if o statement node).history ≡ node.history
    at None = refl
    at (Some txn) = idle txn txn.current

pub visit_same : (owner : Owner) (node : NodeView) → (after_call (Visit owner) node).history ≡ node.history
visit_same owner node = at (txn_of owner.0 node.txns)
  where
    waits : (a : ℕ) (cycle : Option (List ℕ)) → (after_wait cycle a node).history ≡ node.history
    waits a None = refl
    waits a (Some cycle) = refl

    unless : (txn : Txn) (walk : Walk) (plan : Plan) (by : Option ℕ) → (visited_unless by txn walk plan node).history ≡ node.history
    unless txn walk plan None = refl
    unless txn walk plan (Some by) = waits txn.owner.0 (cycle_of node txn.owner.0)

    busy : (txn : Txn) (w : Option Walk) → (visited_if w txn node).history ≡ node.history
    busy txn None = refl
    busy txn (Some walk) = unless txn walk (plan_of node txn walk) (plan_excluder txn.owner (table_of walk.statement) (plan_of node txn walk) node.held)

    at : (o : Option Txn) → (visit_if o node).history ≡ node.history
    at None = refl
    at (Some txn) = busy txn txn.current

-- a statement that is started in a transaction that is begun for it
pub opened_same : (owner : Owner) (part : Part) (statement : Statement) (node : NodeView) → (after_call (Start owner statement) (after_call (Begin owner part) node)).history ≡ node.history
opened_same owner part statement node = start_same owner statement (after_call (Begin owner part) node) ∙ begin_same owner part node

-- A commit writes what the transaction has done, and that fits.

written_fits : (schemas : List Schema) (origin : Origin) (statements : List Statement) → AllByRecursion (FitsSchemas schemas) statements → LogFits schemas (written origin statements)
written_fits schemas origin statements fit = at (is_written origin statements)
  where
    at : (b : Bool) → LogFits schemas (cond {A = List Entry} b (record { origin = origin; statements = statements } ∷ []) [])
    at true = (fit, tt)
    at false = tt

pub commit_fits : (owner : Owner) (origin : Origin) (node : NodeView) → IsKept node → HistoryFits node → LogFits node.schemas (after_call (Commit owner origin) node).history
commit_fits owner origin node kept fit = at (txn_of owner.0 node.txns) refl
  where
    idle : (txn : Txn) → txn_of owner.0 node.txns ≡ Some txn → (w : Option Walk) → LogFits node.schemas (committed_idle w txn origin node).history
    idle txn found None =
        more_fits node.schemas node.history (written origin (logged txn.done)) fit
        (written_fits node.schemas origin (logged txn.done) (logged_fit node.schemas txn.done (kept.fits owner.0 txn found).done))
    idle txn found (Some walk) = fit

    at : (o : Option Txn) → txn_of owner.0 node.txns ≡ o → LogFits node.schemas (committed_if o origin node).history
    at None found = fit
    at (Some txn) found = idle txn found txn.current
