-- The statements of a replica's history fit.
use Rattle.std.proofs.Common.{◌≡◌, ◌∙◌, List, [], ◌∷◌, sym, subst}
use Rattle.std.specs.List.{AllByRecursion}
use Rattle.row_types.specs.declared.table_schema.Schema.{Schema}
use Rattle.ptc_statement.specs.declared.scripts.ScriptLine.{ScriptLine}
use Rattle.ptc_statement.specs.declared.scripts.ScriptStep.{ScriptStep}
use Rattle.ptc_statement.specs.declared.scripts.ScriptStep.TheVariants.{Run}
use Rattle.ptc_statement.specs.declared.statements.Statement.{Statement}
use Rattle.ptc_statement.specs.Fits.{FitsSchemas}
use Rattle.statement_log.specs.declared.entries.Entry.{Entry}
use Rattle.lock_table.specs.declared.wants.Owner.{Owner}
use Rattle.node_model.specs.Node.{NodeView}
use Rattle.node_model.specs.Kept.{IsKept}
use Rattle.node_model.specs.Calls.{Call, Begin, Start, Visit, Commit, Rollback, Publish, CallFits, after_call, after_calls}
use Rattle.node_model.proofs.CallLemmas.{same_schemas, call_kept}
use Rattle.session.specs.Sessions.{SessionView, RunFits}
use Rattle.applier.specs.Appliers.{LogFits}
use Rattle.turn_laws.specs.LogsFit.{HistoryFits}
use Rattle.turn_laws.specs.TurnCalls.{RunsIn, IsSessions, StandsIn, IsWorkers}
use Rattle.turn_laws.proofs.LogLemmas.{same_fits, begin_same, start_same, visit_same, commit_fits}
use Rattle.world_model.specs.Good.{SessionFits}
use Rattle.headline_laws.proofs.ListLemmas.{each_at}

-- on a replica nobody publishes, and what is started fits
abbrev pub FitsThere : List Schema → Call → Type 0
FitsThere schemas (Begin owner part) = Unit {0}
FitsThere schemas (Start owner statement) = FitsSchemas schemas statement
FitsThere schemas (Visit owner) = Unit {0}
FitsThere schemas (Commit owner origin) = Unit {0}
FitsThere schemas (Rollback owner) = Unit {0}
FitsThere schemas (Publish table chunk) = ⊥

there_fits : (schemas : List Schema) (call : Call) → FitsThere schemas call → CallFits schemas call
there_fits schemas (Begin owner part) is = tt
there_fits schemas (Start owner statement) is = is
there_fits schemas (Visit owner) is = tt
there_fits schemas (Commit owner origin) is = tt
there_fits schemas (Rollback owner) is = tt
there_fits schemas (Publish table chunk) is = tt

call_logs : (call : Call) (node : NodeView) → FitsThere node.schemas call → IsKept node → HistoryFits node → LogFits node.schemas (after_call call node).history
call_logs (Begin owner part) node is kept fit = same_fits node.schemas node.history (after_call (Begin owner part) node).history (begin_same owner part node) fit
call_logs (Start owner statement) node is kept fit = same_fits node.schemas node.history (after_call (Start owner statement) node).history (start_same owner statement node) fit
call_logs (Visit owner) node is kept fit = same_fits node.schemas node.history (after_call (Visit owner) node).history (visit_same owner node) fit
call_logs (Commit owner origin) node is kept fit = commit_fits owner origin node kept fit
call_logs (Rollback owner) node is kept fit = fit
call_logs (Publish table chunk) node is kept fit = absurd is

-- what is known of a replica's node: its locks, its rows and the statements of its history
pub record NodeKept (schemas : List Schema) (node : NodeView) : Type 0 where
  pub same : node.schemas ≡ schemas
  pub kept : IsKept node
  pub fit : LogFits schemas node.history

call_keeps : (schemas : List Schema) (call : Call) (node : NodeView) → FitsThere schemas call → NodeKept schemas node → NodeKept schemas (after_call call node)
call_keeps schemas call node is known =
    let here : FitsThere node.schemas call = subst (λ (s : List Schema). FitsThere s call) (sym known.same) is in
    let fit : HistoryFits node = subst (λ (s : List Schema). LogFits s node.history) (sym known.same) known.fit in
    record {
      same = same_schemas call node ∙ known.same;
      kept = call_kept call node (there_fits node.schemas call here) known.kept;
      fit = subst (λ (s : List Schema). LogFits s (after_call call node).history) known.same (call_logs call node here known.kept fit);
    }

pub calls_keep : (schemas : List Schema) (calls : List Call) (node : NodeView) → AllByRecursion (FitsThere schemas) calls → NodeKept schemas node → NodeKept schemas (after_calls calls node)
calls_keep schemas [] node are known = known
calls_keep schemas (call ∷ calls) node are known = calls_keep schemas calls (after_call call node) are.1 (call_keeps schemas call node are.0 known)

-- A session's calls, and a worker's.

run_fits : (schemas : List Schema) (step : ScriptStep) (statement : Statement) → step ≡ Run statement → RunFits schemas step → FitsSchemas schemas statement
run_fits schemas step statement is fits = subst (RunFits schemas) is fits

pub session_fits_there : (schemas : List Schema) (session : SessionView) → SessionFits schemas session → (call : Call) → IsSessions session call → FitsThere schemas call
session_fits_there schemas session fits (Begin owner part) is = tt
session_fits_there schemas session fits (Start owner statement) is =
    let runs : RunsIn session.script statement = is.1 in
    run_fits schemas runs.line.step statement runs.runs (each_at (λ (line : ScriptLine). RunFits schemas line.step) session.script runs.place runs.line fits runs.found)
session_fits_there schemas session fits (Visit owner) is = tt
session_fits_there schemas session fits (Commit owner origin) is = tt
session_fits_there schemas session fits (Rollback owner) is = tt
session_fits_there schemas session fits (Publish table chunk) is = is

pub worker_fits_there : (schemas : List Schema) (worker : Owner) (log : List Entry) → LogFits schemas log → (call : Call) → IsWorkers worker log call → FitsThere schemas call
worker_fits_there schemas worker log fits (Begin owner part) is = tt
worker_fits_there schemas worker log fits (Start owner statement) is =
    let stands : StandsIn log statement = is.1 in
    each_at (FitsSchemas schemas) stands.entry.statements stands.number statement
    (each_at (λ (entry : Entry). AllByRecursion (FitsSchemas schemas) entry.statements) log stands.place stands.entry fits stands.found) stands.stands
worker_fits_there schemas worker log fits (Visit owner) is = tt
worker_fits_there schemas worker log fits (Commit owner origin) is = tt
worker_fits_there schemas worker log fits (Rollback owner) is = tt
worker_fits_there schemas worker log fits (Publish table chunk) is = is
