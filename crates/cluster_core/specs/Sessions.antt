-- A client's session, and what its next line leaves of it and of the source.
use Rattle.std.specs.Prelude.{ℕ, ◌+◌, Bool, false, is_some, cond, List, [], ◌∷◌, ◌++◌, length, Option, option_map}
use Rattle.std.specs.List.{slice_get}
use Rattle.ptc_statement.specs.declared.statements.Statement.{Statement}
use Rattle.ptc_statement.specs.declared.statements.Statement.TheVariants.{Insert, Replace, Delete, Update, LockRead, Check, SetMaster, ClearChecks}
use Rattle.ptc_statement.specs.declared.scripts.Script.{Script}
use Rattle.ptc_statement.specs.declared.scripts.ScriptLine.{ScriptLine}
use Rattle.ptc_statement.specs.declared.scripts.ScriptStep.{ScriptStep}
use Rattle.ptc_statement.specs.declared.scripts.ScriptStep.TheVariants.{Begin, Commit, Rollback, Run}
use Rattle.statement_log.specs.declared.origins.Origin.TheVariants.{Session}
use Rattle.statement_log.specs.declared.entries.Entry.{Entry}
use Rattle.cluster_core.specs.Node.{NodeView, logged, row_on}
use Rattle.cluster_core.specs.declared.refusals.Refusal.{Refusal}

-- a session: its script, how many of its lines are done, and those that were refused as duplicates
pub record SessionView : Type 0 where
  pub script : List ScriptLine
  pub next : ℕ
  pub refused : List Refusal

abbrev pub unstarted : Script → SessionView
unstarted script = record { script = script.lines; next = 0; refused = [] }

-- an INSERT whose key is there
abbrev pub is_duplicate : NodeView → Statement → Bool
is_duplicate node (Insert table row) = is_some (row_on node table row)
is_duplicate node (Replace table row) = false
is_duplicate node (Delete table where_true) = false
is_duplicate node (Update table sets where_true) = false
is_duplicate node (LockRead table mode span where_true) = false
is_duplicate node (Check table chunk span kind) = false
is_duplicate node (SetMaster table chunk kind master) = false
is_duplicate node (ClearChecks table) = false

-- an entry of a session: one statement is a transaction of its own
abbrev pub by_session : ℕ → Statement → Entry
by_session session statement = record { origin = Session session; statements = statement ∷ [] }

-- behind the next line
abbrev pub advanced : SessionView → SessionView
advanced view = record view { next = view.next + 1 }

-- behind the next line, which was refused when the source's log had this many entries
abbrev pub with_refusal : ℕ → ScriptLine → SessionView → SessionView
with_refusal position line view = record view { next = view.next + 1; refused = view.refused ++ record { line = line.line; position = position } ∷ [] }

-- a line done: its statement logged, or refused as a duplicate
abbrev pub step_left : ℕ → SessionView → ScriptLine → ScriptStep → NodeView → SessionView × NodeView
step_left session view line Begin source = (advanced view, source)
step_left session view line Commit source = (advanced view, source)
step_left session view line Rollback source = (advanced view, source)
step_left session view line (Run statement) source =
    cond (is_duplicate source statement)
    (with_refusal (length source.history) line view, source)
    (advanced view, logged source (by_session session statement))

-- the next line of a script, done whole; none at the script's end
abbrev pub line_left : ℕ → SessionView → NodeView → Option (SessionView × NodeView)
line_left session view source = option_map (λ (line : ScriptLine). step_left session view line line.step source) (slice_get view.script view.next)
