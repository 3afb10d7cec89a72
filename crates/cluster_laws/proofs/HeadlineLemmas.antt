-- What holds after each turn of a run, and so of the report at its end.
use Rattle.std.proofs.Common.{◌≡◌, ◌≢◌, ◌⊎◌, ℕ, zero, suc, ◌+◌, ◌-◌, ◌<◌, ◌≤◌, ◌==◌, Bool, true, false, cond, List, [], ◌∷◌, ◌++◌, length, map, Option, None, Some, option_map, IfSome, refl, ap, ◌∙◌, sym, subst, arith}
use Rattle.std.specs.Prelude.{slice_set, unwrap_or, option_and_then}
use Rattle.std.specs.List.{AllByRecursion, slice_get}
use Rattle.std.proofs.Math.ListN.{length-set}
use Rattle.std.proofs.lemmas.Option.{slice_get_within}
use Rattle.row_types.specs.KeyRows.{Rows, TableRows}
use Rattle.row_types.specs.declared.digests.Digest.{Digest}
use Rattle.row_types.specs.declared.digests.DigestKind.TheVariants.{Md5}
use Rattle.row_types.specs.declared.table_schema.Schema.{Schema}
use Rattle.ptc_statement.specs.declared.statements.Statement.{Statement}
use Rattle.ptc_statement.specs.declared.statements.Statement.TheVariants.{Insert, Replace, Delete, Update, LockRead, Check as CheckStatement, SetMaster, ClearChecks}
use Rattle.ptc_statement.specs.declared.scripts.Script.{Script}
use Rattle.ptc_statement.specs.declared.scripts.ScriptLine.{ScriptLine}
use Rattle.ptc_statement.specs.declared.scripts.ScriptStep.{ScriptStep}
use Rattle.ptc_statement.specs.declared.scripts.ScriptStep.TheVariants.{Begin, Commit, Rollback, Run}
use Rattle.ptc_statement.specs.Fits.{IsClients, IsTools}
use Rattle.row_types.specs.Fit.{AreTables}
use Rattle.statement_log.specs.declared.entries.Entry.{Entry}
use Rattle.checksum_table.specs.declared.check_rows.CheckRow.{CheckRow}
use Rattle.checksum_table.specs.declared.check_rows.CheckEntry.{CheckEntry}
use Rattle.checksum_table.specs.declared.check_rows.Verdict.TheVariants.{Pending}
use Rattle.checksum_table.specs.Checks.{check_at}
use Rattle.history.specs.Replay.{Replayed, checks_after, fold, applied_of, applying, chunk_rows, source_at, replica_at, Follows}
use Rattle.history.specs.Headline.{IsTrueMaster, MastersAreTrue, IsWrittenBy, EachIsWritten, Compares, IsVerdict}
use Rattle.history.proofs.ReplayLemmas.{fold_more, masters_more, follows_more, follows_longer_log, follows_within, clients_keep_checks}
use Rattle.history.proofs.VerdictLemmas.{each_verdict}
use Rattle.cluster_core.specs.Node.{NodeView, replayed_of, logged}
use Rattle.cluster_core.specs.Sessions.{SessionView, unstarted, is_duplicate, by_session, with_refusal}
use Rattle.cluster_core.specs.World.{WorldView, fresh, begun, session_turn, by_tool, whole_table, tool_logged, published, next_phase, tool_turn_in, next_applied, worker_turn, turn, sessions_from, workers_from, order, round, rounds, IsStill, EndsIn, move, behind_item, step, played}
use Rattle.report_text.specs.declared.summaries.VerdictLine.{VerdictLine}
use Rattle.cluster_core.specs.Summary.{verdict_line, all_chunks, replica_verdicts, verdicts_from, verdicts_of}
use Rattle.cluster_core.specs.Turns.{IsNumbered, ItemIsNumbered}
use Rattle.cluster_laws.specs.OwnCalls.{logged_by}
use Rattle.cluster_laws.specs.Duplicates.{EachRefusedTruly, LoggedTruly}
use Rattle.cluster_laws.specs.Headline.{log_of, LineHolds, IsOfWholeTable, HasLine, IsApplying, AppliedAll, IsWriter, RunHolds}
use Rattle.workload_file.specs.Workload.{StepFits, IsWorkload}
use Rattle.workload_file.specs.declared.workload.Workload.{Workload}
use Rattle.workload_file.specs.declared.actors.Actor.{Actor}
use Rattle.workload_file.specs.declared.actors.Actor.TheVariants.{Session, Tool, Worker}
use Rattle.workload_file.specs.declared.schedule.Item.{Item}
use Rattle.workload_file.specs.declared.schedule.Item.TheVariants.{Turn}
use Rattle.cluster_core.specs.declared.actors.ToolPhase.{ToolPhase}
use Rattle.cluster_core.specs.declared.actors.ToolPhase.TheVariants.{Clear, Check, Master, Finished}
use Rattle.cluster_core.proofs.EachLemmas.{each_more, each_append, each_first, each_rest, each_at, each_set, each_map, each_always, map_set_same, map_back, map_after, slice_get_none, LastFrom, last_all, last_first, last_more}
use Rattle.cluster_core.proofs.KeptLemmas.{schedule_numbered}
use Rattle.cluster_laws.proofs.MasterLemmas.{IsMastered, SameMasters, IsThere, same_masters, mastered_there, each_placed, mastered_known}
use Rattle.cluster_laws.proofs.RefusalLemmas.{refused_kept, refused_begun, refused_at, refused_set, refused_done, refused_more, truly_more, tools_entry, truly_alone}
use Rattle.cluster_laws.proofs.EqualLemmas.{Ended, LinesHold, each_equal_line, same_is_equal}
use Rattle.cluster_core.proofs.MoveLemmas.{did_line, line_logged, line_refused, line_done, line_done_either}
use Rattle.cluster_laws.proofs.SessionLemmas.{EachSession, SessionHolds, next_line, logged_by_own, logged_by_other, own_number, other_number, session_logged, session_refused, sessions_begun, sessions_at, sessions_kept, sessions_set, sessions_ended}
use Rattle.cluster_laws.proofs.TableLemmas.{IsWhole, RowsHold, no_rows, cleared_rows, checked_rows, published_rows, told_there, replica_has_line}

-- a replica follows the log, over the source's schemas, and nobody else writes it
pub record ReplicaHolds (schemas : List Schema) (log : List Entry) (node : NodeView) : Type 0 where
  pub schemas_are : node.schemas ≡ schemas
  pub follows : Follows log node.history
  pub alone : AllByRecursion (λ (item : Entry). IsApplying item.origin) node.history

-- each entry of a log is a session's or the tool's
abbrev pub EachWriter : ℕ → List Entry → Type 0
EachWriter sessions log = AllByRecursion (λ (entry : Entry). IsWriter sessions entry.origin) log

-- what holds of the world after each turn
pub record Holds (workload : Workload) (w : WorldView) : Type 0 where
  pub schemas : w.source.schemas ≡ workload.schemas.tables
  pub source_start : w.source.start ≡ workload.source
  pub replica_starts : map (λ (node : NodeView). node.start) w.replicas ≡ workload.copies
  pub replicas : AllByRecursion (ReplicaHolds workload.schemas.tables w.source.history) w.replicas
  pub masters : MastersAreTrue w.source.schemas (log_of w.source)
  pub rows : RowsHold w.phase (length w.source.schemas) (replayed_of w.source).checks
  pub scripts : map (λ (view : SessionView). view.script) w.sessions ≡ map (λ (script : Script). script.lines) workload.sessions
  pub sessions : EachSession workload.schemas.tables w.source.history 1 w.sessions
  pub writers : EachWriter (length w.sessions) w.source.history
  pub written : EachIsWritten w.source.history
  pub refused_lines : EachRefusedTruly w.source 1 w.sessions
  pub logged_truly : LoggedTruly w.source

pub begun_holds : (workload : Workload) → IsWorkload workload → Holds workload (begun workload)
begun_holds workload is = record {
  schemas = refl;
  source_start = refl;
  replica_starts = map_back (fresh workload.schemas.tables) (λ (node : NodeView). node.start) workload.copies (λ start. refl);
  replicas = each_map (fresh workload.schemas.tables) (ReplicaHolds workload.schemas.tables []) workload.copies
      (each_always (λ (start : TableRows). ReplicaHolds workload.schemas.tables [] (fresh workload.schemas.tables start)) workload.copies
      (λ start. record { schemas_are = refl; follows = tt; alone = tt }));
  masters = tt;
  rows = no_rows (length workload.schemas.tables);
  scripts = map_after unstarted (λ (view : SessionView). view.script) (λ (script : Script). script.lines) workload.sessions (λ script. refl);
  sessions = sessions_begun workload.schemas.tables 1 workload.sessions is.scripts;
  writers = tt;
  written = tt;
  refused_lines = refused_begun (fresh workload.schemas.tables workload.source) 1 workload.sessions;
  logged_truly = λ before session earlier statement later found. absurd (cc);
}

-- the replicas follow a log that grew
replicas_kept : (schemas : List Schema) (log : List Entry) (entry : Entry) (nodes : List NodeView)
    → AllByRecursion (ReplicaHolds schemas log) nodes
    → AllByRecursion (ReplicaHolds schemas (log ++ entry ∷ [])) nodes
replicas_kept schemas log entry nodes before =
    each_more (ReplicaHolds schemas log) (ReplicaHolds schemas (log ++ entry ∷ [])) nodes
    (λ node holds. record {
      schemas_are = holds.schemas_are;
      follows = follows_longer_log log (entry ∷ []) node.history holds.follows;
      alone = holds.alone;
    })
    before

writers_more : (sessions : ℕ) (log : List Entry) (entry : Entry)
    → EachWriter sessions log → IsWriter sessions entry.origin → EachWriter sessions (log ++ entry ∷ [])
writers_more sessions log entry before one =
    each_append (λ (e : Entry). IsWriter sessions e.origin) log (entry ∷ []) before (one, tt)

written_more : (log : List Entry) (entry : Entry)
    → EachIsWritten log → IsWrittenBy entry.origin entry.statements → EachIsWritten (log ++ entry ∷ [])
written_more log entry before one =
    each_append (λ (e : Entry). IsWrittenBy e.origin e.statements) log (entry ∷ []) before (one, tt)

-- the check rows of a node after the tool's statement
logged_checks : (node : NodeView) (statement : Statement)
    → (replayed_of (logged node (by_tool statement))).checks ≡ checks_after node.schemas (length node.history + 1) statement (replayed_of node)
logged_checks node statement = ap (λ (x : Replayed). x.checks) (fold_more node.schemas node.start node.history (by_tool statement))

-- the tool logged a statement
logged_holds : (workload : Workload) (w : WorldView) (statement : Statement) (next : ToolPhase)
    → Holds workload w
    → IsTools statement
    → IsTrueMaster statement (replayed_of w.source)
    → RowsHold next (length w.source.schemas) (checks_after w.source.schemas (length w.source.history + 1) statement (replayed_of w.source))
    → Holds workload (tool_logged statement next w)
logged_holds workload w statement next before tools true_one rows = record {
  schemas = before.schemas;
  source_start = before.source_start;
  replica_starts = before.replica_starts;
  replicas = replicas_kept workload.schemas.tables w.source.history (by_tool statement) w.replicas before.replicas;
  masters = masters_more w.source.schemas w.source.start w.source.history (by_tool statement) before.masters (true_one, tt);
  rows = subst (RowsHold next (length w.source.schemas)) (sym (logged_checks w.source statement)) rows;
  scripts = before.scripts;
  sessions = sessions_kept workload.schemas.tables w.source.history (w.source.history ++ by_tool statement ∷ []) 1 w.sessions
      (λ session least. logged_by_other session w.source.history (by_tool statement) refl) before.sessions;
  writers = writers_more (length w.sessions) w.source.history (by_tool statement) before.writers tt;
  written = written_more w.source.history (by_tool statement) before.written (record { statement = statement; only = refl; tools = tools });
  refused_lines = refused_kept w.source (by_tool statement) 1 w.sessions before.refused_lines;
  logged_truly = truly_more w.source (by_tool statement) (λ session earlier one later is. absurd (tools_entry statement session (earlier ++ one ∷ later) is)) before.logged_truly;
}

published_holds : (workload : Workload) (table : ℕ) (row : Option CheckRow) (w v : WorldView)
    → check_at table 1 (replayed_of w.source).checks ≡ row
    → RowsHold (Master table) (length w.source.schemas) (replayed_of w.source).checks
    → Holds workload w
    → published table row w ≡ Some v
    → Holds workload v
published_holds workload table None w v stands rows before is = absurd (cc)
published_holds workload table (Some row) w v stands rows before is =
    let same : tool_logged (SetMaster table 1 row.kind row.this) (next_phase table w) w ≡ v = cc in
    subst (Holds workload) same
    (logged_holds workload w (SetMaster table 1 row.kind row.this) (next_phase table w) before (λ no. no) (row, stands, refl, refl)
    (published_rows table (length w.source.schemas) row.this (replayed_of w.source).checks rows))

tool_holds : (workload : Workload) (phase : ToolPhase) (w v : WorldView)
    → RowsHold phase (length w.source.schemas) (replayed_of w.source).checks
    → Holds workload w
    → tool_turn_in phase w ≡ Some v
    → Holds workload v
tool_holds workload (Clear table) w v rows before is =
    let same : tool_logged (ClearChecks table) (Check table) w ≡ v = cc in
    subst (Holds workload) same
    (logged_holds workload w (ClearChecks table) (Check table) before (λ no. no) tt (cleared_rows table (length w.source.schemas) (replayed_of w.source).checks rows))
tool_holds workload (Check table) w v rows before is =
    let same : tool_logged (CheckStatement table 1 whole_table Md5) (Master table) w ≡ v = cc in
    subst (Holds workload) same
    (logged_holds workload w (CheckStatement table 1 whole_table Md5) (Master table) before (λ no. no) tt (checked_rows table (length w.source.schemas) _ (replayed_of w.source).checks refl rows))
tool_holds workload (Master table) w v rows before is =
    published_holds workload table (check_at table 1 (replayed_of w.source).checks) w v refl rows before is
tool_holds workload Finished w v rows before is = absurd (cc)

-- a replica after it applied the next entry
pub record Applies (schemas : List Schema) (log : List Entry) (node new : NodeView) : Type 0 where
  pub holds : ReplicaHolds schemas log new
  pub start : new.start ≡ node.start

applied_holds_at : (schemas : List Schema) (log : List Entry) (node new : NodeView) (next : Option Entry)
    → slice_get log (applied_of node.history) ≡ next
    → ReplicaHolds schemas log node
    → option_and_then (λ entry. Some (logged node (applying (applied_of node.history + 1) entry))) next ≡ Some new
    → Applies schemas log node new
applied_holds_at schemas log node new None found before is = absurd (cc)
applied_holds_at schemas log node new (Some entry) found before is =
    let same : logged node (applying (applied_of node.history + 1) entry) ≡ new = cc in
    subst (Applies schemas log node) same (record {
      holds = record {
        schemas_are = before.schemas_are;
        follows = follows_more log node.history entry before.follows found;
        alone = each_append (λ (item : Entry). IsApplying item.origin) node.history (applying (applied_of node.history + 1) entry ∷ []) before.alone (tt, tt);
      };
      start = refl;
    })

applied_holds : (schemas : List Schema) (log : List Entry) (node new : NodeView)
    → ReplicaHolds schemas log node → next_applied log node ≡ Some new → Applies schemas log node new
applied_holds schemas log node new before is = applied_holds_at schemas log node new (slice_get log (applied_of node.history)) refl before is

moved_holds : (workload : Workload) (w v : WorldView) (place : ℕ) (node : NodeView) (next : Option NodeView)
    → slice_get w.replicas place ≡ Some node
    → next_applied w.source.history node ≡ next
    → Holds workload w
    → option_and_then (λ (moved : NodeView). Some (record w { replicas = slice_set w.replicas place moved })) next ≡ Some v
    → Holds workload v
moved_holds workload w v place node None found applied before is = absurd (cc)
moved_holds workload w v place node (Some new) found applied before is =
    let same : record w { replicas = slice_set w.replicas place new } ≡ v = cc in
    let now = applied_holds workload.schemas.tables w.source.history node new
    (each_at (ReplicaHolds workload.schemas.tables w.source.history) w.replicas place node before.replicas found) applied in
    subst (Holds workload) same (record {
      schemas = before.schemas;
      source_start = before.source_start;
      replica_starts = map_set_same (λ (n : NodeView). n.start) w.replicas place node new found now.start ∙ before.replica_starts;
      replicas = each_set (ReplicaHolds workload.schemas.tables w.source.history) w.replicas place new before.replicas now.holds;
      masters = before.masters;
      rows = before.rows;
      scripts = before.scripts;
      sessions = before.sessions;
      writers = before.writers;
      written = before.written;
      refused_lines = before.refused_lines;
      logged_truly = before.logged_truly;
    })

worker_holds_at : (workload : Workload) (w v : WorldView) (place : ℕ) (node : Option NodeView)
    → slice_get w.replicas place ≡ node
    → Holds workload w
    → option_and_then (λ n. option_and_then (λ (moved : NodeView). Some (record w { replicas = slice_set w.replicas place moved })) (next_applied w.source.history n)) node ≡ Some v
    → Holds workload v
worker_holds_at workload w v place None found before is = absurd (cc)
worker_holds_at workload w v place (Some node) found before is =
    moved_holds workload w v place node (next_applied w.source.history node) found refl before is

worker_holds : (workload : Workload) (replica : ℕ) (w v : WorldView) → Holds workload w → worker_turn replica w ≡ Some v → Holds workload v
worker_holds workload replica w v before is =
    worker_holds_at workload w v (replica - 1) (slice_get w.replicas (replica - 1)) refl before is

seat_holds : (workload : Workload) (first : Bool) (replica : ℕ) (w v : WorldView) → Holds workload w → cond first (worker_turn replica w) None ≡ Some v → Holds workload v
seat_holds workload true replica w v before is = worker_holds workload replica w v before is
seat_holds workload false replica w v before is = absurd (cc)

client_master : (statement : Statement) (here : Replayed) → IsClients statement → IsTrueMaster statement here
client_master (Insert table row) here client = tt
client_master (Replace table row) here client = tt
client_master (Delete table where_true) here client = tt
client_master (Update table sets where_true) here client = tt
client_master (LockRead table mode span where_true) here client = tt
client_master (CheckStatement table chunk span kind) here client = absurd client
client_master (SetMaster table chunk kind master) here client = absurd client
client_master (ClearChecks table) here client = absurd client

session_checks : (node : NodeView) (session : ℕ) (statement : Statement) → IsClients statement
    → (replayed_of (logged node (by_session session statement))).checks ≡ (replayed_of node).checks
session_checks node session statement client =
    ap (λ (x : Replayed). x.checks) (fold_more node.schemas node.start node.history (by_session session statement))
    ∙ clients_keep_checks node.schemas (length node.history + 1) (statement ∷ []) (replayed_of node) (client, tt)

-- a session logged its next line
line_logged_holds : (workload : Workload) (w : WorldView) (session : ℕ) (view : SessionView) (line : ScriptLine) (statement : Statement)
    → 1 ≤ session
    → slice_get w.sessions (session - 1) ≡ Some view
    → slice_get view.script view.next ≡ Some line
    → line.step ≡ Run statement
    → Holds workload w
    → is_duplicate w.source statement ≡ false
    → Holds workload (line_logged session view statement w)
line_logged_holds workload w session view line statement from_one found at step before new =
    let schemas : List Schema = workload.schemas.tables in
    let log : List Entry = w.source.history in
    let entry : Entry = by_session session statement in
    let done : SessionView = record view { next = view.next + 1 } in
    let holds : SessionHolds schemas (logged_by session log) view = sessions_at schemas log 1 (session - 1) session w.sessions view (omega arith) found before.sessions in
    let fits : StepFits schemas (Run statement) = subst (StepFits schemas) step (next_line schemas (logged_by session log) view line holds at).fits in
    let own : logged_by session log ++ (statement ∷ []) ∷ [] ≡ logged_by session (log ++ entry ∷ []) = sym (logged_by_own session log entry (own_number session)) in
    let within : session - 1 < length w.sessions = slice_get_within w.sessions (session - 1) view found in
    let many : length w.sessions ≡ length (slice_set w.sessions (session - 1) done) = sym (length-set w.sessions (session - 1) done) in
    let refused : EachRefusedTruly (logged w.source entry) 1 w.sessions = refused_kept w.source entry 1 w.sessions before.refused_lines in
    let writers : EachWriter (length w.sessions) (log ++ entry ∷ []) = writers_more (length w.sessions) log entry before.writers (from_one, omega (arith, within, from_one)) in
    record {
      schemas = before.schemas;
      source_start = before.source_start;
      replica_starts = before.replica_starts;
      replicas = replicas_kept schemas log entry w.replicas before.replicas;
      masters = masters_more w.source.schemas w.source.start log entry before.masters (client_master statement (replayed_of w.source) fits.0, tt);
      rows = subst (RowsHold w.phase (length w.source.schemas)) (sym (session_checks w.source session statement fits.0)) before.rows;
      scripts = map_set_same (λ (v : SessionView). v.script) w.sessions (session - 1) view done found refl ∙ before.scripts;
      sessions = sessions_set schemas log (log ++ entry ∷ []) 1 (session - 1) session w.sessions view done (omega arith) found
          (λ other not. logged_by_other other log entry (other_number other session not))
          (subst (λ (entries : List (List Statement)). SessionHolds schemas entries done) own
          (session_logged schemas (logged_by session log) view line statement holds at step))
          before.sessions;
      writers = subst (λ n. EachWriter n (log ++ entry ∷ [])) many writers;
      written = written_more log entry before.written (fits.0, tt);
      refused_lines = refused_set (logged w.source entry) 1 (session - 1) session w.sessions done (omega arith)
          (refused_done (logged w.source entry) session view (refused_at (logged w.source entry) 1 (session - 1) session w.sessions view (omega arith) found refused))
          refused;
      logged_truly = truly_more w.source entry (truly_alone w.source session statement new) before.logged_truly;
    }

-- or it was refused
line_refused_holds : (workload : Workload) (w : WorldView) (session : ℕ) (view : SessionView) (line : ScriptLine) (statement : Statement)
    → 1 ≤ session
    → slice_get w.sessions (session - 1) ≡ Some view
    → slice_get view.script view.next ≡ Some line
    → line.step ≡ Run statement
    → Holds workload w
    → is_duplicate w.source statement ≡ true
    → Holds workload (line_refused session view line w)
line_refused_holds workload w session view line statement from_one found at step before duplicate =
    let schemas : List Schema = workload.schemas.tables in
    let log : List Entry = w.source.history in
    let done : SessionView = with_refusal (length log) line view in
    let holds : SessionHolds schemas (logged_by session log) view = sessions_at schemas log 1 (session - 1) session w.sessions view (omega arith) found before.sessions in
    let many : length w.sessions ≡ length (slice_set w.sessions (session - 1) done) = sym (length-set w.sessions (session - 1) done) in
    record {
      schemas = before.schemas;
      source_start = before.source_start;
      replica_starts = before.replica_starts;
      replicas = before.replicas;
      masters = before.masters;
      rows = before.rows;
      scripts = map_set_same (λ (v : SessionView). v.script) w.sessions (session - 1) view done found refl ∙ before.scripts;
      sessions = sessions_set schemas log log 1 (session - 1) session w.sessions view done (omega arith) found
          (λ other not. refl)
          (session_refused schemas (logged_by session log) view line (record { line = line.line; position = length log }) holds at refl)
          before.sessions;
      writers = subst (λ n. EachWriter n log) many before.writers;
      written = before.written;
      refused_lines = refused_set w.source 1 (session - 1) session w.sessions done (omega arith)
          (refused_more schemas w.source session view line statement holds at step duplicate
          (refused_at w.source 1 (session - 1) session w.sessions view (omega arith) found before.refused_lines))
          before.refused_lines;
      logged_truly = before.logged_truly;
    }

-- the next line of a session fits
step_fits : (workload : Workload) (w : WorldView) (session : ℕ) (view : SessionView) (line : ScriptLine) (step : ScriptStep)
    → 1 ≤ session
    → slice_get w.sessions (session - 1) ≡ Some view
    → slice_get view.script view.next ≡ Some line
    → line.step ≡ step
    → Holds workload w
    → StepFits workload.schemas.tables step
step_fits workload w session view line step from_one found at is before =
    let holds : SessionHolds workload.schemas.tables (logged_by session w.source.history) view =
    sessions_at workload.schemas.tables w.source.history 1 (session - 1) session w.sessions view (omega arith) found before.sessions in
    subst (StepFits workload.schemas.tables) is (next_line workload.schemas.tables (logged_by session w.source.history) view line holds at).fits

line_holds : (workload : Workload) (w : WorldView) (session : ℕ) (view : SessionView) (line : ScriptLine) (step : ScriptStep)
    → 1 ≤ session
    → slice_get w.sessions (session - 1) ≡ Some view
    → slice_get view.script view.next ≡ Some line
    → line.step ≡ step
    → Holds workload w
    → Holds workload (line_done session view line step w)
line_holds workload w session view line Begin from_one found at step before = absurd (step_fits workload w session view line Begin from_one found at step before)
line_holds workload w session view line Commit from_one found at step before = absurd (step_fits workload w session view line Commit from_one found at step before)
line_holds workload w session view line Rollback from_one found at step before = absurd (step_fits workload w session view line Rollback from_one found at step before)
line_holds workload w session view line (Run statement) from_one found at step before =
    line_done_either (Holds workload) session view line statement w
    (line_refused_holds workload w session view line statement from_one found at step before)
    (line_logged_holds workload w session view line statement from_one found at step before)

session_holds : (workload : Workload) (session : ℕ) (w v : WorldView) → 1 ≤ session → Holds workload w → session_turn session w ≡ Some v → Holds workload v
session_holds workload session w v from_one before is =
    let did = did_line session w v is in
    subst (Holds workload) did.done (line_holds workload w session did.view did.line did.line.step from_one did.found did.at refl before)

pub turn_holds : (workload : Workload) (actor : Actor) (w v : WorldView) → IsNumbered actor → Holds workload w → turn actor w ≡ Some v → Holds workload v
turn_holds workload (Session session) w v numbered before is = session_holds workload session w v numbered before is
turn_holds workload Tool w v numbered before is = tool_holds workload w.phase w v before.rows before is
turn_holds workload (Worker replica worker) w v numbered before is = seat_holds workload (worker == 1) replica w v before is

move_holds : (workload : Workload) (item : Item) (w v : WorldView) → ItemIsNumbered item → Holds workload w → move item w ≡ Some v → Holds workload v
move_holds workload (Turn actor) w v numbered before is = turn_holds workload actor w v numbered before is

next_holds : (workload : Workload) (item : Item) (w : WorldView) (next : Option WorldView)
    → ItemIsNumbered item → move item w ≡ next → Holds workload w → Holds workload (unwrap_or next w)
next_holds workload item w None numbered is before = before
next_holds workload item w (Some v) numbered is before = move_holds workload item w v numbered before is

-- nothing of it speaks of the schedule
behind_holds : (workload : Workload) (w : WorldView) → Holds workload w → Holds workload (behind_item w)
behind_holds workload w h = record {
  schemas = h.schemas;
  source_start = h.source_start;
  replica_starts = h.replica_starts;
  replicas = h.replicas;
  masters = h.masters;
  rows = h.rows;
  scripts = h.scripts;
  sessions = h.sessions;
  writers = h.writers;
  written = h.written;
  refused_lines = h.refused_lines;
  logged_truly = h.logged_truly;
}

-- one item: the step of the claim over all schedules
pub step_holds : (workload : Workload) (item : Item) (w : WorldView) → ItemIsNumbered item → Holds workload w → Holds workload (step item w)
step_holds workload item w numbered before =
    behind_holds workload (unwrap_or (move item w) w) (next_holds workload item w (move item w) numbered refl before)

-- and all lists of items
pub played_holds : (workload : Workload) (items : List Item) (w : WorldView) → AllByRecursion ItemIsNumbered items → Holds workload w → Holds workload (played items w)
played_holds workload [] w numbered before = before
played_holds workload (item ∷ items) w numbered before =
    played_holds workload items (step item w) numbered.1 (step_holds workload item w numbered.0 before)

sessions_numbered : (number : ℕ) (views : List SessionView) → 1 ≤ number → AllByRecursion ItemIsNumbered (sessions_from number views)
sessions_numbered number [] from_one = tt
sessions_numbered number (view ∷ views) from_one = (from_one, sessions_numbered (number + 1) views (omega arith))

workers_numbered : (number : ℕ) (nodes : List NodeView) → 1 ≤ number → AllByRecursion ItemIsNumbered (workers_from number nodes)
workers_numbered number [] from_one = tt
workers_numbered number (node ∷ nodes) from_one = (from_one, workers_numbered (number + 1) nodes (omega arith))

-- the actors of a round are numbered from 1
pub order_numbered : (w : WorldView) → AllByRecursion ItemIsNumbered (order w)
order_numbered w =
    each_append ItemIsNumbered (sessions_from 1 w.sessions) (Turn Tool ∷ workers_from 1 w.replicas)
    (sessions_numbered 1 w.sessions (omega arith)) (tt, workers_numbered 1 w.replicas (omega arith))

rounds_hold : (workload : Workload) (count : ℕ) (w : WorldView) → Holds workload w → Holds workload (rounds count w)
rounds_hold workload zero w before = before
rounds_hold workload (suc count) w before = rounds_hold workload count (round w) (played_holds workload (order w) w (order_numbered w) before)

-- where the tool can't move, it is through all tables
pub record ToolEnded (phase : ToolPhase) (tables : ℕ) (checks : List CheckEntry) : Type 0 where
  pub finished : phase ≡ Finished
  pub rows : RowsHold Finished tables checks

published_still : (table : ℕ) (row : Option CheckRow) (w : WorldView) → IsThere row → published table row w ≡ None → ⊥
published_still table None w there is = (let no : None ≡ Some there.0 = there.1 in cc)
published_still table (Some row) w there is = cc

tool_ended : (phase : ToolPhase) (w : WorldView)
    → RowsHold phase (length w.source.schemas) (replayed_of w.source).checks
    → tool_turn_in phase w ≡ None
    → ToolEnded phase (length w.source.schemas) (replayed_of w.source).checks
tool_ended (Clear table) w rows is = absurd (cc)
tool_ended (Check table) w rows is = absurd (cc)
tool_ended (Master table) w rows is = absurd (published_still table (check_at table 1 (replayed_of w.source).checks) w rows.mastered.0 is)
tool_ended Finished w rows is = record { finished = refl; rows = rows }

-- where a replica's worker can't move, it applied the whole log
next_still : (log : List Entry) (node : NodeView) (next : Option Entry)
    → option_and_then (λ entry. Some (logged node (applying (applied_of node.history + 1) entry))) next ≡ None → next ≡ None
next_still log node None is = refl
next_still log node (Some entry) is = absurd (cc)

moved_still : (w : WorldView) (place : ℕ) (next : Option NodeView)
    → option_and_then (λ (moved : NodeView). Some (record w { replicas = slice_set w.replicas place moved })) next ≡ None → next ≡ None
moved_still w place None is = refl
moved_still w place (Some new) is = absurd (cc)

replica_ended : (w : WorldView) (schemas : List Schema) (replica : ℕ) (node : NodeView)
    → slice_get w.replicas (replica - 1) ≡ Some node
    → ReplicaHolds schemas w.source.history node
    → worker_turn replica w ≡ None
    → AppliedAll w.source.history node
replica_ended w schemas replica node found holds is =
    let at : option_and_then (λ (moved : NodeView). Some (record w { replicas = slice_set w.replicas (replica - 1) moved })) (next_applied w.source.history node) ≡ None =
    ap (option_and_then (λ n. option_and_then (λ (moved : NodeView). Some (record w { replicas = slice_set w.replicas (replica - 1) moved })) (next_applied w.source.history n))) (sym found) ∙ is in
    let next : next_applied w.source.history node ≡ None = moved_still w (replica - 1) (next_applied w.source.history node) at in
    let past : slice_get w.source.history (applied_of node.history) ≡ None = next_still w.source.history node (slice_get w.source.history (applied_of node.history)) next in
    let least : length w.source.history ≤ applied_of node.history = slice_get_none w.source.history (applied_of node.history) past in
    let most : applied_of node.history ≤ length w.source.history = follows_within w.source.history node.history holds.follows in
    record { follows = holds.follows; all = omega (arith, least, most); alone = holds.alone }

replicas_ended : (w : WorldView) (schemas : List Schema) (number : ℕ) (nodes : List NodeView)
    → LastFrom w.replicas number nodes
    → AllByRecursion (ReplicaHolds schemas w.source.history) nodes
    → AllByRecursion (λ item. move item w ≡ None) (workers_from number nodes)
    → AllByRecursion (Ended schemas w.source.history) nodes
replicas_ended w schemas number [] last holds still = tt
replicas_ended w schemas number (node ∷ nodes) last holds still = (
  record {
    schemas_are = holds.0.schemas_are;
    applied = replica_ended w schemas number node (last_first w.replicas number node nodes last) holds.0 still.0;
  },
  replicas_ended w schemas (number + 1) nodes (last_more w.replicas number node nodes last) holds.1 still.1,
)

-- a line that is known, and compares what it says that it does
pub record LineIsKnown (w : WorldView) (line : VerdictLine) : Type 0 where
  pub known : line.verdict ≢ Pending
  pub holds : LineHolds w line
  pub whole : IsOfWholeTable line

counted : (master : Option Digest) (count : ℕ) → (m : Digest) × (master ≡ Some m) → IfSome master (λ m. m.count ≡ count) → option_map (λ (m : Digest). m.count) master ≡ Some count
counted None count known is = absurd (let no : None ≡ Some known.0 = known.1 in cc)
counted (Some m) count known is = ap Some is

-- a mastered row of a replica, as a line
row_line_known : (w : WorldView) (number : ℕ) (node : NodeView) (entry : CheckEntry) (row : CheckRow)
    → 1 ≤ number
    → slice_get w.replicas (number - 1) ≡ Some node
    → node.schemas ≡ w.source.schemas
    → IsMastered row
    → IsWhole entry.chunk row
    → IsVerdict w.source.schemas (log_of w.source) (log_of node) entry.table entry.chunk row
    → LineIsKnown w (verdict_line number entry (Some row))
row_line_known w number node entry row from_one found same mastered whole is =
    let source_rows : Rows = chunk_rows w.source.schemas (source_at w.source.schemas (log_of w.source) row.position).tables entry.table row.span in
    let compares : Compares row source_rows (chunk_rows node.schemas (replica_at node.schemas (log_of node) row.position).tables entry.table row.span) =
    subst (λ (s : List Schema). Compares row source_rows (chunk_rows s (replica_at s (log_of node) row.position).tables entry.table row.span)) (sym same) is.compares in
    record {
      known = mastered_known row mastered;
      holds = record {
        replica_from_one = from_one;
        node = node;
        found = found;
        kind = row.kind;
        from_one = is.from_one;
        in_log = is.in_log;
        checked = is.checked;
        compares = record {
          master_count = counted row.master (length source_rows) mastered compares.master_count;
          own_count = ap Some compares.own_count;
          differ = compares.differ;
          rows_differ = compares.rows_differ;
          rows_same = compares.rows_same;
        };
      };
      whole = record { only_chunk = whole.only_chunk; whole = whole.whole };
    }

-- what holds of the source at the end of a run
pub record SourceEnded (w : WorldView) : Type 0 where
  pub written : EachIsWritten w.source.history
  pub masters : MastersAreTrue w.source.schemas (log_of w.source)
  pub rows : RowsHold Finished (length w.source.schemas) (replayed_of w.source).checks

ended_same : (w : WorldView) (node : NodeView) → Ended w.source.schemas w.source.history node → SameMasters (replayed_of w.source).checks (replayed_of node).checks
ended_same w node ended =
    let one : SameMasters (replayed_of w.source).checks (fold w.source.schemas node.start node.history).checks =
    same_masters w.source.schemas w.source.start node.start w.source.history node.history ended.applied.follows ended.applied.all in
    subst (λ (s : List Schema). SameMasters (replayed_of w.source).checks (fold s node.start node.history).checks) (sym ended.schemas_are) one

-- a chunk of a replica at the end of a run
chunk_line_known : (w : WorldView) (number : ℕ) (node : NodeView) (entry : CheckEntry)
    → 1 ≤ number
    → slice_get w.replicas (number - 1) ≡ Some node
    → SourceEnded w
    → Ended w.source.schemas w.source.history node
    → IsThere (check_at entry.table entry.chunk (replayed_of node).checks) ⊎ IsThere (check_at entry.table entry.chunk (replayed_of w.source).checks)
    → LineIsKnown w (verdict_line number entry (check_at entry.table entry.chunk (replayed_of node).checks))
chunk_line_known w number node entry from_one found source ended there =
    let is = mastered_there
    (check_at entry.table entry.chunk (replayed_of w.source).checks)
    (check_at entry.table entry.chunk (replayed_of node).checks)
    (ended_same w node ended entry.table entry.chunk) (source.rows.mastered entry.table entry.chunk) there in
    let row : CheckRow = is.row in
    let stands : check_at entry.table entry.chunk (fold w.source.schemas node.start node.history).checks ≡ Some row =
    subst (λ (s : List Schema). check_at entry.table entry.chunk (fold s node.start node.history).checks ≡ Some row) ended.schemas_are is.here in
    let on_source : IsWhole entry.chunk is.source_row = source.rows.whole entry.table entry.chunk is.source_row is.on_source in
    subst (λ (o : Option CheckRow). LineIsKnown w (verdict_line number entry o)) (sym is.here)
    (row_line_known w number node entry row from_one found ended.schemas_are is.mastered
    (record { only_chunk = on_source.only_chunk; whole = sym is.same_span ∙ on_source.whole })
    (each_verdict w.source.schemas (log_of w.source) (log_of node) source.written source.masters ended.applied.follows entry.table entry.chunk row stands (mastered_known row is.mastered)))

node_lines_known : (w : WorldView) (number : ℕ) (node : NodeView)
    → 1 ≤ number
    → slice_get w.replicas (number - 1) ≡ Some node
    → SourceEnded w
    → Ended w.source.schemas w.source.history node
    → AllByRecursion (LineIsKnown w) (replica_verdicts number (replayed_of w.source).checks (replayed_of node).checks)
node_lines_known w number node from_one found ended_source ended =
    let own : List CheckEntry = (replayed_of node).checks in
    let source : List CheckEntry = (replayed_of w.source).checks in
    each_map (λ (entry : CheckEntry). verdict_line number entry (check_at entry.table entry.chunk own)) (LineIsKnown w) (all_chunks own source)
    (each_more
    (λ (entry : CheckEntry). IsThere (check_at entry.table entry.chunk own) ⊎ IsThere (check_at entry.table entry.chunk source))
    (λ (entry : CheckEntry). LineIsKnown w (verdict_line number entry (check_at entry.table entry.chunk own)))
    (all_chunks own source)
    (λ entry there. chunk_line_known w number node entry from_one found ended_source ended there)
    (each_placed own source))

lines_known : (w : WorldView) (number : ℕ) (nodes : List NodeView)
    → LastFrom w.replicas number nodes
    → SourceEnded w
    → AllByRecursion (Ended w.source.schemas w.source.history) nodes
    → AllByRecursion (LineIsKnown w) (verdicts_from number (replayed_of w.source).checks nodes)
lines_known w number [] last source ended = tt
lines_known w number (node ∷ nodes) last source ended =
    let from_one : 1 ≤ number = omega (arith, last.counted) in
    each_append (LineIsKnown w) (replica_verdicts number (replayed_of w.source).checks (replayed_of node).checks) (verdicts_from (number + 1) (replayed_of w.source).checks nodes)
    (node_lines_known w number node from_one (last_first w.replicas number node nodes last) source ended.0)
    (lines_known w (number + 1) nodes (last_more w.replicas number node nodes last) source ended.1)

-- no table of any replica is passed over
table_has_line : (w : WorldView) (replica table : ℕ)
    → SourceEnded w
    → AllByRecursion (Ended w.source.schemas w.source.history) w.replicas
    → 1 ≤ replica
    → replica ≤ length w.replicas
    → table < length w.source.schemas
    → HasLine (verdicts_of w) replica table
table_has_line w replica table source ended from_one most within =
    replica_has_line (replayed_of w.source).checks 1 (replica - 1) replica table w.replicas (omega arith) (omega arith)
    (each_more (Ended w.source.schemas w.source.history) (λ (node : NodeView). IsThere (check_at table 1 (replayed_of node).checks)) w.replicas
    (λ node one. told_there (check_at table 1 (replayed_of w.source).checks) (check_at table 1 (replayed_of node).checks) (ended_same w node one table 1) (source.rows.passed table within))
    ended)

-- each node starts with a table for each schema
tables_each : (schemas : List Schema) (tables : TableRows) → AreTables schemas tables → length tables ≡ length schemas
tables_each [] [] are = refl
tables_each [] (rows ∷ tables) are = absurd are
tables_each (schema ∷ schemas) [] are = absurd are
tables_each (schema ∷ schemas) (rows ∷ tables) are = ap suc (tables_each schemas tables are.1)

each_mapped : {A B : Type 0} (f : A → B) (P : B → Type 0) (xs : List A) → AllByRecursion P (map f xs) → AllByRecursion (λ x. P (f x)) xs
each_mapped f P [] each = tt
each_mapped f P (x ∷ xs) each = (each.0, each_mapped f P xs each.1)

-- and so does each replica
starts_each : (workload : Workload) (w : WorldView) → IsWorkload workload → Holds workload w
    → AllByRecursion (λ (node : NodeView). length node.start ≡ length workload.schemas.tables) w.replicas
starts_each workload w is holds =
    let copies : AllByRecursion (AreTables workload.schemas.tables) (map (λ (n : NodeView). n.start) w.replicas) =
    subst (AllByRecursion (AreTables workload.schemas.tables)) (sym holds.replica_starts) is.copies in
    each_more (λ (node : NodeView). AreTables workload.schemas.tables node.start) (λ (node : NodeView). length node.start ≡ length workload.schemas.tables) w.replicas
    (λ node are. tables_each workload.schemas.tables node.start are)
    (each_mapped (λ (n : NodeView). n.start) (AreTables workload.schemas.tables) w.replicas copies)

ended_holds : (workload : Workload) (w : WorldView) → IsWorkload workload → Holds workload w → IsStill w → RunHolds workload w
ended_holds workload w is holds still =
    let sessions_still : AllByRecursion (λ item. move item w ≡ None) (sessions_from 1 w.sessions) =
    each_first (λ item. move item w ≡ None) (sessions_from 1 w.sessions) (Turn Tool ∷ workers_from 1 w.replicas) still in
    let others_still : AllByRecursion (λ item. move item w ≡ None) (Turn Tool ∷ workers_from 1 w.replicas) =
    each_rest (λ item. move item w ≡ None) (sessions_from 1 w.sessions) (Turn Tool ∷ workers_from 1 w.replicas) still in
    let tool = tool_ended w.phase w holds.rows others_still.0 in
    let source : SourceEnded w = record { written = holds.written; masters = holds.masters; rows = tool.rows } in
    let replicas = replicas_ended w workload.schemas.tables 1 w.replicas (last_all w.replicas) holds.replicas others_still.1 in
    let nodes : AllByRecursion (Ended w.source.schemas w.source.history) w.replicas =
    subst (λ (s : List Schema). AllByRecursion (Ended s w.source.history) w.replicas) (sym holds.schemas) replicas in
    let lines = lines_known w 1 w.replicas (last_all w.replicas) source nodes in
    let equal : LinesHold w = record {
      each_table = λ replica table from_one most within. table_has_line w replica table source nodes from_one most within;
      hold = each_more (LineIsKnown w) (LineHolds w) (verdicts_of w) (λ line is. is.holds) lines;
      whole = each_more (LineIsKnown w) IsOfWholeTable (verdicts_of w) (λ line is. is.whole) lines;
      ended = nodes;
      start = ap length holds.source_start ∙ tables_each workload.schemas.tables workload.source is.source ∙ ap length (sym holds.schemas);
      starts = subst (λ (s : List Schema). AllByRecursion (λ (node : NodeView). length node.start ≡ length s) w.replicas) (sym holds.schemas) (starts_each workload w is holds);
    } in
    record {
      schemas = holds.schemas;
      source_start = holds.source_start;
      replica_starts = holds.replica_starts;
      replica_schemas = each_more (Ended workload.schemas.tables w.source.history) (λ (node : NodeView). node.schemas ≡ workload.schemas.tables) w.replicas (λ node ended. ended.schemas_are) replicas;
      masters = holds.masters;
      scripts = holds.scripts;
      own_calls = sessions_ended w workload.schemas.tables 1 w.sessions (last_all w.sessions) holds.sessions sessions_still;
      writers = holds.writers;
      written = holds.written;
      refused_lines = holds.refused_lines;
      logged_truly = holds.logged_truly;
      histories = each_more (Ended workload.schemas.tables w.source.history) (AppliedAll w.source.history) w.replicas (λ node ended. ended.applied) replicas;
      finished = tool.finished;
      none_pending = each_more (LineIsKnown w) (λ (line : VerdictLine). line.verdict ≢ Pending) (verdicts_of w) (λ line is. is.known) lines;
      verdicts = equal.hold;
      whole_tables = equal.whole;
      each_table = equal.each_table;
      each_equal_line = each_equal_line w equal;
      same_is_equal = same_is_equal w equal;
    }

pub each_run : (workload : Workload) (last : WorldView) → IsWorkload workload → EndsIn (begun workload) last → RunHolds workload last
each_run workload last is ends =
    let scheduled : Holds workload (played workload.schedule (begun workload)) = played_holds workload workload.schedule (begun workload) (schedule_numbered workload is) (begun_holds workload is) in
    ended_holds workload last is (subst (Holds workload) (sym ends.reached) (rounds_hold workload ends.count (played workload.schedule (begun workload)) scheduled)) ends.still
