-- What a turn that moves does, and that it leaves fewer turns.
use Rattle.std.proofs.Common.{◌≡◌, ℕ, zero, suc, ◌+◌, ◌-◌, ◌<◌, ◌≤◌, ◌==◌, List, [], ◌∷◌, length, refl, ap, sym, ◌∙◌, subst, arith, length-append, Option, Some, None, Bool, true, false, cond, nat_lt}
use Rattle.std.specs.Prelude.{slice_index_or, slice_set, option_and_then, option_map}
use Rattle.std.specs.List.{slice_get}
use Rattle.std.proofs.Math.Nat.{mul-le-mul_left}
use Rattle.std.proofs.Math.ListN.{length-set}
use Rattle.std.proofs.lemmas.List.{set-get_or}
use Rattle.std.proofs.lemmas.Option.{slice_get_within}
use borrow.Author.Tests.{ltb-true}
use Rattle.row_types.specs.declared.digests.DigestKind.TheVariants.{Md5}
use Rattle.ptc_statement.specs.declared.statements.Statement.{Statement}
use Rattle.ptc_statement.specs.declared.statements.Statement.TheVariants.{Check as CheckStatement, SetMaster, ClearChecks}
use Rattle.ptc_statement.specs.declared.scripts.ScriptLine.{ScriptLine}
use Rattle.ptc_statement.specs.declared.scripts.ScriptStep.{ScriptStep}
use Rattle.ptc_statement.specs.declared.scripts.ScriptStep.TheVariants.{Begin, Commit, Rollback, Run}
use Rattle.statement_log.specs.declared.entries.Entry.{Entry}
use Rattle.checksum_table.specs.declared.check_rows.CheckRow.{CheckRow}
use Rattle.checksum_table.specs.Checks.{check_at}
use Rattle.history.specs.Replay.{applied_of, applying}
use Rattle.history.proofs.ReplayLemmas.{applied_of-more}
use Rattle.cluster_core.specs.Node.{NodeView, logged, replayed_of}
use Rattle.cluster_core.specs.Sessions.{SessionView, is_duplicate, by_session, with_refusal, step_left}
use Rattle.cluster_core.specs.World.{WorldView, with_session, line_turn, session_turn, tool_turn_in, tool_logged, published, next_phase, next_applied, whole_table, worker_turn, turn, step}
use Rattle.cluster_core.specs.declared.refusals.Refusal.{Refusal}
use Rattle.cluster_core.specs.Turns.{Takes, entries_left, lags, lines_left, turns_left}
use Rattle.workload_file.specs.declared.actors.Actor.{Actor}
use Rattle.workload_file.specs.declared.actors.Actor.TheVariants.{Session, Tool, Worker}
use Rattle.cluster_core.specs.declared.actors.ToolPhase.{ToolPhase}
use Rattle.cluster_core.specs.declared.actors.ToolPhase.TheVariants.{Clear, Check, Master, Finished}

-- the element within a list
pub slice_get-within : {A : Type 0} → (xs : List A) (i : ℕ) (d : A) → i < length xs → slice_get xs i ≡ Some (slice_index_or xs i d)
slice_get-within [] i d within = absurd (omega arith)
slice_get-within (x ∷ xs) zero d within = refl
slice_get-within (x ∷ xs) (suc i) d within = slice_get-within xs i d (omega arith)

-- a worker's turn, from that of its node
took_step : (w : WorldView) (place : ℕ) (node new : NodeView) (moved : Bool) (next : Option NodeView)
    → slice_set w.replicas place node ≡ w.replicas
    → Takes next moved node new
    → Takes (option_and_then (λ (n : NodeView). Some (record w { replicas = slice_set w.replicas place n })) next) moved w (record w { replicas = slice_set w.replicas place new })
took_step w place node new moved None stays takes = record {
  did = takes.did;
  state = ap (λ (n : NodeView). record w { replicas = slice_set w.replicas place n }) takes.state
      ∙ ap (λ (ns : List NodeView). record w { replicas = ns }) stays;
}
took_step w place node new moved (Some n) stays takes = record {
  did = takes.did;
  state = ap (λ (m : NodeView). record w { replicas = slice_set w.replicas place m }) takes.state;
}

pub worker_takes : (w : WorldView) (replica : ℕ) (node new : NodeView) (moved : Bool)
    → replica - 1 < length w.replicas
    → node ≡ slice_index_or w.replicas (replica - 1) node
    → Takes (next_applied w.source.history node) moved node new
    → Takes (worker_turn replica w) moved w (record w { replicas = slice_set w.replicas (replica - 1) new })
worker_takes w replica node new moved within is takes =
    let found : slice_get w.replicas (replica - 1) ≡ Some node = slice_get-within w.replicas (replica - 1) node within ∙ ap (λ (n : NodeView). Some n) (sym is) in
    let stays : slice_set w.replicas (replica - 1) node ≡ w.replicas =
    ap (slice_set w.replicas (replica - 1)) is ∙ set-get_or w.replicas (replica - 1) node in
    let P : Option NodeView → Type 0 = λ o. Takes (option_and_then (λ (n : NodeView). option_and_then (λ (m : NodeView). Some (record w { replicas = slice_set w.replicas (replica - 1) m })) (next_applied w.source.history n)) o) moved w (record w { replicas = slice_set w.replicas (replica - 1) new }) in
    subst P (sym found) (took_step w (replica - 1) node new moved (next_applied w.source.history node) stays takes)

-- each replica lags by one entry more
lags_grow : (end : ℕ) (nodes : List NodeView) → lags (end + 1) nodes ≤ lags end nodes + length nodes
lags_grow end [] = omega arith
lags_grow end (node ∷ nodes) = omega (arith, lags_grow end nodes)

lags_set : (end : ℕ) (nodes : List NodeView) (place : ℕ) (node new : NodeView)
    → slice_get nodes place ≡ Some node
    → end - applied_of new.history < end - applied_of node.history
    → lags end (slice_set nodes place new) < lags end nodes
lags_set end [] place node new found nearer = absurd (cc)
lags_set end (first ∷ nodes) zero node new found nearer =
    let same : first ≡ node = cc in
    let lag : end - applied_of first.history ≡ end - applied_of node.history = ap (λ (n : NodeView). end - applied_of n.history) same in
    omega arith
lags_set end (first ∷ nodes) (suc place) node new found nearer = omega (arith, lags_set end nodes place node new found nearer)

logged_nearer : (w : WorldView) (statement : Statement) (next : ToolPhase)
    → entries_left (length w.source.schemas) next < entries_left (length w.source.schemas) w.phase
    → turns_left (tool_logged statement next w) < turns_left w
logged_nearer w statement next less =
    let grown : length (tool_logged statement next w).source.history ≡ length w.source.history + 1 = simp length-append (omega arith) in
    let lag : lags (length (tool_logged statement next w).source.history) w.replicas ≤ lags (length w.source.history) w.replicas + length w.replicas =
    rw grown (lags_grow (length w.source.history) w.replicas) in
    omega (arith, mul-le-mul_left (length w.replicas + 1) less)

-- Master is followed by the next table's Clear, if there is one
next_phase_nearer : (table : ℕ) (w : WorldView) → entries_left (length w.source.schemas) (next_phase table w) < entries_left (length w.source.schemas) (Master table)
next_phase_nearer table w =
    let P : Bool → Type 0 = λ b. entries_left (length w.source.schemas) (cond b (Clear (table + 1)) Finished) < entries_left (length w.source.schemas) (Master table) in
    elim (nat_lt (table + 1) (length w.source.schemas)) as (λ b. nat_lt (table + 1) (length w.source.schemas) ≡ b → P b) [
      | true ↦ λ is. (let within : table + 1 < length w.source.schemas = ltb-true (table + 1) (length w.source.schemas) is in omega arith)
      | false ↦ λ is. omega arith
    ] refl

published_nearer : (table : ℕ) (row : Option CheckRow) (w v : WorldView) → w.phase ≡ Master table → published table row w ≡ Some v → turns_left v < turns_left w
published_nearer table None w v at is = absurd (cc)
published_nearer table (Some row) w v at is =
    let same : tool_logged (SetMaster table 1 row.kind row.this) (next_phase table w) w ≡ v = cc in
    let left : entries_left (length w.source.schemas) (next_phase table w) < entries_left (length w.source.schemas) w.phase =
    rw at (next_phase_nearer table w) in
    rw (← same) (logged_nearer w (SetMaster table 1 row.kind row.this) (next_phase table w) left)

tool_nearer : (phase : ToolPhase) (w v : WorldView) → w.phase ≡ phase → tool_turn_in phase w ≡ Some v → turns_left v < turns_left w
tool_nearer (Clear table) w v at is =
    let same : tool_logged (ClearChecks table) (Check table) w ≡ v = cc in
    let left : entries_left (length w.source.schemas) (Check table) < entries_left (length w.source.schemas) w.phase = rw at (omega arith) in
    rw (← same) (logged_nearer w (ClearChecks table) (Check table) left)
tool_nearer (Check table) w v at is =
    let same : tool_logged (CheckStatement table 1 whole_table Md5) (Master table) w ≡ v = cc in
    let left : entries_left (length w.source.schemas) (Master table) < entries_left (length w.source.schemas) w.phase = rw at (omega arith) in
    rw (← same) (logged_nearer w (CheckStatement table 1 whole_table Md5) (Master table) left)
tool_nearer (Master table) w v at is = published_nearer table (check_at table 1 (replayed_of w.source).checks) w v at is
tool_nearer Finished w v at is = absurd (cc)

-- a node that applied the next entry lags less
applied_nearer : (log : List Entry) (node new : NodeView) → next_applied log node ≡ Some new
    → length log - applied_of new.history < length log - applied_of node.history
applied_nearer log node new is =
    elim (slice_get log (applied_of node.history)) as (λ o. slice_get log (applied_of node.history) ≡ o
    → option_and_then (λ (entry : Entry). Some (logged node (applying (applied_of node.history + 1) entry))) o ≡ Some new
    → length log - applied_of new.history < length log - applied_of node.history) [
      | None ↦ λ found next. absurd (cc)
      | Some entry ↦ λ found next.
          (let within : applied_of node.history < length log = slice_get_within log (applied_of node.history) entry found in
          let same : logged node (applying (applied_of node.history + 1) entry) ≡ new = cc in
          let done : applied_of new.history ≡ applied_of node.history + 1 =
          ap (λ (n : NodeView). applied_of n.history) (sym same) ∙ applied_of-more node.history (applying (applied_of node.history + 1) entry) in
          omega arith)
    ] refl is

worker_nearer_at : (w v : WorldView) (place : ℕ) (node new : NodeView)
    → slice_get w.replicas place ≡ Some node → next_applied w.source.history node ≡ Some new
    → record w { replicas = slice_set w.replicas place new } ≡ v
    → turns_left v < turns_left w
worker_nearer_at w v place node new found next same =
    let lag = lags_set (length w.source.history) w.replicas place node new found (applied_nearer w.source.history node new next) in
    let many : length (slice_set w.replicas place new) ≡ length w.replicas = length-set w.replicas place new in
    rw (← same) (rw many (omega (arith, lag)))

-- a worker that moved applied the next entry
pub record DidApply (replica : ℕ) (w v : WorldView) : Type 0 where
  pub node : NodeView
  pub found : slice_get w.replicas (replica - 1) ≡ Some node
  pub new : NodeView
  pub next : next_applied w.source.history node ≡ Some new
  pub done : record w { replicas = slice_set w.replicas (replica - 1) new } ≡ v

did_apply_of : (replica : ℕ) (w v : WorldView) (node : NodeView) (next : Option NodeView)
    → slice_get w.replicas (replica - 1) ≡ Some node
    → next_applied w.source.history node ≡ next
    → option_and_then (λ (n : NodeView). Some (record w { replicas = slice_set w.replicas (replica - 1) n })) next ≡ Some v
    → DidApply replica w v
did_apply_of replica w v node None found next is = absurd (cc)
did_apply_of replica w v node (Some new) found next is =
    let same : record w { replicas = slice_set w.replicas (replica - 1) new } ≡ v = cc in
    record { node = node; found = found; new = new; next = next; done = same }

did_apply_at : (replica : ℕ) (w v : WorldView) (node : Option NodeView)
    → slice_get w.replicas (replica - 1) ≡ node
    → option_and_then (λ (node : NodeView). option_and_then (λ (n : NodeView). Some (record w { replicas = slice_set w.replicas (replica - 1) n })) (next_applied w.source.history node)) node ≡ Some v
    → DidApply replica w v
did_apply_at replica w v None found is = absurd (cc)
did_apply_at replica w v (Some node) found is = did_apply_of replica w v node (next_applied w.source.history node) found refl is

did_apply : (replica : ℕ) (w v : WorldView) → worker_turn replica w ≡ Some v → DidApply replica w v
did_apply replica w v is = did_apply_at replica w v (slice_get w.replicas (replica - 1)) refl is

worker_nearer : (replica : ℕ) (w v : WorldView) → worker_turn replica w ≡ Some v → turns_left v < turns_left w
worker_nearer replica w v is =
    let did = did_apply replica w v is in
    worker_nearer_at w v (replica - 1) did.node did.new did.found did.next did.done

-- a session with one line less to do
lines_set : (views : List SessionView) (place : ℕ) (view new : SessionView)
    → slice_get views place ≡ Some view
    → length new.script - new.next < length view.script - view.next
    → lines_left (slice_set views place new) < lines_left views
lines_set [] place view new found less = absurd (cc)
lines_set (first ∷ views) zero view new found less =
    let same : first ≡ view = cc in
    let left : length first.script - first.next ≡ length view.script - view.next = ap (λ (v : SessionView). length v.script - v.next) same in
    omega arith
lines_set (first ∷ views) (suc place) view new found less = omega (arith, lines_set views place view new found less)

-- a line logged, and a line refused
abbrev pub line_logged : ℕ → SessionView → Statement → WorldView → WorldView
line_logged session view statement w = with_session session (record view { next = view.next + 1 }, logged w.source (by_session session statement)) w

abbrev pub line_refused : ℕ → SessionView → ScriptLine → WorldView → WorldView
line_refused session view line w = with_session session (with_refusal (length w.source.history) line view, w.source) w

abbrev pub line_done : ℕ → SessionView → ScriptLine → ScriptStep → WorldView → WorldView
line_done session view line step w = with_session session (step_left session view line step w.source) w

line_logged_nearer : (session : ℕ) (view : SessionView) (statement : Statement) (w : WorldView)
    → slice_get w.sessions (session - 1) ≡ Some view
    → view.next < length view.script
    → turns_left (line_logged session view statement w) < turns_left w
line_logged_nearer session view statement w found within =
    let done : SessionView = record view { next = view.next + 1 } in
    let lines : lines_left (slice_set w.sessions (session - 1) done) < lines_left w.sessions = lines_set w.sessions (session - 1) view done found (omega arith) in
    let less : entries_left (length w.source.schemas) w.phase + lines_left (slice_set w.sessions (session - 1) done)
    < entries_left (length w.source.schemas) w.phase + lines_left w.sessions = omega arith in
    let grown : length (line_logged session view statement w).source.history ≡ length w.source.history + 1 = simp length-append (omega arith) in
    let lag : lags (length (line_logged session view statement w).source.history) w.replicas ≤ lags (length w.source.history) w.replicas + length w.replicas =
    rw grown (lags_grow (length w.source.history) w.replicas) in
    omega (arith, mul-le-mul_left (length w.replicas + 1) less)

-- a session is behind its next line, and the source is as it was
abbrev line_passed : ℕ → SessionView → List Refusal → WorldView → WorldView
line_passed session view refused w = with_session session (record view { next = view.next + 1; refused = refused }, w.source) w

line_passed_nearer : (session : ℕ) (view : SessionView) (refused : List Refusal) (w : WorldView)
    → slice_get w.sessions (session - 1) ≡ Some view
    → view.next < length view.script
    → turns_left (line_passed session view refused w) < turns_left w
line_passed_nearer session view refused w found within =
    let done : SessionView = record view { next = view.next + 1; refused = refused } in
    let lines : lines_left (slice_set w.sessions (session - 1) done) < lines_left w.sessions = lines_set w.sessions (session - 1) view done found (omega arith) in
    let less : entries_left (length w.source.schemas) w.phase + lines_left (slice_set w.sessions (session - 1) done)
    < entries_left (length w.source.schemas) w.phase + lines_left w.sessions = omega arith in
    omega (arith, mul-le-mul_left (length w.replicas + 1) less)

-- a session that moved did its next line
pub record DidLine (session : ℕ) (w v : WorldView) : Type 0 where
  pub view : SessionView
  pub found : slice_get w.sessions (session - 1) ≡ Some view
  pub line : ScriptLine
  pub at : slice_get view.script view.next ≡ Some line
  pub done : line_done session view line line.step w ≡ v

did_line_of : (session : ℕ) (w v : WorldView) (view : SessionView) (next : Option ScriptLine)
    → slice_get w.sessions (session - 1) ≡ Some view
    → slice_get view.script view.next ≡ next
    → option_map (λ (after : SessionView × NodeView). with_session session after w) (option_map (λ (line : ScriptLine). step_left session view line line.step w.source) next) ≡ Some v
    → DidLine session w v
did_line_of session w v view None found at is = absurd (cc)
did_line_of session w v view (Some line) found at is =
    let same : line_done session view line line.step w ≡ v = cc in
    record { view = view; found = found; line = line; at = at; done = same }

did_line_at : (session : ℕ) (w v : WorldView) (view : Option SessionView)
    → slice_get w.sessions (session - 1) ≡ view
    → option_and_then (λ (view : SessionView). line_turn session view w) view ≡ Some v
    → DidLine session w v
did_line_at session w v None found is = absurd (cc)
did_line_at session w v (Some view) found is = did_line_of session w v view (slice_get view.script view.next) found refl is

pub did_line : (session : ℕ) (w v : WorldView) → session_turn session w ≡ Some v → DidLine session w v
did_line session w v is = did_line_at session w v (slice_get w.sessions (session - 1)) refl is

-- a line done is a line logged or a line refused
pub line_done_either : (P : WorldView → Type 0) (session : ℕ) (view : SessionView) (line : ScriptLine) (statement : Statement) (w : WorldView)
    → (is_duplicate w.source statement ≡ true → P (line_refused session view line w))
    → (is_duplicate w.source statement ≡ false → P (line_logged session view statement w))
    → P (line_done session view line (Run statement) w)
line_done_either P session view line statement w refuses logs =
    elim (is_duplicate w.source statement) as (λ b. is_duplicate w.source statement ≡ b
    → P (with_session session (cond {A = SessionView × NodeView} b (with_refusal (length w.source.history) line view, w.source) (record view { next = view.next + 1 }, logged w.source (by_session session statement))) w)) [
      | true ↦ λ is. refuses is
      | false ↦ λ is. logs is
    ] refl

line_nearer : (session : ℕ) (view : SessionView) (line : ScriptLine) (step : ScriptStep) (w : WorldView)
    → slice_get w.sessions (session - 1) ≡ Some view
    → view.next < length view.script
    → turns_left (line_done session view line step w) < turns_left w
line_nearer session view line Begin w found within = line_passed_nearer session view view.refused w found within
line_nearer session view line Commit w found within = line_passed_nearer session view view.refused w found within
line_nearer session view line Rollback w found within = line_passed_nearer session view view.refused w found within
line_nearer session view line (Run statement) w found within =
    line_done_either (λ (v : WorldView). turns_left v < turns_left w) session view line statement w
    (λ is. line_passed_nearer session view (with_refusal (length w.source.history) line view).refused w found within) (λ is. line_logged_nearer session view statement w found within)

session_nearer : (session : ℕ) (w v : WorldView) → session_turn session w ≡ Some v → turns_left v < turns_left w
session_nearer session w v is =
    let did = did_line session w v is in
    subst (λ (v : WorldView). turns_left v < turns_left w) did.done
    (line_nearer session did.view did.line did.line.step w did.found (slice_get_within did.view.script did.view.next did.line did.at))

pub turn_nearer : (actor : Actor) (w v : WorldView) → turn actor w ≡ Some v → turns_left v < turns_left w
turn_nearer (Session session) w v is = session_nearer session w v is
turn_nearer Tool w v is = tool_nearer w.phase w v refl is
turn_nearer (Worker replica worker) w v is =
    elim (worker == 1) as (λ b. cond b (worker_turn replica w) None ≡ Some v → turns_left v < turns_left w) [
      | true ↦ λ moved. worker_nearer replica w v moved
      | false ↦ λ moved. absurd (cc)
    ] is

-- a turn leaves the schedule
published_unplayed : (table : ℕ) (row : Option CheckRow) (w v : WorldView) → published table row w ≡ Some v → v.unplayed ≡ w.unplayed
published_unplayed table None w v is = absurd (cc)
published_unplayed table (Some row) w v is =
    let same : tool_logged (SetMaster table 1 row.kind row.this) (next_phase table w) w ≡ v = cc in
    ap (λ (x : WorldView). x.unplayed) (sym same)

tool_unplayed : (phase : ToolPhase) (w v : WorldView) → tool_turn_in phase w ≡ Some v → v.unplayed ≡ w.unplayed
tool_unplayed (Clear table) w v is =
    let same : tool_logged (ClearChecks table) (Check table) w ≡ v = cc in
    ap (λ (x : WorldView). x.unplayed) (sym same)
tool_unplayed (Check table) w v is =
    let same : tool_logged (CheckStatement table 1 whole_table Md5) (Master table) w ≡ v = cc in
    ap (λ (x : WorldView). x.unplayed) (sym same)
tool_unplayed (Master table) w v is = published_unplayed table (check_at table 1 (replayed_of w.source).checks) w v is
tool_unplayed Finished w v is = absurd (cc)

pub turn_unplayed : (actor : Actor) (w v : WorldView) → turn actor w ≡ Some v → v.unplayed ≡ w.unplayed
turn_unplayed (Session session) w v is = let did = did_line session w v is in ap (λ (x : WorldView). x.unplayed) (sym did.done)
turn_unplayed Tool w v is = tool_unplayed w.phase w v is
turn_unplayed (Worker replica worker) w v is =
    elim (worker == 1) as (λ b. cond b (worker_turn replica w) None ≡ Some v → v.unplayed ≡ w.unplayed) [
      | true ↦ λ moved. (let did = did_apply replica w v moved in ap (λ (x : WorldView). x.unplayed) (sym did.done))
      | false ↦ λ moved. absurd (cc)
    ] is
