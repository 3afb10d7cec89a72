-- What the parts of a world keep over turns.
use Rattle.std.proofs.Common.{◌≡◌, ℕ, zero, suc, drop, add-one, ◌+◌, ◌-◌, ◌<◌, ◌≤◌, map, List, [], ◌∷◌, ◌++◌, length, refl, ap, sym, ◌∙◌, subst, arith, Option, Some, None, Bool, true, false, cond}
use Rattle.std.specs.Prelude.{slice_index_or, slice_set, option_map, option_and_then}
use Rattle.std.specs.List.{AllByRecursion, slice_get}
use Rattle.std.proofs.lemmas.List.{set-get_or}
use Rattle.row_types.specs.declared.table_schema.Schema.{Schema}
use Rattle.row_types.specs.declared.edges.Span.{Span}
use Rattle.row_types.specs.declared.digests.Digest.{Digest}
use Rattle.row_types.specs.declared.digests.DigestKind.{DigestKind}
use Rattle.ptc_statement.specs.declared.statements.Statement.TheVariants.{Check, SetMaster, ClearChecks}
use Rattle.ptc_statement.specs.declared.scripts.ScriptLine.{ScriptLine}
use Rattle.ptc_statement.specs.declared.scripts.ScriptStep.{ScriptStep}
use Rattle.ptc_statement.specs.declared.scripts.ScriptStep.TheVariants.{Begin, Commit, Rollback, Run}
use Rattle.ptc_statement.specs.Fits.{FitsSchemas}
use Rattle.statement_log.specs.declared.entries.Entry.{Entry}
use Rattle.cluster_core.proofs.EachLemmas.{each_append, each_at, each_more}
use Rattle.cluster_core.proofs.MoveLemmas.{slice_get-within}
use Rattle.cluster_core.specs.Node.{NodeView, logged}
use Rattle.row_types.specs.declared.values.Value.{Value}
use Rattle.ptc_statement.specs.declared.scripts.Script.{Script}
use Rattle.workload_file.specs.declared.workload.Workload.{Workload}
use Rattle.workload_file.specs.Workload.{StepFits, ScriptFits, ItemFits, IsWorkload}
use Rattle.cluster_core.specs.Sessions.{SessionView, unstarted, is_duplicate, by_session, with_refusal, step_left, line_left}
use Rattle.cluster_core.specs.World.{WorldView, fresh, session_turn, line_turn, with_session}
use Rattle.cluster_core.specs.Good.{EntryFits, StepsFit, HasSchemas}
use Rattle.cluster_core.specs.Turns.{Takes, ItemIsNumbered}
use Rattle.workload_file.specs.declared.actors.Actor.TheVariants.{Session, Tool, Worker}
use Rattle.workload_file.specs.declared.schedule.Item.{Item}
use Rattle.workload_file.specs.declared.schedule.Item.TheVariants.{Turn}

schema_at : (schemas : List Schema) (table : ℕ) → table < length schemas → (schema : Schema) × (slice_get schemas table ≡ Some schema)
schema_at [] table within = absurd (omega arith)
schema_at (schema ∷ schemas) zero within = (schema, refl)
schema_at (schema ∷ schemas) (suc table) within = schema_at schemas table (omega arith)

-- the tool's statements fit where their table is there
pub clear_fits : (schemas : List Schema) (table : ℕ) → table < length schemas → FitsSchemas schemas (ClearChecks table)
clear_fits schemas table within =
    let at = schema_at schemas table within in
    record { schema = at.0; found = at.1; fits = tt }

pub check_fits : (schemas : List Schema) (table chunk : ℕ) (span : Span) (kind : DigestKind) → table < length schemas → FitsSchemas schemas (Check table chunk span kind)
check_fits schemas table chunk span kind within =
    let at = schema_at schemas table within in
    record { schema = at.0; found = at.1; fits = tt }

pub master_fits : (schemas : List Schema) (table chunk : ℕ) (kind : DigestKind) (master : Digest) → table < length schemas → FitsSchemas schemas (SetMaster table chunk kind master)
master_fits schemas table chunk kind master within =
    let at = schema_at schemas table within in
    record { schema = at.0; found = at.1; fits = tt }

-- one more entry
pub log_more : (schemas : List Schema) (log new : List Entry) (entry : Entry)
    → AllByRecursion (EntryFits schemas) log → EntryFits schemas entry
    → new ≡ log ++ entry ∷ []
    → AllByRecursion (EntryFits schemas) new
log_more schemas log new entry all fits is =
    subst (AllByRecursion (EntryFits schemas)) (sym is) (each_append (EntryFits schemas) log (entry ∷ []) all (fits, tt))

-- what a session's turn keeps of the session and of the source
pub record KeepsBoth (schemas : List Schema) (old new : SessionView) (source after : NodeView) : Type 0 where
  pub script : new.script ≡ old.script
  pub schemas_stay : after.schemas ≡ source.schemas
  pub log : AllByRecursion (EntryFits schemas) after.history

step_keeps : (schemas : List Schema) (session : ℕ) (view : SessionView) (line : ScriptLine) (step : ScriptStep) (source : NodeView)
    → StepFits schemas step → AllByRecursion (EntryFits schemas) source.history
    → KeepsBoth schemas view (step_left session view line step source).0 source (step_left session view line step source).1
step_keeps schemas session view line Begin source fits log = absurd fits
step_keeps schemas session view line Commit source fits log = absurd fits
step_keeps schemas session view line Rollback source fits log = absurd fits
step_keeps schemas session view line (Run statement) source fits log =
    let P : Bool → Type 0 = λ b. KeepsBoth schemas view
    (cond {A = SessionView × NodeView} b (with_refusal (length source.history) line view, source) (record view { next = view.next + 1 }, logged source (by_session session statement))).0
    source
    (cond {A = SessionView × NodeView} b (with_refusal (length source.history) line view, source) (record view { next = view.next + 1 }, logged source (by_session session statement))).1 in
    elim (is_duplicate source statement) as P [
      | true ↦ record { script = refl; schemas_stay = refl; log = log }
      | false ↦ record {
        script = refl;
        schemas_stay = refl;
        log = each_append (EntryFits schemas) source.history (by_session session statement ∷ []) log ((fits.1, tt), tt);
      }
    ]

turn_keeps_at : (schemas : List Schema) (session : ℕ) (view new : SessionView) (source after : NodeView) (moved : Bool) (found : Option ScriptLine)
    → slice_get view.script view.next ≡ found
    → StepsFit schemas view → AllByRecursion (EntryFits schemas) source.history
    → Takes (option_map (λ (line : ScriptLine). step_left session view line line.step source) found) moved (view, source) (new, after)
    → KeepsBoth schemas view new source after
turn_keeps_at schemas session view new source after moved None found steps log takes =
    let view_is : new ≡ view = ap (λ (p : SessionView × NodeView). p.0) takes.state in
    let source_is : after ≡ source = ap (λ (p : SessionView × NodeView). p.1) takes.state in
    record {
      script = ap (λ (v : SessionView). v.script) view_is;
      schemas_stay = ap (λ (n : NodeView). n.schemas) source_is;
      log = subst (λ (n : NodeView). AllByRecursion (EntryFits schemas) n.history) (sym source_is) log;
    }
turn_keeps_at schemas session view new source after moved (Some line) found steps log takes =
    let kept = step_keeps schemas session view line line.step source (each_at (λ (l : ScriptLine). StepFits schemas l.step) view.script view.next line steps found) log in
    subst (λ (p : SessionView × NodeView). KeepsBoth schemas view p.0 source p.1) (sym takes.state) kept

pub turn_keeps : (schemas : List Schema) (session : ℕ) (view new : SessionView) (source after : NodeView) (moved : Bool)
    → StepsFit schemas view → AllByRecursion (EntryFits schemas) source.history
    → Takes (line_left session view source) moved (view, source) (new, after)
    → KeepsBoth schemas view new source after
turn_keeps schemas session view new source after moved steps log takes =
    turn_keeps_at schemas session view new source after moved (slice_get view.script view.next) refl steps log takes

-- a session's turn in the world, from what it leaves of the session and the source
placed_takes : (w : WorldView) (session : ℕ) (view new : SessionView) (after : NodeView) (moved : Bool) (next : Option (SessionView × NodeView))
    → slice_set w.sessions (session - 1) view ≡ w.sessions
    → Takes next moved (view, w.source) (new, after)
    → Takes (option_map (λ (both : SessionView × NodeView). with_session session both w) next) moved w (with_session session (new, after) w)
placed_takes w session view new after moved None stays takes = record {
  did = takes.did;
  state = ap (λ (both : SessionView × NodeView). with_session session both w) takes.state ∙ ap (λ (vs : List SessionView). record w { sessions = vs }) stays;
}
placed_takes w session view new after moved (Some both) stays takes = record {
  did = takes.did;
  state = ap (λ (both : SessionView × NodeView). with_session session both w) takes.state;
}

pub session_takes : (w : WorldView) (session : ℕ) (view new : SessionView) (after : NodeView) (moved : Bool)
    → session - 1 < length w.sessions
    → view ≡ slice_index_or w.sessions (session - 1) view
    → Takes (line_left session view w.source) moved (view, w.source) (new, after)
    → Takes (session_turn session w) moved w (with_session session (new, after) w)
session_takes w session view new after moved within is takes =
    let found : slice_get w.sessions (session - 1) ≡ Some view = slice_get-within w.sessions (session - 1) view within ∙ ap (λ (v : SessionView). Some v) (sym is) in
    let stays : slice_set w.sessions (session - 1) view ≡ w.sessions = ap (slice_set w.sessions (session - 1)) is ∙ set-get_or w.sessions (session - 1) view in
    let P : Option SessionView → Type 0 = λ o. Takes (option_and_then (λ (v : SessionView). line_turn session v w) o) moved w (with_session session (new, after) w) in
    subst P (sym found) (placed_takes w session view new after moved (line_left session view w.source) stays takes)

-- the parts of a new world
begun_nodes : (schemas : List Schema) (copies : List (List (List (List Value)))) → AllByRecursion (HasSchemas schemas) (map (fresh schemas) copies)
begun_nodes schemas [] = tt
begun_nodes schemas (tables ∷ copies) = (refl, begun_nodes schemas copies)

begun_sessions : (schemas : List Schema) (scripts : List Script) → AllByRecursion (ScriptFits schemas) scripts → AllByRecursion (StepsFit schemas) (map unstarted scripts)
begun_sessions schemas [] fit = tt
begun_sessions schemas (script ∷ scripts) fit = (fit.0.steps, begun_sessions schemas scripts fit.1)

length_map : {A B : Type 0} (f : A → B) (xs : List A) → length (map f xs) ≡ length xs
length_map f [] = refl
length_map f (x ∷ xs) = ap suc (length_map f xs)

-- the actors that a workload has are numbered from 1
item_numbered : (sessions replicas : ℕ) (item : Item) → ItemFits sessions replicas item → ItemIsNumbered item
item_numbered sessions replicas (Turn (Session session)) fits = fits.0
item_numbered sessions replicas (Turn Tool) fits = tt
item_numbered sessions replicas (Turn (Worker replica worker)) fits = fits.0

pub schedule_numbered : (workload : Workload) → IsWorkload workload → AllByRecursion ItemIsNumbered workload.schedule
schedule_numbered workload is =
    each_more (ItemFits (length workload.sessions) workload.replicas) ItemIsNumbered workload.schedule
    (λ item fits. item_numbered (length workload.sessions) workload.replicas item fits)
    is.schedule

pub record KeptParts (source : NodeView) (replicas : List NodeView) (sessions : List SessionView) (schedule : List Item) : Type 0 where
  pub some_table : 0 < length source.schemas
  pub tables : length source.schemas ≤ 16
  pub few_replicas : length replicas ≤ 8
  pub few_sessions : length sessions ≤ 64
  pub same : AllByRecursion (HasSchemas source.schemas) replicas
  pub log : AllByRecursion (EntryFits source.schemas) source.history
  pub scripts : AllByRecursion (StepsFit source.schemas) sessions
  pub items : AllByRecursion ItemIsNumbered schedule

pub begun_parts : (workload : Workload) → IsWorkload workload
    → KeptParts (fresh workload.schemas.tables workload.source) (map (fresh workload.schemas.tables) workload.copies) (map unstarted workload.sessions) workload.schedule
begun_parts workload is = record {
  some_table = omega (arith, is.some_table);
  tables = is.most_tables;
  few_replicas = omega (arith, length_map (fresh workload.schemas.tables) workload.copies, is.each_copied, is.most_replicas);
  few_sessions = omega (arith, length_map unstarted workload.sessions, is.most_sessions);
  same = begun_nodes workload.schemas.tables workload.copies;
  log = tt;
  scripts = begun_sessions workload.schemas.tables workload.sessions is.scripts;
  items = schedule_numbered workload is;
}

-- the schedule behind one item more
drop_suc : {A : Type 0} (i : ℕ) (xs : List A) → drop (suc i) xs ≡ drop 1 (drop i xs)
drop_suc zero xs = refl
drop_suc (suc i) [] = refl
drop_suc (suc i) (x ∷ xs) = drop_suc i xs

pub drop_next : {A : Type 0} (i : ℕ) (xs : List A) → drop (i + 1) xs ≡ drop 1 (drop i xs)
drop_next i xs = ap (λ n. drop n xs) (add-one i) ∙ drop_suc i xs
