-- The lines that a session was refused were duplicates, and those that it logged were not.
use Rattle.std.proofs.Common.{◌≡◌, ◌⊎◌, inl, inr, ℕ, zero, suc, ◌+◌, ◌<◌, ◌≤◌, true, false, List, [], ◌∷◌, ◌++◌, length, map, take, Option, Some, refl, ap, ◌∙◌, sym, subst, arith, length-append}
use Rattle.std.specs.Prelude.{slice_set, is_some, unwrap_or}
use Rattle.std.specs.List.{slice_get}
use Rattle.std.proofs.Math.Seq.{take-length}
use Rattle.std.proofs.lemmas.List.{take-append-le}
use Rattle.std.proofs.lemmas.Option.{slice_get_within}
use Rattle.row_types.specs.declared.table_schema.Schema.{Schema}
use Rattle.ptc_statement.specs.declared.statements.Statement.{Statement}
use Rattle.ptc_statement.specs.declared.statements.Statement.TheVariants.{Insert, Replace, Delete, Update, LockRead, Check, SetMaster, ClearChecks}
use Rattle.ptc_statement.specs.declared.scripts.Script.{Script}
use Rattle.ptc_statement.specs.declared.scripts.ScriptLine.{ScriptLine}
use Rattle.ptc_statement.specs.declared.scripts.ScriptStep.TheVariants.{Run}
use Rattle.statement_log.specs.declared.origins.Origin.TheVariants.{Session, Checksum}
use Rattle.statement_log.specs.declared.entries.Entry.{Entry}
use Rattle.history.specs.Replay.{Replayed, fold}
use Rattle.history.proofs.ReplayLemmas.{fold_more}
use Rattle.cluster_core.specs.LiveTables.{row_in}
use Rattle.cluster_core.specs.Node.{NodeView, replayed_of, logged}
use Rattle.cluster_core.specs.Sessions.{SessionView, unstarted, is_duplicate, by_session, with_refusal}
use Rattle.cluster_core.specs.World.{by_tool}
use Rattle.cluster_core.specs.declared.refusals.Refusal.{Refusal}
use Rattle.workload_file.specs.Workload.{LinesRise}
use Rattle.cluster_laws.specs.OwnCalls.{calls_of, begun_in, logged_by}
use Rattle.cluster_laws.specs.Duplicates.{by_transaction, within, IsTrueDuplicate, RefusalsRise, RefusedTruly, EachRefusedTruly, LoggedTruly}
use Rattle.cluster_core.proofs.EachLemmas.{each_more, each_append, each_rest, each_both}
use Rattle.cluster_laws.proofs.SessionLemmas.{RefusalsBelow, LinesBelow, SessionHolds, next_line, calls_same, begun_same}

-- what is a duplicate at a position stays one as the log grows
duplicate_kept : (source : NodeView) (entry : Entry) (session : ℕ) (earlier : List Statement) (position : ℕ) (statement : Statement)
    → position ≤ length source.history
    → is_duplicate (within session earlier position (logged source entry)) statement ≡ is_duplicate (within session earlier position source) statement
duplicate_kept source entry session earlier position statement le =
    ap (λ (log : List Entry). is_duplicate (record source { history = log ++ by_transaction session earlier ∷ [] }) statement) (take-append-le position source.history (entry ∷ []) le)

same_duplicate : (one other : NodeView) (statement : Statement)
    → one.schemas ≡ other.schemas → replayed_of one ≡ replayed_of other → is_duplicate one statement ≡ is_duplicate other statement
same_duplicate one other (Insert table row) schemas here =
    ap (λ (x : Replayed). is_some (row_in one.schemas x.tables table row)) here ∙ ap (λ (s : List Schema). is_some (row_in s (replayed_of other).tables table row)) schemas
same_duplicate one other (Replace table row) schemas here = refl
same_duplicate one other (Delete table where_true) schemas here = refl
same_duplicate one other (Update table sets where_true) schemas here = refl
same_duplicate one other (LockRead table mode span where_true) schemas here = refl
same_duplicate one other (Check table chunk span kind) schemas here = refl
same_duplicate one other (SetMaster table chunk kind master) schemas here = refl
same_duplicate one other (ClearChecks table) schemas here = refl

-- at the log's end, and at the front of a transaction, it is one now
pub duplicate_now : (source : NodeView) (session : ℕ) (statement : Statement) → is_duplicate (within session [] (length source.history) source) statement ≡ is_duplicate source statement
duplicate_now source session statement =
    same_duplicate (within session [] (length source.history) source) source statement refl
    (ap (λ (log : List Entry). fold source.schemas source.start (log ++ by_transaction session [] ∷ [])) (take-length source.history)
    ∙ fold_more source.schemas source.start source.history (by_transaction session []))

-- and so what a session had logged there
turn_kept : (source : NodeView) (entry : Entry) (session position : ℕ) (calls : List (List Statement))
    → position ≤ length source.history
    → logged_by session (take position source.history) ≡ calls
    → logged_by session (take position (logged source entry).history) ≡ calls
turn_kept source entry session position calls le is =
    ap (logged_by session) (take-append-le position source.history (entry ∷ []) le) ∙ is

true_duplicate_kept : (source : NodeView) (entry : Entry) (session : ℕ) (script : List ScriptLine) (refused : List Refusal) (refusal : Refusal)
    → IsTrueDuplicate source session script refused refusal → IsTrueDuplicate (logged source entry) session script refused refusal
true_duplicate_kept source entry session script refused refusal is = record {
  above = is.above;
  line = is.line;
  below = is.below;
  among = is.among;
  numbered = is.numbered;
  statement = is.statement;
  step = is.step;
  in_log = omega (arith, is.in_log, length-append source.history (entry ∷ []));
  at_its_turn = turn_kept source entry session refusal.position (calls_of refused is.above) is.in_log is.at_its_turn;
  duplicate = duplicate_kept source entry session (begun_in refused is.above) refusal.position is.statement is.in_log ∙ is.duplicate;
}

-- the sessions' refused lines, as the log grows
pub refused_kept : (source : NodeView) (entry : Entry) (number : ℕ) (views : List SessionView)
    → EachRefusedTruly source number views → EachRefusedTruly (logged source entry) number views
refused_kept source entry number [] before = tt
refused_kept source entry number (view ∷ views) before = (
  record {
    rise = before.0.rise;
    duplicates = each_more (IsTrueDuplicate source number view.script view.refused) (IsTrueDuplicate (logged source entry) number view.script view.refused) view.refused
        (true_duplicate_kept source entry number view.script view.refused) before.0.duplicates;
  },
  refused_kept source entry (number + 1) views before.1,
)

pub refused_begun : (source : NodeView) (number : ℕ) (scripts : List Script) → EachRefusedTruly source number (map unstarted scripts)
refused_begun source number [] = tt
refused_begun source number (script ∷ scripts) = (record { rise = tt; duplicates = tt }, refused_begun source (number + 1) scripts)

pub refused_at : (source : NodeView) (number place session : ℕ) (views : List SessionView) (view : SessionView)
    → session ≡ place + number
    → slice_get views place ≡ Some view
    → EachRefusedTruly source number views
    → RefusedTruly source session view
refused_at source number place session [] view is found each = absurd (cc)
refused_at source number zero session (first ∷ views) view is found each =
    let same : first ≡ view = cc in
    let at : number ≡ session = omega arith in
    subst (λ s. RefusedTruly source s view) at (subst (RefusedTruly source number) same each.0)
refused_at source number (suc place) session (first ∷ views) view is found each =
    refused_at source (number + 1) place session views view (omega arith) found each.1

-- as one session did a line
pub refused_set : (source : NodeView) (number place session : ℕ) (views : List SessionView) (now : SessionView)
    → session ≡ place + number
    → RefusedTruly source session now
    → EachRefusedTruly source number views
    → EachRefusedTruly source number (slice_set views place now)
refused_set source number place session [] now is holds each = tt
refused_set source number zero session (first ∷ views) now is holds each =
    let at : session ≡ number = omega arith in (subst (λ s. RefusedTruly source s now) at holds, each.1)
refused_set source number (suc place) session (first ∷ views) now is holds each =
    (each.0, refused_set source (number + 1) place session views now (omega arith) holds each.1)

-- as a line is logged
pub refused_done : (source : NodeView) (session : ℕ) (view : SessionView) → RefusedTruly source session view → RefusedTruly source session (record view { next = view.next + 1 })
refused_done source session view before = record { rise = before.rise; duplicates = before.duplicates }

refusals_rise_more : (refused : List Refusal) (new : Refusal) → RefusalsRise refused → RefusalsBelow new.line refused → RefusalsRise (refused ++ new ∷ [])
refusals_rise_more [] new rise below = (tt, tt)
refusals_rise_more (refusal ∷ refused) new rise below = (
  each_append (λ (later : Refusal). refusal.line < later.line) refused (new ∷ []) rise.0 (below.0, tt),
  refusals_rise_more refused new rise.1 below.1,
)

-- the lines above one of a script have lesser numbers
lines_above : (above : List ScriptLine) (line : ScriptLine) (below : List ScriptLine) → LinesRise (above ++ line ∷ below) → LinesBelow line.line above
lines_above [] line below rise = tt
lines_above (first ∷ above) line below rise =
    let later = each_rest (λ (l : ScriptLine). first.line < l.line) above (line ∷ below) rise.0 in
    (later.0, lines_above above line below rise.1)

-- a further refusal, of a later line, leaves what was logged at a line's turn
true_duplicate_more : (source : NodeView) (session : ℕ) (script : List ScriptLine) (refused : List Refusal) (new refusal : Refusal)
    → LinesRise script
    → refusal.line < new.line
    → IsTrueDuplicate source session script refused refusal → IsTrueDuplicate source session script (refused ++ new ∷ []) refusal
true_duplicate_more source session script refused new refusal rise less is =
    let above : LinesBelow is.line.line is.above = lines_above is.above is.line is.below (subst LinesRise is.among rise) in
    let later : is.line.line < new.line = omega (arith, is.numbered, less) in
    let far : LinesBelow new.line is.above =
    each_more (λ (l : ScriptLine). l.line < is.line.line) (λ (l : ScriptLine). l.line < new.line) is.above (λ l lower. omega (arith, lower, later)) above in
    record {
      above = is.above;
      line = is.line;
      below = is.below;
      among = is.among;
      numbered = is.numbered;
      statement = is.statement;
      step = is.step;
      in_log = is.in_log;
      at_its_turn = is.at_its_turn ∙ sym (calls_same new refused is.above far);
      duplicate = ap (λ (earlier : List Statement). is_duplicate (within session earlier refusal.position source) is.statement) (begun_same new refused is.above far) ∙ is.duplicate;
    }

-- as a line is refused
pub refused_more : (schemas : List Schema) (source : NodeView) (session : ℕ) (view : SessionView) (line : ScriptLine) (statement : Statement)
    → SessionHolds schemas (logged_by session source.history) view
    → slice_get view.script view.next ≡ Some line
    → line.step ≡ Run statement
    → is_duplicate source statement ≡ true
    → RefusedTruly source session view
    → RefusedTruly source session (with_refusal (length source.history) line view)
refused_more schemas source session view line statement holds at step duplicate before =
    let next = next_line schemas (logged_by session source.history) view line holds at in
    let new : Refusal = record { line = line.line; position = length source.history } in
    let refused : List Refusal = view.refused ++ new ∷ [] in
    let none : begun_in refused holds.done ≡ [] =
    begun_same new view.refused holds.done next.above_done ∙ ap (λ (begun : Option (List Statement)). unwrap_or begun []) holds.none_begun in
    let now : IsTrueDuplicate source session view.script refused new = record {
      above = holds.done;
      line = line;
      below = next.more;
      among = holds.script ∙ ap (λ (lines : List ScriptLine). holds.done ++ lines) next.is;
      numbered = refl;
      statement = statement;
      step = step;
      in_log = omega arith;
      at_its_turn = ap (logged_by session) (take-length source.history) ∙ holds.calls ∙ sym (calls_same new view.refused holds.done next.above_done);
      duplicate = ap (λ (earlier : List Statement). is_duplicate (within session earlier (length source.history) source) statement) none ∙ duplicate_now source session statement ∙ duplicate;
    } in
    record {
      rise = refusals_rise_more view.refused new before.rise next.above_refused;
      duplicates = each_append (IsTrueDuplicate source session view.script refused) view.refused (new ∷ [])
          (each_both (IsTrueDuplicate source session view.script view.refused) (λ (refusal : Refusal). refusal.line < line.line) (IsTrueDuplicate source session view.script refused) view.refused
          (λ refusal is less. true_duplicate_more source session view.script view.refused new refusal holds.all_rise less is)
          before.duplicates next.above_refused)
          (now, tt);
    }

-- an entry of a log that grew is one of before, or the new one
later_entry : (first : Entry) (log : List Entry) (place : ℕ) (entry new : Entry)
    → (slice_get log place ≡ Some entry) ⊎ ((place ≡ length log) × (new ≡ entry))
    → (slice_get (first ∷ log) (suc place) ≡ Some entry) ⊎ ((suc place ≡ length (first ∷ log)) × (new ≡ entry))
later_entry first log place entry new (inl old) = inl old
later_entry first log place entry new (inr last) = inr (omega (arith, last.0), last.1)

old_or_new : (log : List Entry) (place : ℕ) (entry new : Entry)
    → slice_get (log ++ new ∷ []) place ≡ Some entry
    → (slice_get log place ≡ Some entry) ⊎ ((place ≡ length log) × (new ≡ entry))
old_or_new [] zero entry new is = inr (refl, cc)
old_or_new [] (suc place) entry new is = absurd (cc)
old_or_new (first ∷ log) zero entry new is = inl is
old_or_new (first ∷ log) (suc place) entry new is = later_entry first log place entry new (old_or_new log place entry new is)

truly_at : (source : NodeView) (new : Entry) (before session : ℕ) (earlier : List Statement) (statement : Statement) (later : List Statement)
    → (new ≡ by_transaction session (earlier ++ statement ∷ later) → is_duplicate (within session earlier (length source.history) source) statement ≡ false)
    → LoggedTruly source
    → (slice_get source.history before ≡ Some (by_transaction session (earlier ++ statement ∷ later))) ⊎ ((before ≡ length source.history) × (new ≡ by_transaction session (earlier ++ statement ∷ later)))
    → is_duplicate (within session earlier before (logged source new)) statement ≡ false
truly_at source new before session earlier statement later none truly (inl old) =
    let lt : before < length source.history = slice_get_within source.history before (by_transaction session (earlier ++ statement ∷ later)) old in
    duplicate_kept source new session earlier before statement (omega (arith, lt)) ∙ truly before session earlier statement later old
truly_at source new before session earlier statement later none truly (inr last) =
    duplicate_kept source new session earlier before statement (omega (arith, last.0))
    ∙ ap (λ n. is_duplicate (within session earlier n source) statement) last.0
    ∙ none last.1

-- what the sessions logged, with one entry more: where it is a session's, none of its statements is
-- a duplicate there
pub truly_more : (source : NodeView) (new : Entry)
    → ((session : ℕ) (earlier : List Statement) (statement : Statement) (later : List Statement)
    → new ≡ by_transaction session (earlier ++ statement ∷ later) → is_duplicate (within session earlier (length source.history) source) statement ≡ false)
    → LoggedTruly source
    → LoggedTruly (logged source new)
truly_more source new none truly = λ before session earlier statement later found.
    truly_at source new before session earlier statement later (none session earlier statement later) truly
    (old_or_new source.history before (by_transaction session (earlier ++ statement ∷ later)) new found)

-- the tool's entry is no session's
pub tools_entry : (statement : Statement) (session : ℕ) (statements : List Statement) → by_tool statement ≡ by_transaction session statements → ⊥
tools_entry statement session statements is =
    let origins : Checksum ≡ Session session = ap (λ (e : Entry). e.origin) is in
    absurd (cc)

not_empty : (statements : List Statement) (statement : Statement) (later : List Statement) → [] ≡ statements ++ statement ∷ later → ⊥
not_empty [] statement later is = absurd (cc)
not_empty (first ∷ statements) statement later is = absurd (cc)

-- one statement has no earlier ones
only_first : (only : Statement) (earlier : List Statement) (statement : Statement) (later : List Statement)
    → only ∷ [] ≡ earlier ++ statement ∷ later → (earlier ≡ []) × (only ≡ statement)
only_first only [] statement later is = (refl, cc)
only_first only (first ∷ earlier) statement later is =
    let rest : [] ≡ earlier ++ statement ∷ later = cc in
    absurd (not_empty earlier statement later rest)

-- a statement that is no duplicate, as a transaction of its own
pub truly_alone : (source : NodeView) (number : ℕ) (only : Statement) → is_duplicate source only ≡ false
    → (session : ℕ) (earlier : List Statement) (statement : Statement) (later : List Statement)
    → by_session number only ≡ by_transaction session (earlier ++ statement ∷ later) → is_duplicate (within session earlier (length source.history) source) statement ≡ false
truly_alone source number only fresh session earlier statement later is =
    let parts = only_first only earlier statement later (ap (λ (e : Entry). e.statements) is) in
    ap (λ (es : List Statement). is_duplicate (within session es (length source.history) source) statement) parts.0
    ∙ duplicate_now source session statement
    ∙ ap (is_duplicate source) (sym parts.1)
    ∙ fresh
