-- What a session did of its script so far, and that its entries of the log are its own calls.
use Rattle.std.proofs.Common.{◌≡◌, ◌≢◌, ℕ, zero, suc, ◌+◌, ◌-◌, ◌<◌, ◌≤◌, ◌==◌, ◌||◌, Bool, true, false, cond, List, [], ◌∷◌, ◌++◌, length, map, Option, None, Some, refl, ap, ◌∙◌, sym, subst, arith, append_assoc, length-append}
use Rattle.std.specs.Prelude.{slice_set, filter, not, option_map, option_and_then, unwrap_or}
use Rattle.std.specs.List.{AllByRecursion, slice_get}
use Rattle.std.proofs.lemmas.List.{append-nil, map-append}
use Rattle.std.proofs.lemmas.List.Elements.{filter-append}
use Rattle.std.proofs.lemmas.Bool.Decides.{nat_tests}
use Rattle.row_types.specs.declared.table_schema.Schema.{Schema}
use Rattle.ptc_statement.specs.declared.statements.Statement.{Statement}
use Rattle.ptc_statement.specs.declared.scripts.Script.{Script}
use Rattle.ptc_statement.specs.declared.scripts.ScriptLine.{ScriptLine}
use Rattle.ptc_statement.specs.declared.scripts.ScriptStep.{ScriptStep}
use Rattle.ptc_statement.specs.declared.scripts.ScriptStep.TheVariants.{Run}
use Rattle.ptc_statement.specs.Effect.{is_logged}
use Rattle.statement_log.specs.declared.entries.Entry.{Entry}
use Rattle.cluster_core.specs.Node.{NodeView}
use Rattle.cluster_core.specs.Sessions.{SessionView, unstarted, step_left}
use Rattle.cluster_core.specs.World.{WorldView, line_turn, sessions_from, with_session, move}
use Rattle.cluster_core.specs.declared.refusals.Refusal.{Refusal}
use Rattle.cluster_laws.specs.OwnCalls.{is_refused, accepted, Transaction, Transactions, no_transactions, with_statement, after_step, after_lines, logged_of, is_something, all_logged_of, calls_of, begun_in, is_by, logged_by, OwnCalls, EachOwnCalls}
use Rattle.workload_file.specs.Workload.{StepFits, LinesRise, ScriptFits}
use Rattle.cluster_core.proofs.EachLemmas.{each_both, each_append, each_always, LastFrom, last_first, last_more}

abbrev pub RefusalsBelow : ℕ → List Refusal → Type 0
RefusalsBelow bound refused = AllByRecursion (λ (refusal : Refusal). refusal.line < bound) refused

abbrev pub LinesBelow : ℕ → List ScriptLine → Type 0
LinesBelow bound lines = AllByRecursion (λ (line : ScriptLine). line.line < bound) lines

-- a session did its script's first lines, and logged those that were not refused; the lines left fit,
-- and their numbers rise above those of the others
pub record SessionHolds (schemas : List Schema) (entries : List (List Statement)) (view : SessionView) : Type 0 where
  pub done : List ScriptLine
  pub rest : List ScriptLine
  pub script : view.script ≡ done ++ rest
  pub counted : view.next ≡ length done
  pub calls : entries ≡ calls_of view.refused done
  pub none_begun : (after_lines (accepted view.refused done) no_transactions).begun ≡ None
  pub fits : AllByRecursion (λ (line : ScriptLine). StepFits schemas line.step) rest
  pub rise : LinesRise rest
  pub all_rise : LinesRise view.script
  pub above_done : AllByRecursion (λ (line : ScriptLine). LinesBelow line.line done) rest
  pub above_refused : AllByRecursion (λ (line : ScriptLine). RefusalsBelow line.line view.refused) rest

-- the lines that were refused
different : (a b : ℕ) → a < b → (a == b) ≡ false
different a b less = grind (arith, nat_tests)

differs_from : (a b : ℕ) → a < b → (b == a) ≡ false
differs_from a b less = grind (arith, nat_tests)

itself : (a : ℕ) → (a == a) ≡ true
itself a = grind (arith, nat_tests)

or_true : (b : Bool) → (b || true) ≡ true
or_true true = refl
or_true false = refl

not_refused : (refused : List Refusal) (line : ScriptLine) → RefusalsBelow line.line refused → is_refused refused line ≡ false
not_refused [] line below = refl
not_refused (refusal ∷ refused) line below =
    ap (λ b. b || is_refused refused line) (different refusal.line line.line below.0) ∙ not_refused refused line below.1

-- a further refusal, of a later line
refused_same : (new : Refusal) (refused : List Refusal) (line : ScriptLine) → line.line < new.line → is_refused (refused ++ new ∷ []) line ≡ is_refused refused line
refused_same new [] line less = ap (λ b. b || false) (differs_from line.line new.line less)
refused_same new (refusal ∷ refused) line less = ap (λ b. (refusal.line == line.line) || b) (refused_same new refused line less)

now_refused : (new : Refusal) (refused : List Refusal) (line : ScriptLine) → new.line ≡ line.line → is_refused (refused ++ new ∷ []) line ≡ true
now_refused new [] line is = ap (λ n. (n == line.line) || false) is ∙ ap (λ b. b || false) (itself line.line)
now_refused new (refusal ∷ refused) line is = ap (λ b. (refusal.line == line.line) || b) (now_refused new refused line is) ∙ or_true (refusal.line == line.line)

pub accepted_same : (new : Refusal) (refused : List Refusal) (lines : List ScriptLine) → LinesBelow new.line lines → accepted (refused ++ new ∷ []) lines ≡ accepted refused lines
accepted_same new refused [] below = refl
accepted_same new refused (line ∷ lines) below =
    ap (λ b. cond (not b) (line ∷ accepted (refused ++ new ∷ []) lines) (accepted (refused ++ new ∷ []) lines)) (refused_same new refused line below.0)
    ∙ ap (λ (rest : List ScriptLine). cond (not (is_refused refused line)) (line ∷ rest) rest) (accepted_same new refused lines below.1)

accepted_next : (refused : List Refusal) (lines : List ScriptLine) (line : ScriptLine) (skipped : Bool) → is_refused refused line ≡ skipped
    → accepted refused (lines ++ line ∷ []) ≡ accepted refused lines ++ cond (not skipped) (line ∷ []) []
accepted_next refused lines line skipped is =
    filter-append (λ (l : ScriptLine). not (is_refused refused l)) lines (line ∷ [])
    ∙ ap (λ b. accepted refused lines ++ cond (not b) (line ∷ []) []) is

-- the calls of the lines that are done
pub calls_same : (new : Refusal) (refused : List Refusal) (lines : List ScriptLine) → LinesBelow new.line lines → calls_of (refused ++ new ∷ []) lines ≡ calls_of refused lines
calls_same new refused lines below =
    ap (λ (ls : List ScriptLine). all_logged_of (after_lines ls no_transactions).ended) (accepted_same new refused lines below)

pub begun_same : (new : Refusal) (refused : List Refusal) (lines : List ScriptLine) → LinesBelow new.line lines → begun_in (refused ++ new ∷ []) lines ≡ begun_in refused lines
begun_same new refused lines below =
    ap (λ (ls : List ScriptLine). unwrap_or (after_lines ls no_transactions).begun []) (accepted_same new refused lines below)

after_lines-append : (lines more : List ScriptLine) (so_far : Transactions) → after_lines (lines ++ more) so_far ≡ after_lines more (after_lines lines so_far)
after_lines-append [] more so_far = refl
after_lines-append (line ∷ lines) more so_far = after_lines-append lines more (after_step line.step so_far)

-- a statement behind BEGIN and its end
abbrev alone : Statement → Transaction
alone statement = record { statements = statement ∷ []; rolled_back = false }

run_alone : (statement : Statement) (so_far : Transactions) → so_far.begun ≡ None
    → after_step (Run statement) so_far ≡ record { ended = so_far.ended ++ alone statement ∷ []; begun = None }
run_alone statement so_far none = ap (with_statement statement so_far.ended) none

logged_alone : (transactions : List Transaction) (statement : Statement) → is_logged statement ≡ true
    → all_logged_of (transactions ++ alone statement ∷ []) ≡ all_logged_of transactions ++ (statement ∷ []) ∷ []
logged_alone transactions statement logged =
    ap (filter is_something) (map-append logged_of transactions (alone statement ∷ []))
    ∙ filter-append is_something (map logged_of transactions) (logged_of (alone statement) ∷ [])
    ∙ ap (λ (b : Bool). all_logged_of transactions ++ filter is_something (cond b (statement ∷ []) [] ∷ [])) logged

-- the entries of a session, with one more in the log
logged_by_next : (session : ℕ) (log : List Entry) (entry : Entry)
    → logged_by session (log ++ entry ∷ []) ≡ logged_by session log ++ map (λ (e : Entry). e.statements) (cond (is_by session entry.origin) (entry ∷ []) [])
logged_by_next session log entry =
    ap (map (λ (e : Entry). e.statements)) (filter-append (λ (e : Entry). is_by session e.origin) log (entry ∷ []))
    ∙ map-append (λ (e : Entry). e.statements) (filter (λ (e : Entry). is_by session e.origin) log) (filter (λ (e : Entry). is_by session e.origin) (entry ∷ []))

pub logged_by_own : (session : ℕ) (log : List Entry) (entry : Entry) → is_by session entry.origin ≡ true
    → logged_by session (log ++ entry ∷ []) ≡ logged_by session log ++ entry.statements ∷ []
logged_by_own session log entry own =
    logged_by_next session log entry
    ∙ ap (λ b. logged_by session log ++ map (λ (e : Entry). e.statements) (cond b (entry ∷ []) [])) own

pub logged_by_other : (session : ℕ) (log : List Entry) (entry : Entry) → is_by session entry.origin ≡ false
    → logged_by session (log ++ entry ∷ []) ≡ logged_by session log
logged_by_other session log entry other =
    logged_by_next session log entry
    ∙ ap (λ b. logged_by session log ++ map (λ (e : Entry). e.statements) (cond b (entry ∷ []) [])) other
    ∙ append-nil (logged_by session log)

pub own_number : (session : ℕ) → (session == session) ≡ true
own_number session = itself session

pub other_number : (session other : ℕ) → session ≢ other → (other == session) ≡ false
other_number session other apart = grind (arith, nat_tests)

-- a session's next line
next_line_at : (done rest : List ScriptLine) (line : ScriptLine) → slice_get (done ++ rest) (length done) ≡ Some line → (more : List ScriptLine) × (rest ≡ line ∷ more)
next_line_at [] [] line is = absurd (cc)
next_line_at [] (first ∷ more) line is =
    let same : first ≡ line = cc in
    (more, ap (λ (l : ScriptLine). l ∷ more) same)
next_line_at (first ∷ done) rest line is = next_line_at done rest line is

pub record NextLine (schemas : List Schema) (view : SessionView) (done rest : List ScriptLine) (line : ScriptLine) : Type 0 where
  pub more : List ScriptLine
  pub is : rest ≡ line ∷ more
  pub fits : StepFits schemas line.step
  pub more_fit : AllByRecursion (λ (later : ScriptLine). StepFits schemas later.step) more
  pub more_later : AllByRecursion (λ (later : ScriptLine). line.line < later.line) more
  pub more_rise : LinesRise more
  pub above_done : LinesBelow line.line done
  pub more_above_done : AllByRecursion (λ (later : ScriptLine). LinesBelow later.line done) more
  pub above_refused : RefusalsBelow line.line view.refused
  pub more_above_refused : AllByRecursion (λ (later : ScriptLine). RefusalsBelow later.line view.refused) more

pub next_line : (schemas : List Schema) (entries : List (List Statement)) (view : SessionView) (line : ScriptLine)
    → (holds : SessionHolds schemas entries view)
    → slice_get view.script view.next ≡ Some line
    → NextLine schemas view holds.done holds.rest line
next_line schemas entries view line holds at =
    let there : slice_get (holds.done ++ holds.rest) (length holds.done) ≡ Some line =
    ap (λ (lines : List ScriptLine). slice_get lines (length holds.done)) (sym holds.script) ∙ ap (slice_get view.script) (sym holds.counted) ∙ at in
    let next = next_line_at holds.done holds.rest line there in
    let fits : AllByRecursion (λ (l : ScriptLine). StepFits schemas l.step) (line ∷ next.0) = subst (AllByRecursion (λ (l : ScriptLine). StepFits schemas l.step)) next.1 holds.fits in
    let rise : LinesRise (line ∷ next.0) = subst LinesRise next.1 holds.rise in
    let above_done : AllByRecursion (λ (l : ScriptLine). LinesBelow l.line holds.done) (line ∷ next.0) =
    subst (AllByRecursion (λ (l : ScriptLine). LinesBelow l.line holds.done)) next.1 holds.above_done in
    let above_refused : AllByRecursion (λ (l : ScriptLine). RefusalsBelow l.line view.refused) (line ∷ next.0) =
    subst (AllByRecursion (λ (l : ScriptLine). RefusalsBelow l.line view.refused)) next.1 holds.above_refused in
    record {
      more = next.0;
      is = next.1;
      fits = fits.0;
      more_fit = fits.1;
      more_later = rise.0;
      more_rise = rise.1;
      above_done = above_done.0;
      more_above_done = above_done.1;
      above_refused = above_refused.0;
      more_above_refused = above_refused.1;
    }

-- a session did its next line
session_does : (schemas : List Schema) (entries now : List (List Statement)) (view : SessionView) (refused : List Refusal) (line : ScriptLine)
    → (holds : SessionHolds schemas entries view)
    → (next : NextLine schemas view holds.done holds.rest line)
    → now ≡ calls_of refused (holds.done ++ line ∷ [])
    → (after_lines (accepted refused (holds.done ++ line ∷ [])) no_transactions).begun ≡ None
    → AllByRecursion (λ (later : ScriptLine). RefusalsBelow later.line refused) next.more
    → SessionHolds schemas now (record view { next = view.next + 1; refused = refused })
session_does schemas entries now view refused line holds next calls none above = record {
  done = holds.done ++ line ∷ [];
  rest = next.more;
  script = holds.script ∙ ap (λ (lines : List ScriptLine). holds.done ++ lines) next.is ∙ sym (append_assoc holds.done (line ∷ []) next.more);
  counted = ap (λ n. n + 1) holds.counted ∙ sym (length-append holds.done (line ∷ []));
  calls = calls;
  none_begun = none;
  fits = next.more_fit;
  rise = next.more_rise;
  all_rise = holds.all_rise;
  above_done = each_both
      (λ (later : ScriptLine). LinesBelow later.line holds.done)
      (λ (later : ScriptLine). line.line < later.line)
      (λ (later : ScriptLine). LinesBelow later.line (holds.done ++ line ∷ []))
      next.more
      (λ later below less. each_append (λ (l : ScriptLine). l.line < later.line) holds.done (line ∷ []) below (less, tt))
      next.more_above_done next.more_later;
  above_refused = above;
}

pub session_logged : (schemas : List Schema) (entries : List (List Statement)) (view : SessionView) (line : ScriptLine) (statement : Statement)
    → SessionHolds schemas entries view
    → slice_get view.script view.next ≡ Some line
    → line.step ≡ Run statement
    → SessionHolds schemas (entries ++ (statement ∷ []) ∷ []) (record view { next = view.next + 1 })
session_logged schemas entries view line statement holds at step =
    let next = next_line schemas entries view line holds at in
    let so_far : Transactions = after_lines (accepted view.refused holds.done) no_transactions in
    let fits : StepFits schemas (Run statement) = subst (StepFits schemas) step next.fits in
    let lines : accepted view.refused (holds.done ++ line ∷ []) ≡ accepted view.refused holds.done ++ line ∷ [] =
    accepted_next view.refused holds.done line false (not_refused view.refused line next.above_refused) in
    let after : after_lines (accepted view.refused (holds.done ++ line ∷ [])) no_transactions ≡ record { ended = so_far.ended ++ alone statement ∷ []; begun = None } =
    ap (λ (ls : List ScriptLine). after_lines ls no_transactions) lines
    ∙ after_lines-append (accepted view.refused holds.done) (line ∷ []) no_transactions
    ∙ ap (λ (s : ScriptStep). after_step s so_far) step
    ∙ run_alone statement so_far holds.none_begun in
    session_does schemas entries (entries ++ (statement ∷ []) ∷ []) view view.refused line holds next
    (ap (λ (before : List (List Statement)). before ++ (statement ∷ []) ∷ []) holds.calls
    ∙ sym (logged_alone so_far.ended statement fits.2)
    ∙ sym (ap (λ (t : Transactions). all_logged_of t.ended) after))
    (ap (λ (t : Transactions). t.begun) after)
    next.more_above_refused

pub session_refused : (schemas : List Schema) (entries : List (List Statement)) (view : SessionView) (line : ScriptLine) (new : Refusal)
    → SessionHolds schemas entries view
    → slice_get view.script view.next ≡ Some line
    → new.line ≡ line.line
    → SessionHolds schemas entries (record view { next = view.next + 1; refused = view.refused ++ new ∷ [] })
session_refused schemas entries view line new holds at numbered =
    let next = next_line schemas entries view line holds at in
    let refused : List Refusal = view.refused ++ new ∷ [] in
    let below : LinesBelow new.line holds.done = subst (λ n. LinesBelow n holds.done) (sym numbered) next.above_done in
    let lines : accepted refused (holds.done ++ line ∷ []) ≡ accepted view.refused holds.done =
    accepted_next refused holds.done line true (now_refused new view.refused line numbered)
    ∙ append-nil (accepted refused holds.done)
    ∙ accepted_same new view.refused holds.done below in
    session_does schemas entries entries view refused line holds next
    (holds.calls ∙ sym (ap (λ (ls : List ScriptLine). all_logged_of (after_lines ls no_transactions).ended) lines))
    (ap (λ (ls : List ScriptLine). (after_lines ls no_transactions).begun) lines ∙ holds.none_begun)
    (each_both
    (λ (later : ScriptLine). RefusalsBelow later.line view.refused)
    (λ (later : ScriptLine). line.line < later.line)
    (λ (later : ScriptLine). RefusalsBelow later.line refused)
    next.more
    (λ later lower less. each_append (λ (refusal : Refusal). refusal.line < later.line) view.refused (new ∷ []) lower (subst (λ n. n < later.line) (sym numbered) less, tt))
    next.more_above_refused next.more_later)

-- the sessions, of which the first has this number
abbrev pub EachSession : List Schema → List Entry → ℕ → List SessionView → Type 0
EachSession schemas log number [] = Unit {0}
EachSession schemas log number (view ∷ views) = SessionHolds schemas (logged_by number log) view × EachSession schemas log (number + 1) views

pub sessions_begun : (schemas : List Schema) (number : ℕ) (scripts : List Script) → AllByRecursion (ScriptFits schemas) scripts → EachSession schemas [] number (map unstarted scripts)
sessions_begun schemas number [] fit = tt
sessions_begun schemas number (script ∷ scripts) fit = (
  record {
    done = [];
    rest = script.lines;
    script = refl;
    counted = refl;
    calls = refl;
    none_begun = refl;
    fits = fit.0.steps;
    rise = fit.0.numbers;
    all_rise = fit.0.numbers;
    above_done = each_always (λ (line : ScriptLine). LinesBelow line.line []) script.lines (λ line. tt);
    above_refused = each_always (λ (line : ScriptLine). RefusalsBelow line.line []) script.lines (λ line. tt);
  },
  sessions_begun schemas (number + 1) scripts fit.1,
)

pub sessions_at : (schemas : List Schema) (log : List Entry) (number place session : ℕ) (views : List SessionView) (view : SessionView)
    → session ≡ place + number
    → slice_get views place ≡ Some view
    → EachSession schemas log number views
    → SessionHolds schemas (logged_by session log) view
sessions_at schemas log number place session [] view is found each = absurd (cc)
sessions_at schemas log number zero session (first ∷ views) view is found each =
    let same : first ≡ view = cc in
    let at : number ≡ session = omega arith in
    subst (λ s. SessionHolds schemas (logged_by s log) view) at (subst (SessionHolds schemas (logged_by number log)) same each.0)
sessions_at schemas log number (suc place) session (first ∷ views) view is found each =
    sessions_at schemas log (number + 1) place session views view (omega arith) found each.1

-- a log that has the same entries of these sessions
pub sessions_kept : (schemas : List Schema) (log new : List Entry) (number : ℕ) (views : List SessionView)
    → ((session : ℕ) → number ≤ session → logged_by session new ≡ logged_by session log)
    → EachSession schemas log number views
    → EachSession schemas new number views
sessions_kept schemas log new number [] same each = tt
sessions_kept schemas log new number (view ∷ views) same each = (
  subst (λ (entries : List (List Statement)). SessionHolds schemas entries view) (sym (same number (omega arith))) each.0,
  sessions_kept schemas log new (number + 1) views (λ session least. same session (omega arith)) each.1,
)

-- one session did a line
pub sessions_set : (schemas : List Schema) (log new : List Entry) (number place session : ℕ) (views : List SessionView) (view now : SessionView)
    → session ≡ place + number
    → slice_get views place ≡ Some view
    → ((other : ℕ) → other ≢ session → logged_by other new ≡ logged_by other log)
    → SessionHolds schemas (logged_by session new) now
    → EachSession schemas log number views
    → EachSession schemas new number (slice_set views place now)
sessions_set schemas log new number place session [] view now is found same holds each = tt
sessions_set schemas log new number zero session (first ∷ views) view now is found same holds each =
    let at : session ≡ number = omega arith in (
      subst (λ s. SessionHolds schemas (logged_by s new) now) at holds,
      sessions_kept schemas log new (number + 1) views (λ other least. same other (λ no. omega arith)) each.1,
    )
sessions_set schemas log new number (suc place) session (first ∷ views) view now is found same holds each =
    let kept : logged_by number log ≡ logged_by number new = sym (same number (λ no. omega arith)) in (
      subst (λ (entries : List (List Statement)). SessionHolds schemas entries first) kept each.0,
      sessions_set schemas log new (number + 1) place session views view now (omega arith) found same holds each.1,
    )

-- where a session can't move, it is through its script
none_left : (done rest : List ScriptLine) → slice_get (done ++ rest) (length done) ≡ None → rest ≡ []
none_left [] [] is = refl
none_left [] (line ∷ rest) is = absurd (cc)
none_left (first ∷ done) rest is = none_left done rest is

pub session_ended : (schemas : List Schema) (log : List Entry) (session : ℕ) (view : SessionView)
    → SessionHolds schemas (logged_by session log) view
    → slice_get view.script view.next ≡ None
    → OwnCalls log session view
session_ended schemas log session view holds none =
    let there : slice_get (holds.done ++ holds.rest) (length holds.done) ≡ None =
    ap (λ (lines : List ScriptLine). slice_get lines (length holds.done)) (sym holds.script) ∙ ap (slice_get view.script) (sym holds.counted) ∙ none in
    let all : view.script ≡ holds.done =
    holds.script ∙ ap (λ (lines : List ScriptLine). holds.done ++ lines) (none_left holds.done holds.rest there) ∙ append-nil holds.done in
    record {
      through = holds.counted ∙ ap length (sym all);
      calls = holds.calls ∙ ap (calls_of view.refused) (sym all);
    }

no_line : (session : ℕ) (view : SessionView) (w : WorldView) (next : Option ScriptLine)
    → option_map (λ (after : SessionView × NodeView). with_session session after w) (option_map (λ (line : ScriptLine). step_left session view line line.step w.source) next) ≡ None → next ≡ None
no_line session view w None is = refl
no_line session view w (Some line) is = absurd (cc)

pub sessions_ended : (w : WorldView) (schemas : List Schema) (number : ℕ) (views : List SessionView)
    → LastFrom w.sessions number views
    → EachSession schemas w.source.history number views
    → AllByRecursion (λ item. move item w ≡ None) (sessions_from number views)
    → EachOwnCalls w.source.history number views
sessions_ended w schemas number [] last each still = tt
sessions_ended w schemas number (view ∷ views) last each still =
    let found : slice_get w.sessions (number - 1) ≡ Some view = last_first w.sessions number view views last in
    let none : line_turn number view w ≡ None = ap (option_and_then (λ (v : SessionView). line_turn number v w)) (sym found) ∙ still.0 in (
      session_ended schemas w.source.history number view each.0 (no_line number view w (slice_get view.script view.next) none),
      sessions_ended w schemas (number + 1) views (last_more w.sessions number view views last) each.1 still.1,
    )
