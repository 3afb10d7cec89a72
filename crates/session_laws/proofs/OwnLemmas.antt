-- What is behind a session is what it has written: how this stays as lines are done, rolled back, abandoned and committed.
use Rattle.std.proofs.Common.{◌≡◌, ◌≢◌, ◌∙◌, ℕ, ◌+◌, ◌<◌, true, false, List, [], ◌∷◌, ◌++◌, length, take, Option, None, Some, IfSome, refl, ap, sym, subst, append_assoc, append-nil, length-append, arith}
use Rattle.std.specs.List.{AllByRecursion}
use Rattle.row_types.specs.declared.table_schema.Schema.{Schema}
use Rattle.ptc_statement.specs.declared.statements.Statement.{Statement}
use Rattle.ptc_statement.specs.declared.scripts.ScriptLine.{ScriptLine}
use Rattle.ptc_statement.specs.declared.scripts.ScriptStep.TheVariants.{Begin, Run}
use Rattle.statement_log.specs.declared.entries.Entry.{Entry}
use Rattle.statement_log.specs.declared.origins.Origin.{Origin}
use Rattle.lock_table.specs.declared.wants.Owner.{Owner}
use Rattle.node_model.specs.declared.txns.Walk.{Walk}
use Rattle.node_model.specs.declared.txns.Txn.{Txn}
use Rattle.node_model.specs.Txns.{txn_of}
use Rattle.node_model.specs.Node.{NodeView}
use Rattle.session.specs.declared.stages.Stage.{Stage}
use Rattle.session.specs.declared.stages.Stage.TheVariants.{Between, Within, Alone}
use Rattle.session.specs.Sessions.{SessionView, advanced, with_refusal, begun_again}
use Rattle.session_laws.specs.OwnCalls.{is_among, Place, calls_from, is_whole, LinesRise, own_entries}
use Rattle.session_laws.proofs.LineLemmas.{places, places_more, calls_more, IsRun, AreRuns, kept_at, kept_of, closed, kept_more, SameAmong, calls_same, places_same, kept_same, calls_without}
use Rattle.session_laws.proofs.ListLemmas.{taken, all_left, all_right, all_map, all_both, rise_below, rise_above, among_more, among_last, among_joined, below_apart, above_apart}

abbrev pub IsFresh : List ℕ → List ScriptLine → Type 0
IsFresh numbers lines = AllByRecursion (λ (line : ScriptLine). is_among line.line numbers ≡ false) lines

pub fresh_none : (lines : List ScriptLine) → IsFresh [] lines
fresh_none [] = tt
fresh_none (line ∷ lines) = (refl, fresh_none lines)

-- what is behind a session, and the lines from there on
pub record Behind (origin : Origin) (start : List Entry) (before abandoned : List ℕ) (ended : ℕ) (entries : List Entry) (behind from : List ScriptLine) : Type 0 where
  pub place : places before (closed 1) behind ≡ closed (ended + 1)
  pub calls : entries ≡ start ++ calls_from origin abandoned before (closed 1) behind
  pub few : (k : ℕ) → ended < k → is_among k abandoned ≡ false
  pub whole : is_whole false from ≡ true
  pub fresh : IsFresh before from

-- a transaction goes behind
pub record Closes (origin : Origin) (before after abandoned given : List ℕ) (ended : ℕ) (entries new : List Entry) (behind txn rest : List ScriptLine) : Type 0 where
  pub same : SameAmong after before behind
  pub earlier : (k : ℕ) → k < ended + 1 → is_among k given ≡ is_among k abandoned
  pub later : (k : ℕ) → ended + 1 < k → is_among k given ≡ false
  pub place : places after (closed (ended + 1)) txn ≡ closed (ended + 1 + 1)
  pub written : new ≡ entries ++ calls_from origin given after (closed (ended + 1)) txn
  pub whole : is_whole false rest ≡ true
  pub fresh : IsFresh after rest

behind_more : (origin : Origin) (start : List Entry) (before after abandoned given : List ℕ) (ended : ℕ) (entries new : List Entry) (behind txn rest : List ScriptLine)
    → Behind origin start before abandoned ended entries behind (txn ++ rest) → Closes origin before after abandoned given ended entries new behind txn rest
    → Behind origin start after given (ended + 1) new (behind ++ txn) rest
behind_more origin start before after abandoned given ended entries new behind txn rest b c = record {
  place = places_more after (closed 1) behind txn ∙ ap (λ (p : Place). places after p txn) there ∙ c.place;
  calls =
      c.written
      ∙ ap (λ (es : List Entry). es ++ calls_from origin given after (closed (ended + 1)) txn) b.calls
      ∙ append_assoc start (calls_from origin abandoned before (closed 1) behind) (calls_from origin given after (closed (ended + 1)) txn)
      ∙ ap (λ (es : List Entry). start ++ es) (sym joined);
  few = c.later;
  whole = c.whole;
  fresh = c.fresh;
}
  where
    there : places after (closed 1) behind ≡ closed (ended + 1)
    there = places_same after before (closed 1) behind c.same ∙ b.place

    earlier : calls_from origin given after (closed 1) behind ≡ calls_from origin abandoned before (closed 1) behind
    earlier =
        calls_without origin given abandoned after (closed 1) behind (λ k below. c.earlier k (subst (λ (p : Place). k < p.number) (places_same after before (closed 1) behind c.same ∙ b.place) below))
        ∙ calls_same origin abandoned after before (closed 1) behind c.same

    joined : calls_from origin given after (closed 1) (behind ++ txn) ≡ calls_from origin abandoned before (closed 1) behind ++ calls_from origin given after (closed (ended + 1)) txn
    joined =
        calls_more origin given after (closed 1) behind txn
        ∙ ap (λ (es : List Entry). es ++ calls_from origin given after (places after (closed 1) behind) txn) earlier
        ∙ ap (λ (p : Place). calls_from origin abandoned before (closed 1) behind ++ calls_from origin given after p txn) there

-- a statement in progress is that of the next line

abbrev pub Going : Option Walk → List ScriptLine → Type 0
Going None rest = Unit {0}
Going (Some walk) [] = ⊥
Going (Some walk) (line ∷ rest) = line.step ≡ Run walk.statement

abbrev pub IsDoing : Option Walk → ScriptLine → Type 0
IsDoing None line = ⊥
IsDoing (Some walk) line = line.step ≡ Run walk.statement

-- where a session is, by its stage: in a transaction from BEGIN on, or at a lone statement, or between
abbrev pub Staged : Stage → ℕ → ℕ → List ℕ → List ℕ → List ScriptLine → List ScriptLine → Option Txn → Type 0
Staged Between behind first refused more [] rest txn = (txn ≡ None) × (more ≡ [])
Staged Between behind first refused more (line ∷ mid) rest txn = ⊥
Staged Within behind first refused more [] rest txn = ⊥
Staged Within behind first refused more (line ∷ mid) rest txn =
    (first ≡ behind) × (line.step ≡ Begin) × AreRuns mid × (is_whole true rest ≡ true)
    × IfSome txn (λ (t : Txn). (t.done ≡ kept_of refused (line ∷ mid)) × Going t.current rest)
Staged Alone behind first refused more [] [] txn = ⊥
Staged Alone behind first refused more [] (line ∷ rest) txn = (first ≡ behind) × IsRun line.step × IfSome txn (λ (t : Txn). (t.done ≡ []) × IsDoing t.current line)
Staged Alone behind first refused more (line ∷ []) rest txn =
    (first ≡ behind) × IsRun line.step × IfSome txn (λ (t : Txn). (t.done ≡ kept_of refused (line ∷ [])) × (t.current ≡ None))
Staged Alone behind first refused more (line ∷ other ∷ mid) rest txn = ⊥

-- what a session has written, and where it is
pub record IsOwn (owner : Owner) (origin : Origin) (script : List ScriptLine) (schemas : List Schema) (start : List Entry) (behind mid rest : List ScriptLine) (before more : List ℕ) (session : SessionView) (node : NodeView) : Type 0 where
  pub owner_is : session.owner ≡ owner
  pub origin_is : session.origin ≡ origin
  pub script_is : session.script ≡ script
  pub schemas_are : node.schemas ≡ schemas
  pub split : script ≡ behind ++ (mid ++ rest)
  pub next : session.next ≡ length behind + length mid
  pub refused : session.refused ≡ before ++ more
  pub settled : session.settled ≡ length before
  pub fresh : IsFresh more rest
  pub apart : IsFresh more behind
  pub core : Behind origin start before session.abandoned session.ended (own_entries origin node.history) behind (mid ++ rest)
  pub staged : Staged session.stage (length behind) session.first (before ++ more) more mid rest (txn_of session.owner.0 node.txns)

pub record Owns (owner : Owner) (origin : Origin) (script : List ScriptLine) (schemas : List Schema) (start : List Entry) (session : SessionView) (node : NodeView) : Type 0 where
  pub behind : List ScriptLine
  pub mid : List ScriptLine
  pub rest : List ScriptLine
  pub before : List ℕ
  pub more : List ℕ
  pub is : IsOwn owner origin script schemas start behind mid rest before more session node

-- nothing is seen of the node but its transaction
pub stays : (owner : Owner) (origin : Origin) (script : List ScriptLine) (schemas : List Schema) (start : List Entry) (behind mid rest : List ScriptLine) (before more : List ℕ) (session : SessionView) (node new : NodeView)
    → IsOwn owner origin script schemas start behind mid rest before more session node → new.schemas ≡ node.schemas → own_entries origin new.history ≡ own_entries origin node.history
    → Staged session.stage (length behind) session.first (before ++ more) more mid rest (txn_of session.owner.0 new.txns)
    → IsOwn owner origin script schemas start behind mid rest before more session new
stays owner origin script schemas start behind mid rest before more session node new o same entries staged = record {
  owner_is = o.owner_is;
  origin_is = o.origin_is;
  script_is = o.script_is;
  schemas_are = same ∙ o.schemas_are;
  split = o.split;
  next = o.next;
  refused = o.refused;
  settled = o.settled;
  fresh = o.fresh;
  apart = o.apart;
  core = subst (λ (es : List Entry). Behind origin start before session.abandoned session.ended es behind (mid ++ rest)) (sym entries) o.core;
  staged = staged;
}

-- a transaction went behind
pub closing : (owner : Owner) (origin : Origin) (script : List ScriptLine) (schemas : List Schema) (start : List Entry) (behind mid rest : List ScriptLine) (before more : List ℕ) (session : SessionView) (node new : NodeView)
    (txn left : List ScriptLine) (after given refused : List ℕ) (next first settled : ℕ) → IsOwn owner origin script schemas start behind mid rest before more session node
    → mid ++ rest ≡ txn ++ left → new.schemas ≡ node.schemas → Closes origin before after session.abandoned given session.ended (own_entries origin node.history) (own_entries origin new.history) behind txn left
    → next ≡ length behind + length txn → refused ≡ after → settled ≡ length after → txn_of session.owner.0 new.txns ≡ None
    → Owns owner origin script schemas start
    (record { owner = session.owner; origin = session.origin; script = session.script; next = next; first = first; stage = Between; in_progress = false; rollbacks = 0; ended = session.ended + 1; abandoned = given; refused = refused; settled = settled }) new
closing owner origin script schemas start behind mid rest before more session node new txn left after given refused next first settled o cut same closes at_next are_refused are_settled none = record {
  behind = behind ++ txn;
  mid = [];
  rest = left;
  before = after;
  more = [];
  is = record {
    owner_is = o.owner_is;
    origin_is = o.origin_is;
    script_is = o.script_is;
    schemas_are = same ∙ o.schemas_are;
    split = o.split ∙ ap (λ (l : List ScriptLine). behind ++ l) cut ∙ sym (append_assoc behind txn left);
    next =
        let e : length (behind ++ txn) ≡ length behind + length txn = length-append behind txn in
        let r : next ≡ length (behind ++ txn) + 0 = omega arith in
        r;
    refused = are_refused ∙ sym (append-nil after);
    settled = are_settled;
    fresh = fresh_none left;
    apart = fresh_none (behind ++ txn);
    core = behind_more origin start before after session.abandoned given session.ended (own_entries origin node.history) (own_entries origin new.history) behind txn left
        (subst (Behind origin start before session.abandoned session.ended (own_entries origin node.history) behind) cut o.core) closes;
    staged = (none, refl);
  };
}

-- back to the first line
pub again : (owner : Owner) (origin : Origin) (script : List ScriptLine) (schemas : List Schema) (start : List Entry) (behind mid rest : List ScriptLine) (before more : List ℕ) (session : SessionView) (node new : NodeView)
    → IsOwn owner origin script schemas start behind mid rest before more session node → session.first ≡ length behind → new.schemas ≡ node.schemas → own_entries origin new.history ≡ own_entries origin node.history
    → txn_of session.owner.0 new.txns ≡ None → Owns owner origin script schemas start (begun_again session) new
again owner origin script schemas start behind mid rest before more session node new o at_first same entries none = record {
  behind = behind;
  mid = [];
  rest = mid ++ rest;
  before = before;
  more = [];
  is = record {
    owner_is = o.owner_is;
    origin_is = o.origin_is;
    script_is = o.script_is;
    schemas_are = same ∙ o.schemas_are;
    split = o.split;
    next =
        let r : session.first ≡ length behind + 0 = omega arith in
        r;
    refused = (λ i. take (o.settled i) (o.refused i)) ∙ taken before more ∙ sym (append-nil before);
    settled = o.settled;
    fresh = fresh_none (mid ++ rest);
    apart = fresh_none behind;
    core = subst (λ (es : List Entry). Behind origin start before session.abandoned session.ended es behind (mid ++ rest)) (sym entries) o.core;
    staged = (none, refl);
  };
}

-- a line more is done

not_among : (before more : List ℕ) (line : ℕ) → is_among line before ≡ false → is_among line more ≡ false → is_among line (before ++ more) ≡ false
not_among before more line one other = among_joined line before more other ∙ one

pub done_more : (owner : Owner) (origin : Origin) (script : List ScriptLine) (schemas : List Schema) (start : List Entry) (behind mid : List ScriptLine) (line : ScriptLine) (rest : List ScriptLine) (before more : List ℕ) (session : SessionView) (node new : NodeView)
    → IsOwn owner origin script schemas start behind mid (line ∷ rest) before more session node → new.schemas ≡ node.schemas → own_entries origin new.history ≡ own_entries origin node.history
    → Staged session.stage (length behind) session.first (before ++ more) more (mid ++ line ∷ []) rest (txn_of session.owner.0 new.txns)
    → Owns owner origin script schemas start (advanced session) new
done_more owner origin script schemas start behind mid line rest before more session node new o same entries staged = record {
  behind = behind;
  mid = mid ++ line ∷ [];
  rest = rest;
  before = before;
  more = more;
  is = record {
    owner_is = o.owner_is;
    origin_is = o.origin_is;
    script_is = o.script_is;
    schemas_are = same ∙ o.schemas_are;
    split = o.split ∙ ap (λ (l : List ScriptLine). behind ++ l) (sym (append_assoc mid (line ∷ []) rest));
    next =
        let e : length (mid ++ line ∷ []) ≡ length mid + 1 = length-append mid (line ∷ []) in
        let r : session.next + 1 ≡ length behind + length (mid ++ line ∷ []) = omega (arith, o.next) in
        r;
    refused = o.refused;
    settled = o.settled;
    fresh = o.fresh.1;
    apart = o.apart;
    core = subst (Behind origin start before session.abandoned session.ended (own_entries origin new.history) behind) (sym (append_assoc mid (line ∷ []) rest))
        (subst (λ (es : List Entry). Behind origin start before session.abandoned session.ended es behind (mid ++ line ∷ rest)) (sym entries) o.core);
    staged = staged;
  };
}

-- a line more was refused

rises : (script behind mid : List ScriptLine) (line : ScriptLine) (rest : List ScriptLine) → LinesRise script → script ≡ behind ++ (mid ++ line ∷ rest) → LinesRise ((behind ++ mid) ++ line ∷ rest)
rises script behind mid line rest rise split = subst LinesRise (split ∙ sym (append_assoc behind mid (line ∷ rest))) rise

pub fresh_more : (more : List ℕ) (line : ℕ) (lines : List ScriptLine) → AllByRecursion (λ (l : ScriptLine). l.line ≢ line) lines → IsFresh more lines → IsFresh (more ++ line ∷ []) lines
fresh_more more line lines apart fresh =
    all_both (λ (l : ScriptLine). l.line ≢ line) (λ (l : ScriptLine). is_among l.line more ≡ false) (λ (l : ScriptLine). is_among l.line (more ++ line ∷ []) ≡ false) lines
    (λ l a f. among_more l.line line more a ∙ f) apart fresh

pub before_apart : (lines : List ScriptLine) (line : ScriptLine) → AllByRecursion (λ (l : ScriptLine). l.line < line.line) lines → AllByRecursion (λ (l : ScriptLine). l.line ≢ line.line) lines
before_apart lines line below = all_map (λ (l : ScriptLine). l.line < line.line) (λ (l : ScriptLine). l.line ≢ line.line) lines (λ l b. below_apart l.line line.line b) below

behind_apart : (lines : List ScriptLine) (line : ScriptLine) → AllByRecursion (λ (l : ScriptLine). line.line < l.line) lines → AllByRecursion (λ (l : ScriptLine). l.line ≢ line.line) lines
behind_apart lines line above = all_map (λ (l : ScriptLine). line.line < l.line) (λ (l : ScriptLine). l.line ≢ line.line) lines (λ l b. above_apart l.line line.line b) above

pub refused_more : (owner : Owner) (origin : Origin) (script : List ScriptLine) (schemas : List Schema) (start : List Entry) (behind mid : List ScriptLine) (line : ScriptLine) (rest : List ScriptLine) (before more : List ℕ) (session : SessionView) (node new : NodeView)
    → LinesRise script → IsOwn owner origin script schemas start behind mid (line ∷ rest) before more session node → new.schemas ≡ node.schemas → own_entries origin new.history ≡ own_entries origin node.history
    → Staged session.stage (length behind) session.first (before ++ (more ++ line.line ∷ [])) (more ++ line.line ∷ []) (mid ++ line ∷ []) rest (txn_of session.owner.0 new.txns)
    → Owns owner origin script schemas start (with_refusal line.line session) new
refused_more owner origin script schemas start behind mid line rest before more session node new rise o same entries staged = record {
  behind = behind;
  mid = mid ++ line ∷ [];
  rest = rest;
  before = before;
  more = more ++ line.line ∷ [];
  is = record {
    owner_is = o.owner_is;
    origin_is = o.origin_is;
    script_is = o.script_is;
    schemas_are = same ∙ o.schemas_are;
    split = o.split ∙ ap (λ (l : List ScriptLine). behind ++ l) (sym (append_assoc mid (line ∷ []) rest));
    next =
        let e : length (mid ++ line ∷ []) ≡ length mid + 1 = length-append mid (line ∷ []) in
        let r : session.next + 1 ≡ length behind + length (mid ++ line ∷ []) = omega (arith, o.next) in
        r;
    refused = ap (λ (l : List ℕ). l ++ line.line ∷ []) o.refused ∙ append_assoc before more (line.line ∷ []);
    settled = o.settled;
    fresh = fresh_more more line.line rest (behind_apart rest line (rise_above (behind ++ mid) line rest (rises script behind mid line rest rise o.split))) o.fresh.1;
    apart = fresh_more more line.line behind
        (before_apart behind line (all_left (λ (l : ScriptLine). l.line < line.line) behind mid (rise_below (behind ++ mid) line rest (rises script behind mid line rest rise o.split)))) o.apart;
    core = subst (Behind origin start before session.abandoned session.ended (own_entries origin new.history) behind) (sym (append_assoc mid (line ∷ []) rest))
        (subst (λ (es : List Entry). Behind origin start before session.abandoned session.ended es behind (mid ++ line ∷ rest)) (sym entries) o.core);
    staged = staged;
  };
}

-- the statements so far, with one more that was done, and with one that was refused

pub kept_done : (before more : List ℕ) (mid : List ScriptLine) (line : ScriptLine) (statement : Statement) (done : List Statement) → done ≡ kept_of (before ++ more) mid → line.step ≡ Run statement
    → is_among line.line before ≡ false → is_among line.line more ≡ false → done ++ statement ∷ [] ≡ kept_of (before ++ more) (mid ++ line ∷ [])
kept_done before more mid line statement done is step one other =
    ap (λ (l : List Statement). l ++ statement ∷ []) is
    ∙ sym (kept_more (before ++ more) mid (line ∷ []) ∙ (λ i. kept_of (before ++ more) mid ++ (kept_at (not_among before more line.line one other i) (step i) ++ [])))

pub kept_refused : (script behind mid : List ScriptLine) (line : ScriptLine) (rest : List ScriptLine) (before more : List ℕ) (statement : Statement) (done : List Statement) → LinesRise script → script ≡ behind ++ (mid ++ line ∷ rest)
    → done ≡ kept_of (before ++ more) mid → line.step ≡ Run statement → done ≡ kept_of (before ++ (more ++ line.line ∷ [])) (mid ++ line ∷ [])
kept_refused script behind mid line rest before more statement done rise split is step =
    is
    ∙ sym (kept_more (before ++ (more ++ line.line ∷ [])) mid (line ∷ [])
    ∙ (λ i. kept_of (sym (append_assoc before more (line.line ∷ [])) i) mid ++ (kept_at (among i) (step i) ++ []))
    ∙ append-nil (kept_of ((before ++ more) ++ line.line ∷ []) mid)
    ∙ kept_same ((before ++ more) ++ line.line ∷ []) (before ++ more) mid same)
  where
    among : is_among line.line (before ++ (more ++ line.line ∷ [])) ≡ true
    among = ap (is_among line.line) (sym (append_assoc before more (line.line ∷ []))) ∙ among_last line.line (before ++ more)

    same : SameAmong ((before ++ more) ++ line.line ∷ []) (before ++ more) mid
    same =
        all_map (λ (l : ScriptLine). l.line < line.line) (λ (l : ScriptLine). is_among l.line ((before ++ more) ++ line.line ∷ []) ≡ is_among l.line (before ++ more)) mid
        (λ l b. among_more l.line line.line (before ++ more) (below_apart l.line line.line b))
        (all_right (λ (l : ScriptLine). l.line < line.line) behind mid (rise_below (behind ++ mid) line rest (rises script behind mid line rest rise split)))
