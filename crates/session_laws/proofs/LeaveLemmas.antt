-- A transaction that is rolled back, abandoned or committed.
use Rattle.std.proofs.Common.{◌≡◌, ◌∙◌, ℕ, ◌+◌, ◌<◌, Bool, true, false, cond, List, [], ◌∷◌, ◌++◌, length, take, drop, Option, None, Some, refl, ap, sym, subst, append_assoc, append-nil, length-append, arith}
use Rattle.std.specs.Prelude.{nat_lt}
use Rattle.std.specs.List.{AllByRecursion}
use Rattle.row_types.specs.declared.table_schema.Schema.{Schema}
use Rattle.ptc_statement.specs.declared.statements.Statement.{Statement}
use Rattle.ptc_statement.specs.declared.scripts.ScriptLine.{ScriptLine}
use Rattle.ptc_statement.specs.declared.scripts.ScriptStep.{ScriptStep}
use Rattle.ptc_statement.specs.declared.scripts.ScriptStep.TheVariants.{Begin, Commit, Rollback, Run}
use Rattle.statement_log.specs.declared.entries.Entry.{Entry}
use Rattle.statement_log.specs.declared.origins.Origin.{Origin}
use Rattle.lock_table.specs.declared.wants.Owner.{Owner}
use Rattle.node_model.specs.declared.txns.Txn.{Txn}
use Rattle.node_model.specs.Txns.{txn_of}
use Rattle.node_model.specs.Node.{NodeView, ended, committed, written, logged}
use Rattle.node_model.proofs.TxnLemmas.{txn_gone, txn_owner}
use Rattle.session.specs.declared.stages.Stage.{Stage}
use Rattle.session.specs.declared.stages.Stage.TheVariants.{Between, Within, Alone}
use Rattle.session.specs.Sessions.{SessionView, RunFits, is_open, txn_lines, lines_to_end, begun_again, abandoning, rolled_back}
use Rattle.session_laws.specs.OwnCalls.{is_among, entry_of, entries_at, calls_from, is_own, own_entries, is_whole, LinesRise}
use Rattle.session_laws.proofs.LineLemmas.{places, IsRun, AreRuns, IsEnd, kept_of, closed, SameAmong, txn_place, txn_calls, lone_place, lone_calls}
use Rattle.session_laws.proofs.CallLemmas.{own_more, own_written}
use Rattle.session_laws.proofs.ListLemmas.{taken, dropped, all_right, all_joined, all_map, all_both, among_more, among_last, among_joined, below_apart, above_apart, whole_after_run, Ends, ends_of, to_end_more}
use Rattle.session_laws.proofs.OwnLemmas.{Staged, IsOwn, Owns, closing, again}

-- what does not change
pub record Ground : Type 0 where
  pub owner : Owner
  pub origin : Origin
  pub script : List ScriptLine
  pub schemas : List Schema
  pub start : List Entry
  pub own : is_own origin origin ≡ true
  pub rise : LinesRise script
  pub fits : AllByRecursion (λ (line : ScriptLine). RunFits schemas line.step) script

abbrev pub Holds : Ground → List ScriptLine → List ScriptLine → List ScriptLine → List ℕ → List ℕ → SessionView → NodeView → Type 0
Holds g behind mid rest before more session node = IsOwn g.owner g.origin g.script g.schemas g.start behind mid rest before more session node

abbrev pub Fine : Ground → SessionView → NodeView → Type 0
Fine g session node = Owns g.owner g.origin g.script g.schemas g.start session node

-- the transaction is gone, and nothing was written
pub record IsGone (g : Ground) (session : SessionView) (node new : NodeView) : Type 0 where
  pub schemas : new.schemas ≡ node.schemas
  pub entries : own_entries g.origin new.history ≡ own_entries g.origin node.history
  pub txn : txn_of session.owner.0 new.txns ≡ None

same_self : (numbers : List ℕ) (lines : List ScriptLine) → SameAmong numbers numbers lines
same_self numbers [] = tt
same_self numbers (line ∷ lines) = (refl, same_self numbers lines)

taken_before : (g : Ground) (behind mid rest : List ScriptLine) (before more : List ℕ) (session : SessionView) (node : NodeView) → Holds g behind mid rest before more session node
    → take session.settled session.refused ≡ before
taken_before g behind mid rest before more session node o = (λ i. take (o.settled i) (o.refused i)) ∙ taken before more

abandon : (g : Ground) (behind mid rest : List ScriptLine) (before more : List ℕ) (session : SessionView) (node new : NodeView) (txn left : List ScriptLine) → Holds g behind mid rest before more session node → IsGone g session node new
    → mid ++ rest ≡ txn ++ left → places before (closed (session.ended + 1)) txn ≡ closed (session.ended + 1 + 1)
    → calls_from g.origin (session.abandoned ++ (session.ended + 1) ∷ []) before (closed (session.ended + 1)) txn ≡ [] → is_whole false left ≡ true
    → session.first + txn_lines session.stage (drop session.first session.script) ≡ length behind + length txn → Fine g (abandoning session) new
abandon g behind mid rest before more session node new txn left o gone cut place silent whole next =
    closing g.owner g.origin g.script g.schemas g.start behind mid rest before more session node new txn left before (session.abandoned ++ (session.ended + 1) ∷ []) (take session.settled session.refused)
    (session.first + txn_lines session.stage (drop session.first session.script)) session.first session.settled o cut gone.schemas
    (record {
      same = same_self before behind;
      earlier = λ k below. among_more k (session.ended + 1) session.abandoned (below_apart k (session.ended + 1) below);
      later = λ k above.
          let far : session.ended < k = omega arith in
          among_more k (session.ended + 1) session.abandoned (above_apart k (session.ended + 1) above) ∙ o.core.few k far;
      place = place;
      written = gone.entries ∙ sym (append-nil (own_entries g.origin node.history)) ∙ ap (λ (es : List Entry). own_entries g.origin node.history ++ es) (sym silent);
      whole = whole;
      fresh = all_right (λ (l : ScriptLine). is_among l.line before ≡ false) txn left (subst (AllByRecursion (λ (l : ScriptLine). is_among l.line before ≡ false)) cut o.core.fresh);
    })
    next (taken_before g behind mid rest before more session node o) o.settled gone.txn

end_silent : (origin : Origin) (refused abandoned : Bool) (step : ScriptStep) (done : List Statement) → abandoned ≡ true → IsEnd step → entries_at origin abandoned refused step (Some done) ≡ []
end_silent origin refused abandoned Begin done e is = absurd is
end_silent origin refused abandoned (Run statement) done e is = absurd is
end_silent origin refused abandoned Commit done e is = ap (λ (b : Bool). entry_of origin b done) e
end_silent origin refused abandoned Rollback done e is = refl

left_lines : (g : Ground) (behind mid rest : List ScriptLine) (before more : List ℕ) (session : SessionView) (node : NodeView) → Holds g behind mid rest before more session node → session.first ≡ length behind
    → drop session.first session.script ≡ mid ++ rest
left_lines g behind mid rest before more session node o first = (λ i. drop (first i) ((o.script_is ∙ o.split) i)) ∙ dropped behind (mid ++ rest)

abandon_lone : (g : Ground) (behind mid rest : List ScriptLine) (before more : List ℕ) (session : SessionView) (node new : NodeView) (line : ScriptLine) (left : List ScriptLine) → Holds g behind mid rest before more session node → IsGone g session node new
    → mid ++ rest ≡ line ∷ left → session.first ≡ length behind → IsRun line.step → session.stage ≡ Alone → Fine g (abandoning session) new
abandon_lone g behind mid rest before more session node new line left o gone cut first run stage =
    abandon g behind mid rest before more session node new (line ∷ []) left o gone cut (lone_place before (session.ended + 1) line run)
    (lone_calls g.origin (session.abandoned ++ (session.ended + 1) ∷ []) before (session.ended + 1) line run
    ∙ ap (λ (b : Bool). entry_of g.origin b (kept_of before (line ∷ []))) (among_last (session.ended + 1) session.abandoned))
    (whole_after_run false line left run (subst (λ (l : List ScriptLine). is_whole false l ≡ true) cut o.core.whole))
    ((λ i. first i + txn_lines (stage i) (drop session.first session.script)))

abandon_within : (g : Ground) (behind : List ScriptLine) (begin : ScriptLine) (runs rest : List ScriptLine) (before more : List ℕ) (session : SessionView) (node new : NodeView) → Holds g behind (begin ∷ runs) rest before more session node → IsGone g session node new
    → session.first ≡ length behind → begin.step ≡ Begin → AreRuns runs → is_whole true rest ≡ true → session.stage ≡ Within → Fine g (abandoning session) new
abandon_within g behind begin runs rest before more session node new o gone first begins are whole stage =
    abandon g behind (begin ∷ runs) rest before more session node new ((begin ∷ (runs ++ (ends_of rest whole).runs)) ++ (ends_of rest whole).end ∷ []) (ends_of rest whole).rest o gone
    (ap (λ (l : List ScriptLine). (begin ∷ runs) ++ l) e.split
    ∙ sym (append_assoc (begin ∷ runs) e.runs (e.end ∷ e.rest))
    ∙ sym (append_assoc ((begin ∷ runs) ++ e.runs) (e.end ∷ []) e.rest))
    (txn_place before (session.ended + 1) begin e.end (runs ++ e.runs) begins all_runs e.ends)
    (txn_calls g.origin (session.abandoned ++ (session.ended + 1) ∷ []) before (session.ended + 1) begin e.end (runs ++ e.runs) begins all_runs
    ∙ end_silent g.origin (is_among e.end.line before) (is_among (session.ended + 1) (session.abandoned ++ (session.ended + 1) ∷ [])) e.end.step (kept_of before (begin ∷ (runs ++ e.runs)))
    (among_last (session.ended + 1) session.abandoned) e.ends)
    e.whole
    ((λ i. first i + txn_lines (stage i) (left_lines g behind (begin ∷ runs) rest before more session node o first i)) ∙ counted)
  where
    e : Ends rest
    e = ends_of rest whole

    all_runs : AreRuns (runs ++ (ends_of rest whole).runs)
    all_runs = all_joined (λ (l : ScriptLine). IsRun l.step) runs (ends_of rest whole).runs are (ends_of rest whole).are

    counted : length behind + lines_to_end (begin ∷ (runs ++ rest)) ≡ length behind + length ((begin ∷ (runs ++ (ends_of rest whole).runs)) ++ (ends_of rest whole).end ∷ [])
    counted =
        let one : lines_to_end (begin ∷ (runs ++ rest)) ≡ lines_to_end rest + length (begin ∷ runs) = to_end_more begin runs rest begins are in
        let two : lines_to_end rest ≡ length (ends_of rest whole).runs + 1 = (ends_of rest whole).to_end in
        let three : length ((begin ∷ (runs ++ (ends_of rest whole).runs)) ++ (ends_of rest whole).end ∷ []) ≡ length (begin ∷ (runs ++ (ends_of rest whole).runs)) + 1 =
        length-append (begin ∷ (runs ++ (ends_of rest whole).runs)) ((ends_of rest whole).end ∷ []) in
        let four : length (runs ++ (ends_of rest whole).runs) ≡ length runs + length (ends_of rest whole).runs = length-append runs (ends_of rest whole).runs in
        let five : lines_to_end (begin ∷ (runs ++ rest)) ≡ length ((begin ∷ (runs ++ (ends_of rest whole).runs)) ++ (ends_of rest whole).end ∷ []) = omega arith in
        ap (λ (n : ℕ). length behind + n) five

-- rolled back, though not by its script
pub rolled : (g : Ground) (retries : ℕ) (stage : Stage) (behind mid rest : List ScriptLine) (before more : List ℕ) (session : SessionView) (node new : NodeView) (txn : Option Txn) → Holds g behind mid rest before more session node → session.stage ≡ stage → is_open stage ≡ true
    → Staged stage (length behind) session.first (before ++ more) more mid rest txn → IsGone g session node new → Fine g (rolled_back retries session) new
rolled g retries stage behind mid rest before more session node new txn o e opened staged gone = at (nat_lt session.rollbacks retries)
  where
    first : (st : Stage) (m r : List ScriptLine) → is_open st ≡ true → Staged st (length behind) session.first (before ++ more) more m r txn → session.first ≡ length behind
    first Between m r op s = absurd (let q : false ≡ true = op in cc)
    first Within [] r op s = absurd s
    first Within (l ∷ m) r op s = s.0
    first Alone [] [] op s = absurd s
    first Alone [] (l ∷ r) op s = s.0
    first Alone (l ∷ []) r op s = s.0
    first Alone (l ∷ k ∷ m) r op s = absurd s

    away : (st : Stage) (m r : List ScriptLine) → Holds g behind m r before more session node → session.stage ≡ st → is_open st ≡ true → Staged st (length behind) session.first (before ++ more) more m r txn → Fine g (abandoning session) new
    away Between m r h is op s = absurd (let q : false ≡ true = op in cc)
    away Within [] r h is op s = absurd s
    away Within (l ∷ m) r h is op s = abandon_within g behind l m r before more session node new h gone s.0 s.1 s.2 s.3 is
    away Alone [] [] h is op s = absurd s
    away Alone [] (l ∷ r) h is op s = abandon_lone g behind [] (l ∷ r) before more session node new l r h gone refl s.0 s.1 is
    away Alone (l ∷ []) r h is op s = abandon_lone g behind (l ∷ []) r before more session node new l r h gone refl s.0 s.1 is
    away Alone (l ∷ k ∷ m) r h is op s = absurd s

    at : (b : Bool) → Fine g (cond b (begun_again session) (abandoning session)) new
    at true = again g.owner g.origin g.script g.schemas g.start behind mid rest before more session node new o (first stage mid rest opened staged) gone.schemas gone.entries gone.txn
    at false = away stage mid rest o e opened staged

-- committed

pub commits : (g : Ground) (behind mid rest : List ScriptLine) (before more : List ℕ) (session : SessionView) (node : NodeView) (open_txn : Txn) (txn left : List ScriptLine) (next : ℕ) → Holds g behind mid rest before more session node
    → txn_of session.owner.0 node.txns ≡ Some open_txn → mid ++ rest ≡ txn ++ left → places (before ++ more) (closed (session.ended + 1)) txn ≡ closed (session.ended + 1 + 1)
    → calls_from g.origin session.abandoned (before ++ more) (closed (session.ended + 1)) txn ≡ entry_of g.origin (is_among (session.ended + 1) session.abandoned) open_txn.done
    → is_whole false left ≡ true → AllByRecursion (λ (l : ScriptLine). is_among l.line more ≡ false) left → next ≡ length behind + length txn
    → Fine g (record { owner = session.owner; origin = session.origin; script = session.script; next = next; first = session.first; stage = Between; in_progress = false; rollbacks = 0; ended = session.ended + 1; abandoned = session.abandoned; refused = session.refused; settled = length session.refused })
    (committed open_txn session.origin node)
commits g behind mid rest before more session node open_txn txn left next o found cut place calls whole fresh at_next =
    closing g.owner g.origin g.script g.schemas g.start behind mid rest before more session node (committed open_txn session.origin node) txn left (before ++ more) session.abandoned session.refused next session.first (length session.refused) o cut refl
    (record {
      same = all_map (λ (l : ScriptLine). is_among l.line more ≡ false) (λ (l : ScriptLine). is_among l.line (before ++ more) ≡ is_among l.line before) behind (λ l a. among_joined l.line before more a) o.apart;
      earlier = λ k below. refl;
      later = λ k above.
          let far : session.ended < k = omega arith in
          o.core.few k far;
      place = place;
      written =
          own_more g.origin node.history (written session.origin (logged open_txn.done))
          ∙ ap (λ (es : List Entry). own_entries g.origin node.history ++ es)
          (ap (λ (or : Origin). own_entries g.origin (written or (logged open_txn.done))) o.origin_is
          ∙ own_written g.origin (logged open_txn.done) g.own
          ∙ sym (calls ∙ ap (λ (b : Bool). entry_of g.origin b open_txn.done) here));
      whole = whole;
      fresh = all_both (λ (l : ScriptLine). is_among l.line before ≡ false) (λ (l : ScriptLine). is_among l.line more ≡ false) (λ (l : ScriptLine). is_among l.line (before ++ more) ≡ false) left (λ l one other. among_joined l.line before more other ∙ one)
          (all_right (λ (l : ScriptLine). is_among l.line before ≡ false) txn left (subst (AllByRecursion (λ (l : ScriptLine). is_among l.line before ≡ false)) cut o.core.fresh)) fresh;
    })
    at_next o.refused (ap (λ (l : List ℕ). length l) o.refused)
    (ap (λ (n : ℕ). txn_of n (committed open_txn session.origin node).txns) (sym (txn_owner session.owner.0 open_txn node.txns found)) ∙ txn_gone open_txn.owner.0 node.txns)
  where
    here : is_among (session.ended + 1) session.abandoned ≡ false
    here =
        let near : session.ended < session.ended + 1 = omega arith in
        o.core.few (session.ended + 1) near

-- rolled back by its script
pub rolled_by_script : (g : Ground) (behind : List ScriptLine) (begin : ScriptLine) (runs : List ScriptLine) (line : ScriptLine) (left : List ScriptLine) (before more : List ℕ) (session : SessionView) (node : NodeView) → Holds g behind (begin ∷ runs) (line ∷ left) before more session node
    → begin.step ≡ Begin → AreRuns runs → line.step ≡ Rollback → is_whole false left ≡ true
    → Fine g (record { owner = session.owner; origin = session.origin; script = session.script; next = session.next + 1; first = session.first; stage = Between; in_progress = false; rollbacks = 0; ended = session.ended + 1; abandoned = session.abandoned; refused = take session.settled session.refused; settled = session.settled })
    (ended session.owner.0 node)
rolled_by_script g behind begin runs line left before more session node o begins are step whole =
    closing g.owner g.origin g.script g.schemas g.start behind (begin ∷ runs) (line ∷ left) before more session node (ended session.owner.0 node) ((begin ∷ runs) ++ line ∷ []) left before session.abandoned (take session.settled session.refused) (session.next + 1) session.first session.settled o
    cut refl
    (record {
      same = same_self before behind;
      earlier = λ k below. refl;
      later = λ k above.
          let far : session.ended < k = omega arith in
          o.core.few k far;
      place = txn_place before (session.ended + 1) begin line runs begins are (subst IsEnd (sym step) tt);
      written =
          sym (append-nil (own_entries g.origin node.history))
          ∙ ap (λ (es : List Entry). own_entries g.origin node.history ++ es)
          (sym (txn_calls g.origin session.abandoned before (session.ended + 1) begin line runs begins are
          ∙ ap (λ (s : ScriptStep). entries_at g.origin (is_among (session.ended + 1) session.abandoned) (is_among line.line before) s (Some (kept_of before (begin ∷ runs)))) step));
      whole = whole;
      fresh = (all_right (λ (l : ScriptLine). is_among l.line before ≡ false) (begin ∷ runs) (line ∷ left) o.core.fresh).1;
    })
    (let e : length ((begin ∷ runs) ++ line ∷ []) ≡ length (begin ∷ runs) + 1 = length-append (begin ∷ runs) (line ∷ []) in
    omega (arith, o.next))
    (taken_before g behind (begin ∷ runs) (line ∷ left) before more session node o) o.settled (txn_gone session.owner.0 node.txns)
  where
    cut : (begin ∷ runs) ++ line ∷ left ≡ ((begin ∷ runs) ++ line ∷ []) ++ left
    cut = sym (append_assoc (begin ∷ runs) (line ∷ []) left)
