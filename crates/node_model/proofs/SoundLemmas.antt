-- What the next visit of a statement takes and passes, for each kind of statement.
use Rattle.std.proofs.Common.{◌≡◌, ◌⊎◌, inl, inr, ℕ, List, Bool, true, false, not, Option, None, Some, refl, sym, ap, subst, ◌∙◌}
use Rattle.std.specs.Prelude.{is_some}
use Rattle.std.specs.Option.{option_map_or}
use Rattle.row_types.specs.declared.values.Value.{Value}
use Rattle.row_types.specs.declared.table_schema.Schema.{Schema}
use Rattle.row_types.specs.declared.lock_modes.LockMode.{LockMode}
use Rattle.row_types.specs.declared.lock_modes.LockMode.TheVariants.{Shared, Exclusive}
use Rattle.row_types.specs.declared.edges.Edge.{Edge}
use Rattle.row_types.specs.declared.edges.Edge.TheVariants.{After}
use Rattle.row_types.specs.declared.edges.Span.{Span}
use Rattle.row_types.specs.Order.{has, is_past_edge, is_before_edge}
use Rattle.row_types.specs.Fit.{key_of}
use Rattle.row_types.proofs.SpanLemmas.{past_or_before}
use Rattle.ptc_statement.specs.declared.statements.Statement.{Statement}
use Rattle.ptc_statement.specs.declared.statements.Statement.TheVariants.{Insert, Replace, Delete, Update, LockRead, Check, SetMaster, ClearChecks}
use Rattle.ptc_statement.specs.Reach.{reach_of}
use Rattle.ptc_statement.proofs.KeyLemmas.{itself_alone}
use Rattle.lock_table.specs.Stops.{IsAmong}
use Rattle.txn_walk.specs.declared.plans.Plan.{Plan}
use Rattle.txn_walk.specs.Plans.{row_visit, no_visit, walk_visit, next_visit}
use Rattle.node_model.specs.Node.{act}
use Rattle.node_model.specs.LockFacts.{Walks}
use Rattle.node_model.proofs.ActLemmas.{act_none_changed, insert_present}
use Rattle.node_model.proofs.PlanLemmas.{Takes, Passes, walk_passes, walk_stop, walk_gap, walk_onward}

-- what a plan takes at a key that it passes
abbrev pub Covering : (List Value → Bool) → Plan → Statement → List Value → Type 0
Covering live plan (Insert of row) key = (plan.on_key ≡ Some (key, Exclusive)) ⊎ ((plan.on_key ≡ Some (key, Shared)) × (live key ≡ true))
Covering live plan (Replace of row) key = plan.on_key ≡ Some (key, Exclusive)
Covering live plan (Delete of where_true) key = Takes Exclusive plan key
Covering live plan (Update of sets where_true) key = Takes Exclusive plan key
Covering live plan (LockRead of mode span where_true) key = Takes mode plan key
Covering live plan (Check of chunk span kind) key = Takes Shared plan key
Covering live plan (SetMaster of chunk kind master) key = Unit {0}
Covering live plan (ClearChecks of) key = Unit {0}

-- a lock to put a row in is exclusive; another exclusive one is on a stop
abbrev pub OnLock : List (List Value) → Bool → List Value × LockMode → Type 0
OnLock stops true lock = lock.1 ≡ Exclusive
OnLock stops false lock = lock.1 ≡ Exclusive → IsAmong lock.0 stops

pub record IsSound (schema : Schema) (stops : List (List Value)) (live : List Value → Bool) (statement : Statement) (cursor : Edge) (plan : Plan) : Type 0 where
  pub gap : (span : Span) → plan.gap ≡ Some span → (key : List Value) → has span key ≡ true → IsAmong key stops → ⊥
  pub lock : (lock : List Value × LockMode) → plan.on_key ≡ Some lock → OnLock stops plan.insert lock
  pub after : (lock : List Value × LockMode) → plan.on_key ≡ Some lock → plan.after ≡ After lock.0
  -- the key of a walk's visit is past the cursor
  pub past : (lock : List Value × LockMode) → plan.on_key ≡ Some lock → Walks statement → is_past_edge cursor lock.0 ≡ true
  pub passes : (key : List Value) → has (reach_of schema statement) key ≡ true → Passes plan key
      → (Walks statement × (is_before_edge cursor key ≡ true)) ⊎ Covering live plan statement key
  -- only a walk goes on, and it goes forward
  pub steps : plan.ends ≡ false → Walks statement
  pub onward : plan.ends ≡ false → (key : List Value) → is_before_edge cursor key ≡ true → is_before_edge plan.after key ≡ true
  -- what is locked for share is left as it is
  pub shared : (schemas : List Schema) (table : ℕ) (key : List Value) (old : Option (List Value)) → plan.on_key ≡ Some (key, Shared) → live key ≡ is_some old
      → act schemas statement table key old ≡ old

-- walks

walks_passes : (mode : LockMode) (reach : Span) (cursor : Edge) (stops : List (List Value)) (key : List Value) → has reach key ≡ true
    → Passes (walk_visit mode reach cursor stops) key → (is_before_edge cursor key ≡ true) ⊎ Takes mode (walk_visit mode reach cursor stops) key
walks_passes mode reach cursor stops key over passes = at (is_before_edge cursor key) refl
  where
    at : (b : Bool) → is_before_edge cursor key ≡ b → (is_before_edge cursor key ≡ true) ⊎ Takes mode (walk_visit mode reach cursor stops) key
    at true e = inl e
    at false e = inr (walk_passes mode reach cursor stops key over (past_or_before cursor key ∙ ap not e) passes)

walk_sound : (schema : Schema) (stops : List (List Value)) (live : List Value → Bool) (statement : Statement) (mode : LockMode) (reach : Span) (cursor : Edge)
    → Walks statement → reach_of schema statement ≡ reach
    → ((plan : Plan) (key : List Value) → Takes mode plan key → Covering live plan statement key)
    → ((schemas : List Schema) (table : ℕ) (key : List Value) (old : Option (List Value)) → mode ≡ Shared → act schemas statement table key old ≡ old)
    → IsSound schema stops live statement cursor (walk_visit mode reach cursor stops)
walk_sound schema stops live statement mode reach cursor walks reach_is covering leaves = record {
  gap = walk_gap mode reach cursor stops;
  lock = λ lock is. let visited = walk_stop mode reach cursor stops lock is in subst (λ (b : Bool). OnLock stops b lock) (sym visited.old) (λ exclusive. visited.stop);
  after = λ lock is. (walk_stop mode reach cursor stops lock is).after;
  past = λ lock is walking. (walk_stop mode reach cursor stops lock is).past;
  passes = λ key over passes. turned key (walks_passes mode reach cursor stops key (ap (λ (s : Span). has s key) (sym reach_is) ∙ over) passes);
  steps = λ e. walks;
  onward = λ e key before. walk_onward mode reach cursor stops key before e;
  shared = λ schemas table key old is e. leaves schemas table key old (sym (walk_stop mode reach cursor stops (key, Shared) is).mode_is);
}
  where
    turned : (key : List Value) → (is_before_edge cursor key ≡ true) ⊎ Takes mode (walk_visit mode reach cursor stops) key
        → (Walks statement × (is_before_edge cursor key ≡ true)) ⊎ Covering live (walk_visit mode reach cursor stops) statement key
    turned key (inl before) = inl (walks, before)
    turned key (inr takes) = inr (covering (walk_visit mode reach cursor stops) key takes)

exclusive_leaves : {A : Type 0} → Exclusive ≡ Shared → A
exclusive_leaves e = absurd (let q : Exclusive ≡ Shared = e in cc)

-- statements on the check rows

none_taken : (lock : List Value × LockMode) {A : Type 0} → None ≡ Some lock → A
none_taken lock e = absurd (let q : None ≡ Some lock = e in cc)

no_gap : (span : Span) {A : Type 0} → None ≡ Some span → A
no_gap span e = absurd (let q : None ≡ Some span = e in cc)

nothing_sound : (schema : Schema) (stops : List (List Value)) (live : List Value → Bool) (statement : Statement) (reach : Span) (cursor : Edge)
    → Walks statement → ((key : List Value) → has reach key ≡ true → Covering live (no_visit reach) statement key) → reach_of schema statement ≡ reach
    → IsSound schema stops live statement cursor (no_visit reach)
nothing_sound schema stops live statement reach cursor walks covering reach_is = record {
  gap = λ span is. no_gap span is;
  lock = λ lock is. none_taken lock is;
  after = λ lock is. none_taken lock is;
  past = λ lock is walking. none_taken lock is;
  passes = λ key over passes. inr (covering key (ap (λ (s : Span). has s key) (sym reach_is) ∙ over));
  steps = λ e. walks;
  onward = λ e. absurd (let q : true ≡ false = e in cc);
  shared = λ schemas table key old is e. none_taken (key, Shared) is;
}

-- INSERT and REPLACE

lock_is : (a b : List Value × LockMode) → Some a ≡ Some b → a ≡ b
lock_is a b e = ap (λ (o : Option (List Value × LockMode)). option_map_or (λ (x : List Value × LockMode). x) o a) e

insert_sound : (schema : Schema) (stops : List (List Value)) (live : List Value → Bool) (of : ℕ) (row : List Value) (cursor : Edge) (b : Bool) → live (key_of schema row) ≡ b
    → IsSound schema stops live (Insert of row) cursor (row_visit (key_of schema row) Shared b)
insert_sound schema stops live of row cursor true is = record {
  gap = λ span e. no_gap span e;
  lock = λ lock e exclusive. absurd (let q : Shared ≡ Exclusive = ap (λ (l : List Value × LockMode). l.1) (lock_is (key_of schema row, Shared) lock e) ∙ exclusive in cc);
  after = λ lock e. ap (λ (l : List Value × LockMode). After l.0) (lock_is (key_of schema row, Shared) lock e);
  past = λ lock e walking. absurd walking;
  passes = λ key over passes. let same = itself_alone (key_of schema row) key over in
      inr (inr (ap (λ (k : List Value). Some (k, Shared)) (sym same), ap live same ∙ is));
  steps = λ e. absurd (let q : true ≡ false = e in cc);
  onward = λ e. absurd (let q : true ≡ false = e in cc);
  shared = λ schemas table key old e same.
      let here : key_of schema row ≡ key = ap (λ (l : List Value × LockMode). l.0) (lock_is (key_of schema row, Shared) (key, Shared) e) in
      insert_present schemas of row table key old (sym same ∙ ap live (sym here) ∙ is);
}
insert_sound schema stops live of row cursor false is = record {
  gap = λ span e. no_gap span e;
  lock = λ lock e. ap (λ (l : List Value × LockMode). l.1) (sym (lock_is (key_of schema row, Exclusive) lock e));
  after = λ lock e. ap (λ (l : List Value × LockMode). After l.0) (lock_is (key_of schema row, Exclusive) lock e);
  past = λ lock e walking. absurd walking;
  passes = λ key over passes. inr (inl (ap (λ (k : List Value). Some (k, Exclusive)) (sym (itself_alone (key_of schema row) key over))));
  steps = λ e. absurd (let q : true ≡ false = e in cc);
  onward = λ e. absurd (let q : true ≡ false = e in cc);
  shared = λ schemas table key old e same. exclusive_leaves (ap (λ (l : List Value × LockMode). l.1) (lock_is (key_of schema row, Exclusive) (key, Shared) e));
}

replace_sound : (schema : Schema) (stops : List (List Value)) (live : List Value → Bool) (of : ℕ) (row : List Value) (cursor : Edge) (b : Bool) → live (key_of schema row) ≡ b
    → ((key : List Value) → live key ≡ true → IsAmong key stops) → IsSound schema stops live (Replace of row) cursor (row_visit (key_of schema row) Exclusive b)
replace_sound schema stops live of row cursor true is is_stop = record {
  gap = λ span e. no_gap span e;
  lock = λ lock e exclusive. is_stop lock.0 (ap (λ (l : List Value × LockMode). live l.0) (sym (lock_is (key_of schema row, Exclusive) lock e)) ∙ is);
  after = λ lock e. ap (λ (l : List Value × LockMode). After l.0) (lock_is (key_of schema row, Exclusive) lock e);
  past = λ lock e walking. absurd walking;
  passes = λ key over passes. inr (ap (λ (k : List Value). Some (k, Exclusive)) (sym (itself_alone (key_of schema row) key over)));
  steps = λ e. absurd (let q : true ≡ false = e in cc);
  onward = λ e. absurd (let q : true ≡ false = e in cc);
  shared = λ schemas table key old e same. exclusive_leaves (ap (λ (l : List Value × LockMode). l.1) (lock_is (key_of schema row, Exclusive) (key, Shared) e));
}
replace_sound schema stops live of row cursor false is is_stop = record {
  gap = λ span e. no_gap span e;
  lock = λ lock e. ap (λ (l : List Value × LockMode). l.1) (sym (lock_is (key_of schema row, Exclusive) lock e));
  after = λ lock e. ap (λ (l : List Value × LockMode). After l.0) (lock_is (key_of schema row, Exclusive) lock e);
  past = λ lock e walking. absurd walking;
  passes = λ key over passes. inr (ap (λ (k : List Value). Some (k, Exclusive)) (sym (itself_alone (key_of schema row) key over)));
  steps = λ e. absurd (let q : true ≡ false = e in cc);
  onward = λ e. absurd (let q : true ≡ false = e in cc);
  shared = λ schemas table key old e same. exclusive_leaves (ap (λ (l : List Value × LockMode). l.1) (lock_is (key_of schema row, Exclusive) (key, Shared) e));
}

pub visit_sound : (schema : Schema) (stops : List (List Value)) (live : List Value → Bool) (statement : Statement) (cursor : Edge)
    → ((key : List Value) → live key ≡ true → IsAmong key stops) → IsSound schema stops live statement cursor (next_visit schema statement cursor stops live)
visit_sound schema stops live (Insert of row) cursor is_stop = insert_sound schema stops live of row cursor (live (key_of schema row)) refl
visit_sound schema stops live (Replace of row) cursor is_stop = replace_sound schema stops live of row cursor (live (key_of schema row)) refl is_stop
visit_sound schema stops live (Delete of where_true) cursor is_stop =
    walk_sound schema stops live (Delete of where_true) Exclusive (reach_of schema (Delete of where_true)) cursor tt refl (λ plan key takes. takes) (λ schemas table key old e. exclusive_leaves e)
visit_sound schema stops live (Update of sets where_true) cursor is_stop =
    walk_sound schema stops live (Update of sets where_true) Exclusive (reach_of schema (Update of sets where_true)) cursor tt refl (λ plan key takes. takes) (λ schemas table key old e. exclusive_leaves e)
visit_sound schema stops live (LockRead of mode span where_true) cursor is_stop =
    walk_sound schema stops live (LockRead of mode span where_true) mode (reach_of schema (LockRead of mode span where_true)) cursor tt refl (λ plan key takes. takes)
    (λ schemas table key old e. act_none_changed schemas (LockRead of mode span where_true) table key old tt)
visit_sound schema stops live (Check of chunk span kind) cursor is_stop =
    walk_sound schema stops live (Check of chunk span kind) Shared span cursor tt refl (λ plan key takes. takes)
    (λ schemas table key old e. act_none_changed schemas (Check of chunk span kind) table key old tt)
visit_sound schema stops live (SetMaster of chunk kind master) cursor is_stop =
    nothing_sound schema stops live (SetMaster of chunk kind master) (reach_of schema (SetMaster of chunk kind master)) cursor tt (λ key over. tt) refl
visit_sound schema stops live (ClearChecks of) cursor is_stop =
    nothing_sound schema stops live (ClearChecks of) (reach_of schema (ClearChecks of)) cursor tt (λ key over. tt) refl
