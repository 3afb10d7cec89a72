-- A visit that nobody excludes keeps the facts of the locks.
use Rattle.std.proofs.Common.{◌≡◌, ◌≢◌, ◌⊎◌, inl, inr, ℕ, List, [], ◌∷◌, ◌++◌, ◌&&◌, ◌||◌, ◌==◌, Bool, true, false, not, cond, Option, None, Some, refl, sym, ap, subst, ◌∙◌}
use Rattle.std.specs.Prelude.{is_some, IsSome, option_and_then}
use Rattle.std.specs.List.{slice_get}
use Rattle.std.specs.Option.{option_map_or}
use Rattle.row_types.specs.declared.values.Value.{Value}
use Rattle.row_types.specs.declared.table_schema.Schema.{Schema}
use Rattle.row_types.specs.declared.lock_modes.LockMode.{LockMode}
use Rattle.row_types.specs.declared.lock_modes.LockMode.TheVariants.{Shared, Exclusive}
use Rattle.row_types.specs.declared.edges.Edge.TheVariants.{After}
use Rattle.row_types.specs.declared.edges.Span.{Span}
use Rattle.row_types.specs.Order.{has, is_before_edge, is_past_edge}
use Rattle.ptc_statement.specs.declared.statements.Statement.{Statement}
use Rattle.ptc_statement.specs.declared.statements.Statement.TheVariants.{Insert, Replace, Delete, Update, LockRead, Check, SetMaster, ClearChecks}
use Rattle.ptc_statement.specs.Reach.{reach_of}
use Rattle.ptc_statement.specs.Effect.{table_of}
use Rattle.lock_table.specs.declared.wants.Owner.{Owner}
use Rattle.lock_table.specs.declared.wants.Want.{Want}
use Rattle.lock_table.specs.declared.wants.Want.TheVariants.{OnKey, OnGap, InsertAt}
use Rattle.lock_table.specs.declared.wants.Holding.{Holding}
use Rattle.lock_table.specs.Stops.{IsAmong}
use Rattle.lock_table.specs.Locks.{excluder, is_exclusive, exclusive_owner, IsHolding, Holds}
use Rattle.lock_table.proofs.GapLemmas.{both_true}
use Rattle.lock_table.proofs.HoldLemmas.{same_or_apart, number_is, shut_key, shut_insert_key, shut_insert_gap, LockedByOther, exclusive_found, holds_front, holds_last, holds_appended}
use Rattle.node_model.specs.Kept.{FactsOf}
use Rattle.txn_walk.specs.declared.plans.Plan.{Plan}
use Rattle.txn_walk.specs.Plans.{next_visit}
use Rattle.node_model.specs.declared.txns.Walk.{Walk}
use Rattle.node_model.specs.declared.txns.Txn.{Txn}
use Rattle.node_model.specs.Txns.{txn_of, with_txn}
use Rattle.node_model.specs.Node.{NodeView, live_row, live_from, committed_row, is_live, stops, act, reaches, plan_of, empty_plan, asked, plan_excluder, with_gap, with_lock, taken, is_duplicate, moved, visited}
use Rattle.node_model.specs.LockFacts.{CommittedRows, HoldsGapOver, IsGuarded, IsCovered, IsCoveredWhole, AreCovered, IsCoveredSoFar, Walks, TxnCovered, LockFacts}
use Rattle.node_model.proofs.FactLemmas.{KeepsHeld, KeepsRows, txn_kept, gap_facts, key_facts, txn_facts, facts_with}
use Rattle.node_model.proofs.StopLemmas.{live_is_stop, foreign_is_stop, stop_is}
use Rattle.node_model.proofs.PlanLemmas.{InGap, Takes, Passes}
use Rattle.node_model.proofs.SoundLemmas.{Covering, OnLock, IsSound, visit_sound}

-- what is no stop of an owner is not committed, unless the owner has it exclusively
pub not_stop_free : (node : NodeView) (owner table : ℕ) (key : List Value) → (IsAmong key (stops node owner table) → ⊥)
    → (committed_row node table key ≡ None) ⊎ Holds owner table (OnKey key Exclusive) node.held
not_stop_free node owner table key no_stop = at (exclusive_owner table key node.held) refl
  where
    by_row : (row : Option (List Value)) → committed_row node table key ≡ row → (is_some row ≡ true → ⊥) → committed_row node table key ≡ None
    by_row None e dead = e
    by_row (Some row) e dead = absurd (dead refl)

    at : (o : Option ℕ) → exclusive_owner table key node.held ≡ o → (committed_row node table key ≡ None) ⊎ Holds owner table (OnKey key Exclusive) node.held
    at None e = inl (by_row (committed_row node table key) refl (λ some. no_stop (live_is_stop node owner table key
        (ap (λ (o : Option ℕ). is_some (live_from node.schemas node.txns o table key (committed_row node table key))) e ∙ some))))
    at (Some a) e = one (same_or_apart a owner)
      where
        one : (a ≡ owner) ⊎ (a ≢ owner) → (committed_row node table key ≡ None) ⊎ Holds owner table (OnKey key Exclusive) node.held
        one (inl same) = inr (subst (λ (o : ℕ). Holds o table (OnKey key Exclusive) node.held) same (exclusive_found a table key node.held e))
        one (inr apart) = absurd (no_stop (foreign_is_stop node owner a table key Exclusive apart (exclusive_found a table key node.held e)))

-- a live key that nobody else has exclusively is committed, unless the owner has it exclusively
pub live_is_committed : (node : NodeView) (owner table : ℕ) (key : List Value) → ((b : ℕ) → b ≢ owner → Holds b table (OnKey key Exclusive) node.held → ⊥)
    → is_live node table key ≡ true → Holds owner table (OnKey key Exclusive) node.held ⊎ IsSome (committed_row node table key)
live_is_committed node owner table key nobody live = at (exclusive_owner table key node.held) refl
  where
    at : (o : Option ℕ) → exclusive_owner table key node.held ≡ o → Holds owner table (OnKey key Exclusive) node.held ⊎ IsSome (committed_row node table key)
    at None e = inr (sym (ap (λ (o : Option ℕ). is_some (live_from node.schemas node.txns o table key (committed_row node table key))) e) ∙ live)
    at (Some a) e = one (same_or_apart a owner)
      where
        one : (a ≡ owner) ⊎ (a ≢ owner) → Holds owner table (OnKey key Exclusive) node.held ⊎ IsSome (committed_row node table key)
        one (inl same) = inl (subst (λ (o : ℕ). Holds o table (OnKey key Exclusive) node.held) same (exclusive_found a table key node.held e))
        one (inr apart) = absurd (nobody a apart (exclusive_found a table key node.held e))

-- the next visit, sound for the schema of its table
pub record SoundIn (node : NodeView) (owner : ℕ) (walk : Walk) (plan : Plan) : Type 0 where
  pub gap : (span : Span) → plan.gap ≡ Some span → (key : List Value) → has span key ≡ true → IsAmong key (stops node owner (table_of walk.statement)) → ⊥
  pub lock : (lock : List Value × LockMode) → plan.on_key ≡ Some lock → OnLock (stops node owner (table_of walk.statement)) plan.insert lock
  pub passes : (table : ℕ) (key : List Value) → reaches node.schemas walk.statement table key ≡ true → Passes plan key
      → (Walks walk.statement × (is_before_edge walk.cursor key ≡ true)) ⊎ ((table_of walk.statement ≡ table) × Covering (is_live node (table_of walk.statement)) plan walk.statement key)
  pub steps : plan.ends ≡ false → Walks walk.statement
  pub onward : plan.ends ≡ false → (key : List Value) → is_before_edge walk.cursor key ≡ true → is_before_edge plan.after key ≡ true
  pub after : (lock : List Value × LockMode) → plan.on_key ≡ Some lock → plan.after ≡ After lock.0
  pub past : (lock : List Value × LockMode) → plan.on_key ≡ Some lock → Walks walk.statement → is_past_edge walk.cursor lock.0 ≡ true
  pub shared : (schemas : List Schema) (table : ℕ) (key : List Value) (old : Option (List Value)) → plan.on_key ≡ Some (key, Shared) → is_live node (table_of walk.statement) key ≡ is_some old
      → act schemas walk.statement table key old ≡ old

reached_at : (node : NodeView) (statement : Statement) (table : ℕ) (key : List Value) (schema : Option Schema) → slice_get node.schemas (table_of statement) ≡ schema
    → reaches node.schemas statement table key ≡ true → (table_of statement ≡ table) × (option_map_or (λ (s : Schema). has (reach_of s statement) key) schema false ≡ true)
reached_at node statement table key schema is reached =
    let both = both_true (table_of statement == table) (option_map_or (λ (s : Schema). has (reach_of s statement) key) (slice_get node.schemas table) false) reached in
    let same : table_of statement ≡ table = number_is (table_of statement) table both.0 in
    (same, ap (λ (o : Option Schema). option_map_or (λ (s : Schema). has (reach_of s statement) key) o false) (sym is ∙ ap (slice_get node.schemas) same) ∙ both.1)

in_table : {A B C : Type 0} → C → A ⊎ B → A ⊎ (C × B)
in_table c (inl a) = inl a
in_table c (inr b) = inr (c, b)

pub sound_in : (node : NodeView) (txn : Txn) (walk : Walk) → SoundIn node txn.owner.0 walk (plan_of node txn walk)
sound_in node txn walk = at (slice_get node.schemas (table_of walk.statement)) refl
  where
    at : (o : Option Schema) → slice_get node.schemas (table_of walk.statement) ≡ o
        → SoundIn node txn.owner.0 walk (option_map_or (λ (schema : Schema). next_visit schema walk.statement walk.cursor (stops node txn.owner.0 (table_of walk.statement)) (is_live node (table_of walk.statement))) o (empty_plan walk.cursor))
    at None e = record {
      gap = λ span is. absurd (let q : None ≡ Some span = is in cc);
      lock = λ lock is. absurd (let q : None ≡ Some lock = is in cc);
      passes = λ table key reached passes. absurd (let q : false ≡ true = (reached_at node walk.statement table key None e reached).1 in cc);
      steps = λ ends. absurd (let q : true ≡ false = ends in cc);
      onward = λ ends. absurd (let q : true ≡ false = ends in cc);
      after = λ lock is. absurd (let q : None ≡ Some lock = is in cc);
      past = λ lock is walking. absurd (let q : None ≡ Some lock = is in cc);
      shared = λ schemas table key old is e. absurd (let q : None ≡ Some (key, Shared) = is in cc);
    }
    at (Some schema) e =
        let sound = visit_sound schema (stops node txn.owner.0 (table_of walk.statement)) (is_live node (table_of walk.statement)) walk.statement walk.cursor
        (λ key live. live_is_stop node txn.owner.0 (table_of walk.statement) key live) in
        record {
          gap = sound.gap;
          lock = sound.lock;
          passes = λ table key reached passes. let here = reached_at node walk.statement table key (Some schema) e reached in in_table here.0 (sound.passes key here.1 passes);
          steps = sound.steps;
          onward = sound.onward;
          after = sound.after;
          past = sound.past;
          shared = sound.shared;
        }

-- the gap

gap_step : (node : NodeView) (owner : Owner) (table : ℕ) (gap : Option Span) → FactsOf node → IsSome (txn_of owner.0 node.txns)
    → ((span : Span) → gap ≡ Some span → (key : List Value) → has span key ≡ true → IsAmong key (stops node owner.0 table) → ⊥)
    → LockFacts node.schemas (committed_row node) node.txns (with_gap owner table gap node.held)
gap_step node owner table None facts has_txn free = facts
gap_step node owner table (Some span) facts has_txn free =
    facts_with node.schemas (committed_row node) node.txns node.held (record { owner = owner; table = table; want = OnGap span })
    (gap_facts node.schemas (committed_row node) node.txns node.held owner table span facts has_txn
    (λ b key mode apart over holds. free span refl key over (foreign_is_stop node owner.0 b table key mode apart holds))
    (λ key over. not_stop_free node owner.0 table key (free span refl key over)))

-- what others held before the gap

pub others_before : (owner : Owner) (table : ℕ) (gap : Option Span) (held : List Holding) (b of : ℕ) (want : Want) → b ≢ owner.0 → Holds b of want (with_gap owner table gap held) → Holds b of want held
others_before owner table None held b of want apart h = h
others_before owner table (Some span) held b of want apart h = at (holds_appended b of want held (record { owner = owner; table = table; want = OnGap span }) h)
  where
    at : IsHolding b of want (record { owner = owner; table = table; want = OnGap span }) ⊎ Holds b of want held → Holds b of want held
    at (inl is) = absurd (apart (sym is.0))
    at (inr g) = g

abbrev NobodyExcludes : ℕ → ℕ → Bool → List Value × LockMode → List Holding → Type 0
NobodyExcludes owner table insert lock held = excluder owner table (cond insert (InsertAt lock.0) (OnKey lock.0 lock.1)) held ≡ None

-- over a stop that nobody excludes no other owner holds a gap
stop_no_gap : (node : NodeView) (owner table b : ℕ) (key : List Value) (span : Span) → FactsOf node → excluder owner table (OnKey key Exclusive) node.held ≡ None
    → IsAmong key (stops node owner table) → b ≢ owner → has span key ≡ true → Holds b table (OnGap span) node.held → ⊥
stop_no_gap node owner table b key span facts none stop apart over holds = at (stop_is node owner table key stop)
  where
    shut : (c : ℕ) (other : LockMode) → c ≢ owner → Holds c table (OnKey key other) node.held → ⊥
    shut c other away h = shut_key owner c table key Exclusive other node.held none away refl h

    free : (committed_row node table key ≡ None) ⊎ Holds b table (OnKey key Exclusive) node.held → Holds owner table (OnKey key Exclusive) node.held ⊎ IsSome (committed_row node table key) → ⊥
    free (inr theirs) live = shut b Exclusive apart theirs
    free (inl gone) (inl ours) = facts.alone_in_gap owner b table key span (λ e. apart (sym e)) over ours holds
    free (inl gone) (inr some) = let q : false ≡ true = ap is_some (sym gone) ∙ some in cc

    at : LockedByOther owner table key node.held ⊎ (is_live node table key ≡ true) → ⊥
    at (inl by) = shut by.other by.mode by.apart by.holds
    at (inr live) = free (facts.gap_is_free b table key span over holds) (live_is_committed node owner table key (λ c away h. shut c Exclusive away h) live)

lock_step : (node : NodeView) (owner : Owner) (table : ℕ) (gap : Option Span) (insert : Bool) (lock : List Value × LockMode) → FactsOf node → IsSome (txn_of owner.0 node.txns)
    → LockFacts node.schemas (committed_row node) node.txns (with_gap owner table gap node.held)
    → OnLock (stops node owner.0 table) insert lock → NobodyExcludes owner.0 table insert lock node.held
    → LockFacts node.schemas (committed_row node) node.txns (with_lock owner table (Some lock) (with_gap owner table gap node.held))
lock_step node owner table gap true lock facts has_txn with on none =
    facts_with node.schemas (committed_row node) node.txns (with_gap owner table gap node.held) (record { owner = owner; table = table; want = OnKey lock.0 lock.1 })
    (key_facts node.schemas (committed_row node) node.txns (with_gap owner table gap node.held) owner table lock.0 lock.1 with has_txn
    (λ b other apart strong h. shut_insert_key owner.0 b table lock.0 other node.held none apart (others_before owner table gap node.held b table (OnKey lock.0 other) apart h))
    (λ b span apart exclusive over h. shut_insert_gap owner.0 b table lock.0 span node.held none apart over (others_before owner table gap node.held b table (OnGap span) apart h)))
lock_step node owner table gap false lock facts has_txn with on none =
    facts_with node.schemas (committed_row node) node.txns (with_gap owner table gap node.held) (record { owner = owner; table = table; want = OnKey lock.0 lock.1 })
    (key_facts node.schemas (committed_row node) node.txns (with_gap owner table gap node.held) owner table lock.0 lock.1 with has_txn
    (λ b other apart strong h. shut_key owner.0 b table lock.0 lock.1 other node.held none apart strong (others_before owner table gap node.held b table (OnKey lock.0 other) apart h))
    (λ b span apart exclusive over h. stop_no_gap node owner.0 table b lock.0 span facts
    (subst (λ (m : LockMode). excluder owner.0 table (OnKey lock.0 m) node.held ≡ None) exclusive none) (on exclusive) apart over
    (others_before owner table gap node.held b table (OnGap span) apart h)))

taken_step : (node : NodeView) (owner : Owner) (table : ℕ) (plan : Plan) (on_key : Option (List Value × LockMode)) → FactsOf node → IsSome (txn_of owner.0 node.txns)
    → LockFacts node.schemas (committed_row node) node.txns (with_gap owner table plan.gap node.held)
    → ((lock : List Value × LockMode) → on_key ≡ Some lock → OnLock (stops node owner.0 table) plan.insert lock)
    → option_and_then (λ (want : Want). excluder owner.0 table want node.held) (asked plan.insert on_key) ≡ None
    → LockFacts node.schemas (committed_row node) node.txns (with_lock owner table on_key (with_gap owner table plan.gap node.held))
taken_step node owner table plan None facts has_txn with on none = with
taken_step node owner table plan (Some lock) facts has_txn with on none = lock_step node owner table plan.gap plan.insert lock facts has_txn with (on lock refl) none

-- what is held after the visit

gap_kept : (owner : Owner) (table : ℕ) (gap : Option Span) (held : List Holding) (a : ℕ) → KeepsHeld a held (with_gap owner table gap held)
gap_kept owner table None held a of want h = h
gap_kept owner table (Some span) held a of want h = holds_front a of want held (record { owner = owner; table = table; want = OnGap span }) h

lock_kept : (owner : Owner) (table : ℕ) (lock : Option (List Value × LockMode)) (held : List Holding) (a : ℕ) → KeepsHeld a held (with_lock owner table lock held)
lock_kept owner table None held a of want h = h
lock_kept owner table (Some lock) held a of want h = holds_front a of want held (record { owner = owner; table = table; want = OnKey lock.0 lock.1 }) h

pub taken_kept : (owner : Owner) (table : ℕ) (plan : Plan) (held : List Holding) (a : ℕ) → KeepsHeld a held (taken owner table plan held)
taken_kept owner table plan held a of want h = lock_kept owner table plan.on_key (with_gap owner table plan.gap held) a of want (gap_kept owner table plan.gap held a of want h)

pub on_key_held : (owner : Owner) (table : ℕ) (plan : Plan) (held : List Holding) (key : List Value) (mode : LockMode) → plan.on_key ≡ Some (key, mode)
    → Holds owner.0 table (OnKey key mode) (taken owner table plan held)
on_key_held owner table plan held key mode is =
    subst (λ (o : Option (List Value × LockMode)). Holds owner.0 table (OnKey key mode) (with_lock owner table o (with_gap owner table plan.gap held))) (sym is)
    (holds_last owner.0 table (OnKey key mode) (with_gap owner table plan.gap held) (record { owner = owner; table = table; want = OnKey key mode }) (refl, refl, refl))

in_gap_held : (owner : Owner) (table : ℕ) (plan : Plan) (held : List Holding) (key : List Value) → InGap plan key → HoldsGapOver owner.0 table key (taken owner table plan held)
in_gap_held owner table plan held key in_gap = record {
  span = in_gap.span;
  holds = lock_kept owner table plan.on_key (with_gap owner table plan.gap held) owner.0 table (OnGap in_gap.span)
      (subst (λ (o : Option Span). Holds owner.0 table (OnGap in_gap.span) (with_gap owner table o held)) (sym in_gap.is)
      (holds_last owner.0 table (OnGap in_gap.span) held (record { owner = owner; table = table; want = OnGap in_gap.span }) (refl, refl, refl)));
  over = in_gap.over;
}

guarded : (owner : Owner) (table : ℕ) (plan : Plan) (held : List Holding) (key : List Value) (mode : LockMode) → Takes mode plan key → IsGuarded owner.0 table key mode (taken owner table plan held)
guarded owner table plan held key mode (inl is) = inl (on_key_held owner table plan held key mode is)
guarded owner table plan held key mode (inr in_gap) = inr (in_gap_held owner table plan held key in_gap)

-- where the shared lock of an INSERT is not excluded, nobody else has its key exclusively
shared_open : (node : NodeView) (owner : Owner) (table : ℕ) (plan : Plan) (key : List Value) → plan_excluder owner table plan node.held ≡ None → plan.on_key ≡ Some (key, Shared)
    → (b : ℕ) → b ≢ owner.0 → Holds b table (OnKey key Exclusive) node.held → ⊥
shared_open node owner table plan key none is b apart h = at plan.insert (subst (λ (o : Option (List Value × LockMode)). option_and_then (λ (want : Want). excluder owner.0 table want node.held) (asked plan.insert o) ≡ None) is none)
  where
    at : (insert : Bool) → NobodyExcludes owner.0 table insert (key, Shared) node.held → ⊥
    at true open_for = shut_insert_key owner.0 b table key Exclusive node.held open_for apart h
    at false open_for = shut_key owner.0 b table key Shared Exclusive node.held open_for apart refl h

insert_covered : (node : NodeView) (owner : Owner) (table : ℕ) (plan : Plan) (key : List Value) → plan_excluder owner table plan node.held ≡ None
    → (plan.on_key ≡ Some (key, Exclusive)) ⊎ ((plan.on_key ≡ Some (key, Shared)) × (is_live node table key ≡ true))
    → Holds owner.0 table (OnKey key Exclusive) (taken owner table plan node.held) ⊎ (Holds owner.0 table (OnKey key Shared) (taken owner table plan node.held) × IsSome (committed_row node table key))
insert_covered node owner table plan key none (inl is) = inl (on_key_held owner table plan node.held key Exclusive is)
insert_covered node owner table plan key none (inr both) =
    at (live_is_committed node owner.0 table key (shared_open node owner table plan key none both.0) both.1)
  where
    at : Holds owner.0 table (OnKey key Exclusive) node.held ⊎ IsSome (committed_row node table key)
        → Holds owner.0 table (OnKey key Exclusive) (taken owner table plan node.held) ⊎ (Holds owner.0 table (OnKey key Shared) (taken owner table plan node.held) × IsSome (committed_row node table key))
    at (inl ours) = inl (taken_kept owner table plan node.held owner.0 table (OnKey key Exclusive) ours)
    at (inr some) = inr (on_key_held owner table plan node.held key Shared both.0, some)

covering_covers : (node : NodeView) (owner : Owner) (plan : Plan) (statement : Statement) (key : List Value) → plan_excluder owner (table_of statement) plan node.held ≡ None
    → Covering (is_live node (table_of statement)) plan statement key
    → IsCovered (committed_row node) (taken owner (table_of statement) plan node.held) owner.0 statement (table_of statement) key
covering_covers node owner plan (Insert of row) key none is = insert_covered node owner of plan key none is
covering_covers node owner plan (Replace of row) key none is = on_key_held owner of plan node.held key Exclusive is
covering_covers node owner plan (Delete of where_true) key none is = guarded owner of plan node.held key Exclusive is
covering_covers node owner plan (Update of sets where_true) key none is = guarded owner of plan node.held key Exclusive is
covering_covers node owner plan (LockRead of mode span where_true) key none is = guarded owner of plan node.held key mode is
covering_covers node owner plan (Check of chunk span kind) key none is = guarded owner of plan node.held key Shared is
covering_covers node owner plan (SetMaster of chunk kind master) key none is = tt
covering_covers node owner plan (ClearChecks of) key none is = tt

-- the transaction after the visit

covered_more : (schemas : List Schema) (rows : CommittedRows) (held : List Holding) (owner : ℕ) (statements : List Statement) (statement : Statement)
    → AreCovered schemas rows held owner statements → IsCoveredWhole schemas rows held owner statement → AreCovered schemas rows held owner (statements ++ statement ∷ [])
covered_more schemas rows held owner [] statement are is = (is, tt)
covered_more schemas rows held owner (first ∷ statements) statement are is = (are.0, covered_more schemas rows held owner statements statement are.1 is)

passed_covered : (node : NodeView) (txn : Txn) (walk : Walk) (plan : Plan) → SoundIn node txn.owner.0 walk plan → plan_excluder txn.owner (table_of walk.statement) plan node.held ≡ None
    → IsCoveredSoFar node.schemas (committed_row node) (taken txn.owner (table_of walk.statement) plan node.held) txn.owner.0 (Some walk)
    → (table : ℕ) (key : List Value) → reaches node.schemas walk.statement table key ≡ true → Passes plan key
    → IsCovered (committed_row node) (taken txn.owner (table_of walk.statement) plan node.held) txn.owner.0 walk.statement table key
passed_covered node txn walk plan sound none so_far table key reached passes = at (sound.passes table key reached passes)
  where
    at : (Walks walk.statement × (is_before_edge walk.cursor key ≡ true)) ⊎ ((table_of walk.statement ≡ table) × Covering (is_live node (table_of walk.statement)) plan walk.statement key)
        → IsCovered (committed_row node) (taken txn.owner (table_of walk.statement) plan node.held) txn.owner.0 walk.statement table key
    at (inl before) = (so_far table key reached before.1).1
    at (inr here) =
        subst (λ (t : ℕ). IsCovered (committed_row node) (taken txn.owner (table_of walk.statement) plan node.held) txn.owner.0 walk.statement t key) here.0
        (covering_covers node txn.owner plan walk.statement key none here.1)

moved_covered : (node : NodeView) (txn : Txn) (walk : Walk) (plan : Plan) → SoundIn node txn.owner.0 walk plan → plan_excluder txn.owner (table_of walk.statement) plan node.held ≡ None
    → AreCovered node.schemas (committed_row node) (taken txn.owner (table_of walk.statement) plan node.held) txn.owner.0 txn.done
    → IsCoveredSoFar node.schemas (committed_row node) (taken txn.owner (table_of walk.statement) plan node.held) txn.owner.0 (Some walk)
    → (refused ends : Bool) → plan.ends ≡ ends
    → TxnCovered node.schemas (committed_row node) (taken txn.owner (table_of walk.statement) plan node.held) txn.owner.0
    (cond refused (record txn { current = None })
    (cond ends (record txn { done = txn.done ++ walk.statement ∷ []; current = None })
    (record txn { current = Some (record { statement = walk.statement; cursor = plan.after }) })))
moved_covered node txn walk plan sound none are so_far true ends is = record { done = are; so_far = tt }
moved_covered node txn walk plan sound none are so_far false true is = record {
  done = covered_more node.schemas (committed_row node) (taken txn.owner (table_of walk.statement) plan node.held) txn.owner.0 txn.done walk.statement are
      (λ table key reached. passed_covered node txn walk plan sound none so_far table key reached (inl is));
  so_far = tt;
}
moved_covered node txn walk plan sound none are so_far false false is = record {
  done = are;
  so_far = λ table key reached before. (sound.steps is, passed_covered node txn walk plan sound none so_far table key reached (inr before));
}

pub moved_owner : (txn : Txn) (walk : Walk) (plan : Plan) → (moved txn walk plan).owner.0 ≡ txn.owner.0
moved_owner txn walk plan = at (is_duplicate txn.part walk.statement plan) plan.ends
  where
    at : (refused ends : Bool) → (cond refused (record txn { current = None })
        (cond ends (record txn { done = txn.done ++ walk.statement ∷ []; current = None })
        (record txn { current = Some (record { statement = walk.statement; cursor = plan.after }) }))).owner.0 ≡ txn.owner.0
    at true ends = refl
    at false true = refl
    at false false = refl

-- the facts after a visit

pub visit_facts : (node : NodeView) (txn : Txn) (walk : Walk) → FactsOf node → txn_of txn.owner.0 node.txns ≡ Some txn → txn.current ≡ Some walk
    → plan_excluder txn.owner (table_of walk.statement) (plan_of node txn walk) node.held ≡ None
    → FactsOf (visited txn walk (plan_of node txn walk) node)
visit_facts node txn walk facts found current none =
    txn_facts node.schemas (committed_row node) node.txns after (moved txn walk plan) locked
    (subst (λ (o : ℕ). TxnCovered node.schemas (committed_row node) after o (moved txn walk plan)) (sym (moved_owner txn walk plan))
    (moved_covered node txn walk plan sound none kept.done (subst (IsCoveredSoFar node.schemas (committed_row node) after txn.owner.0) current kept.so_far)
    (is_duplicate txn.part walk.statement plan) plan.ends refl))
  where
    plan : Plan
    plan = plan_of node txn walk

    sound : SoundIn node txn.owner.0 walk (plan_of node txn walk)
    sound = sound_in node txn walk

    after : List Holding
    after = taken txn.owner (table_of walk.statement) (plan_of node txn walk) node.held

    has_txn : IsSome (txn_of txn.owner.0 node.txns)
    has_txn = subst IsSome (sym found) refl

    locked : LockFacts node.schemas (committed_row node) node.txns after
    locked = taken_step node txn.owner (table_of walk.statement) (plan_of node txn walk) (plan_of node txn walk).on_key facts has_txn
        (gap_step node txn.owner (table_of walk.statement) (plan_of node txn walk).gap facts has_txn sound.gap) sound.lock none

    kept : TxnCovered node.schemas (committed_row node) after txn.owner.0 txn
    kept = txn_kept node.schemas (committed_row node) (committed_row node) node.held after txn.owner.0 txn
        (taken_kept txn.owner (table_of walk.statement) (plan_of node txn walk) node.held txn.owner.0) (λ table key on there. there) (facts.covered txn.owner.0 txn found)
