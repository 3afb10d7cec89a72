-- What a visit does to the live rows: the statement acts at the key of the visit, and nowhere else.
use Rattle.std.proofs.Common.{◌≡◌, ◌≢◌, ◌⊎◌, inl, inr, ℕ, List, [], ◌∷◌, ◌++◌, ◌&&◌, ◌==◌, Bool, true, false, not, cond, Option, None, Some, refl, sym, ap, subst, ◌∙◌}
use Rattle.std.specs.Prelude.{is_some, IsSome}
use Rattle.row_types.specs.declared.values.Value.{Value}
use Rattle.row_types.specs.declared.table_schema.Schema.{Schema}
use Rattle.row_types.specs.declared.lock_modes.LockMode.{LockMode}
use Rattle.row_types.specs.declared.lock_modes.LockMode.TheVariants.{Shared, Exclusive}
use Rattle.row_types.specs.declared.edges.Edge.{Edge}
use Rattle.row_types.specs.declared.edges.Edge.TheVariants.{After}
use Rattle.row_types.specs.Order.{has, is_before_edge, is_past_edge}
use Rattle.row_types.proofs.OrderLemmas.{key_ties}
use Rattle.std.specs.Ordering.{is_le}
use Rattle.std.specs.declared.cmp.Ordering.{Ordering}
use Rattle.ptc_statement.specs.declared.statements.Statement.{Statement}
use Rattle.ptc_statement.specs.declared.statements.Statement.TheVariants.{Insert, Replace, Delete, Update, LockRead, Check, SetMaster, ClearChecks}
use Rattle.ptc_statement.specs.Effect.{table_of}
use Rattle.lock_table.specs.declared.wants.Want.{Want}
use Rattle.lock_table.specs.declared.wants.Want.TheVariants.{OnKey}
use Rattle.lock_table.specs.declared.wants.Holding.{Holding}
use Rattle.lock_table.specs.Stops.{IsAmong}
use Rattle.lock_table.specs.Locks.{is_same_key, exclusive_owner, IsHolding, Holds}
use Rattle.lock_table.proofs.GapLemmas.{both_true}
use Rattle.lock_table.proofs.HoldLemmas.{same_key_is, number_is, is_number, same_or_apart, same_key_self, exclusive_found, exclusive_none, exclusive_is, holds_appended}
use Rattle.node_model.specs.Kept.{FactsOf}
use Rattle.txn_walk.specs.declared.plans.Plan.{Plan}
use Rattle.node_model.specs.declared.txns.Walk.{Walk}
use Rattle.node_model.specs.declared.txns.Txn.{Txn}
use Rattle.node_model.specs.Txns.{txn_of, with_txn}
use Rattle.node_model.specs.Node.{NodeView, act, acts, act_so_far, seen, seen_by, live_row, live_from, committed_row, is_live, stops, reaches, plan_of, plan_excluder, with_gap, with_lock, taken, is_client, is_insert, is_duplicate, moved, visited}
use Rattle.node_model.specs.LockFacts.{Walks, IsCoveredSoFar}
use Rattle.node_model.proofs.TxnLemmas.{txn_same, txn_other}
use Rattle.node_model.proofs.ActLemmas.{act_outside, act_absent, act_none_changed, acts_more}
use Rattle.node_model.proofs.FactLemmas.{seen_left}
use Rattle.node_model.proofs.StopLemmas.{live_is_stop}
use Rattle.node_model.proofs.PlanLemmas.{InGap, Takes, Passes, not_both}
use Rattle.node_model.proofs.SoundLemmas.{Covering}
use Rattle.node_model.proofs.VisitLemmas.{SoundIn, sound_in, taken_kept, on_key_held, others_before, moved_owner, visit_facts}

-- whether the key is that of a plan's lock
abbrev pub is_locked_at : List Value → Option (List Value × LockMode) → Bool
is_locked_at key None = false
is_locked_at key (Some lock) = is_same_key key lock.0

-- whether the visit is to this key of this table, and is not refused
abbrev pub is_visit_to : Txn → Walk → Plan → ℕ → List Value → Bool
is_visit_to txn walk plan table key =
    not (is_duplicate txn.part walk.statement plan) && ((table_of walk.statement == table) && is_locked_at key plan.on_key)

pub record LockAt (plan : Plan) (key : List Value) : Type 0 where
  pub mode : LockMode
  pub is : plan.on_key ≡ Some (key, mode)

lock_at : (plan : Plan) (key : List Value) (on_key : Option (List Value × LockMode)) → plan.on_key ≡ on_key → is_locked_at key on_key ≡ true → LockAt plan key
lock_at plan key None e is = cc
lock_at plan key (Some lock) e is = record { mode = lock.1; is = e ∙ ap (λ (k : List Value). Some (k, lock.1)) (sym (same_key_is key lock.0 is)) }

pub record VisitTo (txn : Txn) (walk : Walk) (plan : Plan) (table : ℕ) (key : List Value) : Type 0 where
  pub fresh : is_duplicate txn.part walk.statement plan ≡ false
  pub of : table_of walk.statement ≡ table
  pub lock : LockAt plan key

is_false : (b : Bool) → not b ≡ true → b ≡ false
is_false true e = cc
is_false false e = refl

pub visit_to : (txn : Txn) (walk : Walk) (plan : Plan) (table : ℕ) (key : List Value) → is_visit_to txn walk plan table key ≡ true → VisitTo txn walk plan table key
visit_to txn walk plan table key is =
    let first = both_true (not (is_duplicate txn.part walk.statement plan)) ((table_of walk.statement == table) && is_locked_at key plan.on_key) is in
    let second = both_true (table_of walk.statement == table) (is_locked_at key plan.on_key) first.1 in
    record { fresh = is_false (is_duplicate txn.part walk.statement plan) first.0; of = number_is (table_of walk.statement) table second.0; lock = lock_at plan key plan.on_key refl second.1 }

pub to_visit : (txn : Txn) (walk : Walk) (plan : Plan) (table : ℕ) (key : List Value) (mode : LockMode) → is_duplicate txn.part walk.statement plan ≡ false → table_of walk.statement ≡ table
    → plan.on_key ≡ Some (key, mode) → is_visit_to txn walk plan table key ≡ true
to_visit txn walk plan table key mode fresh of is =
    λ i. not (fresh i) && (is_number (table_of walk.statement) table of i && (ap (is_locked_at key) is ∙ same_key_self key) i)

before_own : (key : List Value) → is_before_edge (After key) key ≡ true
before_own key = ap is_le (key_ties key)

-- what is covered by a plan is locked by it, or the statement leaves it
covering_acts : (node : NodeView) (plan : Plan) (statement : Statement) (table : ℕ) (key : List Value) (live : List Value → Bool) (old : Option (List Value)) → Covering live plan statement key
    → (InGap plan key → old ≡ None) → LockAt plan key ⊎ (act node.schemas statement table key old ≡ old)
covering_acts node plan statement table key live old = by statement
  where
    takes : (s : Statement) (mode : LockMode) → (act node.schemas s table key None ≡ None) → Takes mode plan key → (InGap plan key → old ≡ None) → LockAt plan key ⊎ (act node.schemas s table key old ≡ old)
    takes s mode absent (inl is) dead = inl (record { mode = mode; is = is })
    takes s mode absent (inr in_gap) dead = inr (ap (act node.schemas s table key) (dead in_gap) ∙ absent ∙ sym (dead in_gap))

    insert : (s : Statement) → (plan.on_key ≡ Some (key, Exclusive)) ⊎ ((plan.on_key ≡ Some (key, Shared)) × (live key ≡ true)) → LockAt plan key ⊎ (act node.schemas s table key old ≡ old)
    insert s (inl is) = inl (record { mode = Exclusive; is = is })
    insert s (inr both) = inl (record { mode = Shared; is = both.0 })

    by : (s : Statement) → Covering live plan s key → (InGap plan key → old ≡ None) → LockAt plan key ⊎ (act node.schemas s table key old ≡ old)
    by (Insert of row) is dead = insert (Insert of row) is
    by (Replace of row) is dead = inl (record { mode = Exclusive; is = is })
    by (Delete of where_true) is dead = takes (Delete of where_true) Exclusive (act_absent node.schemas (Delete of where_true) table key tt) is dead
    by (Update of sets where_true) is dead = takes (Update of sets where_true) Exclusive (act_absent node.schemas (Update of sets where_true) table key tt) is dead
    by (LockRead of mode span where_true) is dead = takes (LockRead of mode span where_true) mode (act_absent node.schemas (LockRead of mode span where_true) table key tt) is dead
    by (Check of chunk span kind) is dead = takes (Check of chunk span kind) Shared (act_absent node.schemas (Check of chunk span kind) table key tt) is dead
    by (SetMaster of chunk kind master) is dead = inr (act_none_changed node.schemas (SetMaster of chunk kind master) table key old tt)
    by (ClearChecks of) is dead = inr (act_none_changed node.schemas (ClearChecks of) table key old tt)

not_insert : (part_client inserts new : Bool) → part_client && inserts && not new ≡ true → inserts ≡ true
not_insert true true new e = refl
not_insert true false new e = cc
not_insert false inserts new e = cc

insert_walks : (statement : Statement) → is_insert statement ≡ true → Walks statement → ⊥
insert_walks (Insert of row) e walks = walks
insert_walks (Replace of row) e walks = walks
insert_walks (Delete of where_true) e walks = cc
insert_walks (Update of sets where_true) e walks = cc
insert_walks (LockRead of mode span where_true) e walks = cc
insert_walks (Check of chunk span kind) e walks = cc
insert_walks (SetMaster of chunk kind master) e walks = cc
insert_walks (ClearChecks of) e walks = cc

-- what the transaction has made of a row after the visit, from what it had made of it before
moved_seen : (node : NodeView) (txn : Txn) (walk : Walk) (plan : Plan) (held : List Holding) → SoundIn node txn.owner.0 walk plan → IsCoveredSoFar node.schemas (committed_row node) held txn.owner.0 (Some walk)
    → (table : ℕ) (key : List Value) (old : Option (List Value))
    → (InGap plan key → table_of walk.statement ≡ table → act_so_far node.schemas (Some walk) table key old ≡ None)
    → (refused ends : Bool) → is_duplicate txn.part walk.statement plan ≡ refused → plan.ends ≡ ends
    → act_so_far node.schemas (cond refused None (cond ends None (Some (record { statement = walk.statement; cursor = plan.after })))) table key
    (cond refused old (cond ends (act node.schemas walk.statement table key old) old))
    ≡ cond (is_visit_to txn walk plan table key) (act node.schemas walk.statement table key (act_so_far node.schemas (Some walk) table key old)) (act_so_far node.schemas (Some walk) table key old)
moved_seen node txn walk plan held sound so_far table key old dead refused ends is_refused is_ends =
    by_reach (reaches node.schemas walk.statement table key) refl
  where
    acted : Option (List Value) → Option (List Value)
    acted o = act node.schemas walk.statement table key o

    after_it : Option (List Value)
    after_it = act_so_far node.schemas (cond refused None (cond ends None (Some (record { statement = walk.statement; cursor = plan.after })))) table key (cond refused old (cond ends (act node.schemas walk.statement table key old) old))

    seen_it : Option (List Value)
    seen_it = act_so_far node.schemas (Some walk) table key old

    result : Bool → Option (List Value) → Option (List Value)
    result v o = cond v (act node.schemas walk.statement table key o) o

    both : (v : Bool) (o : Option (List Value)) → act node.schemas walk.statement table key o ≡ o → o ≡ cond v (act node.schemas walk.statement table key o) o
    both true o e = sym e
    both false o e = refl

    -- out of reach nothing changes
    outside : reaches node.schemas walk.statement table key ≡ false → act node.schemas walk.statement table key old ≡ old
    outside f = act_outside node.schemas walk.statement table key old f

    choice : (b : Bool) {o : Option (List Value)} → act node.schemas walk.statement table key o ≡ o → cond b (act node.schemas walk.statement table key o) o ≡ o
    choice true e = e
    choice false e = refl

    unreached_after : reaches node.schemas walk.statement table key ≡ false → (r e : Bool)
        → act_so_far node.schemas (cond r None (cond e None (Some (record { statement = walk.statement; cursor = plan.after })))) table key (cond r old (cond e (act node.schemas walk.statement table key old) old)) ≡ old
    unreached_after f true e = refl
    unreached_after f false true = outside f
    unreached_after f false false = choice (is_before_edge plan.after key) (outside f)

    unreached : reaches node.schemas walk.statement table key ≡ false
        → act_so_far node.schemas (cond refused None (cond ends None (Some (record { statement = walk.statement; cursor = plan.after })))) table key (cond refused old (cond ends (act node.schemas walk.statement table key old) old))
        ≡ cond (is_visit_to txn walk plan table key) (act node.schemas walk.statement table key (act_so_far node.schemas (Some walk) table key old)) (act_so_far node.schemas (Some walk) table key old)
    unreached f =
        unreached_after f refused ends
        ∙ sym (choice (is_before_edge walk.cursor key) (outside f))
        ∙ both (is_visit_to txn walk plan table key) (act_so_far node.schemas (Some walk) table key old) (act_outside node.schemas walk.statement table key (act_so_far node.schemas (Some walk) table key old) f)

    walking : reaches node.schemas walk.statement table key ≡ true → is_before_edge walk.cursor key ≡ true → Walks walk.statement
    walking f before = (so_far table key f before).0

    -- a key before the cursor is not visited again
    not_again : reaches node.schemas walk.statement table key ≡ true → is_before_edge walk.cursor key ≡ true → (v : Bool) → is_visit_to txn walk plan table key ≡ v → v ≡ false
    not_again f before false e = refl
    not_again f before true e =
        let to = visit_to txn walk plan table key e in
        absurd (not_both walk.cursor key before (sound.past (key, to.lock.mode) to.lock.is (walking f before)))

    passed : reaches node.schemas walk.statement table key ≡ true → is_before_edge walk.cursor key ≡ true → (r e : Bool) → is_duplicate txn.part walk.statement plan ≡ r → plan.ends ≡ e
        → act_so_far node.schemas (cond r None (cond e None (Some (record { statement = walk.statement; cursor = plan.after })))) table key (cond r old (cond e (act node.schemas walk.statement table key old) old))
        ≡ act node.schemas walk.statement table key old
    passed f before true e is_r is_e = absurd (insert_walks walk.statement (not_insert (is_client txn.part) (is_insert walk.statement) plan.insert is_r) (walking f before))
    passed f before false true is_r is_e = refl
    passed f before false false is_r is_e = ap (λ (b : Bool). cond b (act node.schemas walk.statement table key old) old) (sound.onward is_e key before)

    -- a key past the cursor that the visit passes
    new_key : reaches node.schemas walk.statement table key ≡ true → is_before_edge walk.cursor key ≡ false → is_duplicate txn.part walk.statement plan ≡ false → Passes plan key
        → act node.schemas walk.statement table key old ≡ cond (is_visit_to txn walk plan table key) (act node.schemas walk.statement table key old) old
    new_key f past fresh passes = at (sound.passes table key f passes)
      where
        same_seen : old ≡ act_so_far node.schemas (Some walk) table key old
        same_seen = sym (ap (λ (b : Bool). cond b (act node.schemas walk.statement table key old) old) past)

        by_lock : table_of walk.statement ≡ table → LockAt plan key ⊎ (act node.schemas walk.statement table key old ≡ old)
            → act node.schemas walk.statement table key old ≡ cond (is_visit_to txn walk plan table key) (act node.schemas walk.statement table key old) old
        by_lock of (inl lock) = sym (ap (λ (b : Bool). cond b (act node.schemas walk.statement table key old) old) (to_visit txn walk plan table key lock.mode fresh of lock.is))
        by_lock of (inr e) = e ∙ both (is_visit_to txn walk plan table key) old e

        at : (Walks walk.statement × (is_before_edge walk.cursor key ≡ true)) ⊎ ((table_of walk.statement ≡ table) × Covering (is_live node (table_of walk.statement)) plan walk.statement key)
            → act node.schemas walk.statement table key old ≡ cond (is_visit_to txn walk plan table key) (act node.schemas walk.statement table key old) old
        at (inl before) = absurd (let q : true ≡ false = sym before.1 ∙ past in cc)
        at (inr here) = by_lock here.0 (covering_acts node plan walk.statement table key (is_live node (table_of walk.statement)) old here.1 (λ in_gap. same_seen ∙ dead in_gap here.0))

    not_yet : is_before_edge plan.after key ≡ false → (v : Bool) → is_visit_to txn walk plan table key ≡ v → v ≡ false
    not_yet late false e = refl
    not_yet late true e =
        let to = visit_to txn walk plan table key e in
        let q : true ≡ false = sym (ap (λ (edge : Edge). is_before_edge edge key) (sound.after (key, to.lock.mode) to.lock.is) ∙ before_own key) ∙ late in cc

    ahead : reaches node.schemas walk.statement table key ≡ true → is_before_edge walk.cursor key ≡ false → (r e : Bool) → is_duplicate txn.part walk.statement plan ≡ r → plan.ends ≡ e
        → act_so_far node.schemas (cond r None (cond e None (Some (record { statement = walk.statement; cursor = plan.after })))) table key (cond r old (cond e (act node.schemas walk.statement table key old) old))
        ≡ cond (is_visit_to txn walk plan table key) (act node.schemas walk.statement table key old) old
    ahead f past true e is_r is_e =
        sym (ap (λ (r : Bool). cond (not r && ((table_of walk.statement == table) && is_locked_at key plan.on_key)) (act node.schemas walk.statement table key old) old) is_r)
    ahead f past false true is_r is_e = new_key f past is_r (inl is_e)
    ahead f past false false is_r is_e = by_after (is_before_edge plan.after key) refl
      where
        by_after : (b : Bool) → is_before_edge plan.after key ≡ b → cond b (act node.schemas walk.statement table key old) old ≡ cond (is_visit_to txn walk plan table key) (act node.schemas walk.statement table key old) old
        by_after true e = new_key f past is_r (inr e)
        by_after false e = sym (ap (λ (b : Bool). cond b (act node.schemas walk.statement table key old) old) (not_yet e (is_visit_to txn walk plan table key) refl))

    by_cursor : reaches node.schemas walk.statement table key ≡ true → (b : Bool) → is_before_edge walk.cursor key ≡ b
        → act_so_far node.schemas (cond refused None (cond ends None (Some (record { statement = walk.statement; cursor = plan.after })))) table key (cond refused old (cond ends (act node.schemas walk.statement table key old) old))
        ≡ cond (is_visit_to txn walk plan table key) (act node.schemas walk.statement table key (cond b (act node.schemas walk.statement table key old) old)) (cond b (act node.schemas walk.statement table key old) old)
    by_cursor f true before =
        passed f before refused ends is_refused is_ends
        ∙ sym (ap (λ (v : Bool). cond v (act node.schemas walk.statement table key (act node.schemas walk.statement table key old)) (act node.schemas walk.statement table key old)) (not_again f before (is_visit_to txn walk plan table key) refl))
    by_cursor f false past = ahead f past refused ends is_refused is_ends

    by_reach : (b : Bool) → reaches node.schemas walk.statement table key ≡ b
        → act_so_far node.schemas (cond refused None (cond ends None (Some (record { statement = walk.statement; cursor = plan.after })))) table key (cond refused old (cond ends (act node.schemas walk.statement table key old) old))
        ≡ cond (is_visit_to txn walk plan table key) (act node.schemas walk.statement table key (act_so_far node.schemas (Some walk) table key old)) (act_so_far node.schemas (Some walk) table key old)
    by_reach false f = unreached f
    by_reach true f = by_cursor f (is_before_edge walk.cursor key) refl

moved_is : (schemas : List Schema) (txn : Txn) (walk : Walk) (plan : Plan) (table : ℕ) (key : List Value) (rows : Option (List Value)) (refused ends : Bool)
    → seen schemas (cond refused (record txn { current = None })
    (cond ends (record txn { done = txn.done ++ walk.statement ∷ []; current = None })
    (record txn { current = Some (record { statement = walk.statement; cursor = plan.after }) }))) table key rows
    ≡ act_so_far schemas (cond refused None (cond ends None (Some (record { statement = walk.statement; cursor = plan.after })))) table key
    (cond refused (acts schemas txn.done table key rows) (cond ends (act schemas walk.statement table key (acts schemas txn.done table key rows)) (acts schemas txn.done table key rows)))
moved_is schemas txn walk plan table key rows true ends = refl
moved_is schemas txn walk plan table key rows false true = acts_more schemas txn.done walk.statement table key rows
moved_is schemas txn walk plan table key rows false false = refl

-- what the visit makes of a live row
abbrev pub after_visit_to : NodeView → Txn → Walk → Plan → ℕ → List Value → Option (List Value) → Option (List Value)
after_visit_to node txn walk plan table key old = cond (is_visit_to txn walk plan table key) (act node.schemas walk.statement table key old) old

-- others hold what they held
pub taken_others : (txn : Txn) (table : ℕ) (plan : Plan) (held : List Holding) (b of : ℕ) (want : Want) → b ≢ txn.owner.0 → Holds b of want (taken txn.owner table plan held) → Holds b of want held
taken_others txn table plan held b of want apart h = at plan.on_key h
  where
    at : (on_key : Option (List Value × LockMode)) → Holds b of want (with_lock txn.owner table on_key (with_gap txn.owner table plan.gap held)) → Holds b of want held
    at None g = others_before txn.owner table plan.gap held b of want apart g
    at (Some lock) g = last (holds_appended b of want (with_gap txn.owner table plan.gap held) (record { owner = txn.owner; table = table; want = OnKey lock.0 lock.1 }) g)
      where
        last : IsHolding b of want (record { owner = txn.owner; table = table; want = OnKey lock.0 lock.1 }) ⊎ Holds b of want (with_gap txn.owner table plan.gap held) → Holds b of want held
        last (inl is) = absurd (apart (sym is.0))
        last (inr f) = others_before txn.owner table plan.gap held b of want apart f

-- the live row at each key after a visit that nobody excludes
pub visit_live : (node : NodeView) (txn : Txn) (walk : Walk) → FactsOf node → txn_of txn.owner.0 node.txns ≡ Some txn → txn.current ≡ Some walk
    → plan_excluder txn.owner (table_of walk.statement) (plan_of node txn walk) node.held ≡ None
    → (table : ℕ) (key : List Value) → live_row (visited txn walk (plan_of node txn walk) node) table key ≡ after_visit_to node txn walk (plan_of node txn walk) table key (live_row node table key)
visit_live node txn walk facts found current none table key = at (exclusive_owner table key after) refl
  where
    plan : Plan
    plan = plan_of node txn walk

    rows : Option (List Value)
    rows = committed_row node table key

    after : List Holding
    after = taken txn.owner (table_of walk.statement) (plan_of node txn walk) node.held

    sound : SoundIn node txn.owner.0 walk (plan_of node txn walk)
    sound = sound_in node txn walk

    now : FactsOf (visited txn walk (plan_of node txn walk) node)
    now = visit_facts node txn walk facts found current none

    live_is : (o : Option ℕ) → exclusive_owner table key node.held ≡ o → live_row node table key ≡ live_from node.schemas node.txns o table key (committed_row node table key)
    live_is o e = ap (λ (x : Option ℕ). live_from node.schemas node.txns x table key (committed_row node table key)) e

    -- where another owner, or nobody, has the key exclusively, the visit leaves it
    left : ((a : ℕ) → a ≡ txn.owner.0 → Holds a table (OnKey key Exclusive) after → ⊥) → (v : Bool) → is_visit_to txn walk (plan_of node txn walk) table key ≡ v
        → live_row node table key ≡ cond v (act node.schemas walk.statement table key (live_row node table key)) (live_row node table key)
    left nobody false e = refl
    left nobody true e = by_mode (visit_to txn walk (plan_of node txn walk) table key e)
      where
        by_mode : VisitTo txn walk (plan_of node txn walk) table key → live_row node table key ≡ act node.schemas walk.statement table key (live_row node table key)
        by_mode to = mode to.lock.mode to.lock.is
          where
            mode : (m : LockMode) → (plan_of node txn walk).on_key ≡ Some (key, m) → live_row node table key ≡ act node.schemas walk.statement table key (live_row node table key)
            mode Exclusive is = absurd (nobody txn.owner.0 refl (subst (λ (t : ℕ). Holds txn.owner.0 t (OnKey key Exclusive) after) to.of
                (on_key_held txn.owner (table_of walk.statement) (plan_of node txn walk) node.held key Exclusive is)))
            mode Shared is = sym (sound.shared node.schemas table key (live_row node table key) is (ap (λ (t : ℕ). is_live node t key) to.of))

    at : (o : Option ℕ) → exclusive_owner table key after ≡ o
        → live_from node.schemas (with_txn (moved txn walk (plan_of node txn walk)) node.txns) o table key (committed_row node table key) ≡ after_visit_to node txn walk (plan_of node txn walk) table key (live_row node table key)
    at None e =
        sym (live_is None (before_none (exclusive_owner table key node.held) refl))
        ∙ left (λ a same h. exclusive_none a table key after e h) (is_visit_to txn walk (plan_of node txn walk) table key) refl
      where
        before_none : (o : Option ℕ) → exclusive_owner table key node.held ≡ o → exclusive_owner table key node.held ≡ None
        before_none None f = f
        before_none (Some a) f = absurd (exclusive_none a table key after e
            (taken_kept txn.owner (table_of walk.statement) (plan_of node txn walk) node.held a table (OnKey key Exclusive) (exclusive_found a table key node.held f)))
    at (Some a) e = one (same_or_apart a txn.owner.0)
      where
        there : Holds a table (OnKey key Exclusive) after
        there = exclusive_found a table key after e

        -- the owner's own key
        live_seen : a ≡ txn.owner.0 → live_row node table key ≡ seen node.schemas txn table key (committed_row node table key)
        live_seen same = by (exclusive_owner table key node.held) refl
          where
            ours : Holds txn.owner.0 table (OnKey key Exclusive) after
            ours = subst (λ (o : ℕ). Holds o table (OnKey key Exclusive) after) same there

            by : (o : Option ℕ) → exclusive_owner table key node.held ≡ o → live_row node table key ≡ seen node.schemas txn table key (committed_row node table key)
            by None f = live_is None f ∙ unheld (seen_left node.schemas (committed_row node) node.txns node.held txn.owner.0 txn table key facts (facts.covered txn.owner.0 txn found))
              where
                unheld : (seen node.schemas txn table key (committed_row node table key) ≡ committed_row node table key) ⊎ Holds txn.owner.0 table (OnKey key Exclusive) node.held
                    → committed_row node table key ≡ seen node.schemas txn table key (committed_row node table key)
                unheld (inl same_row) = sym same_row
                unheld (inr on) = absurd (exclusive_none txn.owner.0 table key node.held f on)
            by (Some b) f = which (same_or_apart b txn.owner.0)
              where
                which : (b ≡ txn.owner.0) ⊎ (b ≢ txn.owner.0) → live_row node table key ≡ seen node.schemas txn table key (committed_row node table key)
                which (inl own) = live_is (Some b) f ∙ ap (λ (t : Option Txn). seen_by node.schemas t table key (committed_row node table key)) (ap (λ (o : ℕ). txn_of o node.txns) own ∙ found)
                which (inr apart) = absurd (now.alone_on_key txn.owner.0 b table key Exclusive (λ e. apart (sym e)) ours
                    (taken_kept txn.owner (table_of walk.statement) (plan_of node txn walk) node.held b table (OnKey key Exclusive) (exclusive_found b table key node.held f)))

        one : (a ≡ txn.owner.0) ⊎ (a ≢ txn.owner.0)
            → seen_by node.schemas (txn_of a (with_txn (moved txn walk (plan_of node txn walk)) node.txns)) table key (committed_row node table key) ≡ after_visit_to node txn walk (plan_of node txn walk) table key (live_row node table key)
        one (inl same) =
            ap (λ (t : Option Txn). seen_by node.schemas t table key (committed_row node table key))
            (ap (λ (o : ℕ). txn_of o (with_txn (moved txn walk (plan_of node txn walk)) node.txns)) (same ∙ sym (moved_owner txn walk (plan_of node txn walk))) ∙ txn_same (moved txn walk (plan_of node txn walk)) node.txns)
            ∙ moved_is node.schemas txn walk (plan_of node txn walk) table key (committed_row node table key) (is_duplicate txn.part walk.statement (plan_of node txn walk)) (plan_of node txn walk).ends
            ∙ moved_seen node txn walk (plan_of node txn walk) node.held sound so_far table key (acts node.schemas txn.done table key (committed_row node table key)) dead
            (is_duplicate txn.part walk.statement (plan_of node txn walk)) (plan_of node txn walk).ends refl refl
            ∙ sym (ap (after_visit_to node txn walk (plan_of node txn walk) table key) (live_seen same ∙ seen_walk))
          where
            seen_walk : seen node.schemas txn table key (committed_row node table key) ≡ act_so_far node.schemas (Some walk) table key (acts node.schemas txn.done table key (committed_row node table key))
            seen_walk = ap (λ (w : Option Walk). act_so_far node.schemas w table key (acts node.schemas txn.done table key (committed_row node table key))) current

            so_far : IsCoveredSoFar node.schemas (committed_row node) node.held txn.owner.0 (Some walk)
            so_far = subst (IsCoveredSoFar node.schemas (committed_row node) node.held txn.owner.0) current (facts.covered txn.owner.0 txn found).so_far

            by_live : (row : Option (List Value)) → live_row node table key ≡ row → (is_some row ≡ true → ⊥) → live_row node table key ≡ None
            by_live None e gone = e
            by_live (Some row) e gone = absurd (gone refl)

            dead : InGap (plan_of node txn walk) key → table_of walk.statement ≡ table → act_so_far node.schemas (Some walk) table key (acts node.schemas txn.done table key (committed_row node table key)) ≡ None
            dead in_gap of =
                sym (live_seen same ∙ seen_walk)
                ∙ by_live (live_row node table key) refl (λ some. sound.gap in_gap.span in_gap.is key in_gap.over
                (subst (λ (t : ℕ). IsAmong key (stops node txn.owner.0 t)) (sym of) (live_is_stop node txn.owner.0 table key some)))
        one (inr apart) =
            ap (λ (t : Option Txn). seen_by node.schemas t table key (committed_row node table key)) (txn_other a (moved txn walk (plan_of node txn walk)) node.txns (λ e. apart (e ∙ moved_owner txn walk (plan_of node txn walk))))
            ∙ sym (live_is (Some a) was)
            ∙ left (λ b own h. now.alone_on_key a b table key Exclusive (λ e. apart (e ∙ own)) there h) (is_visit_to txn walk (plan_of node txn walk) table key) refl
          where
            held_before : Holds a table (OnKey key Exclusive) node.held
            held_before = taken_others txn (table_of walk.statement) (plan_of node txn walk) node.held a table (OnKey key Exclusive) apart there

            was : exclusive_owner table key node.held ≡ Some a
            was = exclusive_is a table key node.held (λ b away h. facts.alone_on_key a b table key Exclusive (λ e. away (sym e)) held_before h) held_before
