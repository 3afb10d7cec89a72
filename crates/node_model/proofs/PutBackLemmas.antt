-- What is noted leads back after each call: a visit notes the row of an exclusive lock, a rollback puts back.
use Rattle.std.proofs.Common.{◌≡◌, ◌≢◌, ◌⊎◌, inl, inr, ◌∙◌, ℕ, List, [], ◌∷◌, ◌++◌, ◌&&◌, ◌||◌, ◌==◌, Bool, true, false, not, cond, Option, None, Some, refl, ap, sym, subst}
use Rattle.std.specs.Prelude.{option_and_then}
use Rattle.std.specs.List.{AllByRecursion}
use Rattle.std.specs.Option.{option_map_or}
use Rattle.std.proofs.lemmas.List.{append-nil}
use Rattle.row_types.specs.declared.edges.Span.{Span}
use Rattle.row_types.specs.declared.values.Value.{Value}
use Rattle.row_types.specs.declared.lock_modes.LockMode.{LockMode}
use Rattle.row_types.specs.declared.lock_modes.LockMode.TheVariants.{Shared, Exclusive}
use Rattle.ptc_statement.specs.declared.statements.Statement.{Statement}
use Rattle.ptc_statement.specs.Effect.{table_of}
use Rattle.ptc_statement.specs.Fits.{FitsSchemas}
use Rattle.statement_log.specs.declared.origins.Origin.{Origin}
use Rattle.lock_table.specs.declared.wants.Want.{Want}
use Rattle.lock_table.specs.declared.wants.Want.TheVariants.{OnKey, OnGap, InsertAt}
use Rattle.lock_table.specs.declared.wants.Holding.{Holding}
use Rattle.lock_table.specs.Locks.{is_same_key, is_exclusive, excluder, exclusive_owner, released, IsHolding, Holds}
use Rattle.lock_table.proofs.GapLemmas.{both_true}
use Rattle.lock_table.proofs.HoldLemmas.{same_key_is, same_key_self, number_is, is_number, other_number, same_or_apart, released_holds, still_holds, exclusive_found, exclusive_none, exclusive_is, shut_key, shut_insert_key, holds_appended}
use Rattle.node_model.specs.Kept.{FactsOf, TablesOf}
use Rattle.txn_walk.specs.declared.plans.Plan.{Plan}
use Rattle.node_model.specs.declared.txns.Walk.{Walk}
use Rattle.node_model.specs.declared.txns.Txn.{Txn}
use Rattle.node_model.specs.Txns.{txn_of}
use Rattle.node_model.specs.Node.{NodeView, act, live_row, live_from, committed_row, is_live, plan_of, plan_excluder, asked, with_gap, with_lock, taken, is_duplicate, visited, ended, committed}
use Rattle.node_model.specs.PutBack.{Noted, put_back, AreOwn, LeadsBack}
use Rattle.node_model.proofs.VisitLemmas.{sound_in, taken_kept, on_key_held}
use Rattle.node_model.proofs.LiveLemmas.{ended_live, live_without, committed_live, committed_change}
use Rattle.node_model.proofs.VisitLive.{is_visit_to, after_visit_to, visit_live, VisitTo, visit_to, to_visit, taken_others}

-- at a key that the owner does not have exclusively nothing is noted
pub not_noted : (owner : ℕ) (held : List Holding) (notes : List Noted) (table : ℕ) (key : List Value) (now : Option (List Value)) → AreOwn owner held notes
    → (Holds owner table (OnKey key Exclusive) held → ⊥) → put_back notes table key now ≡ now
not_noted owner held [] table key now own off = refl
not_noted owner held (note ∷ notes) table key now own off = at ((note.table == table) && is_same_key key note.key) refl (not_noted owner held notes table key now own.1 off)
  where
    at : (b : Bool) → ((note.table == table) && is_same_key key note.key) ≡ b → put_back notes table key now ≡ now → cond b note.was (put_back notes table key now) ≡ now
    at true e more =
        let both = both_true (note.table == table) (is_same_key key note.key) e in
        absurd (off (subst (λ (k : List Value). Holds owner table (OnKey k Exclusive) held) (sym (same_key_is key note.key both.1))
        (subst (λ (t : ℕ). Holds owner t (OnKey note.key Exclusive) held) (number_is note.table table both.0) own.0)))
    at false e more = more

own_kept : (owner : ℕ) (held after : List Holding) (notes : List Noted) → ((table : ℕ) (want : Want) → Holds owner table want held → Holds owner table want after) → AreOwn owner held notes → AreOwn owner after notes
own_kept owner held after [] keeps own = tt
own_kept owner held after (note ∷ notes) keeps own = (keeps note.table (OnKey note.key Exclusive) own.0, own_kept owner held after notes keeps own.1)

own_more : (owner : ℕ) (held : List Holding) (notes : List Noted) (last : Noted) → AreOwn owner held notes → Holds owner last.table (OnKey last.key Exclusive) held → AreOwn owner held (notes ++ last ∷ [])
own_more owner held [] last own on = (on, tt)
own_more owner held (note ∷ notes) last own on = (own.0, own_more owner held notes last own.1 on)

pub put_back_last : (notes : List Noted) (last : Noted) (table : ℕ) (key : List Value) (now : Option (List Value))
    → put_back (notes ++ last ∷ []) table key now ≡ put_back notes table key (cond ((last.table == table) && is_same_key key last.key) last.was now)
put_back_last [] last table key now = refl
put_back_last (note ∷ notes) last table key now = ap (cond ((note.table == table) && is_same_key key note.key) note.was) (put_back_last notes last table key now)

-- a rollback: putting back gives the live rows of the node without the transaction
pub rollback_rows : (node : NodeView) (owner : ℕ) (notes : List Noted) → FactsOf node → LeadsBack node owner notes → (table : ℕ) (key : List Value)
    → put_back notes table key (live_row node table key) ≡ live_row (ended owner node) table key
rollback_rows node owner notes facts leads table key = at (exclusive_owner table key node.held) refl ∙ sym (ended_live node owner table key facts)
  where
    other : (a : ℕ) → exclusive_owner table key node.held ≡ Some a → (a ≡ owner) ⊎ (a ≢ owner)
        → put_back notes table key (live_row node table key) ≡ cond (a == owner) (committed_row node table key) (live_row node table key)
    other a e (inl same) =
        leads.back table key (subst (λ (o : ℕ). Holds o table (OnKey key Exclusive) node.held) same (exclusive_found a table key node.held e))
        ∙ sym (ap (λ (b : Bool). cond b (committed_row node table key) (live_row node table key)) (is_number a owner same))
    other a e (inr apart) =
        not_noted owner node.held notes table key (live_row node table key) leads.own (λ on. facts.alone_on_key a owner table key Exclusive apart (exclusive_found a table key node.held e) on)
        ∙ sym (ap (λ (b : Bool). cond b (committed_row node table key) (live_row node table key)) (other_number a owner apart))

    at : (o : Option ℕ) → exclusive_owner table key node.held ≡ o → put_back notes table key (live_row node table key) ≡ live_without node owner table key o
    at None e = not_noted owner node.held notes table key (live_row node table key) leads.own (λ on. exclusive_none owner table key node.held e on)
    at (Some a) e = other a e (same_or_apart a owner)

-- what others noted still leads back after a rollback
pub rollback_others : (node : NodeView) (owner b : ℕ) (notes : List Noted) → FactsOf node → b ≢ owner → LeadsBack node b notes → LeadsBack (ended owner node) b notes
rollback_others node owner b notes facts apart leads = record {
  own = own_kept b node.held (released owner node.held) notes (λ table want h. still_holds owner b table want node.held apart h) leads.own;
  back = λ table key on. back table key (released_holds owner b table (OnKey key Exclusive) node.held on).0;
}
  where
    back : (table : ℕ) (key : List Value) → Holds b table (OnKey key Exclusive) node.held → put_back notes table key (live_row (ended owner node) table key) ≡ committed_row node table key
    back table key on =
        ap (put_back notes table key)
        (ended_live node owner table key facts
        ∙ ap (live_without node owner table key) (exclusive_is b table key node.held (λ c away h. facts.alone_on_key b c table key Exclusive (λ e. away (sym e)) on h) on)
        ∙ ap (λ (x : Bool). cond x (committed_row node table key) (live_row node table key)) (other_number b owner apart))
        ∙ leads.back table key on

-- and after a commit
pub commit_others : (node : NodeView) (txn : Txn) (origin : Origin) (b : ℕ) (notes : List Noted) → FactsOf node → TablesOf node → AllByRecursion (FitsSchemas node.schemas) txn.done
    → txn_of txn.owner.0 node.txns ≡ Some txn → txn.current ≡ None → b ≢ txn.owner.0 → LeadsBack node b notes → LeadsBack (committed txn origin node) b notes
commit_others node txn origin b notes facts are fit found idle apart leads = record {
  own = own_kept b node.held (released txn.owner.0 node.held) notes (λ table want h. still_holds txn.owner.0 b table want node.held apart h) leads.own;
  back = λ table key on. back table key (released_holds txn.owner.0 b table (OnKey key Exclusive) node.held on).0;
}
  where
    same : (table : ℕ) (key : List Value) → Holds b table (OnKey key Exclusive) node.held
        → (committed_row (committed txn origin node) table key ≡ committed_row node table key) ⊎ Holds txn.owner.0 table (OnKey key Exclusive) node.held
        → committed_row node table key ≡ committed_row (committed txn origin node) table key
    same table key on (inl e) = sym e
    same table key on (inr theirs) = absurd (facts.alone_on_key b txn.owner.0 table key Exclusive apart on theirs)

    back : (table : ℕ) (key : List Value) → Holds b table (OnKey key Exclusive) node.held
        → put_back notes table key (live_row (committed txn origin node) table key) ≡ committed_row (committed txn origin node) table key
    back table key on =
        ap (put_back notes table key) (committed_live node txn origin facts are fit found idle table key)
        ∙ leads.back table key on
        ∙ same table key on (committed_change node txn origin facts are fit found table key)

-- a visit: nobody else has its key exclusively
visit_shut : (node : NodeView) (txn : Txn) (walk : Walk) (key : List Value) (mode : LockMode)
    → plan_excluder txn.owner (table_of walk.statement) (plan_of node txn walk) node.held ≡ None → (plan_of node txn walk).on_key ≡ Some (key, mode)
    → (b : ℕ) → b ≢ txn.owner.0 → Holds b (table_of walk.statement) (OnKey key Exclusive) node.held → ⊥
visit_shut node txn walk key mode none is = by (plan_of node txn walk).insert
    (subst (λ (o : Option (List Value × LockMode)). option_and_then (λ (want : Want). excluder txn.owner.0 (table_of walk.statement) want node.held) (asked (plan_of node txn walk).insert o) ≡ None) is none)
  where
    strong : (m : LockMode) → is_exclusive m || true ≡ true
    strong Shared = refl
    strong Exclusive = refl

    by : (insert : Bool) → option_and_then (λ (want : Want). excluder txn.owner.0 (table_of walk.statement) want node.held) (asked insert (Some (key, mode))) ≡ None
        → (b : ℕ) → b ≢ txn.owner.0 → Holds b (table_of walk.statement) (OnKey key Exclusive) node.held → ⊥
    by true e b apart h = shut_insert_key txn.owner.0 b (table_of walk.statement) key Exclusive node.held e apart h
    by false e b apart h = shut_key txn.owner.0 b (table_of walk.statement) key mode Exclusive node.held e apart (strong mode) h

pub visit_others : (node : NodeView) (txn : Txn) (walk : Walk) (b : ℕ) (notes : List Noted) → FactsOf node → txn_of txn.owner.0 node.txns ≡ Some txn → txn.current ≡ Some walk
    → plan_excluder txn.owner (table_of walk.statement) (plan_of node txn walk) node.held ≡ None → b ≢ txn.owner.0 → LeadsBack node b notes → LeadsBack (visited txn walk (plan_of node txn walk) node) b notes
visit_others node txn walk b notes facts found current none apart leads = record {
  own = own_kept b node.held (taken txn.owner (table_of walk.statement) (plan_of node txn walk) node.held) notes (taken_kept txn.owner (table_of walk.statement) (plan_of node txn walk) node.held b) leads.own;
  back = λ table key on. back table key (taken_others txn (table_of walk.statement) (plan_of node txn walk) node.held b table (OnKey key Exclusive) apart on);
}
  where
    elsewhere : (table : ℕ) (key : List Value) → Holds b table (OnKey key Exclusive) node.held → (v : Bool) → is_visit_to txn walk (plan_of node txn walk) table key ≡ v → v ≡ false
    elsewhere table key on false e = refl
    elsewhere table key on true e =
        let to = visit_to txn walk (plan_of node txn walk) table key e in
        absurd (visit_shut node txn walk key to.lock.mode none to.lock.is b apart (subst (λ (t : ℕ). Holds b t (OnKey key Exclusive) node.held) (sym to.of) on))

    back : (table : ℕ) (key : List Value) → Holds b table (OnKey key Exclusive) node.held
        → put_back notes table key (live_row (visited txn walk (plan_of node txn walk) node) table key) ≡ committed_row node table key
    back table key on =
        ap (put_back notes table key)
        (visit_live node txn walk facts found current none table key
        ∙ ap (λ (v : Bool). cond v (act node.schemas walk.statement table key (live_row node table key)) (live_row node table key)) (elsewhere table key on (is_visit_to txn walk (plan_of node txn walk) table key) refl))
        ∙ leads.back table key on

-- the owner notes the live row of its visit, where the lock is exclusive
abbrev pub noted_by : NodeView → ℕ → Option (List Value × LockMode) → List Noted
noted_by node table None = []
noted_by node table (Some (key, Shared)) = []
noted_by node table (Some (key, Exclusive)) = record { table = table; key = key; was = live_row node table key } ∷ []

-- a lock that the owner has after its visit it had before, or it is the visit's
own_before : (txn : Txn) (table : ℕ) (plan : Plan) (held : List Holding) (on_key : Option (List Value × LockMode)) (of : ℕ) (key : List Value)
    → Holds txn.owner.0 of (OnKey key Exclusive) (with_lock txn.owner table on_key (with_gap txn.owner table plan.gap held))
    → Holds txn.owner.0 of (OnKey key Exclusive) held ⊎ ((table ≡ of) × (on_key ≡ Some (key, Exclusive)))
own_before txn table plan held on_key of key = at on_key
  where
    no_gap : (gap : Option Span) → Holds txn.owner.0 of (OnKey key Exclusive) (with_gap txn.owner table gap held) → Holds txn.owner.0 of (OnKey key Exclusive) held
    no_gap None h = h
    no_gap (Some span) h = by (holds_appended txn.owner.0 of (OnKey key Exclusive) held (record { owner = txn.owner; table = table; want = OnGap span }) h)
      where
        by : IsHolding txn.owner.0 of (OnKey key Exclusive) (record { owner = txn.owner; table = table; want = OnGap span }) ⊎ Holds txn.owner.0 of (OnKey key Exclusive) held → Holds txn.owner.0 of (OnKey key Exclusive) held
        by (inl is) = absurd (let q : OnGap span ≡ OnKey key Exclusive = is.2 in cc)
        by (inr g) = g

    pair : (lock : List Value × LockMode) → OnKey lock.0 lock.1 ≡ OnKey key Exclusive → Some lock ≡ Some (key, Exclusive)
    pair lock e = let k : lock.0 ≡ key = cc in let m : lock.1 ≡ Exclusive = cc in λ i. Some (k i, m i)

    at : (o : Option (List Value × LockMode)) → Holds txn.owner.0 of (OnKey key Exclusive) (with_lock txn.owner table o (with_gap txn.owner table plan.gap held))
        → Holds txn.owner.0 of (OnKey key Exclusive) held ⊎ ((table ≡ of) × (o ≡ Some (key, Exclusive)))
    at None h = inl (no_gap plan.gap h)
    at (Some lock) h = by (holds_appended txn.owner.0 of (OnKey key Exclusive) (with_gap txn.owner table plan.gap held) (record { owner = txn.owner; table = table; want = OnKey lock.0 lock.1 }) h)
      where
        by : IsHolding txn.owner.0 of (OnKey key Exclusive) (record { owner = txn.owner; table = table; want = OnKey lock.0 lock.1 }) ⊎ Holds txn.owner.0 of (OnKey key Exclusive) (with_gap txn.owner table plan.gap held)
            → Holds txn.owner.0 of (OnKey key Exclusive) held ⊎ ((table ≡ of) × (Some lock ≡ Some (key, Exclusive)))
        by (inl is) = inr (is.1, pair lock is.2)
        by (inr g) = inl (no_gap plan.gap g)

pub visit_own : (node : NodeView) (txn : Txn) (walk : Walk) (notes : List Noted) → FactsOf node → txn_of txn.owner.0 node.txns ≡ Some txn → txn.current ≡ Some walk
    → plan_excluder txn.owner (table_of walk.statement) (plan_of node txn walk) node.held ≡ None → LeadsBack node txn.owner.0 notes
    → LeadsBack (visited txn walk (plan_of node txn walk) node) txn.owner.0 (notes ++ noted_by node (table_of walk.statement) (plan_of node txn walk).on_key)
visit_own node txn walk notes facts found current none leads = at (plan_of node txn walk).on_key refl
  where
    after : List Holding
    after = taken txn.owner (table_of walk.statement) (plan_of node txn walk) node.held

    kept : AreOwn txn.owner.0 after notes
    kept = own_kept txn.owner.0 node.held after notes (taken_kept txn.owner (table_of walk.statement) (plan_of node txn walk) node.held txn.owner.0) leads.own

    live_now : (table : ℕ) (key : List Value) → live_row (visited txn walk (plan_of node txn walk) node) table key ≡ after_visit_to node txn walk (plan_of node txn walk) table key (live_row node table key)
    live_now table key = visit_live node txn walk facts found current none table key

    before : (table : ℕ) (key : List Value) → Holds txn.owner.0 table (OnKey key Exclusive) after
        → Holds txn.owner.0 table (OnKey key Exclusive) node.held ⊎ ((table_of walk.statement ≡ table) × ((plan_of node txn walk).on_key ≡ Some (key, Exclusive)))
    before table key on = own_before txn (table_of walk.statement) (plan_of node txn walk) node.held (plan_of node txn walk).on_key table key on

    lock_is : (a b : List Value × LockMode) → Some a ≡ Some b → a ≡ b
    lock_is a b e = ap (λ (o : Option (List Value × LockMode)). option_map_or (λ (x : List Value × LockMode). x) o a) e

    -- a visit without an exclusive lock leaves each live row
    left : (table : ℕ) (key : List Value) → ((mode : LockMode) → (plan_of node txn walk).on_key ≡ Some (key, mode) → mode ≡ Shared) → (v : Bool) → is_visit_to txn walk (plan_of node txn walk) table key ≡ v
        → cond v (act node.schemas walk.statement table key (live_row node table key)) (live_row node table key) ≡ live_row node table key
    left table key shared false e = refl
    left table key shared true e =
        let to = visit_to txn walk (plan_of node txn walk) table key e in
        (sound_in node txn walk).shared node.schemas table key (live_row node table key)
        (to.lock.is ∙ ap (λ (m : LockMode). Some (key, m)) (shared to.lock.mode to.lock.is)) (ap (λ (t : ℕ). is_live node t key) to.of)

    unchanged : ((key : List Value) (mode : LockMode) → (plan_of node txn walk).on_key ≡ Some (key, mode) → mode ≡ Shared)
        → (table : ℕ) (key : List Value) → Holds txn.owner.0 table (OnKey key Exclusive) after → put_back notes table key (live_row (visited txn walk (plan_of node txn walk) node) table key) ≡ committed_row node table key
    unchanged shared table key on =
        ap (put_back notes table key) (live_now table key ∙ left table key (shared key) (is_visit_to txn walk (plan_of node txn walk) table key) refl)
        ∙ by (before table key on)
      where
        by : Holds txn.owner.0 table (OnKey key Exclusive) node.held ⊎ ((table_of walk.statement ≡ table) × ((plan_of node txn walk).on_key ≡ Some (key, Exclusive)))
            → put_back notes table key (live_row node table key) ≡ committed_row node table key
        by (inl h) = leads.back table key h
        by (inr new) = absurd (let q : Exclusive ≡ Shared = shared key Exclusive new.1 in cc)

    -- at the key of an exclusive lock: what was noted first, or the committed row
    at_key : (key : List Value) → (plan_of node txn walk).on_key ≡ Some (key, Exclusive) → put_back notes (table_of walk.statement) key (live_row node (table_of walk.statement) key) ≡ committed_row node (table_of walk.statement) key
    at_key key is = by (exclusive_owner (table_of walk.statement) key node.held) refl
      where
        by : (o : Option ℕ) → exclusive_owner (table_of walk.statement) key node.held ≡ o → put_back notes (table_of walk.statement) key (live_row node (table_of walk.statement) key) ≡ committed_row node (table_of walk.statement) key
        by None e =
            not_noted txn.owner.0 node.held notes (table_of walk.statement) key (live_row node (table_of walk.statement) key) leads.own (λ on. exclusive_none txn.owner.0 (table_of walk.statement) key node.held e on)
            ∙ ap (λ (o : Option ℕ). live_from node.schemas node.txns o (table_of walk.statement) key (committed_row node (table_of walk.statement) key)) e
        by (Some a) e = one (same_or_apart a txn.owner.0)
          where
            one : (a ≡ txn.owner.0) ⊎ (a ≢ txn.owner.0) → put_back notes (table_of walk.statement) key (live_row node (table_of walk.statement) key) ≡ committed_row node (table_of walk.statement) key
            one (inl same) = leads.back (table_of walk.statement) key (subst (λ (o : ℕ). Holds o (table_of walk.statement) (OnKey key Exclusive) node.held) same (exclusive_found a (table_of walk.statement) key node.held e))
            one (inr apart) = absurd (visit_shut node txn walk key Exclusive none is a apart (exclusive_found a (table_of walk.statement) key node.held e))

    exclusive : (stop : List Value) → (plan_of node txn walk).on_key ≡ Some (stop, Exclusive) → (table : ℕ) (key : List Value) → Holds txn.owner.0 table (OnKey key Exclusive) after
        → (b : Bool) → ((table_of walk.statement == table) && is_same_key key stop) ≡ b
        → put_back notes table key (cond b (live_row node (table_of walk.statement) stop) (live_row (visited txn walk (plan_of node txn walk) node) table key)) ≡ committed_row node table key
    exclusive stop is table key on true e =
        let both = both_true (table_of walk.statement == table) (is_same_key key stop) e in
        let here : table_of walk.statement ≡ table = number_is (table_of walk.statement) table both.0 in
        let there : key ≡ stop = same_key_is key stop both.1 in
        subst (λ (t : ℕ). put_back notes t key (live_row node (table_of walk.statement) stop) ≡ committed_row node t key) here
        (subst (λ (k : List Value). put_back notes (table_of walk.statement) k (live_row node (table_of walk.statement) stop) ≡ committed_row node (table_of walk.statement) k) (sym there) (at_key stop is))
    exclusive stop is table key on false e =
        ap (put_back notes table key) (live_now table key ∙ away (is_visit_to txn walk (plan_of node txn walk) table key) refl)
        ∙ by (before table key on)
      where
        never : {A : Type 0} → table_of walk.statement ≡ table → stop ≡ key → A
        never of same = absurd (let q : true ≡ false = sym (λ i. is_number (table_of walk.statement) table of i && (ap (is_same_key key) same ∙ same_key_self key) i) ∙ e in cc)

        away : (v : Bool) → is_visit_to txn walk (plan_of node txn walk) table key ≡ v → cond v (act node.schemas walk.statement table key (live_row node table key)) (live_row node table key) ≡ live_row node table key
        away false f = refl
        away true f =
            let to = visit_to txn walk (plan_of node txn walk) table key f in
            never to.of (ap (λ (l : List Value × LockMode). l.0) (lock_is (stop, Exclusive) (key, to.lock.mode) (sym is ∙ to.lock.is)))

        by : Holds txn.owner.0 table (OnKey key Exclusive) node.held ⊎ ((table_of walk.statement ≡ table) × ((plan_of node txn walk).on_key ≡ Some (key, Exclusive)))
            → put_back notes table key (live_row node table key) ≡ committed_row node table key
        by (inl h) = leads.back table key h
        by (inr new) = never new.0 (ap (λ (l : List Value × LockMode). l.0) (lock_is (stop, Exclusive) (key, Exclusive) (sym is ∙ new.1)))

    nothing : ((key : List Value) (mode : LockMode) → (plan_of node txn walk).on_key ≡ Some (key, mode) → mode ≡ Shared) → LeadsBack (visited txn walk (plan_of node txn walk) node) txn.owner.0 (notes ++ [])
    nothing shared = subst (LeadsBack (visited txn walk (plan_of node txn walk) node) txn.owner.0) (sym (append-nil notes)) (record { own = kept; back = unchanged shared })

    at : (o : Option (List Value × LockMode)) → (plan_of node txn walk).on_key ≡ o → LeadsBack (visited txn walk (plan_of node txn walk) node) txn.owner.0 (notes ++ noted_by node (table_of walk.statement) o)
    at None e = nothing (λ key mode is. absurd (let q : None ≡ Some (key, mode) = sym e ∙ is in cc))
    at (Some (stop, Shared)) e = nothing (λ key mode is. ap (λ (l : List Value × LockMode). l.1) (sym (lock_is (stop, Shared) (key, mode) (sym e ∙ is))))
    at (Some (stop, Exclusive)) e = record {
      own = own_more txn.owner.0 after notes (record { table = table_of walk.statement; key = stop; was = live_row node (table_of walk.statement) stop }) kept
          (on_key_held txn.owner (table_of walk.statement) (plan_of node txn walk) node.held stop Exclusive e);
      back = λ table key on.
          put_back_last notes (record { table = table_of walk.statement; key = stop; was = live_row node (table_of walk.statement) stop }) table key (live_row (visited txn walk (plan_of node txn walk) node) table key)
          ∙ exclusive stop e table key on ((table_of walk.statement == table) && is_same_key key stop) refl;
    }
