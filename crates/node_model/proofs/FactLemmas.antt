-- What keeps the facts of the locks: a gap more, a lock on a key more, a transaction that goes on, and the
-- end of one.
use Rattle.std.proofs.Common.{◌≡◌, ◌≢◌, ◌⊎◌, inl, inr, ℕ, List, [], ◌∷◌, ◌++◌, ◌==◌, ◌||◌, Bool, true, false, cond, Option, None, Some, refl, sym, ap, subst, ◌∙◌}
use Rattle.std.specs.Prelude.{IsSome}
use Rattle.row_types.specs.declared.values.Value.{Value}
use Rattle.row_types.specs.declared.table_schema.Schema.{Schema}
use Rattle.row_types.specs.declared.lock_modes.LockMode.{LockMode}
use Rattle.row_types.specs.declared.lock_modes.LockMode.TheVariants.{Shared, Exclusive}
use Rattle.row_types.specs.declared.edges.Span.{Span}
use Rattle.row_types.specs.Order.{has, is_before_edge}
use Rattle.ptc_statement.specs.declared.statements.Statement.{Statement}
use Rattle.ptc_statement.specs.declared.statements.Statement.TheVariants.{Insert, Replace, Delete, Update, LockRead, Check, SetMaster, ClearChecks}
use Rattle.lock_table.specs.declared.wants.Owner.{Owner}
use Rattle.lock_table.specs.declared.wants.Want.{Want}
use Rattle.lock_table.specs.declared.wants.Want.TheVariants.{OnKey, OnGap, InsertAt}
use Rattle.lock_table.specs.declared.wants.Holding.{Holding}
use Rattle.lock_table.specs.Locks.{is_exclusive, with_holding, released, IsHolding, Holds}
use Rattle.lock_table.proofs.HoldLemmas.{same_or_apart, released_holds, still_holds, holds_front, holds_last, holds_appended}
use Rattle.node_model.specs.declared.txns.Walk.{Walk}
use Rattle.node_model.specs.declared.txns.Txn.{Txn}
use Rattle.node_model.specs.Txns.{txn_of, with_txn, without_txn}
use Rattle.node_model.specs.Node.{act, acts, act_so_far, seen, reaches}
use Rattle.node_model.specs.LockFacts.{CommittedRows, HoldsGapOver, IsGuarded, IsCovered, IsCoveredWhole, AreCovered, IsCoveredSoFar, TxnCovered, LockFacts}
use Rattle.node_model.proofs.TxnLemmas.{txn_same, txn_other, txn_left, txn_gone}
use Rattle.node_model.proofs.ActLemmas.{act_outside, act_none_changed, act_absent, insert_present}

-- an owner holds what it held
abbrev pub KeepsHeld : ℕ → List Holding → List Holding → Type 0
KeepsHeld owner held after = (table : ℕ) (want : Want) → Holds owner table want held → Holds owner table want after

-- where an owner has a shared lock on a key with a row, there is still one
abbrev pub KeepsRows : ℕ → List Holding → CommittedRows → CommittedRows → Type 0
KeepsRows owner held rows after =
    (table : ℕ) (key : List Value) → Holds owner table (OnKey key Shared) held → IsSome (rows table key) → IsSome (after table key)

guarded_kept : (owner table : ℕ) (key : List Value) (mode : LockMode) (held after : List Holding) → KeepsHeld owner held after
    → IsGuarded owner table key mode held → IsGuarded owner table key mode after
guarded_kept owner table key mode held after keeps (inl on) = inl (keeps table (OnKey key mode) on)
guarded_kept owner table key mode held after keeps (inr over) = inr (record { span = over.span; holds = keeps table (OnGap over.span) over.holds; over = over.over })

insert_kept : (rows now : CommittedRows) (held after : List Holding) (owner table : ℕ) (key : List Value) → KeepsHeld owner held after → KeepsRows owner held rows now
    → Holds owner table (OnKey key Exclusive) held ⊎ (Holds owner table (OnKey key Shared) held × IsSome (rows table key))
    → Holds owner table (OnKey key Exclusive) after ⊎ (Holds owner table (OnKey key Shared) after × IsSome (now table key))
insert_kept rows now held after owner table key keeps there (inl on) = inl (keeps table (OnKey key Exclusive) on)
insert_kept rows now held after owner table key keeps there (inr both) = inr (keeps table (OnKey key Shared) both.0, there table key both.0 both.1)

covered_kept : (rows now : CommittedRows) (held after : List Holding) (owner : ℕ) (statement : Statement) (table : ℕ) (key : List Value)
    → KeepsHeld owner held after → KeepsRows owner held rows now → IsCovered rows held owner statement table key → IsCovered now after owner statement table key
covered_kept rows now held after owner (Insert of row) table key keeps there is = insert_kept rows now held after owner table key keeps there is
covered_kept rows now held after owner (Replace of row) table key keeps there is = keeps table (OnKey key Exclusive) is
covered_kept rows now held after owner (Delete of where_true) table key keeps there is = guarded_kept owner table key Exclusive held after keeps is
covered_kept rows now held after owner (Update of sets where_true) table key keeps there is = guarded_kept owner table key Exclusive held after keeps is
covered_kept rows now held after owner (LockRead of mode span where_true) table key keeps there is = guarded_kept owner table key mode held after keeps is
covered_kept rows now held after owner (Check of chunk span kind) table key keeps there is = guarded_kept owner table key Shared held after keeps is
covered_kept rows now held after owner (SetMaster of chunk kind master) table key keeps there is = tt
covered_kept rows now held after owner (ClearChecks of) table key keeps there is = tt

done_kept : (schemas : List Schema) (rows now : CommittedRows) (held after : List Holding) (owner : ℕ) (statements : List Statement)
    → KeepsHeld owner held after → KeepsRows owner held rows now → AreCovered schemas rows held owner statements → AreCovered schemas now after owner statements
done_kept schemas rows now held after owner [] keeps there is = tt
done_kept schemas rows now held after owner (statement ∷ statements) keeps there is = (
  λ table key reached. covered_kept rows now held after owner statement table key keeps there (is.0 table key reached),
  done_kept schemas rows now held after owner statements keeps there is.1,
)

so_far_kept : (schemas : List Schema) (rows now : CommittedRows) (held after : List Holding) (owner : ℕ) (walk : Option Walk)
    → KeepsHeld owner held after → KeepsRows owner held rows now → IsCoveredSoFar schemas rows held owner walk → IsCoveredSoFar schemas now after owner walk
so_far_kept schemas rows now held after owner None keeps there is = tt
so_far_kept schemas rows now held after owner (Some walk) keeps there is =
    λ table key reached passed. let both = is table key reached passed in (both.0, covered_kept rows now held after owner walk.statement table key keeps there both.1)

pub txn_kept : (schemas : List Schema) (rows now : CommittedRows) (held after : List Holding) (owner : ℕ) (txn : Txn)
    → KeepsHeld owner held after → KeepsRows owner held rows now → TxnCovered schemas rows held owner txn → TxnCovered schemas now after owner txn
txn_kept schemas rows now held after owner txn keeps there is = record {
  done = done_kept schemas rows now held after owner txn.done keeps there is.done;
  so_far = so_far_kept schemas rows now held after owner txn.current keeps there is.so_far;
}

-- what a statement has passed and its owner does not have exclusively, it has left as it is committed

guarded_left : (schemas : List Schema) (rows : CommittedRows) (txns : List Txn) (held : List Holding) (owner : ℕ) (statement : Statement) (table : ℕ) (key : List Value)
    → LockFacts schemas rows txns held → (act schemas statement table key None ≡ None) → IsGuarded owner table key Exclusive held
    → (act schemas statement table key (rows table key) ≡ rows table key) ⊎ Holds owner table (OnKey key Exclusive) held
guarded_left schemas rows txns held owner statement table key facts absent (inl on) = inr on
guarded_left schemas rows txns held owner statement table key facts absent (inr over) = at (facts.gap_is_free owner table key over.span over.over over.holds)
  where
    at : (rows table key ≡ None) ⊎ Holds owner table (OnKey key Exclusive) held
        → (act schemas statement table key (rows table key) ≡ rows table key) ⊎ Holds owner table (OnKey key Exclusive) held
    at (inl none) = inl (ap (act schemas statement table key) none ∙ absent ∙ sym none)
    at (inr on) = inr on

insert_left : (schemas : List Schema) (rows : CommittedRows) (held : List Holding) (owner of : ℕ) (row : List Value) (table : ℕ) (key : List Value)
    → Holds owner table (OnKey key Exclusive) held ⊎ (Holds owner table (OnKey key Shared) held × IsSome (rows table key))
    → (act schemas (Insert of row) table key (rows table key) ≡ rows table key) ⊎ Holds owner table (OnKey key Exclusive) held
insert_left schemas rows held owner of row table key (inl on) = inr on
insert_left schemas rows held owner of row table key (inr both) = inl (insert_present schemas of row table key (rows table key) both.1)

covered_left : (schemas : List Schema) (rows : CommittedRows) (txns : List Txn) (held : List Holding) (owner : ℕ) (statement : Statement) (table : ℕ) (key : List Value)
    → LockFacts schemas rows txns held → IsCovered rows held owner statement table key
    → (act schemas statement table key (rows table key) ≡ rows table key) ⊎ Holds owner table (OnKey key Exclusive) held
covered_left schemas rows txns held owner (Insert of row) table key facts is = insert_left schemas rows held owner of row table key is
covered_left schemas rows txns held owner (Replace of row) table key facts is = inr is
covered_left schemas rows txns held owner (Delete of where_true) table key facts is =
    guarded_left schemas rows txns held owner (Delete of where_true) table key facts (act_absent schemas (Delete of where_true) table key tt) is
covered_left schemas rows txns held owner (Update of sets where_true) table key facts is =
    guarded_left schemas rows txns held owner (Update of sets where_true) table key facts (act_absent schemas (Update of sets where_true) table key tt) is
covered_left schemas rows txns held owner (LockRead of mode span where_true) table key facts is = inl (act_none_changed schemas (LockRead of mode span where_true) table key (rows table key) tt)
covered_left schemas rows txns held owner (Check of chunk span kind) table key facts is = inl (act_none_changed schemas (Check of chunk span kind) table key (rows table key) tt)
covered_left schemas rows txns held owner (SetMaster of chunk kind master) table key facts is = inl (act_none_changed schemas (SetMaster of chunk kind master) table key (rows table key) tt)
covered_left schemas rows txns held owner (ClearChecks of) table key facts is = inl (act_none_changed schemas (ClearChecks of) table key (rows table key) tt)

whole_left : (schemas : List Schema) (rows : CommittedRows) (txns : List Txn) (held : List Holding) (owner : ℕ) (statement : Statement) (table : ℕ) (key : List Value)
    → LockFacts schemas rows txns held → IsCoveredWhole schemas rows held owner statement
    → (act schemas statement table key (rows table key) ≡ rows table key) ⊎ Holds owner table (OnKey key Exclusive) held
whole_left schemas rows txns held owner statement table key facts is = at (reaches schemas statement table key) refl
  where
    at : (b : Bool) → reaches schemas statement table key ≡ b → (act schemas statement table key (rows table key) ≡ rows table key) ⊎ Holds owner table (OnKey key Exclusive) held
    at true e = covered_left schemas rows txns held owner statement table key facts (is table key e)
    at false e = inl (act_outside schemas statement table key (rows table key) e)

-- what a transaction's done statements make of a row that it does not have exclusively is the row itself
pub done_left : (schemas : List Schema) (rows : CommittedRows) (txns : List Txn) (held : List Holding) (owner : ℕ) (statements : List Statement) (table : ℕ) (key : List Value)
    → LockFacts schemas rows txns held → AreCovered schemas rows held owner statements
    → (acts schemas statements table key (rows table key) ≡ rows table key) ⊎ Holds owner table (OnKey key Exclusive) held
done_left schemas rows txns held owner [] table key facts is = inl refl
done_left schemas rows txns held owner (statement ∷ statements) table key facts is =
    at (whole_left schemas rows txns held owner statement table key facts is.0) (done_left schemas rows txns held owner statements table key facts is.1)
  where
    at : (act schemas statement table key (rows table key) ≡ rows table key) ⊎ Holds owner table (OnKey key Exclusive) held
        → (acts schemas statements table key (rows table key) ≡ rows table key) ⊎ Holds owner table (OnKey key Exclusive) held
        → (acts schemas statements table key (act schemas statement table key (rows table key)) ≡ rows table key) ⊎ Holds owner table (OnKey key Exclusive) held
    at (inl e) (inl more) = inl (ap (acts schemas statements table key) e ∙ more)
    at (inl e) (inr on) = inr on
    at (inr on) more = inr on

so_far_left : (schemas : List Schema) (rows : CommittedRows) (txns : List Txn) (held : List Holding) (owner : ℕ) (walk : Option Walk) (table : ℕ) (key : List Value)
    → LockFacts schemas rows txns held → IsCoveredSoFar schemas rows held owner walk
    → (act_so_far schemas walk table key (rows table key) ≡ rows table key) ⊎ Holds owner table (OnKey key Exclusive) held
so_far_left schemas rows txns held owner None table key facts is = inl refl
so_far_left schemas rows txns held owner (Some walk) table key facts is = at (is_before_edge walk.cursor key) refl (reaches schemas walk.statement table key) refl
  where
    at : (before : Bool) → is_before_edge walk.cursor key ≡ before → (reached : Bool) → reaches schemas walk.statement table key ≡ reached
        → (cond before (act schemas walk.statement table key (rows table key)) (rows table key) ≡ rows table key) ⊎ Holds owner table (OnKey key Exclusive) held
    at false e reached f = inl refl
    at true e false f = inl (act_outside schemas walk.statement table key (rows table key) f)
    at true e true f = covered_left schemas rows txns held owner walk.statement table key facts (is table key f e).1

-- and the same with the statement in progress
pub seen_left : (schemas : List Schema) (rows : CommittedRows) (txns : List Txn) (held : List Holding) (owner : ℕ) (txn : Txn) (table : ℕ) (key : List Value)
    → LockFacts schemas rows txns held → TxnCovered schemas rows held owner txn
    → (seen schemas txn table key (rows table key) ≡ rows table key) ⊎ Holds owner table (OnKey key Exclusive) held
seen_left schemas rows txns held owner txn table key facts is =
    at (done_left schemas rows txns held owner txn.done table key facts is.done) (so_far_left schemas rows txns held owner txn.current table key facts is.so_far)
  where
    at : (acts schemas txn.done table key (rows table key) ≡ rows table key) ⊎ Holds owner table (OnKey key Exclusive) held
        → (act_so_far schemas txn.current table key (rows table key) ≡ rows table key) ⊎ Holds owner table (OnKey key Exclusive) held
        → (seen schemas txn table key (rows table key) ≡ rows table key) ⊎ Holds owner table (OnKey key Exclusive) held
    at (inl e) (inl f) = inl (ap (act_so_far schemas txn.current table key) e ∙ f)
    at (inl e) (inr on) = inr on
    at (inr on) more = inr on

-- a gap more: no other owner has a lock on a key in it, and no row is committed in it but the owner's

pub gap_facts : (schemas : List Schema) (rows : CommittedRows) (txns : List Txn) (held : List Holding) (owner : Owner) (table : ℕ) (span : Span) → LockFacts schemas rows txns held
    → IsSome (txn_of owner.0 txns)
    → ((b : ℕ) (key : List Value) (mode : LockMode) → b ≢ owner.0 → has span key ≡ true → Holds b table (OnKey key mode) held → ⊥)
    → ((key : List Value) → has span key ≡ true → (rows table key ≡ None) ⊎ Holds owner.0 table (OnKey key Exclusive) held)
    → LockFacts schemas rows txns (record { owner = owner; table = table; want = OnGap span } ∷ held)
gap_facts schemas rows txns held owner table span facts has_txn foreign free = record {
  alone_on_key = λ a b of key mode apart ours theirs. key_alone a b of key mode apart (old_key a of key Exclusive ours) (old_key b of key mode theirs);
  alone_in_gap = λ a b of key other apart over ours theirs. gap_alone a b of key other apart over (old_key a of key Exclusive ours) theirs;
  gap_is_free = gap_free;
  covered = λ a txn found. txn_kept schemas rows rows held after a txn (grown a) (λ of key on there. there) (facts.covered a txn found);
  owned = is_owned;
}
  where
    after : List Holding
    after = record { owner = owner; table = table; want = OnGap span } ∷ held

    grown : (a : ℕ) → KeepsHeld a held after
    grown a of want h = inr h

    old_key : (a of : ℕ) (key : List Value) (mode : LockMode) → Holds a of (OnKey key mode) after → Holds a of (OnKey key mode) held
    old_key a of key mode (inl is) = absurd (let q : OnGap span ≡ OnKey key mode = is.2 in cc)
    old_key a of key mode (inr h) = h

    key_alone : (a b of : ℕ) (key : List Value) (mode : LockMode) → a ≢ b → Holds a of (OnKey key Exclusive) held → Holds b of (OnKey key mode) held → ⊥
    key_alone a b of key mode apart ours theirs = facts.alone_on_key a b of key mode apart ours theirs

    span_is : (other : Span) → OnGap span ≡ OnGap other → span ≡ other
    span_is other e = cc

    gap_alone : (a b of : ℕ) (key : List Value) (other : Span) → a ≢ b → has other key ≡ true → Holds a of (OnKey key Exclusive) held → Holds b of (OnGap other) after → ⊥
    gap_alone a b of key other apart over ours (inl is) =
        foreign a key Exclusive (λ e. apart (e ∙ is.0)) (ap (λ (s : Span). has s key) (span_is other is.2) ∙ over)
        (subst (λ (t : ℕ). Holds a t (OnKey key Exclusive) held) (sym is.1) ours)
    gap_alone a b of key other apart over ours (inr h) = facts.alone_in_gap a b of key other apart over ours h

    gap_free : (a of : ℕ) (key : List Value) (other : Span) → has other key ≡ true → Holds a of (OnGap other) after → (rows of key ≡ None) ⊎ Holds a of (OnKey key Exclusive) after
    gap_free a of key other over (inl is) = here (free key (ap (λ (s : Span). has s key) (span_is other is.2) ∙ over))
      where
        here : (rows table key ≡ None) ⊎ Holds owner.0 table (OnKey key Exclusive) held → (rows of key ≡ None) ⊎ Holds a of (OnKey key Exclusive) after
        here (inl none) = inl (ap (λ (t : ℕ). rows t key) (sym is.1) ∙ none)
        here (inr on) = inr (inr (subst (λ (t : ℕ). Holds a t (OnKey key Exclusive) held) is.1 (subst (λ (o : ℕ). Holds o table (OnKey key Exclusive) held) is.0 on)))
    gap_free a of key other over (inr h) = later (facts.gap_is_free a of key other over h)
      where
        later : (rows of key ≡ None) ⊎ Holds a of (OnKey key Exclusive) held → (rows of key ≡ None) ⊎ Holds a of (OnKey key Exclusive) after
        later (inl none) = inl none
        later (inr on) = inr (inr on)

    is_owned : (a of : ℕ) (want : Want) → Holds a of want after → IsSome (txn_of a txns)
    is_owned a of want (inl is) = subst (λ (o : ℕ). IsSome (txn_of o txns)) is.0 has_txn
    is_owned a of want (inr h) = facts.owned a of want h

-- a lock on a key more, that nobody excludes; over an exclusive one nobody else holds a gap

pub key_facts : (schemas : List Schema) (rows : CommittedRows) (txns : List Txn) (held : List Holding) (owner : Owner) (table : ℕ) (key : List Value) (mode : LockMode) → LockFacts schemas rows txns held
    → IsSome (txn_of owner.0 txns)
    → ((b : ℕ) (other : LockMode) → b ≢ owner.0 → is_exclusive mode || is_exclusive other ≡ true → Holds b table (OnKey key other) held → ⊥)
    → ((b : ℕ) (span : Span) → b ≢ owner.0 → mode ≡ Exclusive → has span key ≡ true → Holds b table (OnGap span) held → ⊥)
    → LockFacts schemas rows txns (record { owner = owner; table = table; want = OnKey key mode } ∷ held)
key_facts schemas rows txns held owner table key mode facts has_txn no_key no_gap = record {
  alone_on_key = key_alone;
  alone_in_gap = λ a b of at span apart over ours theirs. gap_alone a b of at span apart over ours (old_gap b of span theirs);
  gap_is_free = λ a of at span over ours. gap_free (facts.gap_is_free a of at span over (old_gap a of span ours));
  covered = λ a txn found. txn_kept schemas rows rows held after a txn (grown a) (λ of at on there. there) (facts.covered a txn found);
  owned = is_owned;
}
  where
    after : List Holding
    after = record { owner = owner; table = table; want = OnKey key mode } ∷ held

    grown : (a : ℕ) → KeepsHeld a held after
    grown a of want h = inr h

    key_is : (other : List Value) (m : LockMode) → OnKey key mode ≡ OnKey other m → key ≡ other
    key_is other m e = cc

    mode_is : (other : List Value) (m : LockMode) → OnKey key mode ≡ OnKey other m → mode ≡ m
    mode_is other m e = cc

    at_key : (a of : ℕ) (at : List Value) (m own : LockMode) → IsHolding a of (OnKey at own) (record { owner = owner; table = table; want = OnKey key mode })
        → (b : ℕ) → Holds b of (OnKey at m) held → Holds b table (OnKey key m) held
    at_key a of at m own is b h = subst (λ (k : List Value). Holds b table (OnKey k m) held) (sym (key_is at own is.2)) (subst (λ (t : ℕ). Holds b t (OnKey at m) held) (sym is.1) h)

    or_true : (x : Bool) → x || true ≡ true
    or_true true = refl
    or_true false = refl

    key_alone : (a b of : ℕ) (at : List Value) (m : LockMode) → a ≢ b → Holds a of (OnKey at Exclusive) after → Holds b of (OnKey at m) after → ⊥
    key_alone a b of at m apart (inl ours) (inl theirs) = apart (sym ours.0 ∙ theirs.0)
    key_alone a b of at m apart (inl ours) (inr theirs) =
        no_key b m (λ e. apart (sym ours.0 ∙ sym e)) (ap (λ (x : LockMode). is_exclusive x || is_exclusive m) (mode_is at Exclusive ours.2)) (at_key a of at m Exclusive ours b theirs)
    key_alone a b of at m apart (inr ours) (inl theirs) =
        no_key a Exclusive (λ e. apart (e ∙ theirs.0)) (or_true (is_exclusive mode)) (at_key b of at Exclusive m theirs a ours)
    key_alone a b of at m apart (inr ours) (inr theirs) = facts.alone_on_key a b of at m apart ours theirs

    old_gap : (a of : ℕ) (span : Span) → Holds a of (OnGap span) after → Holds a of (OnGap span) held
    old_gap a of span (inl is) = absurd (let q : OnKey key mode ≡ OnGap span = is.2 in cc)
    old_gap a of span (inr h) = h

    gap_alone : (a b of : ℕ) (at : List Value) (span : Span) → a ≢ b → has span at ≡ true → Holds a of (OnKey at Exclusive) after → Holds b of (OnGap span) held → ⊥
    gap_alone a b of at span apart over (inl ours) theirs =
        no_gap b span (λ e. apart (sym ours.0 ∙ sym e)) (mode_is at Exclusive ours.2) (ap (has span) (key_is at Exclusive ours.2) ∙ over) (subst (λ (t : ℕ). Holds b t (OnGap span) held) (sym ours.1) theirs)
    gap_alone a b of at span apart over (inr ours) theirs = facts.alone_in_gap a b of at span apart over ours theirs

    gap_free : {a of : ℕ} {at : List Value} → (rows of at ≡ None) ⊎ Holds a of (OnKey at Exclusive) held → (rows of at ≡ None) ⊎ Holds a of (OnKey at Exclusive) after
    gap_free (inl none) = inl none
    gap_free (inr on) = inr (inr on)

    is_owned : (a of : ℕ) (want : Want) → Holds a of want after → IsSome (txn_of a txns)
    is_owned a of want (inl is) = subst (λ (o : ℕ). IsSome (txn_of o txns)) is.0 has_txn
    is_owned a of want (inr h) = facts.owned a of want h

-- the facts speak of what is held, in whatever order it is listed

pub facts_same : (schemas : List Schema) (rows : CommittedRows) (txns : List Txn) (held after : List Holding)
    → ((owner table : ℕ) (want : Want) → Holds owner table want held → Holds owner table want after)
    → ((owner table : ℕ) (want : Want) → Holds owner table want after → Holds owner table want held)
    → LockFacts schemas rows txns held → LockFacts schemas rows txns after
facts_same schemas rows txns held after there back facts = record {
  alone_on_key = λ a b table key mode apart ours theirs. facts.alone_on_key a b table key mode apart (back a table (OnKey key Exclusive) ours) (back b table (OnKey key mode) theirs);
  alone_in_gap = λ a b table key span apart over ours theirs. facts.alone_in_gap a b table key span apart over (back a table (OnKey key Exclusive) ours) (back b table (OnGap span) theirs);
  gap_is_free = λ a table key span over ours. moved a table key (facts.gap_is_free a table key span over (back a table (OnGap span) ours));
  covered = λ a txn found. txn_kept schemas rows rows held after a txn (there a) (λ of key on some. some) (facts.covered a txn found);
  owned = λ a table want h. facts.owned a table want (back a table want h);
}
  where
    moved : (a table : ℕ) (key : List Value) → (rows table key ≡ None) ⊎ Holds a table (OnKey key Exclusive) held → (rows table key ≡ None) ⊎ Holds a table (OnKey key Exclusive) after
    moved a table key (inl none) = inl none
    moved a table key (inr on) = inr (there a table (OnKey key Exclusive) on)

pub facts_with : (schemas : List Schema) (rows : CommittedRows) (txns : List Txn) (held : List Holding) (last : Holding) → LockFacts schemas rows txns (last ∷ held) → LockFacts schemas rows txns (with_holding last held)
facts_with schemas rows txns held last facts = facts_same schemas rows txns (last ∷ held) (with_holding last held) there (λ owner table want h. holds_appended owner table want held last h) facts
  where
    there : (owner table : ℕ) (want : Want) → Holds owner table want (last ∷ held) → Holds owner table want (with_holding last held)
    there owner table want (inl is) = holds_last owner table want held last is
    there owner table want (inr h) = holds_front owner table want held last h

-- a transaction that begins or goes on, whose passed keys are covered

some_txn : (a b : Txn) → Some a ≡ Some b → a ≡ b
some_txn a b e = cc

pub txn_facts : (schemas : List Schema) (rows : CommittedRows) (txns : List Txn) (held : List Holding) (txn : Txn) → LockFacts schemas rows txns held
    → TxnCovered schemas rows held txn.owner.0 txn → LockFacts schemas rows (with_txn txn txns) held
txn_facts schemas rows txns held txn facts is = record {
  alone_on_key = facts.alone_on_key;
  alone_in_gap = facts.alone_in_gap;
  gap_is_free = facts.gap_is_free;
  covered = λ a other found. now_covered a other found (same_or_apart a txn.owner.0);
  owned = λ a table want h. now_owned a (facts.owned a table want h) (same_or_apart a txn.owner.0);
}
  where
    now_covered : (a : ℕ) (other : Txn) → txn_of a (with_txn txn txns) ≡ Some other → (a ≡ txn.owner.0) ⊎ (a ≢ txn.owner.0) → TxnCovered schemas rows held a other
    now_covered a other found (inl same) =
        let there : Some txn ≡ Some other = sym (txn_same txn txns) ∙ ap (λ (o : ℕ). txn_of o (with_txn txn txns)) (sym same) ∙ found in
        subst (λ (o : ℕ). TxnCovered schemas rows held o other) (sym same) (subst (TxnCovered schemas rows held txn.owner.0) (some_txn txn other there) is)
    now_covered a other found (inr apart) = facts.covered a other (sym (txn_other a txn txns apart) ∙ found)

    now_owned : (a : ℕ) → IsSome (txn_of a txns) → (a ≡ txn.owner.0) ⊎ (a ≢ txn.owner.0) → IsSome (txn_of a (with_txn txn txns))
    now_owned a there (inl same) = subst (λ (o : ℕ). IsSome (txn_of o (with_txn txn txns))) (sym same) (subst IsSome (sym (txn_same txn txns)) refl)
    now_owned a there (inr apart) = subst IsSome (sym (txn_other a txn txns apart)) there

-- the end of a transaction that may have changed what is committed at the keys that it had exclusively

pub ended_facts : (schemas : List Schema) (rows now : CommittedRows) (txns : List Txn) (held : List Holding) (owner : ℕ) → LockFacts schemas rows txns held
    → ((table : ℕ) (key : List Value) → (now table key ≡ rows table key) ⊎ Holds owner table (OnKey key Exclusive) held)
    → LockFacts schemas now (without_txn owner txns) (released owner held)
ended_facts schemas rows now txns held owner facts changed = record {
  alone_on_key = λ a b table key mode apart ours theirs. facts.alone_on_key a b table key mode apart (old a table (OnKey key Exclusive) ours).0 (old b table (OnKey key mode) theirs).0;
  alone_in_gap = λ a b table key span apart over ours theirs. facts.alone_in_gap a b table key span apart over (old a table (OnKey key Exclusive) ours).0 (old b table (OnGap span) theirs).0;
  gap_is_free = gap_free;
  covered = λ a txn found. now_covered a txn found (same_or_apart a owner);
  owned = λ a table want h. let before = old a table want h in subst IsSome (sym (txn_left a owner txns before.1)) (facts.owned a table want before.0);
}
  where
    old : (a table : ℕ) (want : Want) → Holds a table want (released owner held) → Holds a table want held × (a ≢ owner)
    old a table want h = released_holds owner a table want held h

    turned : (a : ℕ) → a ≢ owner → owner ≢ a
    turned a apart e = apart (sym e)

    gap_free : (a table : ℕ) (key : List Value) (span : Span) → has span key ≡ true → Holds a table (OnGap span) (released owner held)
        → (now table key ≡ None) ⊎ Holds a table (OnKey key Exclusive) (released owner held)
    gap_free a table key span over h = both (changed table key) (facts.gap_is_free a table key span over (old a table (OnGap span) h).0)
      where
        apart : a ≢ owner
        apart = (old a table (OnGap span) h).1

        both : (now table key ≡ rows table key) ⊎ Holds owner table (OnKey key Exclusive) held → (rows table key ≡ None) ⊎ Holds a table (OnKey key Exclusive) held
            → (now table key ≡ None) ⊎ Holds a table (OnKey key Exclusive) (released owner held)
        both (inr on) free = absurd (facts.alone_in_gap owner a table key span (turned a apart) over on (old a table (OnGap span) h).0)
        both (inl same) (inl none) = inl (same ∙ none)
        both (inl same) (inr on) = inr (still_holds owner a table (OnKey key Exclusive) held apart on)

    now_covered : (a : ℕ) (txn : Txn) → txn_of a (without_txn owner txns) ≡ Some txn → (a ≡ owner) ⊎ (a ≢ owner) → TxnCovered schemas now (released owner held) a txn
    now_covered a txn found (inl same) =
        absurd (let q : None ≡ Some txn = sym (txn_gone owner txns) ∙ ap (λ (o : ℕ). txn_of o (without_txn owner txns)) (sym same) ∙ found in cc)
    now_covered a txn found (inr apart) =
        txn_kept schemas rows now held (released owner held) a txn (λ table want h. still_holds owner a table want held apart h) kept
        (facts.covered a txn (sym (txn_left a owner txns apart) ∙ found))
      where
        kept : KeepsRows a held rows now
        kept table key on there = at (changed table key)
          where
            at : (now table key ≡ rows table key) ⊎ Holds owner table (OnKey key Exclusive) held → IsSome (now table key)
            at (inl same) = subst IsSome (sym same) there
            at (inr theirs) = absurd (facts.alone_on_key owner a table key Shared (turned a apart) theirs on)
