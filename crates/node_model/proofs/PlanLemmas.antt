-- What a visit of a walk takes and passes.
use Rattle.std.proofs.Common.{◌≡◌, ◌≢◌, ◌⊎◌, inl, inr, ℕ, List, [], ◌∷◌, ◌&&◌, Bool, true, false, not, cond, Option, None, Some, refl, sym, ap, subst, ◌∙◌}
use Rattle.std.specs.Ordering.{is_eq, is_le, ordering_then, ordering_reverse}
use Rattle.std.specs.declared.cmp.Ordering.{Ordering}
use Rattle.std.specs.declared.cmp.Ordering.TheVariants.{Less, Equal, Greater}
use Rattle.row_types.specs.declared.values.Value.{Value}
use Rattle.row_types.specs.declared.lock_modes.LockMode.{LockMode}
use Rattle.row_types.specs.declared.edges.Edge.{Edge}
use Rattle.row_types.specs.declared.edges.Edge.TheVariants.{Low, Before, After, High}
use Rattle.row_types.specs.declared.edges.Span.{Span}
use Rattle.row_types.specs.Order.{key_cmp, edge_cmp, edge_le, has, is_past_edge, is_before_edge}
use Rattle.row_types.proofs.OrderLemmas.{keys_exact, keys_total, key_ties}
use Rattle.row_types.proofs.SpanLemmas.{past_or_before, edge_le_trans, edges_exact}
use Rattle.lock_table.specs.Stops.{IsAmong, least_key_past, gap_round, after_key, before_key}
use Rattle.lock_table.proofs.GapLemmas.{gap_is_free, both_true, least_is, past_gap_start}
use Rattle.txn_walk.specs.declared.plans.Plan.{Plan}
use Rattle.txn_walk.specs.Plans.{gap_before, last_visit, stop_visit, visit_within, no_visit, walk_visit}

-- a key lies in the gap that a plan takes
pub record InGap (plan : Plan) (key : List Value) : Type 0 where
  pub span : Span
  pub is : plan.gap ≡ Some span
  pub over : has span key ≡ true

-- a key that a visit passes is its stop, or lies in the gap that it takes
abbrev pub Takes : LockMode → Plan → List Value → Type 0
Takes mode plan key = (plan.on_key ≡ Some (key, mode)) ⊎ InGap plan key

-- what a plan passes: where it ends the statement all keys of the reach, else those before its cursor
abbrev pub Passes : Plan → List Value → Type 0
Passes plan key = (plan.ends ≡ true) ⊎ (is_before_edge plan.after key ≡ true)

pub not_both : (edge : Edge) (key : List Value) → is_before_edge edge key ≡ true → is_past_edge edge key ≡ true → ⊥
not_both edge key before past = let q : true ≡ false = sym past ∙ past_or_before edge key ∙ ap not before in cc

over_gap : (cursor : Edge) (stops : List (List Value)) (key : List Value) → is_past_edge cursor key ≡ true → is_before_edge (gap_round cursor stops).hi key ≡ true
    → has (gap_round cursor stops) key ≡ true
over_gap cursor stops key past before = λ i. past_gap_start cursor stops key past i && before i

-- the reach has the key, and nothing of it lies behind its end
crossed : (reach : Span) (key : List Value) → edge_le reach.hi reach.lo ≡ true → has reach key ≡ true → ⊥
crossed reach key le over =
    let both = both_true (is_past_edge reach.lo key) (is_before_edge reach.hi key) over in
    not_both reach.lo key (edge_le_trans (After key) reach.hi reach.lo both.1 le) both.0

end_is : (e f : Edge) (o : Ordering) → edge_cmp e f ≡ o → is_eq o ≡ true → e ≡ f
end_is e f Less is eq = cc
end_is e f Equal is eq = edges_exact e f is
end_is e f Greater is eq = cc

-- a stop that is passed with its visit
stop_passes : (mode : LockMode) (reach : Span) (cursor : Edge) (stops : List (List Value)) (stop key : List Value) → least_key_past cursor stops ≡ Some stop
    → has reach key ≡ true → is_past_edge cursor key ≡ true → Passes (stop_visit mode reach cursor stops stop) key → Takes mode (stop_visit mode reach cursor stops stop) key
stop_passes mode reach cursor stops stop key least over past passes = at (key_cmp key stop) refl (passed passes)
  where
    passed : Passes (stop_visit mode reach cursor stops stop) key → is_before_edge (After stop) key ≡ true
    passed (inr before) = before
    passed (inl ends) =
        subst (λ (e : Edge). is_before_edge e key ≡ true) (sym (end_is (After stop) reach.hi (edge_cmp (After stop) reach.hi) refl ends))
        (both_true (is_past_edge reach.lo key) (is_before_edge reach.hi key) over).1

    below : key_cmp key stop ≡ Less → (b : Bool) → is_eq (edge_cmp cursor (Before stop)) ≡ b → InGap (record {
      gap = cond b None (Some (gap_round cursor stops));
      on_key = Some (stop, mode);
      insert = false;
      after = After stop;
      ends = is_eq (edge_cmp (After stop) reach.hi);
    }) key
    below less true e =
        let at_stop : cursor ≡ Before stop = end_is cursor (Before stop) (edge_cmp cursor (Before stop)) refl e in
        let past_stop : is_past_edge (Before stop) key ≡ true = subst (λ (c : Edge). is_past_edge c key ≡ true) at_stop past in
        let turned : is_le (ordering_reverse (key_cmp key stop)) ≡ true = ap is_le (sym (keys_total.antisymm stop key)) ∙ past_stop in
        let q : false ≡ true = ap (λ (o : Ordering). is_le (ordering_reverse o)) (sym less) ∙ turned in cc
    below less false e = record {
      span = gap_round cursor stops;
      is = refl;
      over = over_gap cursor stops key past (ap (λ (o : Option (List Value)). is_before_edge (before_key o) key) least ∙ ap (λ (o : Ordering). is_le (ordering_then o Greater)) less);
    }

    at : (o : Ordering) → key_cmp key stop ≡ o → is_before_edge (After stop) key ≡ true → Takes mode (stop_visit mode reach cursor stops stop) key
    at Less e before = inr (below e (is_eq (edge_cmp cursor (Before stop))) refl)
    at Equal e before = inl (ap (λ (k : List Value). Some (k, mode)) (sym (keys_exact key stop e)))
    at Greater e before = let q : false ≡ true = ap is_le (sym e) ∙ before in cc

last_passes : (mode : LockMode) (reach : Span) (cursor : Edge) (stops : List (List Value)) (stop : Option (List Value)) (key : List Value) → least_key_past cursor stops ≡ stop
    → is_before_edge (before_key stop) key ≡ true → is_past_edge cursor key ≡ true → Takes mode (last_visit reach cursor stops) key
last_passes mode reach cursor stops stop key least before past = inr (record {
  span = gap_round cursor stops;
  is = refl;
  over = over_gap cursor stops key past (ap (λ (o : Option (List Value)). is_before_edge (before_key o) key) least ∙ before);
})

-- a stop behind the reach lies behind each key of it
before_stop : (reach : Span) (stop key : List Value) → edge_le (After stop) reach.hi ≡ false → has reach key ≡ true → is_before_edge (Before stop) key ≡ true
before_stop reach stop key far over = at (key_cmp key stop) refl
  where
    beyond : is_le (key_cmp stop key) ≡ true → ⊥
    beyond le =
        let within : edge_le (After stop) reach.hi ≡ true = edge_le_trans (After stop) (After key) reach.hi le (both_true (is_past_edge reach.lo key) (is_before_edge reach.hi key) over).1 in
        let q : true ≡ false = sym within ∙ far in cc

    at : (o : Ordering) → key_cmp key stop ≡ o → is_le (ordering_then (key_cmp key stop) Greater) ≡ true
    at Less e = ap (λ (o : Ordering). is_le (ordering_then o Greater)) e
    at Equal e = absurd (beyond (ap is_le (keys_total.antisymm stop key ∙ ap ordering_reverse e)))
    at Greater e = absurd (beyond (ap is_le (keys_total.antisymm stop key ∙ ap ordering_reverse e)))

pub walk_passes : (mode : LockMode) (reach : Span) (cursor : Edge) (stops : List (List Value)) (key : List Value) → has reach key ≡ true
    → is_past_edge cursor key ≡ true → Passes (walk_visit mode reach cursor stops) key → Takes mode (walk_visit mode reach cursor stops) key
walk_passes mode reach cursor stops key over past passes = at (edge_le reach.hi reach.lo) refl passes
  where
    within : (stop : List Value) → least_key_past cursor stops ≡ Some stop → (b : Bool) → edge_le (After stop) reach.hi ≡ b
        → Passes (cond b (stop_visit mode reach cursor stops stop) (last_visit reach cursor stops)) key → Takes mode (cond b (stop_visit mode reach cursor stops stop) (last_visit reach cursor stops)) key
    within stop least true near p = stop_passes mode reach cursor stops stop key least over past p
    within stop least false far p = last_passes mode reach cursor stops (Some stop) key least (before_stop reach stop key far over) past

    by_stop : (o : Option (List Value)) → least_key_past cursor stops ≡ o → Passes (visit_within mode reach cursor stops o) key → Takes mode (visit_within mode reach cursor stops o) key
    by_stop None least p = last_passes mode reach cursor stops None key least refl past
    by_stop (Some stop) least p = within stop least (edge_le (After stop) reach.hi) refl p

    at : (b : Bool) → edge_le reach.hi reach.lo ≡ b → Passes (cond b (no_visit reach) (visit_within mode reach cursor stops (least_key_past cursor stops))) key
        → Takes mode (cond b (no_visit reach) (visit_within mode reach cursor stops (least_key_past cursor stops))) key
    at true le p = absurd (crossed reach key le over)
    at false le p = by_stop (least_key_past cursor stops) refl p

-- the key of a walk's visit is a stop past the cursor, the cursor comes just behind it, and its lock has the walk's mode
pub record IsVisited (mode : LockMode) (cursor : Edge) (stops : List (List Value)) (plan : Plan) (lock : List Value × LockMode) : Type 0 where
  pub stop : IsAmong lock.0 stops
  pub past : is_past_edge cursor lock.0 ≡ true
  pub mode_is : lock.1 ≡ mode
  pub after : plan.after ≡ After lock.0
  pub old : plan.insert ≡ false

abbrev OnStop : LockMode → Edge → List (List Value) → Plan → Option (List Value × LockMode) → Type 0
OnStop mode cursor stops plan None = Unit {0}
OnStop mode cursor stops plan (Some lock) = IsVisited mode cursor stops plan lock

on_stop : (mode : LockMode) (reach : Span) (cursor : Edge) (stops : List (List Value)) → OnStop mode cursor stops (walk_visit mode reach cursor stops) (walk_visit mode reach cursor stops).on_key
on_stop mode reach cursor stops = at (edge_le reach.hi reach.lo)
  where
    within : (stop : List Value) → least_key_past cursor stops ≡ Some stop → (b : Bool)
        → OnStop mode cursor stops (cond b (stop_visit mode reach cursor stops stop) (last_visit reach cursor stops)) (cond b (stop_visit mode reach cursor stops stop) (last_visit reach cursor stops)).on_key
    within stop least true = let is = least_is cursor stops stop least in record { stop = is.among; past = is.past; mode_is = refl; after = refl; old = refl }
    within stop least false = tt

    by_stop : (o : Option (List Value)) → least_key_past cursor stops ≡ o → OnStop mode cursor stops (visit_within mode reach cursor stops o) (visit_within mode reach cursor stops o).on_key
    by_stop None least = tt
    by_stop (Some stop) least = within stop least (edge_le (After stop) reach.hi)

    at : (b : Bool) → OnStop mode cursor stops (cond b (no_visit reach) (visit_within mode reach cursor stops (least_key_past cursor stops))) (cond b (no_visit reach) (visit_within mode reach cursor stops (least_key_past cursor stops))).on_key
    at true = tt
    at false = by_stop (least_key_past cursor stops) refl

pub walk_stop : (mode : LockMode) (reach : Span) (cursor : Edge) (stops : List (List Value)) (lock : List Value × LockMode) → (walk_visit mode reach cursor stops).on_key ≡ Some lock
    → IsVisited mode cursor stops (walk_visit mode reach cursor stops) lock
walk_stop mode reach cursor stops lock is = subst (OnStop mode cursor stops (walk_visit mode reach cursor stops)) is (on_stop mode reach cursor stops)

-- no stop lies in the gap of a walk's visit
abbrev IsFreeGap : List (List Value) → Option Span → Type 0
IsFreeGap stops None = Unit {0}
IsFreeGap stops (Some span) = (key : List Value) → has span key ≡ true → IsAmong key stops → ⊥

round_free : (cursor : Edge) (stops : List (List Value)) → IsFreeGap stops (Some (gap_round cursor stops))
round_free cursor stops key over stop = gap_is_free cursor stops key stop over

gap_free : (mode : LockMode) (reach : Span) (cursor : Edge) (stops : List (List Value)) → IsFreeGap stops (walk_visit mode reach cursor stops).gap
gap_free mode reach cursor stops = at (edge_le reach.hi reach.lo)
  where
    before : (b : Bool) → IsFreeGap stops (cond b None (Some (gap_round cursor stops)))
    before true = tt
    before false = round_free cursor stops

    within : (stop : List Value) (b : Bool) → IsFreeGap stops (cond b (stop_visit mode reach cursor stops stop) (last_visit reach cursor stops)).gap
    within stop true = before (is_eq (edge_cmp cursor (Before stop)))
    within stop false = round_free cursor stops

    by_stop : (o : Option (List Value)) → IsFreeGap stops (visit_within mode reach cursor stops o).gap
    by_stop None = round_free cursor stops
    by_stop (Some stop) = within stop (edge_le (After stop) reach.hi)

    at : (b : Bool) → IsFreeGap stops (cond b (no_visit reach) (visit_within mode reach cursor stops (least_key_past cursor stops))).gap
    at true = tt
    at false = by_stop (least_key_past cursor stops)

pub walk_gap : (mode : LockMode) (reach : Span) (cursor : Edge) (stops : List (List Value)) (span : Span) → (walk_visit mode reach cursor stops).gap ≡ Some span
    → (key : List Value) → has span key ≡ true → IsAmong key stops → ⊥
walk_gap mode reach cursor stops span is = subst (IsFreeGap stops) is (gap_free mode reach cursor stops)

-- a walk goes forward
stop_onward : (cursor : Edge) (stops : List (List Value)) (stop key : List Value) → least_key_past cursor stops ≡ Some stop → is_before_edge cursor key ≡ true → is_before_edge (After stop) key ≡ true
stop_onward cursor stops stop key least before =
    let past : is_past_edge cursor stop ≡ true = (least_is cursor stops stop least).past in
    edge_le_trans (After key) (Before stop) (After stop) (edge_le_trans (After key) cursor (Before stop) before past) (ap (λ (o : Ordering). is_le (ordering_then o Less)) (key_ties stop))

pub walk_onward : (mode : LockMode) (reach : Span) (cursor : Edge) (stops : List (List Value)) (key : List Value) → is_before_edge cursor key ≡ true
    → (walk_visit mode reach cursor stops).ends ≡ false → is_before_edge (walk_visit mode reach cursor stops).after key ≡ true
walk_onward mode reach cursor stops key before = at (edge_le reach.hi reach.lo)
  where
    within : (stop : List Value) → least_key_past cursor stops ≡ Some stop → (b : Bool)
        → (cond b (stop_visit mode reach cursor stops stop) (last_visit reach cursor stops)).ends ≡ false
        → is_before_edge (cond b (stop_visit mode reach cursor stops stop) (last_visit reach cursor stops)).after key ≡ true
    within stop least true ends = stop_onward cursor stops stop key least before
    within stop least false ends = absurd (let q : true ≡ false = ends in cc)

    by_stop : (o : Option (List Value)) → least_key_past cursor stops ≡ o → (visit_within mode reach cursor stops o).ends ≡ false → is_before_edge (visit_within mode reach cursor stops o).after key ≡ true
    by_stop None least ends = absurd (let q : true ≡ false = ends in cc)
    by_stop (Some stop) least ends = within stop least (edge_le (After stop) reach.hi) ends

    at : (b : Bool) → (cond b (no_visit reach) (visit_within mode reach cursor stops (least_key_past cursor stops))).ends ≡ false
        → is_before_edge (cond b (no_visit reach) (visit_within mode reach cursor stops (least_key_past cursor stops))).after key ≡ true
    at true ends = absurd (let q : true ≡ false = ends in cc)
    at false ends = by_stop (least_key_past cursor stops) refl ends
