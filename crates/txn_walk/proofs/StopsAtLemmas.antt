-- The least key past an edge of ordered rows, and the greatest before it, are those of their keys in any order.
use Rattle.std.proofs.Common.{◌≡◌, ◌∙◌, ℕ, suc, ◌-◌, ◌<◌, Bool, true, false, cond, List, [], ◌∷◌, inl, inr, Option, None, Some, length, take, map, get_or, refl, ap, sym, subst, arith}
use Rattle.std.specs.Prelude.{slice_get, option_map}
use Rattle.std.specs.Ordering.{is_lt}
use Rattle.std.specs.declared.cmp.Ordering.{Ordering}
use Rattle.std.specs.declared.cmp.Ordering.TheVariants.{Less}
use Rattle.std.proofs.lemmas.Option.{slice_get-get_or}
use Rattle.row_types.specs.declared.values.Value.{Value}
use Rattle.row_types.specs.declared.edges.Edge.{Edge}
use Rattle.row_types.specs.Order.{key_cmp, is_past_edge, is_before_edge}
use Rattle.row_types.proofs.OrderLemmas.{key_turns}
use Rattle.row_types.specs.KeyRows.{AreOrdered, IsBelowAll, rows_past, rows_before, least_past, greatest_before}
use Rattle.ordered_table.specs.TableView.{TableView}
use Rattle.lock_table.specs.declared.wants.Holding.{Holding}
use Rattle.lock_table.specs.Locks.{foreign_keys}
use Rattle.lock_table.specs.Stops.{lesser_key, greater_key, least_key_past, greatest_key_before, IsAmong}
use Rattle.lock_table.specs.FoundKeys.{lesser_of, greater_of}
use Rattle.lock_table.proofs.LeastLemmas.{the_least, the_greatest, IsTheLeast, IsTheGreatest, least_joined, greatest_joined}
use Rattle.txn_walk.specs.StopsAt.{stops_at}

below_among : (key_len : ℕ) (row key : List Value) (rows : List (List Value)) → IsBelowAll key_len row rows → IsAmong key (map (take key_len) rows) → key_cmp (take key_len row) key ≡ Less
below_among key_len row key [] below i = absurd i
below_among key_len row key (other ∷ rows) below (inl e) = ap (key_cmp (take key_len row)) (sym e) ∙ below.0
below_among key_len row key (other ∷ rows) below (inr i) = below_among key_len row key rows below.1 i

lesser_own : (key_len : ℕ) (edge : Edge) (row : List Value) (rows : List (List Value)) (m : Option (List Value)) → IsBelowAll key_len row rows → IsTheLeast edge (map (take key_len) rows) m
    → lesser_key (take key_len row) m ≡ take key_len row
lesser_own key_len edge row rows None below is = refl
lesser_own key_len edge row rows (Some m) below is =
    ap (λ (o : Ordering). cond (is_lt o) m (take key_len row)) (key_turns (take key_len row) m (below_among key_len row m rows below is.0))

greater_other : (key_len : ℕ) (edge : Edge) (row m : List Value) (rows : List (List Value)) → IsBelowAll key_len row rows → IsTheGreatest edge (map (take key_len) rows) (Some m)
    → greater_key (take key_len row) (Some m) ≡ m
greater_other key_len edge row m rows below is =
    ap (λ (o : Ordering). cond (is_lt o) m (take key_len row)) (below_among key_len row m rows below is.0)

pub least_of_rows : (key_len : ℕ) (edge : Edge) (rows : List (List Value)) → AreOrdered key_len rows → least_key_past edge (map (take key_len) rows) ≡ least_past key_len edge rows
least_of_rows key_len edge [] ordered = refl
least_of_rows key_len edge (row ∷ rows) ordered = at (is_past_edge edge (take key_len row)) (least_of_rows key_len edge rows ordered.2)
  where
    at : (b : Bool) → least_key_past edge (map (take key_len) rows) ≡ least_past key_len edge rows
        → cond b (Some (lesser_key (take key_len row) (least_key_past edge (map (take key_len) rows)))) (least_key_past edge (map (take key_len) rows))
        ≡ option_map (take key_len) (slice_get (cond b (row ∷ rows_past key_len edge rows) (rows_past key_len edge rows)) 0)
    at true more = ap Some (lesser_own key_len edge row rows (least_key_past edge (map (take key_len) rows)) ordered.1 (the_least edge (map (take key_len) rows)))
    at false more = more

last_more : (row other : List Value) (others : List (List Value)) → slice_get (row ∷ other ∷ others) (length (row ∷ other ∷ others) - 1) ≡ slice_get (other ∷ others) (length (other ∷ others) - 1)
last_more row other others =
    let e : suc (suc (length others)) - 1 ≡ suc (length others) = omega arith in
    let f : suc (length others) - 1 ≡ length others = omega arith in
    ap (slice_get (row ∷ other ∷ others)) e ∙ ap (slice_get (other ∷ others)) (sym f)

last_there : (other : List Value) (others : List (List Value)) → slice_get (other ∷ others) (length (other ∷ others) - 1) ≡ Some (get_or (other ∷ others) (length (other ∷ others) - 1) other)
last_there other others =
    let e : suc (length others) - 1 < suc (length others) = omega arith in
    slice_get-get_or (other ∷ others) (length (other ∷ others) - 1) other e

pub greatest_of_rows : (key_len : ℕ) (edge : Edge) (rows : List (List Value)) → AreOrdered key_len rows → greatest_key_before edge (map (take key_len) rows) ≡ greatest_before key_len edge rows
greatest_of_rows key_len edge [] ordered = refl
greatest_of_rows key_len edge (row ∷ rows) ordered = at (is_before_edge edge (take key_len row)) (greatest_of_rows key_len edge rows ordered.2)
  where
    with_first : (before : List (List Value)) → greatest_key_before edge (map (take key_len) rows) ≡ option_map (take key_len) (slice_get before (length before - 1))
        → Some (greater_key (take key_len row) (greatest_key_before edge (map (take key_len) rows))) ≡ option_map (take key_len) (slice_get (row ∷ before) (length (row ∷ before) - 1))
    with_first [] more = ap (λ (o : Option (List Value)). Some (greater_key (take key_len row) o)) more
    with_first (other ∷ others) more =
        let m = take key_len (get_or (other ∷ others) (length (other ∷ others) - 1) other) in
        let is : greatest_key_before edge (map (take key_len) rows) ≡ Some m = more ∙ ap (option_map (take key_len)) (last_there other others) in
        ap (λ (o : Option (List Value)). Some (greater_key (take key_len row) o)) is
        ∙ ap Some (greater_other key_len edge row m rows ordered.1 (subst (IsTheGreatest edge (map (take key_len) rows)) is (the_greatest edge (map (take key_len) rows))))
        ∙ sym is ∙ more ∙ ap (option_map (take key_len)) (sym (last_more row other others))

    at : (b : Bool) → greatest_key_before edge (map (take key_len) rows) ≡ greatest_before key_len edge rows
        → cond b (Some (greater_key (take key_len row) (greatest_key_before edge (map (take key_len) rows)))) (greatest_key_before edge (map (take key_len) rows))
        ≡ option_map (take key_len) (slice_get (cond b (row ∷ rows_before key_len edge rows) (rows_before key_len edge rows)) (length (cond b (row ∷ rows_before key_len edge rows) (rows_before key_len edge rows)) - 1))
    at true more = with_first (rows_before key_len edge rows) more
    at false more = more

-- for the code
pub next_is : (owner number : ℕ) (edge : Edge) (table : TableView) (held : List Holding) (stop locked live : Option (List Value)) → AreOrdered table.key_len table.rows
    → stop ≡ lesser_of locked live → locked ≡ least_key_past edge (foreign_keys owner number held) → live ≡ least_past table.key_len edge table.rows
    → stop ≡ least_key_past edge (stops_at owner number table held)
next_is owner number edge table held stop locked live ordered is theirs ours =
    is ∙ (λ i. lesser_of (theirs i) ((ours ∙ sym (least_of_rows table.key_len edge table.rows ordered)) i))
    ∙ sym (least_joined edge (foreign_keys owner number held) (map (take table.key_len) table.rows))

pub prev_is : (owner number : ℕ) (edge : Edge) (table : TableView) (held : List Holding) (stop locked live : Option (List Value)) → AreOrdered table.key_len table.rows
    → stop ≡ greater_of locked live → locked ≡ greatest_key_before edge (foreign_keys owner number held) → live ≡ greatest_before table.key_len edge table.rows
    → stop ≡ greatest_key_before edge (stops_at owner number table held)
prev_is owner number edge table held stop locked live ordered is theirs ours =
    is ∙ (λ i. greater_of (theirs i) ((ours ∙ sym (greatest_of_rows table.key_len edge table.rows ordered)) i))
    ∙ sym (greatest_joined edge (foreign_keys owner number held) (map (take table.key_len) table.rows))
