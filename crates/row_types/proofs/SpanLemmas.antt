-- The order of edges is total, a key is past an edge or before it, and a meeting has the keys of both spans.
use Rattle.std.proofs.Common.{◌≡◌, ◌<◌, ◌∙◌, ℕ, zero, suc, length, slice_index_or, arith, List, [], ◌∷◌, ◌++◌, ◌&&◌, Bool, true, false, not, cond, sym, ap, subst, refl}
use Rattle.std.specs.List.{Contains}
use Rattle.std.specs.Ordering.{nat_cmp, is_le, is_lt, is_gt, ordering_reverse, ordering_then, on, then_cmp}
use Rattle.std.specs.Cmp.{IsTotalOrder, nat_cmp_total, on_total, then_total, upto}
use Rattle.std.specs.declared.cmp.Ordering.{Ordering}
use Rattle.std.specs.declared.cmp.Ordering.TheVariants.{Less, Equal, Greater}
use Rattle.row_types.specs.declared.values.Value.{Value}
use Rattle.row_types.specs.declared.edges.Edge.{Edge}
use Rattle.row_types.specs.declared.edges.Edge.TheVariants.{Low, Before, After, High}
use Rattle.row_types.specs.declared.edges.Span.{Span}
use Rattle.row_types.specs.Order.{key_cmp, edge_cmp, edge_le, is_past_edge, is_before_edge, has, no_keys, later_edge, earlier_edge, between, meeting, IsBelowKeys, KeysRise}
use Rattle.row_types.proofs.OrderLemmas.{keys_total, keys_exact, key_ties, key_turns, equal_last}

abbrev edge_rank : Edge → ℕ
edge_rank Low = 0
edge_rank (Before key) = 1
edge_rank (After key) = 1
edge_rank High = 2

abbrev edge_key : Edge → List Value
edge_key Low = []
edge_key (Before key) = key
edge_key (After key) = key
edge_key High = []

abbrev edge_side : Edge → ℕ
edge_side Low = 0
edge_side (Before key) = 0
edge_side (After key) = 1
edge_side High = 0

abbrev ranked : Edge → Edge → Ordering
ranked = then_cmp (on edge_rank nat_cmp) (then_cmp (on edge_key key_cmp) (on edge_side nat_cmp))

ranked_total : IsTotalOrder ranked
ranked_total = then_total (on_total edge_rank nat_cmp_total) (then_total (on_total edge_key keys_total) (on_total edge_side nat_cmp_total))

as_ranked : (e f : Edge) → edge_cmp e f ≡ ranked e f
as_ranked Low Low = refl
as_ranked Low (Before k) = refl
as_ranked Low (After k) = refl
as_ranked Low High = refl
as_ranked (Before j) Low = refl
as_ranked (Before j) (Before k) = equal_last (key_cmp j k)
as_ranked (Before j) (After k) = refl
as_ranked (Before j) High = refl
as_ranked (After j) Low = refl
as_ranked (After j) (Before k) = refl
as_ranked (After j) (After k) = equal_last (key_cmp j k)
as_ranked (After j) High = refl
as_ranked High Low = refl
as_ranked High (Before k) = refl
as_ranked High (After k) = refl
as_ranked High High = refl

pub edges_total : IsTotalOrder edge_cmp
edges_total = subst IsTotalOrder (λ i e f. sym (as_ranked e f) i) ranked_total

never_tied : (o last : Ordering) → ordering_then o last ≡ Equal → last ≡ Equal
never_tied Less last e = cc
never_tied Equal last e = e
never_tied Greater last e = cc

-- edges that tie are equal
pub edges_exact : (e f : Edge) → edge_cmp e f ≡ Equal → e ≡ f
edges_exact Low Low tie = refl
edges_exact Low (Before k) tie = cc
edges_exact Low (After k) tie = cc
edges_exact Low High tie = cc
edges_exact (Before j) Low tie = cc
edges_exact (Before j) (Before k) tie = ap Before (keys_exact j k tie)
edges_exact (Before j) (After k) tie = let less : Less ≡ Equal = never_tied (key_cmp j k) Less tie in cc
edges_exact (Before j) High tie = cc
edges_exact (After j) Low tie = cc
edges_exact (After j) (Before k) tie = let greater : Greater ≡ Equal = never_tied (key_cmp j k) Greater tie in cc
edges_exact (After j) (After k) tie = ap After (keys_exact j k tie)
edges_exact (After j) High tie = cc
edges_exact High Low tie = cc
edges_exact High (Before k) tie = cc
edges_exact High (After k) tie = cc
edges_exact High High tie = refl

-- an edge ties with itself
pub edge_ties : (e : Edge) → edge_cmp e e ≡ Equal
edge_ties Low = refl
edge_ties (Before k) = key_ties k
edge_ties (After k) = key_ties k
edge_ties High = refl

pub edge_tied : (e f : Edge) → e ≡ f → edge_cmp e f ≡ Equal
edge_tied e f same = ap (edge_cmp e) (sym same) ∙ edge_ties e

past_before_at : (o : Ordering) → is_le (ordering_reverse o) ≡ not (is_le (ordering_then o Greater))
past_before_at Less = refl
past_before_at Equal = refl
past_before_at Greater = refl

past_after_at : (o : Ordering) → is_le (ordering_then (ordering_reverse o) Greater) ≡ not (is_le o)
past_after_at Less = refl
past_after_at Equal = refl
past_after_at Greater = refl

-- each key is past an edge or before it
pub past_or_before : (edge : Edge) (key : List Value) → is_past_edge edge key ≡ not (is_before_edge edge key)
past_or_before Low key = refl
past_or_before (Before k) key = ap is_le (keys_total.antisymm k key) ∙ past_before_at (key_cmp key k)
past_or_before (After k) key = ap (λ (o : Ordering). is_le (ordering_then o Greater)) (keys_total.antisymm k key) ∙ past_after_at (key_cmp key k)
past_or_before High key = refl

not_above : (o : Ordering) → is_le o ≡ true → is_gt o ≡ false
not_above Less le = refl
not_above Equal le = refl
not_above Greater le = cc

at_most : (o : Ordering) → is_gt o ≡ false → is_le o ≡ true
at_most Less le = refl
at_most Equal le = refl
at_most Greater le = cc

pub edge_le_trans : (e f g : Edge) → edge_le e f ≡ true → edge_le f g ≡ true → edge_le e g ≡ true
edge_le_trans e f g first second =
    at_most (edge_cmp e g) (upto edges_total e f g (not_above (edge_cmp e f) first) (not_above (edge_cmp f g) second))

turned_le : (o : Ordering) → is_le o ≡ false → is_le (ordering_reverse o) ≡ true
turned_le Less le = cc
turned_le Equal le = cc
turned_le Greater le = refl

-- of two edges one is at most the other
pub edge_le_turned : (e f : Edge) → edge_le e f ≡ false → edge_le f e ≡ true
edge_le_turned e f above = ap is_le (edges_total.antisymm f e) ∙ turned_le (edge_cmp e f) above

le_not_turned : (o : Ordering) → is_lt o ≡ false → is_le (ordering_reverse o) ≡ true
le_not_turned Less le = cc
le_not_turned Equal le = refl
le_not_turned Greater le = refl

not_below : (e f : Edge) → is_lt (edge_cmp e f) ≡ false → edge_le f e ≡ true
not_below e f above = ap is_le (edges_total.antisymm f e) ∙ le_not_turned (edge_cmp e f) above

both_when_first : (p q : Bool) → (q ≡ true → p ≡ true) → q ≡ p && q
both_when_first true q gives = refl
both_when_first false true gives = sym (gives refl)
both_when_first false false gives = refl

both_when_second : (p q : Bool) → (p ≡ true → q ≡ true) → p ≡ p && q
both_when_second true q gives = sym (gives refl)
both_when_second false q gives = refl

past_later_at : (e f : Edge) (key : List Value) (le : Bool) → edge_le e f ≡ le
    → is_past_edge (cond le f e) key ≡ is_past_edge e key && is_past_edge f key
past_later_at e f key true is = both_when_first (is_past_edge e key) (is_past_edge f key) (edge_le_trans e f (Before key) is)
past_later_at e f key false is = both_when_second (is_past_edge e key) (is_past_edge f key) (edge_le_trans f e (Before key) (edge_le_turned e f is))

-- a key is past the later of two edges where it is past both
past_later : (e f : Edge) (key : List Value) → is_past_edge (later_edge e f) key ≡ is_past_edge e key && is_past_edge f key
past_later e f key = past_later_at e f key (edge_le e f) refl

before_earlier_at : (e f : Edge) (key : List Value) (le : Bool) → edge_le e f ≡ le
    → is_before_edge (cond le e f) key ≡ is_before_edge e key && is_before_edge f key
before_earlier_at e f key true is =
    both_when_second (is_before_edge e key) (is_before_edge f key) (λ (before : is_before_edge e key ≡ true). edge_le_trans (After key) e f before is)
before_earlier_at e f key false is =
    both_when_first (is_before_edge e key) (is_before_edge f key) (λ (before : is_before_edge f key ≡ true). edge_le_trans (After key) f e before (edge_le_turned e f is))

-- a key is before the earlier of two edges where it is before both
before_earlier : (e f : Edge) (key : List Value) → is_before_edge (earlier_edge e f) key ≡ is_before_edge e key && is_before_edge f key
before_earlier e f key = before_earlier_at e f key (edge_le e f) refl

neither : (p q : Bool) → (p ≡ true → q ≡ true → true ≡ false) → false ≡ p && q
neither true true clash = sym (clash refl refl)
neither true false clash = refl
neither false q clash = refl

-- no key is past an edge and before one at or below it
crossed : (lo hi : Edge) (key : List Value) → edge_le hi lo ≡ true → is_past_edge lo key ≡ true → is_before_edge hi key ≡ true → true ≡ false
crossed lo hi key le past before =
    sym (edge_le_trans (After key) lo (Before key) (edge_le_trans (After key) hi lo before le) past) ∙ ap (λ (o : Ordering). is_le (ordering_then o Greater)) (key_ties key)

between_at : (lo hi : Edge) (key : List Value) (below : Bool) → is_lt (edge_cmp lo hi) ≡ below
    → has (cond below (record { lo = lo; hi = hi }) no_keys) key ≡ is_past_edge lo key && is_before_edge hi key
between_at lo hi key true is = refl
between_at lo hi key false is =
    neither (is_past_edge lo key) (is_before_edge hi key) (crossed lo hi key (not_below lo hi is))

between_has : (lo hi : Edge) (key : List Value) → has (between lo hi) key ≡ is_past_edge lo key && is_before_edge hi key
between_has lo hi key = between_at lo hi key (is_lt (edge_cmp lo hi)) refl

paired : (a b c d : Bool) → (a && b) && (c && d) ≡ (a && c) && (b && d)
paired true true c d = refl
paired true false true d = refl
paired true false false d = refl
paired false b c d = refl

pub meeting_has : (ours theirs : Span) (key : List Value) → has (meeting ours theirs) key ≡ has ours key && has theirs key
meeting_has ours theirs key =
    between_has (later_edge ours.lo theirs.lo) (earlier_edge ours.hi theirs.hi) key
    ∙ (λ i. past_later ours.lo theirs.lo key i && before_earlier ours.hi theirs.hi key i)
    ∙ paired (is_past_edge ours.lo key) (is_past_edge theirs.lo key) (is_before_edge ours.hi key) (is_before_edge theirs.hi key)

above_in : (before behind : List (List Value)) (key middle : List Value) → IsBelowKeys key (before ++ middle ∷ behind) → key_cmp key middle ≡ Less
above_in [] behind key middle below = below.0
above_in (first ∷ before) behind key middle below = above_in before behind key middle below.1

all_above_at : (key : List Value) (keys : List (List Value)) → IsBelowKeys key keys → (place : ℕ) (other : List Value) → place < length keys → slice_index_or keys place other ≡ other → key_cmp key other ≡ Less
all_above_at key [] below place other lt is = absurd (omega arith)
all_above_at key (first ∷ keys) below zero other lt is = subst (λ (k : List Value). key_cmp key k ≡ Less) is below.0
all_above_at key (first ∷ keys) below (suc place) other lt is = all_above_at key keys below.1 place other (omega arith) is

past_first : (key other : List Value) (behind : Bool) → key_cmp other key ≡ Less → edge_le (After key) (Before other) && behind ≡ false
past_first key other behind below = ap (λ (o : Ordering). is_le (ordering_then o Greater) && behind) (key_turns other key below)

past_itself : (key other : List Value) (behind : Bool) → key ≡ other → edge_le (After key) (Before other) && behind ≡ false
past_itself key other behind same = ap (λ (o : Ordering). is_le (ordering_then o Greater) && behind) (ap (key_cmp key) (sym same) ∙ key_ties key)

behind_false : (first : Bool) → first && false ≡ false
behind_false true = refl
behind_false false = refl

at_next : (next other : List Value) (first : Bool) → key_cmp next other ≡ Less → first && edge_le (After other) (Before next) ≡ false
at_next next other first below =
    ap (λ (o : Ordering). first && is_le (ordering_then o Greater)) (key_turns next other below) ∙ behind_false first

at_next_itself : (next other : List Value) (first : Bool) → next ≡ other → first && edge_le (After other) (Before next) ≡ false
at_next_itself next other first same =
    ap (λ (o : Ordering). first && is_le (ordering_then o Greater)) (ap (λ (k : List Value). key_cmp k next) (sym same) ∙ key_ties next) ∙ behind_false first

-- none of the keys lies between two neighbours
none_between : (before behind : List (List Value)) (key next other : List Value) (place : ℕ)
    → KeysRise (before ++ key ∷ next ∷ behind) → place < length (before ++ key ∷ next ∷ behind) → slice_index_or (before ++ key ∷ next ∷ behind) place other ≡ other
    → has (record { lo = After key; hi = Before next }) other ≡ false
none_between [] behind key next other zero rise lt is = past_itself key other (edge_le (After other) (Before next)) is
none_between [] behind key next other (suc zero) rise lt is = at_next_itself next other (edge_le (After key) (Before other)) is
none_between [] behind key next other (suc (suc place)) rise lt is =
    at_next next other (edge_le (After key) (Before other)) (all_above_at next behind rise.1.0 place other (omega arith) is)
none_between (first ∷ before) behind key next other zero rise lt is =
    past_first key other (edge_le (After other) (Before next)) (subst (λ (k : List Value). key_cmp k key ≡ Less) is (above_in before (next ∷ behind) first key rise.0))
none_between (first ∷ before) behind key next other (suc place) rise lt is = none_between before behind key next other place rise.1 (omega arith) is

pub between_neighbours : (before behind : List (List Value)) (key next other : List Value)
    → KeysRise (before ++ key ∷ next ∷ behind) → Contains (before ++ key ∷ next ∷ behind) other
    → has (record { lo = After key; hi = Before next }) other ≡ false
between_neighbours before behind key next other rise there = none_between before behind key next other there.0 rise there.1 there.2
