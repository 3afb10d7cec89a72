-- The place of a key or an edge among rows that rise by key.
use Rattle.std.proofs.Common.{◌≡◌, ◌∙◌, ℕ, zero, suc, ◌<◌, ◌≤◌, Bool, true, false, not, cond, List, [], ◌∷◌, length, take, drop, get_or, refl, ap, sym, arith}
use Rattle.std.specs.Prelude.{slice_index_or, filter, ◌&&◌}
use Rattle.std.specs.List.{AllByRecursion}
use Rattle.std.specs.List.Sorted.{IsPartitionedBy, IsPartitionPoint}
use Rattle.std.proofs.lemmas.List.{get_or_default}
use Rattle.std.specs.Ordering.{is_le, is_lt}
use Rattle.std.specs.declared.cmp.Ordering.{Ordering}
use Rattle.std.specs.declared.cmp.Ordering.TheVariants.{Less, Equal, Greater}
use Rattle.row_types.specs.declared.values.Value.{Value}
use Rattle.row_types.specs.declared.edges.Edge.{Edge}
use Rattle.row_types.specs.declared.edges.Edge.TheVariants.{Low, High}
use Rattle.row_types.specs.declared.edges.Span.{Span}
use Rattle.row_types.specs.Order.{key_cmp, is_past_edge, is_before_edge, has}
use Rattle.row_types.proofs.OrderLemmas.{key_at_most, key_below}
use Rattle.row_types.proofs.SpanLemmas.{past_or_before}
use Rattle.row_types.specs.KeyRows.{AreOrdered, rows_past, rows_before, rows_in}
use Rattle.ordered_table.specs.Places.{key_at, is_past, IsCut}

is_less : (o : Ordering) → is_lt o ≡ true → o ≡ Less
is_less Less e = refl
is_less Equal e = cc
is_less Greater e = cc

-- a key that is past stays so at a greater key
past_stays : (strictly : Bool) (key a b : List Value) → is_past strictly key a ≡ true → key_cmp a b ≡ Less → is_past strictly key b ≡ true
past_stays true key a b past below = ap is_lt (key_below key a b (is_less (key_cmp key a) past) below)
past_stays false key a b past below = ap is_le (key_at_most key a b past below)

all_at : (P : List Value → Type 0) (rows : List (List Value)) (k : ℕ) → AllByRecursion P rows → k < length rows → P (slice_index_or rows k [])
all_at P [] k all within = absurd (omega arith)
all_at P (row ∷ rows) zero all within = all.0
all_at P (row ∷ rows) (suc k) all within = all_at P rows k all.1 (omega arith)

past_behind : (key_len : ℕ) (strictly : Bool) (key : List Value) (rows : List (List Value)) (j k : ℕ) → AreOrdered key_len rows
    → j ≤ k → k < length rows → is_past strictly key (key_at key_len rows j) ≡ true → is_past strictly key (key_at key_len rows k) ≡ true
past_behind key_len strictly key [] j k ordered le within past = absurd (omega arith)
past_behind key_len strictly key (row ∷ rows) zero zero ordered le within past = past
past_behind key_len strictly key (row ∷ rows) zero (suc k) ordered le within past =
    past_stays strictly key (take key_len row) (key_at key_len rows k) past
    (all_at (λ (other : List Value). key_cmp (take key_len row) (take key_len other) ≡ Less) rows k ordered.1 (omega arith))
past_behind key_len strictly key (row ∷ rows) (suc j) zero ordered le within past = absurd (omega arith)
past_behind key_len strictly key (row ∷ rows) (suc j) (suc k) ordered le within past =
    past_behind key_len strictly key rows j k ordered.2 (omega arith) (omega arith) past

not_true : (b : Bool) → (b ≡ true → false ≡ true) → b ≡ false
not_true true h = sym (h refl)
not_true false h = refl

past_before : (key_len : ℕ) (strictly : Bool) (key : List Value) (rows : List (List Value)) (j k : ℕ) → AreOrdered key_len rows
    → j ≤ k → k < length rows → is_past strictly key (key_at key_len rows k) ≡ false → is_past strictly key (key_at key_len rows j) ≡ false
past_before key_len strictly key rows j k ordered le within past =
    not_true (is_past strictly key (key_at key_len rows j)) (λ h. sym past ∙ past_behind key_len strictly key rows j k ordered le within h)

turned_back : (b : Bool) → not b ≡ true → b ≡ false
turned_back true e = cc
turned_back false e = refl

turned_true : (b : Bool) → not b ≡ false → b ≡ true
turned_true true e = refl
turned_true false e = cc

-- rows whose keys are not past a key stand before those whose keys are
pub not_past_parted : (key_len : ℕ) (strictly : Bool) (key : List Value) (rows : List (List Value)) → AreOrdered key_len rows
    → IsPartitionedBy (λ (row : List Value). not (is_past strictly key (take key_len row))) rows
not_past_parted key_len strictly key rows ordered i j d le within e =
    let at_j : is_past strictly key (key_at key_len rows j) ≡ false =
    ap (λ (row : List Value). is_past strictly key (take key_len row)) (get_or_default rows j [] d within) ∙ turned_back (is_past strictly key (take key_len (get_or rows j d))) e in
    ap (λ (row : List Value). not (is_past strictly key (take key_len row))) (get_or_default rows i d [] (omega arith))
    ∙ ap not (past_before key_len strictly key rows i j ordered le within at_j)

-- the place between them cuts the rows
pub cut_at_point : (key_len : ℕ) (strictly : Bool) (key : List Value) (rows : List (List Value)) (place : ℕ) → place ≤ length rows
    → IsPartitionPoint (λ (row : List Value). not (is_past strictly key (take key_len row)) ≡ true) (λ (row : List Value). not (is_past strictly key (take key_len row)) ≡ false) rows place
    → IsCut key_len (is_past strictly key) rows place
cut_at_point key_len strictly key rows place most point = record {
  within = most;
  before = λ k h. turned_back (is_past strictly key (key_at key_len rows k)) (point.0 k [] (omega arith) h);
  behind = λ k h w. turned_true (is_past strictly key (key_at key_len rows k)) (point.1 k [] h w);
}

pub cut_low : (key_len : ℕ) (rows : List (List Value)) → IsCut key_len (is_past_edge Low) rows 0
cut_low key_len rows = record { within = omega arith; before = λ k h. absurd (omega arith); behind = λ k h w. refl }

pub cut_high : (key_len : ℕ) (rows : List (List Value)) → IsCut key_len (is_past_edge High) rows (length rows)
cut_high key_len rows = record { within = omega arith; before = λ k h. refl; behind = λ k h w. absurd (omega arith) }

-- a cut of all rows but the first, where that one fails the test
pub cut_rest : (key_len : ℕ) (test : List Value → Bool) (row : List Value) (rows : List (List Value)) (place : ℕ)
    → IsCut key_len test (row ∷ rows) (suc place) → IsCut key_len test rows place
cut_rest key_len test row rows place cut =
    let w : suc place ≤ suc (length rows) = cut.within in
    record {
      within = omega arith;
      before = λ k h. cut.before (suc k) (omega arith);
      behind = λ k h v. cut.behind (suc k) (omega arith) (omega arith);
    }

-- and where it passes it
pub cut_none : (key_len : ℕ) (test : List Value → Bool) (row : List Value) (rows : List (List Value))
    → IsCut key_len test (row ∷ rows) 0 → IsCut key_len test rows 0
cut_none key_len test row rows cut = record {
  within = omega arith;
  before = λ k h. absurd (omega arith);
  behind = λ k h v. cut.behind (suc k) (omega arith) (omega arith);
}

kept : (test : List Value → Bool) (row : List Value) (rows : List (List Value)) (passes : Bool) → test row ≡ passes
    → filter test (row ∷ rows) ≡ cond passes (row ∷ filter test rows) (filter test rows)
kept test row rows passes is = ap (λ (b : Bool). cond b (row ∷ filter test rows) (filter test rows)) is

turned : (past before : Bool) → past ≡ not before → before ≡ not past
turned true true e = cc
turned true false e = refl
turned false true e = refl
turned false false e = cc

-- a key is before an edge, or past it
pub before_is : (edge : Edge) (key : List Value) → is_before_edge edge key ≡ not (is_past_edge edge key)
before_is edge key = turned (is_past_edge edge key) (is_before_edge edge key) (past_or_before edge key)

-- the rows past an edge are those from its place on
pub past_from : (key_len : ℕ) (edge : Edge) (rows : List (List Value)) (place : ℕ) → IsCut key_len (is_past_edge edge) rows place
    → rows_past key_len edge rows ≡ drop place rows
past_from key_len edge [] zero cut = refl
past_from key_len edge [] (suc place) cut = refl
past_from key_len edge (row ∷ rows) zero cut =
    kept (λ (other : List Value). is_past_edge edge (take key_len other)) row rows true (cut.behind 0 (omega arith) (omega arith))
    ∙ ap (λ (rs : List (List Value)). row ∷ rs) (past_from key_len edge rows 0 (cut_none key_len (is_past_edge edge) row rows cut))
past_from key_len edge (row ∷ rows) (suc place) cut =
    kept (λ (other : List Value). is_past_edge edge (take key_len other)) row rows false (cut.before 0 (omega arith))
    ∙ past_from key_len edge rows place (cut_rest key_len (is_past_edge edge) row rows place cut)

-- the rows before an edge are those up to its place
pub before_to : (key_len : ℕ) (edge : Edge) (rows : List (List Value)) (place : ℕ) → IsCut key_len (is_past_edge edge) rows place
    → rows_before key_len edge rows ≡ take place rows
before_to key_len edge [] zero cut = refl
before_to key_len edge [] (suc place) cut = refl
before_to key_len edge (row ∷ rows) zero cut =
    kept (λ (other : List Value). is_before_edge edge (take key_len other)) row rows false
    (before_is edge (take key_len row) ∙ ap not (cut.behind 0 (omega arith) (omega arith)))
    ∙ before_to key_len edge rows 0 (cut_none key_len (is_past_edge edge) row rows cut)
before_to key_len edge (row ∷ rows) (suc place) cut =
    kept (λ (other : List Value). is_before_edge edge (take key_len other)) row rows true
    (before_is edge (take key_len row) ∙ ap not (cut.before 0 (omega arith)))
    ∙ ap (λ (rs : List (List Value)). row ∷ rs) (before_to key_len edge rows place (cut_rest key_len (is_past_edge edge) row rows place cut))

both_kept : (past before : Bool) (row : List Value) (rows : List (List Value)) (test : List Value → Bool) → test row ≡ past
    → cond (past && before) (row ∷ filter test rows) (filter test rows) ≡ filter test (cond before (row ∷ rows) rows)
both_kept true true row rows test is = sym (kept test row rows true is)
both_kept true false row rows test is = refl
both_kept false true row rows test is = sym (kept test row rows false is)
both_kept false false row rows test is = refl

-- the rows in a span are those past its lower edge of those before its upper one
pub span_is : (key_len : ℕ) (span : Span) (rows : List (List Value)) → rows_in key_len span rows ≡ rows_past key_len span.lo (rows_before key_len span.hi rows)
span_is key_len span [] = refl
span_is key_len span (row ∷ rows) =
    ap (λ (rs : List (List Value)). cond (has span (take key_len row)) (row ∷ rs) rs) (span_is key_len span rows)
    ∙ both_kept (is_past_edge span.lo (take key_len row)) (is_before_edge span.hi (take key_len row)) row (rows_before key_len span.hi rows)
    (λ (other : List Value). is_past_edge span.lo (take key_len other)) refl
