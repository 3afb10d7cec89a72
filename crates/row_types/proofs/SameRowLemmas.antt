-- Rows by rising key that have the same row at each key are the same rows.
use Rattle.std.proofs.Common.{◌≡◌, ◌∙◌, ℕ, Bool, true, false, cond, Some, None, List, [], ◌∷◌, take, refl, ap, sym}
use Rattle.std.specs.List.{AllByRecursion}
use Rattle.std.specs.Ordering.{is_eq, is_le}
use Rattle.std.specs.declared.cmp.Ordering.{Ordering}
use Rattle.std.specs.declared.cmp.Ordering.TheVariants.{Less, Equal, Greater}
use Rattle.row_types.specs.declared.values.Value.{Value}
use Rattle.row_types.specs.Order.{key_cmp}
use Rattle.row_types.proofs.OrderLemmas.{keys_exact, key_ties, key_tied, key_at_most, key_turns_back, key_turns}
use Rattle.row_types.specs.KeyRows.{AreOrdered, IsBelowAll, is_at, row_at}
use Rattle.row_types.proofs.KeyRowLemmas.{same_key}

-- a key below that of the first row is at none
pub none_below : (key_len : ℕ) (key row : List Value) (rows : List (List Value)) → is_le (key_cmp key (take key_len row)) ≡ true → IsBelowAll key_len row rows → row_at key_len key rows ≡ None
none_below key_len key row [] below all = refl
none_below key_len key row (other ∷ others) below all =
    ap (λ (o : Ordering). cond (is_eq o) (Some other) (row_at key_len key others)) (key_at_most key (take key_len row) (take key_len other) below all.0)
    ∙ none_below key_len key row others below all.1

found_first : (key_len : ℕ) (row : List Value) (rows : List (List Value)) → row_at key_len (take key_len row) (row ∷ rows) ≡ Some row
found_first key_len row rows = ap (λ (o : Ordering). cond (is_eq o) (Some row) (row_at key_len (take key_len row) rows)) (key_ties (take key_len row))

lower_none : (key_len : ℕ) (key row : List Value) (rows : List (List Value)) → key_cmp key (take key_len row) ≡ Less → IsBelowAll key_len row rows
    → row_at key_len key (row ∷ rows) ≡ None
lower_none key_len key row rows less below =
    ap (λ (o : Ordering). cond (is_eq o) (Some row) (row_at key_len key rows)) less ∙ none_below key_len key row rows (ap is_le less) below

-- no row behind another has its key
pub none_behind : (key_len : ℕ) (key row : List Value) (rows : List (List Value)) → is_at key_len key row ≡ true → IsBelowAll key_len row rows → row_at key_len key rows ≡ None
none_behind key_len key row rows is below =
    none_below key_len key row rows (ap is_le (key_tied key (take key_len row) (same_key key (take key_len row) is))) below

-- rows that agree with a first row of one key agree behind it
rest_at : (key_len : ℕ) (key x y : List Value) (xs ys : List (List Value)) (here : Bool) → is_at key_len key x ≡ here → take key_len x ≡ take key_len y
    → IsBelowAll key_len x xs → IsBelowAll key_len y ys → row_at key_len key (x ∷ xs) ≡ row_at key_len key (y ∷ ys)
    → row_at key_len key xs ≡ row_at key_len key ys
rest_at key_len key x y xs ys true is same below_xs below_ys both =
    none_behind key_len key x xs is below_xs
    ∙ sym (none_behind key_len key y ys (ap (λ (k : List Value). is_eq (key_cmp key k)) (sym same) ∙ is) below_ys)
rest_at key_len key x y xs ys false is same below_xs below_ys both =
    sym (ap (λ (b : Bool). cond b (Some x) (row_at key_len key xs)) is) ∙ both
    ∙ ap (λ (b : Bool). cond b (Some y) (row_at key_len key ys)) (ap (λ (k : List Value). is_eq (key_cmp key k)) (sym same) ∙ is)

same_from : (key_len : ℕ) (x y : List Value) (xs ys : List (List Value)) (o : Ordering) → key_cmp (take key_len x) (take key_len y) ≡ o
    → IsBelowAll key_len x xs → IsBelowAll key_len y ys → ((key : List Value) → row_at key_len key (x ∷ xs) ≡ row_at key_len key (y ∷ ys))
    → (((key : List Value) → row_at key_len key xs ≡ row_at key_len key ys) → xs ≡ ys)
    → x ∷ xs ≡ y ∷ ys
same_from key_len x y xs ys Less is below_xs below_ys both more =
    let no : Some x ≡ None = sym (found_first key_len x xs) ∙ both (take key_len x) ∙ lower_none key_len (take key_len x) y ys is below_ys in cc
same_from key_len x y xs ys Greater is below_xs below_ys both more =
    let no : Some y ≡ None =
    sym (found_first key_len y ys) ∙ sym (both (take key_len y))
    ∙ lower_none key_len (take key_len y) x xs (key_turns_back (take key_len x) (take key_len y) is) below_xs in cc
same_from key_len x y xs ys Equal is below_xs below_ys both more =
    let same : take key_len x ≡ take key_len y = keys_exact (take key_len x) (take key_len y) is in
    let found : Some x ≡ Some y =
    sym (found_first key_len x xs) ∙ both (take key_len x) ∙ ap (λ (k : List Value). row_at key_len k (y ∷ ys)) same ∙ found_first key_len y ys in
    let first : x ≡ y = cc in
    let rest : xs ≡ ys = more (λ key. rest_at key_len key x y xs ys (is_at key_len key x) refl same below_xs below_ys (both key)) in
    ap (λ (row : List Value). row ∷ xs) first ∙ ap (λ (rows : List (List Value)). y ∷ rows) rest

pub same_rows : (key_len : ℕ) (xs ys : List (List Value)) → AreOrdered key_len xs → AreOrdered key_len ys
    → ((key : List Value) → row_at key_len key xs ≡ row_at key_len key ys) → xs ≡ ys
same_rows key_len [] [] ordered_xs ordered_ys both = refl
same_rows key_len [] (y ∷ ys) ordered_xs ordered_ys both =
    let no : None ≡ Some y = both (take key_len y) ∙ found_first key_len y ys in cc
same_rows key_len (x ∷ xs) [] ordered_xs ordered_ys both =
    let no : Some x ≡ None = sym (found_first key_len x xs) ∙ both (take key_len x) in cc
same_rows key_len (x ∷ xs) (y ∷ ys) ordered_xs ordered_ys both =
    same_from key_len x y xs ys (key_cmp (take key_len x) (take key_len y)) refl ordered_xs.1 ordered_ys.1 both
    (same_rows key_len xs ys ordered_xs.2 ordered_ys.2)

found_behind : (key_len : ℕ) (first row : List Value) (rows : List (List Value)) → key_cmp (take key_len first) (take key_len row) ≡ Less
    → row_at key_len (take key_len row) rows ≡ Some row → row_at key_len (take key_len row) (first ∷ rows) ≡ Some row
found_behind key_len first row rows less found =
    ap (λ (o : Ordering). cond (is_eq o) (Some first) (row_at key_len (take key_len row) rows)) (key_turns (take key_len first) (take key_len row) less) ∙ found

all_behind : (key_len : ℕ) (first : List Value) (rows some : List (List Value)) → IsBelowAll key_len first some
    → AllByRecursion (λ (row : List Value). row_at key_len (take key_len row) rows ≡ Some row) some
    → AllByRecursion (λ (row : List Value). row_at key_len (take key_len row) (first ∷ rows) ≡ Some row) some
all_behind key_len first rows [] below found = tt
all_behind key_len first rows (row ∷ some) below found =
    (found_behind key_len first row rows below.0 found.0, all_behind key_len first rows some below.1 found.1)

-- each row is found at its key
pub all_found : (key_len : ℕ) (rows : List (List Value)) → AreOrdered key_len rows
    → AllByRecursion (λ (row : List Value). row_at key_len (take key_len row) rows ≡ Some row) rows
all_found key_len [] ordered = tt
all_found key_len (row ∷ rows) ordered =
    (found_first key_len row rows, all_behind key_len row rows rows ordered.1 (all_found key_len rows ordered.2))
