-- What rows have at each key after a change, and which of their keys an edge leads to.
use Rattle.std.proofs.Common.{◌≡◌, ◌∙◌, ◌≢◌, ℕ, Bool, true, false, not, cond, Option, Some, None, List, [], ◌∷◌, take, refl, ap, sym}
use Rattle.std.specs.Prelude.{filter}
use Rattle.std.specs.Ordering.{is_eq, match_ordering}
use Rattle.std.specs.declared.cmp.Ordering.{Ordering}
use Rattle.std.specs.declared.cmp.Ordering.TheVariants.{Less, Equal, Greater}
use Rattle.row_types.specs.declared.values.Value.{Value}
use Rattle.row_types.specs.Order.{key_cmp}
use Rattle.row_types.proofs.OrderLemmas.{keys_exact, key_ties, key_tied}
use Rattle.row_types.specs.KeyRows.{is_at, row_at, put_row, without_key}

tied : (o : Ordering) → is_eq o ≡ true → o ≡ Equal
tied Less e = cc
tied Equal e = refl
tied Greater e = cc

-- keys that are the same in the order are equal
pub same_key : (a b : List Value) → is_eq (key_cmp a b) ≡ true → a ≡ b
same_key a b e = keys_exact a b (tied (key_cmp a b) e)

found_here : (key_len : ℕ) (key row first : List Value) (rest : Option (List Value)) (here : Bool) → is_at key_len key first ≡ here
    → (rest ≡ Some row → take key_len row ≡ key) → cond here (Some first) rest ≡ Some row → take key_len row ≡ key
found_here key_len key row first rest true is later found =
    let same : first ≡ row = cc in ap (take key_len) (sym same) ∙ sym (same_key key (take key_len first) is)
found_here key_len key row first rest false is later found = later found

pub found_at : (key_len : ℕ) (key row : List Value) (rows : List (List Value)) → row_at key_len key rows ≡ Some row → take key_len row ≡ key
found_at key_len key row [] found = cc
found_at key_len key row (first ∷ rows) found =
    found_here key_len key row first (row_at key_len key rows) (is_at key_len key first) refl (found_at key_len key row rows) found

-- the two rows that a key could find are one, or the key has one of them
one_of_two : (mine its : Bool) (row other : List Value) (rest : Option (List Value)) → (mine ≡ true → its ≡ true → true ≡ false)
    → cond its (Some other) (cond mine (Some row) rest) ≡ cond mine (Some row) (cond its (Some other) rest)
one_of_two true true row other rest clash = let no : true ≡ false = clash refl refl in cc
one_of_two true false row other rest clash = refl
one_of_two false its row other rest clash = refl

once : (here : Bool) (row other : List Value) (rest : Option (List Value)) → cond here (Some row) rest ≡ cond here (Some row) (cond here (Some other) rest)
once true row other rest = refl
once false row other rest = refl

not_both : (a b key : List Value) → key_cmp a b ≡ Greater → is_eq (key_cmp key a) ≡ true → is_eq (key_cmp key b) ≡ true → true ≡ false
not_both a b key above mine its =
    let same : a ≡ b = sym (same_key key a mine) ∙ same_key key b its in
    let clash : Equal ≡ Greater = sym (key_tied a b same) ∙ above in cc

put_at_first : (key_len : ℕ) (key row other : List Value) (others : List (List Value)) (o : Ordering) → key_cmp (take key_len row) (take key_len other) ≡ o
    → row_at key_len key (put_row key_len row others) ≡ cond (is_at key_len key row) (Some row) (row_at key_len key others)
    → row_at key_len key (match_ordering o (row ∷ other ∷ others) (row ∷ others) (other ∷ put_row key_len row others))
    ≡ cond (is_at key_len key row) (Some row) (row_at key_len key (other ∷ others))
put_at_first key_len key row other others Less is later = refl
put_at_first key_len key row other others Equal is later =
    once (is_at key_len key row) row other (row_at key_len key others)
    ∙ ap (λ (k : List Value). cond (is_at key_len key row) (Some row) (cond (is_eq (key_cmp key k)) (Some other) (row_at key_len key others)))
    (keys_exact (take key_len row) (take key_len other) is)
put_at_first key_len key row other others Greater is later =
    ap (cond (is_at key_len key other) (Some other)) later
    ∙ one_of_two (is_at key_len key row) (is_at key_len key other) row other (row_at key_len key others) (not_both (take key_len row) (take key_len other) key is)

-- the row at a key once one was put in
pub put_at : (key_len : ℕ) (key row : List Value) (rows : List (List Value)) → row_at key_len key (put_row key_len row rows) ≡ cond (is_at key_len key row) (Some row) (row_at key_len key rows)
put_at key_len key row [] = refl
put_at key_len key row (other ∷ others) =
    put_at_first key_len key row other others (key_cmp (take key_len row) (take key_len other)) refl (put_at key_len key row others)

pub put_there : (key_len : ℕ) (row : List Value) (rows : List (List Value)) → row_at key_len (take key_len row) (put_row key_len row rows) ≡ Some row
put_there key_len row rows =
    put_at key_len (take key_len row) row rows
    ∙ ap (λ (o : Ordering). cond (is_eq o) (Some row) (row_at key_len (take key_len row) rows)) (key_ties (take key_len row))

other_key : (a b : List Value) (same : Bool) → is_eq (key_cmp a b) ≡ same → a ≢ b → is_eq (key_cmp a b) ≡ false
other_key a b true is differ = absurd (differ (same_key a b is))
other_key a b false is differ = is

pub put_elsewhere : (key_len : ℕ) (row key : List Value) (rows : List (List Value)) → key ≢ take key_len row → row_at key_len key (put_row key_len row rows) ≡ row_at key_len key rows
put_elsewhere key_len row key rows differ =
    put_at key_len key row rows
    ∙ ap (λ (b : Bool). cond b (Some row) (row_at key_len key rows)) (other_key key (take key_len row) (is_at key_len key row) refl differ)

part_first : (key_len : ℕ) (test : List Value → Bool) (key row : List Value) (rows : List (List Value)) (passes here : Bool) → test (take key_len row) ≡ passes → is_at key_len key row ≡ here
    → row_at key_len key (filter (λ (other : List Value). test (take key_len other)) rows) ≡ cond (test key) (row_at key_len key rows) None
    → row_at key_len key (cond passes (row ∷ filter (λ (other : List Value). test (take key_len other)) rows) (filter (λ (other : List Value). test (take key_len other)) rows))
    ≡ cond (test key) (cond here (Some row) (row_at key_len key rows)) None
part_first key_len test key row rows true true is at later =
    ap (λ (b : Bool). cond b (Some row) (row_at key_len key (filter (λ (other : List Value). test (take key_len other)) rows))) at
    ∙ sym (ap (λ (b : Bool). cond b (Some row) None) (ap test (same_key key (take key_len row) at) ∙ is))
part_first key_len test key row rows true false is at later =
    ap (λ (b : Bool). cond b (Some row) (row_at key_len key (filter (λ (other : List Value). test (take key_len other)) rows))) at ∙ later
part_first key_len test key row rows false true is at later =
    later ∙ ap (λ (b : Bool). cond b (row_at key_len key rows) None) (ap test (same_key key (take key_len row) at) ∙ is)
    ∙ sym (ap (λ (b : Bool). cond b (Some row) None) (ap test (same_key key (take key_len row) at) ∙ is))
part_first key_len test key row rows false false is at later = later

none_both : (b : Bool) (none : Option (List Value)) → none ≡ None → None ≡ cond b none None
none_both true none is = sym is
none_both false none is = refl

-- the rows whose keys pass a test are the rows at these keys
pub part_at : (key_len : ℕ) (test : List Value → Bool) (key : List Value) (rows : List (List Value))
    → row_at key_len key (filter (λ (row : List Value). test (take key_len row)) rows) ≡ cond (test key) (row_at key_len key rows) None
part_at key_len test key [] = none_both (test key) None refl
part_at key_len test key (row ∷ rows) =
    part_first key_len test key row rows (test (take key_len row)) (is_at key_len key row) refl refl (part_at key_len test key rows)

pub removed_gone : (key_len : ℕ) (key : List Value) (rows : List (List Value)) → row_at key_len key (without_key key_len key rows) ≡ None
removed_gone key_len key rows =
    part_at key_len (λ (other : List Value). not (is_eq (key_cmp key other))) key rows
    ∙ ap (λ (o : Ordering). cond (not (is_eq o)) (row_at key_len key rows) None) (key_ties key)

pub removed_elsewhere : (key_len : ℕ) (key other : List Value) (rows : List (List Value)) → other ≢ key → row_at key_len other (without_key key_len key rows) ≡ row_at key_len other rows
removed_elsewhere key_len key other rows differ =
    part_at key_len (λ (k : List Value). not (is_eq (key_cmp key k))) other rows
    ∙ ap (λ (b : Bool). cond (not b) (row_at key_len other rows) None) (other_key key other (is_eq (key_cmp key other)) refl (λ e. differ (sym e)))
