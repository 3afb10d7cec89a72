-- What a halving search finds among check rows by place.
use Rattle.std.proofs.Common.{◌≡◌, ◌∙◌, ℕ, zero, suc, ◌<◌, ◌≤◌, cond, false, List, [], ◌∷◌, length, get_or, Some, None, Result, Ok, Err, IfOk, IfErr, refl, ap, sym, subst, arith, add-one}
use Rattle.std.specs.Prelude.{slice_set}
use Rattle.std.specs.List.{insert}
use Rattle.std.specs.List.Sorted.{IsSearchInRange, IsBinarySearchResult, IsNonDecreasingBy, IsSortedBy}
use Rattle.std.specs.Ordering.{is_lt, match_ordering, ordering_index}
use Rattle.std.specs.declared.cmp.Ordering.TheVariants.{Less, Equal, Greater}
use Rattle.std.proofs.lemmas.List.Sorted.{searchable_from_sorted}
use Rattle.row_types.specs.declared.digests.Digest.{Digest}
use Rattle.checksum_table.specs.declared.check_rows.CheckEntry.{CheckEntry}
use Rattle.checksum_table.specs.Checks.{place_cmp, IsByPlace, check_at, with_check, with_absent, with_master, mastered}
use Rattle.checksum_table.specs.Places.{IsFoundAt, IsFreeAt}
use Rattle.checksum_table.proofs.OrderLemmas.{Place, pair_cmp, place, pairs_total, turn_less, turn_greater, turn_equal, less_is_other, greater_is_other, equal_is_for, each_at}

-- an entry before one at the chunk's place is passed
passed : (p : Place) (entry other : CheckEntry) → pair_cmp (place entry) (place other) ≡ Less → pair_cmp (place other) p ≡ Equal → pair_cmp p (place entry) ≡ Greater
passed p entry other below here = sym (pairs_total.congr (place other) p (place entry) here) ∙ turn_less (place entry) (place other) below

passed_at : (p : Place) (entry : CheckEntry) (entries : List CheckEntry) (i : ℕ) (d : CheckEntry) → IsByPlace (entry ∷ entries) → i < length entries
    → pair_cmp (place (get_or entries i d)) p ≡ Equal → pair_cmp p (place entry) ≡ Greater
passed_at p entry entries i d sorted within here =
    passed p entry (get_or entries i d) (each_at (λ (other : CheckEntry). place_cmp entry.table entry.chunk other ≡ Less) entries i d sorted.0 within) here

found_row : (table chunk : ℕ) (entries : List CheckEntry) (i : ℕ) (d : CheckEntry) → IsByPlace entries → i < length entries → pair_cmp (place (get_or entries i d)) (table, chunk) ≡ Equal
    → check_at table chunk entries ≡ Some (get_or entries i d).row
found_row table chunk [] i d sorted within here = absurd (omega arith)
found_row table chunk (entry ∷ entries) zero d sorted within here =
    ap (λ b. cond b (Some entry.row) (check_at table chunk entries)) (equal_is_for table chunk entry (turn_equal (place entry) (table, chunk) here))
found_row table chunk (entry ∷ entries) (suc i) d sorted within here =
    ap (λ b. cond b (Some entry.row) (check_at table chunk entries)) (greater_is_other table chunk entry (passed_at (table, chunk) entry entries i d sorted (omega arith) here))
    ∙ found_row table chunk entries i d sorted.1 (omega arith) here

found_master : (table chunk : ℕ) (master : Digest) (entries : List CheckEntry) (i : ℕ) (d : CheckEntry) → IsByPlace entries → i < length entries → pair_cmp (place (get_or entries i d)) (table, chunk) ≡ Equal
    → with_master table chunk master entries ≡ slice_set entries i (record (get_or entries i d) { row = mastered (get_or entries i d).row master })
found_master table chunk master [] i d sorted within here = absurd (omega arith)
found_master table chunk master (entry ∷ entries) zero d sorted within here =
    ap (λ b. cond b (record entry { row = mastered entry.row master } ∷ entries) (entry ∷ with_master table chunk master entries))
    (equal_is_for table chunk entry (turn_equal (place entry) (table, chunk) here))
found_master table chunk master (entry ∷ entries) (suc i) d sorted within here =
    ap (λ b. cond b (record entry { row = mastered entry.row master } ∷ entries) (entry ∷ with_master table chunk master entries))
    (greater_is_other table chunk entry (passed_at (table, chunk) entry entries i d sorted (omega arith) here))
    ∙ ap (λ (rest : List CheckEntry). entry ∷ rest) (found_master table chunk master entries i d sorted.1 (omega arith) here)

found_check : (new : CheckEntry) (entries : List CheckEntry) (i : ℕ) (d : CheckEntry) → IsByPlace entries → i < length entries → pair_cmp (place (get_or entries i d)) (place new) ≡ Equal
    → with_check new.table new.chunk new.row entries ≡ slice_set entries i new
found_check new [] i d sorted within here = absurd (omega arith)
found_check new (entry ∷ entries) zero d sorted within here =
    ap (λ o. match_ordering o (new ∷ entry ∷ entries) (new ∷ entries) (entry ∷ with_check new.table new.chunk new.row entries)) (turn_equal (place entry) (place new) here)
found_check new (entry ∷ entries) (suc i) d sorted within here =
    ap (λ o. match_ordering o (new ∷ entry ∷ entries) (new ∷ entries) (entry ∷ with_check new.table new.chunk new.row entries))
    (passed_at (place new) entry entries i d sorted (omega arith) here)
    ∙ ap (λ (rest : List CheckEntry). entry ∷ rest) (found_check new entries i d sorted.1 (omega arith) here)

found_absent : (new : CheckEntry) (entries : List CheckEntry) (i : ℕ) (d : CheckEntry) → IsByPlace entries → i < length entries → pair_cmp (place (get_or entries i d)) (place new) ≡ Equal
    → with_absent new entries ≡ entries
found_absent new [] i d sorted within here = absurd (omega arith)
found_absent new (entry ∷ entries) zero d sorted within here =
    ap (λ o. match_ordering o (new ∷ entry ∷ entries) (entry ∷ entries) (entry ∷ with_absent new entries)) (turn_equal (place entry) (place new) here)
found_absent new (entry ∷ entries) (suc i) d sorted within here =
    ap (λ o. match_ordering o (new ∷ entry ∷ entries) (entry ∷ entries) (entry ∷ with_absent new entries)) (passed_at (place new) entry entries i d sorted (omega arith) here)
    ∙ ap (λ (rest : List CheckEntry). entry ∷ rest) (found_absent new entries i d sorted.1 (omega arith) here)

-- the entries up to a number are before the place, and the others behind it
abbrev AreBefore : Place → List CheckEntry → ℕ → Type 0
AreBefore p entries i = (k : ℕ) (d : CheckEntry) → k < i → pair_cmp (place (get_or entries k d)) p ≡ Less

abbrev AreBehind : Place → List CheckEntry → ℕ → Type 0
AreBehind p entries i = (k : ℕ) (d : CheckEntry) → i ≤ k → k < length entries → pair_cmp (place (get_or entries k d)) p ≡ Greater

free_row : (table chunk : ℕ) (entries : List CheckEntry) (i : ℕ) → i ≤ length entries → AreBefore (table, chunk) entries i → AreBehind (table, chunk) entries i → check_at table chunk entries ≡ None
free_row table chunk [] i within before behind = refl
free_row table chunk (entry ∷ entries) zero within before behind =
    ap (λ b. cond b (Some entry.row) (check_at table chunk entries)) (less_is_other table chunk entry (turn_greater (place entry) (table, chunk) (behind 0 entry (omega arith) (omega arith))))
    ∙ free_row table chunk entries zero (omega arith) (λ k d h. absurd (omega arith)) (λ k d h w. behind (suc k) d (omega arith) (omega arith))
free_row table chunk (entry ∷ entries) (suc i) within before behind =
    ap (λ b. cond b (Some entry.row) (check_at table chunk entries)) (greater_is_other table chunk entry (turn_less (place entry) (table, chunk) (before 0 entry (omega arith))))
    ∙ free_row table chunk entries i (omega arith) (λ k d h. before (suc k) d (omega arith)) (λ k d h w. behind (suc k) d (omega arith) (omega arith))

free_master : (table chunk : ℕ) (master : Digest) (entries : List CheckEntry) (i : ℕ) → i ≤ length entries → AreBefore (table, chunk) entries i → AreBehind (table, chunk) entries i
    → with_master table chunk master entries ≡ entries
free_master table chunk master [] i within before behind = refl
free_master table chunk master (entry ∷ entries) zero within before behind =
    ap (λ b. cond b (record entry { row = mastered entry.row master } ∷ entries) (entry ∷ with_master table chunk master entries))
    (less_is_other table chunk entry (turn_greater (place entry) (table, chunk) (behind 0 entry (omega arith) (omega arith))))
    ∙ ap (λ (rest : List CheckEntry). entry ∷ rest) (free_master table chunk master entries zero (omega arith) (λ k d h. absurd (omega arith)) (λ k d h w. behind (suc k) d (omega arith) (omega arith)))
free_master table chunk master (entry ∷ entries) (suc i) within before behind =
    ap (λ b. cond b (record entry { row = mastered entry.row master } ∷ entries) (entry ∷ with_master table chunk master entries))
    (greater_is_other table chunk entry (turn_less (place entry) (table, chunk) (before 0 entry (omega arith))))
    ∙ ap (λ (rest : List CheckEntry). entry ∷ rest) (free_master table chunk master entries i (omega arith) (λ k d h. before (suc k) d (omega arith)) (λ k d h w. behind (suc k) d (omega arith) (omega arith)))

free_check : (new : CheckEntry) (entries : List CheckEntry) (i : ℕ) → i ≤ length entries → AreBefore (place new) entries i → AreBehind (place new) entries i
    → with_check new.table new.chunk new.row entries ≡ insert entries i new
free_check new [] zero within before behind = refl
free_check new [] (suc i) within before behind = absurd (omega arith)
free_check new (entry ∷ entries) zero within before behind =
    ap (λ o. match_ordering o (new ∷ entry ∷ entries) (new ∷ entries) (entry ∷ with_check new.table new.chunk new.row entries))
    (turn_greater (place entry) (place new) (behind 0 entry (omega arith) (omega arith)))
free_check new (entry ∷ entries) (suc i) within before behind =
    ap (λ o. match_ordering o (new ∷ entry ∷ entries) (new ∷ entries) (entry ∷ with_check new.table new.chunk new.row entries))
    (turn_less (place entry) (place new) (before 0 entry (omega arith)))
    ∙ ap (λ (rest : List CheckEntry). entry ∷ rest) (free_check new entries i (omega arith) (λ k d h. before (suc k) d (omega arith)) (λ k d h w. behind (suc k) d (omega arith) (omega arith)))

free_absent : (new : CheckEntry) (entries : List CheckEntry) (i : ℕ) → i ≤ length entries → AreBefore (place new) entries i → AreBehind (place new) entries i
    → with_absent new entries ≡ insert entries i new
free_absent new [] zero within before behind = refl
free_absent new [] (suc i) within before behind = absurd (omega arith)
free_absent new (entry ∷ entries) zero within before behind =
    ap (λ o. match_ordering o (new ∷ entry ∷ entries) (entry ∷ entries) (entry ∷ with_absent new entries))
    (turn_greater (place entry) (place new) (behind 0 entry (omega arith) (omega arith)))
free_absent new (entry ∷ entries) (suc i) within before behind =
    ap (λ o. match_ordering o (new ∷ entry ∷ entries) (entry ∷ entries) (entry ∷ with_absent new entries))
    (turn_less (place entry) (place new) (before 0 entry (omega arith)))
    ∙ ap (λ (rest : List CheckEntry). entry ∷ rest) (free_absent new entries i (omega arith) (λ k d h. before (suc k) d (omega arith)) (λ k d h w. behind (suc k) d (omega arith) (omega arith)))

-- each entry is before the next
next_above : (entries : List CheckEntry) (k : ℕ) (d : CheckEntry) → IsByPlace entries → suc k < length entries → is_lt (pair_cmp (place (get_or entries (suc k) d)) (place (get_or entries k d))) ≡ false
next_above [] k d sorted within = absurd (omega arith)
next_above (entry ∷ entries) zero d sorted within =
    ap is_lt (turn_less (place entry) (place (get_or entries 0 d)) (each_at (λ (other : CheckEntry). place_cmp entry.table entry.chunk other ≡ Less) entries 0 d sorted.0 (omega arith)))
next_above (entry ∷ entries) (suc k) d sorted within = next_above entries k d sorted.1 (omega arith)

rising : (entries : List CheckEntry) → IsByPlace entries → IsSortedBy (λ a b. is_lt (pair_cmp (place a) (place b))) entries
rising entries sorted k d from within =
    subst (λ n. is_lt (pair_cmp (place (get_or entries n d)) (place (get_or entries k d))) ≡ false) (sym (add-one k)) (next_above entries k d sorted (omega arith))

-- a search ends at the chunk's entry, or at the gap for it
pub searched_found : (table chunk : ℕ) (entries : List CheckEntry) (r : Result ℕ ℕ) → IsByPlace entries → IsSearchInRange r (length entries)
    → IsBinarySearchResult (λ (y : CheckEntry). pair_cmp (place y) (table, chunk)) entries r → IfOk r (IsFoundAt table chunk entries)
searched_found table chunk entries (Ok i) sorted within here = record {
  within = within;
  row = λ d. found_row table chunk entries i d sorted within (here d);
  check = λ row. let new : CheckEntry = record { table = table; chunk = chunk; row = row } in found_check new entries i new sorted within (here new);
  absent = λ row. let new : CheckEntry = record { table = table; chunk = chunk; row = row } in found_absent new entries i new sorted within (here new);
  mastered_there = λ d master. found_master table chunk master entries i d sorted within (here d);
}
searched_found table chunk entries (Err i) sorted within parted = tt

pub searched_free : (table chunk : ℕ) (entries : List CheckEntry) (r : Result ℕ ℕ) → IsByPlace entries → IsSearchInRange r (length entries)
    → IsBinarySearchResult (λ (y : CheckEntry). pair_cmp (place y) (table, chunk)) entries r → IfErr r (IsFreeAt table chunk entries)
searched_free table chunk entries (Ok i) sorted within here = tt
searched_free table chunk entries (Err i) sorted within parted =
    let rise : IsNonDecreasingBy (λ (y : CheckEntry). ordering_index (pair_cmp (place y) (table, chunk))) entries =
    searchable_from_sorted pairs_total place entries (table, chunk) (rising entries sorted) in
    let before : AreBefore (table, chunk) entries i = λ k d h. (parted rise).0 k d (omega arith) h in
    let behind : AreBehind (table, chunk) entries i = λ k d h w. (parted rise).1 k d h w in
    record {
      within = within;
      row = free_row table chunk entries i within before behind;
      check = λ row. free_check (record { table = table; chunk = chunk; row = row }) entries i within before behind;
      absent = λ row. free_absent (record { table = table; chunk = chunk; row = row }) entries i within before behind;
      mastered_nowhere = λ master. free_master table chunk master entries i within before behind;
    }
