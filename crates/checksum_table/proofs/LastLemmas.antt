-- The last chunk of a table.
use Rattle.std.proofs.Common.{◌≡◌, ◌≢◌, ◌∙◌, ◌⊎◌, ℕ, zero, suc, ◌-◌, ◌<◌, ◌≤◌, ◌==◌, cond, true, false, List, [], ◌∷◌, length, get_or, Option, Some, None, max, refl, ap, subst, arith}
use Rattle.std.proofs.lemmas.Bool.Decides.{nat_tests}
use Rattle.std.specs.Prelude.{is_some}
use Rattle.std.specs.List.Sorted.{IsNonDecreasingBy}
use Rattle.std.specs.declared.cmp.Ordering.TheVariants.{Less}
use Rattle.checksum_table.specs.declared.check_rows.CheckRow.{CheckRow}
use Rattle.checksum_table.specs.declared.check_rows.CheckEntry.{CheckEntry}
use Rattle.checksum_table.specs.Checks.{place_cmp, IsByPlace, check_at, last_chunk}
use Rattle.checksum_table.specs.Places.{IsEndOf}
use Rattle.checksum_table.proofs.OrderLemmas.{less_is, each_at}

-- of an entry and one behind it
below_at : (entry : CheckEntry) (entries : List CheckEntry) (j : ℕ) (d : CheckEntry) → IsByPlace (entry ∷ entries) → j < length entries
    → (entry.table < (get_or entries j d).table) ⊎ ((entry.table ≡ (get_or entries j d).table) × (entry.chunk < (get_or entries j d).chunk))
below_at entry entries j d sorted within =
    less_is entry.table entry.chunk (get_or entries j d).table (get_or entries j d).chunk
    (each_at (λ (other : CheckEntry). place_cmp entry.table entry.chunk other ≡ Less) entries j d sorted.0 within)

at_most : (a b c d : ℕ) → (a < b) ⊎ ((a ≡ b) × (c < d)) → a ≤ b
at_most a b c d h = grind arith

pub tables_rise : (entries : List CheckEntry) → IsByPlace entries → IsNonDecreasingBy (λ (entry : CheckEntry). entry.table) entries
tables_rise [] sorted i j d le within = absurd (omega arith)
tables_rise (entry ∷ entries) sorted zero zero d le within = omega arith
tables_rise (entry ∷ entries) sorted zero (suc j) d le within =
    at_most entry.table (get_or entries j d).table entry.chunk (get_or entries j d).chunk (below_at entry entries j d sorted (omega arith))
tables_rise (entry ∷ entries) sorted (suc i) zero d le within = absurd (omega arith)
tables_rise (entry ∷ entries) sorted (suc i) (suc j) d le within = tables_rise entries sorted.1 i j d (omega arith) (omega arith)

none_step : (table : ℕ) (entry : CheckEntry) (rest : ℕ) → entry.table ≢ table → rest ≡ 0 → cond (entry.table == table) (max entry.chunk rest) rest ≡ 0
none_step table entry rest other none = grind (arith, nat_tests)

-- a table with no entry
last_none : (table : ℕ) (entries : List CheckEntry) (d : CheckEntry) → ((k : ℕ) → k < length entries → (get_or entries k d).table ≢ table) → last_chunk table entries ≡ 0
last_none table [] d others = refl
last_none table (entry ∷ entries) d others =
    none_step table entry (last_chunk table entries) (others 0 (omega arith)) (last_none table entries d (λ k w. others (suc k) (omega arith)))

there_step : (table : ℕ) (entry : CheckEntry) (rest : ℕ) → entry.table ≡ table → rest ≡ 0 → cond (entry.table == table) (max entry.chunk rest) rest ≡ entry.chunk
there_step table entry rest there none = grind (arith, nat_tests)

before_step : (table : ℕ) (entry last : CheckEntry) (rest : ℕ) → last.table ≡ table → rest ≡ last.chunk → (entry.table < last.table) ⊎ ((entry.table ≡ last.table) × (entry.chunk < last.chunk))
    → cond (entry.table == table) (max entry.chunk rest) rest ≡ last.chunk
before_step table entry last rest there is below = grind (arith, nat_tests)

-- the table's last entry has its last chunk
last_there : (table : ℕ) (entries : List CheckEntry) (j : ℕ) (d : CheckEntry) → IsByPlace entries → j < length entries → (get_or entries j d).table ≡ table
    → ((k : ℕ) → j < k → k < length entries → (get_or entries k d).table ≢ table) → last_chunk table entries ≡ (get_or entries j d).chunk
last_there table [] j d sorted within there others = absurd (omega arith)
last_there table (entry ∷ entries) zero d sorted within there others =
    there_step table entry (last_chunk table entries) there (last_none table entries d (λ k w. others (suc k) (omega arith) (omega arith)))
last_there table (entry ∷ entries) (suc j) d sorted within there others =
    before_step table entry (get_or entries j d) (last_chunk table entries) there
    (last_there table entries j d sorted.1 (omega arith) there (λ k h w. others (suc k) (omega arith) (omega arith)))
    (below_at entry entries j d sorted (omega arith))

later : (a b : ℕ) → a < b → b ≢ a
later a b h = λ e. omega arith

end_first : (table : ℕ) (entries : List CheckEntry) → IsEndOf table entries 0 → last_chunk table entries ≡ 0
end_first table [] end = refl
end_first table (entry ∷ entries) end = last_none table (entry ∷ entries) entry (λ k w. later table (get_or (entry ∷ entries) k entry).table (end.behind k entry (omega arith) w))

pub end_at_start : (table : ℕ) (entries : List CheckEntry) (i : ℕ) → IsEndOf table entries i → i ≡ 0 → last_chunk table entries ≡ 0
end_at_start table entries i end none = end_first table entries (subst (IsEndOf table entries) none end)

pub end_behind_other : (table : ℕ) (entries : List CheckEntry) (i : ℕ) (d : CheckEntry) → IsByPlace entries → IsEndOf table entries i → i ≢ 0 → (get_or entries (i - 1) d).table ≢ table
    → last_chunk table entries ≡ 0
end_behind_other table entries i d sorted end some other =
    let within : i ≤ length entries = end.within in
    last_none table entries d (λ k w.
    let rise = tables_rise entries sorted k (i - 1) d in
    let most : (get_or entries (i - 1) d).table ≤ table = end.before (i - 1) d (omega arith) in
    grind (arith, rise, most, end.behind k d))

pub end_behind_last : (table : ℕ) (entries : List CheckEntry) (i : ℕ) (d : CheckEntry) → IsByPlace entries → IsEndOf table entries i → i ≢ 0 → (get_or entries (i - 1) d).table ≡ table
    → last_chunk table entries ≡ (get_or entries (i - 1) d).chunk
end_behind_last table entries i d sorted end some there =
    let within : i ≤ length entries = end.within in
    last_there table entries (i - 1) d sorted (omega arith) there (λ k h w. later table (get_or entries k d).table (end.behind k d (omega arith) w))

-- no chunk with a row is greater
greatest_step : (table chunk : ℕ) (row : CheckRow) (entry : CheckEntry) (entries : List CheckEntry) → (check_at table chunk entries ≡ Some row → chunk ≤ last_chunk table entries)
    → check_at table chunk (entry ∷ entries) ≡ Some row → chunk ≤ last_chunk table (entry ∷ entries)
greatest_step table chunk row entry entries more there = grind (arith, nat_tests)

pub last_greatest : (table chunk : ℕ) (row : CheckRow) (entries : List CheckEntry) → check_at table chunk entries ≡ Some row → chunk ≤ last_chunk table entries
last_greatest table chunk row [] there = absurd (cc)
last_greatest table chunk row (entry ∷ entries) there = greatest_step table chunk row entry entries (last_greatest table chunk row entries) there

-- the last chunk of a table has a row, unless it is 0
positive_step : (table : ℕ) (entry : CheckEntry) (entries : List CheckEntry)
    → (0 < last_chunk table entries → is_some (check_at table (last_chunk table entries) entries) ≡ true)
    → 0 < last_chunk table (entry ∷ entries) → is_some (check_at table (last_chunk table (entry ∷ entries)) (entry ∷ entries)) ≡ true
positive_step table entry entries more some = grind (arith, nat_tests)

positive : (table : ℕ) (entries : List CheckEntry) → 0 < last_chunk table entries → is_some (check_at table (last_chunk table entries) entries) ≡ true
positive table [] some = absurd (omega arith)
positive table (entry ∷ entries) some = positive_step table entry entries (positive table entries) some

some_is : (o : Option CheckRow) → is_some o ≡ true → (row : CheckRow) × (o ≡ Some row)
some_is None e = cc
some_is (Some row) e = (row, refl)

stands_at : (table chunk : ℕ) (row : CheckRow) (entries : List CheckEntry) (last : ℕ) → last_chunk table entries ≡ last → chunk ≤ last → check_at table chunk entries ≡ Some row
    → (found : CheckRow) × (check_at table (last_chunk table entries) entries ≡ Some found)
stands_at table chunk row entries zero is most there =
    let first : last_chunk table entries ≡ chunk = omega arith in
    (row, ap (λ c. check_at table c entries) first ∙ there)
stands_at table chunk row entries (suc n) is most there = some_is (check_at table (last_chunk table entries) entries) (positive table entries (omega arith))

pub last_stands : (table chunk : ℕ) (row : CheckRow) (entries : List CheckEntry) → check_at table chunk entries ≡ Some row
    → (last : CheckRow) × (check_at table (last_chunk table entries) entries ≡ Some last)
last_stands table chunk row entries there = stands_at table chunk row entries (last_chunk table entries) refl (last_greatest table chunk row entries there) there

absent_at : (table : ℕ) (entries : List CheckEntry) (last : ℕ) → last_chunk table entries ≡ last → ((chunk : ℕ) → check_at table chunk entries ≡ None) → last ≡ 0
absent_at table entries zero is none = refl
absent_at table entries (suc n) is none =
    let some = positive table entries (omega arith) in
    let nothing : is_some (check_at table (last_chunk table entries) entries) ≡ false = ap is_some (none (last_chunk table entries)) in
    cc

pub last_absent : (table : ℕ) (entries : List CheckEntry) → ((chunk : ℕ) → check_at table chunk entries ≡ None) → last_chunk table entries ≡ 0
last_absent table entries none = absent_at table entries (last_chunk table entries) refl none
