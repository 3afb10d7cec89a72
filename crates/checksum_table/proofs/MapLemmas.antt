-- Check rows by place that agree at each chunk are the same.
use Rattle.std.proofs.Common.{◌≡◌, ◌∙◌, ℕ, Bool, true, false, cond, List, [], ◌∷◌, Option, Some, None, refl, ap, sym, subst}
use Rattle.std.specs.declared.cmp.Ordering.{Ordering}
use Rattle.std.specs.declared.cmp.Ordering.TheVariants.{Less, Equal, Greater}
use Rattle.checksum_table.specs.declared.check_rows.CheckRow.{CheckRow}
use Rattle.checksum_table.specs.declared.check_rows.CheckEntry.{CheckEntry}
use Rattle.checksum_table.specs.Checks.{is_for, IsBelowEach, IsByPlace, check_at}
use Rattle.checksum_table.proofs.OrderLemmas.{pair_cmp, place, turn_greater, tied, less_is_other, equal_is_for, each_behind, own_place, is_for_place}

-- a chunk before all entries has no row
below_none : (table chunk : ℕ) (entries : List CheckEntry) → IsBelowEach table chunk entries → check_at table chunk entries ≡ None
below_none table chunk [] each = refl
below_none table chunk (entry ∷ entries) each =
    ap (λ b. cond b (Some entry.row) (check_at table chunk entries)) (less_is_other table chunk entry each.0) ∙ below_none table chunk entries each.1

here_row : (entry : CheckEntry) (entries : List CheckEntry) → check_at entry.table entry.chunk (entry ∷ entries) ≡ Some entry.row
here_row entry entries = ap (λ b. cond b (Some entry.row) (check_at entry.table entry.chunk entries)) (equal_is_for entry.table entry.chunk entry (own_place entry.table entry.chunk))

-- the first entry of one is at a place before all of the other
first_before : (x : CheckEntry) (xs others : List CheckEntry) → IsBelowEach x.table x.chunk others → check_at x.table x.chunk (x ∷ xs) ≡ check_at x.table x.chunk others → ⊥
first_before x xs others each same =
    let none : Some x.row ≡ None = sym (here_row x xs) ∙ same ∙ below_none x.table x.chunk others each in
    cc

first_same : (x y : CheckEntry) (xs ys : List CheckEntry) → (x.table ≡ y.table) × (x.chunk ≡ y.chunk) → check_at x.table x.chunk (x ∷ xs) ≡ check_at x.table x.chunk (y ∷ ys) → x ≡ y
first_same x y xs ys places same =
    let there : check_at x.table x.chunk (y ∷ ys) ≡ check_at y.table y.chunk (y ∷ ys) =
    ap (λ t. check_at t x.chunk (y ∷ ys)) places.0 ∙ ap (λ c. check_at y.table c (y ∷ ys)) places.1 in
    let rows : Some x.row ≡ Some y.row = sym (here_row x xs) ∙ same ∙ there ∙ here_row y ys in
    let row : x.row ≡ y.row = cc in
    λ i. record { table = places.0 i; chunk = places.1 i; row = row i }

-- behind equal first entries
behind_at : (here : Bool) (row : CheckRow) (ours theirs : Option CheckRow) → (here ≡ true → (ours ≡ None) × (theirs ≡ None)) → cond here (Some row) ours ≡ cond here (Some row) theirs → ours ≡ theirs
behind_at true row ours theirs none same = (none refl).0 ∙ sym (none refl).1
behind_at false row ours theirs none same = same

here_none : (table chunk : ℕ) (entry : CheckEntry) (entries : List CheckEntry) → is_for table chunk entry ≡ true → IsBelowEach entry.table entry.chunk entries → check_at table chunk entries ≡ None
here_none table chunk entry entries here each =
    let places : (table ≡ entry.table) × (chunk ≡ entry.chunk) = is_for_place table chunk entry here in
    ap (λ t. check_at t chunk entries) places.0 ∙ ap (λ c. check_at entry.table c entries) places.1 ∙ below_none entry.table entry.chunk entries each

behind_same : (entry : CheckEntry) (xs ys : List CheckEntry) → IsBelowEach entry.table entry.chunk xs → IsBelowEach entry.table entry.chunk ys
    → ((table chunk : ℕ) → check_at table chunk (entry ∷ xs) ≡ check_at table chunk (entry ∷ ys)) → (table chunk : ℕ) → check_at table chunk xs ≡ check_at table chunk ys
behind_same entry xs ys ours theirs same table chunk =
    behind_at (is_for table chunk entry) entry.row (check_at table chunk xs) (check_at table chunk ys)
    (λ here. (here_none table chunk entry xs here ours, here_none table chunk entry ys here theirs))
    (same table chunk)

abbrev Agree : List CheckEntry → List CheckEntry → Type 0
Agree xs ys = (table chunk : ℕ) → check_at table chunk xs ≡ check_at table chunk ys

same_step : (o : Ordering) (x y : CheckEntry) (xs ys : List CheckEntry) → pair_cmp (place x) (place y) ≡ o → IsByPlace (x ∷ xs) → IsByPlace (y ∷ ys) → Agree (x ∷ xs) (y ∷ ys)
    → (Agree xs ys → xs ≡ ys) → ◌≡◌ {A = List CheckEntry} (x ∷ xs) (y ∷ ys)
same_step Less x y xs ys order ours theirs same more =
    absurd (first_before x xs (y ∷ ys) (order, each_behind (place x) (place y) ys order theirs.0) (same x.table x.chunk))
same_step Greater x y xs ys order ours theirs same more =
    let turned = turn_greater (place x) (place y) order in
    absurd (first_before y ys (x ∷ xs) (turned, each_behind (place y) (place x) xs turned ours.0) (sym (same y.table y.chunk)))
same_step Equal x y xs ys order ours theirs same more =
    let first : x ≡ y = first_same x y xs ys (tied x.table x.chunk y.table y.chunk order) (same x.table x.chunk) in
    let below : IsBelowEach x.table x.chunk ys = subst (λ (e : CheckEntry). IsBelowEach e.table e.chunk ys) (sym first) theirs.0 in
    let agree : Agree (x ∷ xs) (x ∷ ys) = λ table chunk. same table chunk ∙ ap (λ (e : CheckEntry). check_at table chunk (e ∷ ys)) (sym first) in
    ap (λ (e : CheckEntry). e ∷ xs) first ∙ ap (λ (rest : List CheckEntry). y ∷ rest) (more (behind_same x xs ys ours.0 below agree))

pub same_rows : (checks others : List CheckEntry) → IsByPlace checks → IsByPlace others → ((table chunk : ℕ) → check_at table chunk checks ≡ check_at table chunk others) → checks ≡ others
same_rows [] [] ours theirs same = refl
same_rows [] (y ∷ ys) ours theirs same = let none : None ≡ Some y.row = same y.table y.chunk ∙ here_row y ys in cc
same_rows (x ∷ xs) [] ours theirs same = let none : None ≡ Some x.row = sym (same x.table x.chunk) ∙ here_row x xs in cc
same_rows (x ∷ xs) (y ∷ ys) ours theirs same =
    same_step (pair_cmp (place x) (place y)) x y xs ys refl ours theirs same (same_rows xs ys ours.1 theirs.1)
