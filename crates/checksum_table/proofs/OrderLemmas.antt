-- The order of places, and that changes keep check rows by place.
use Rattle.std.proofs.Common.{◌≡◌, ◌∙◌, ◌⊎◌, ℕ, zero, suc, ◌<◌, ◌==◌, Bool, true, false, not, cond, filter, List, [], ◌∷◌, length, get_or, refl, ap, arith}
use Rattle.std.proofs.lemmas.Bool.Decides.{nat_tests}
use Rattle.std.specs.List.{AllByRecursion}
use Rattle.std.specs.Ordering.{nat_cmp, ordering_reverse, ordering_then, match_ordering, on, then_cmp}
use Rattle.std.specs.Cmp.{IsTotalOrder, nat_cmp_total, on_total, then_total}
use Rattle.std.specs.FinMap.{nat_cmp-IsAntisymmetric}
use Rattle.std.specs.declared.cmp.Ordering.{Ordering}
use Rattle.std.specs.declared.cmp.Ordering.TheVariants.{Less, Equal, Greater}
use Rattle.row_types.specs.declared.digests.Digest.{Digest}
use Rattle.checksum_table.specs.declared.check_rows.CheckRow.{CheckRow}
use Rattle.checksum_table.specs.declared.check_rows.CheckEntry.{CheckEntry}
use Rattle.checksum_table.specs.Checks.{place_cmp, is_for, IsBelowEach, IsByPlace, with_check, with_absent, with_master, without_table, mastered}

abbrev pub Place : Type 0
Place = ℕ × ℕ

abbrev pub pair_cmp : Place → Place → Ordering
pair_cmp = then_cmp (on (λ (p : Place). p.0) nat_cmp) (on (λ (p : Place). p.1) nat_cmp)

abbrev pub place : CheckEntry → Place
place entry = (entry.table, entry.chunk)

pub pairs_total : IsTotalOrder pair_cmp
pairs_total = then_total (on_total (λ (p : Place). p.0) nat_cmp_total) (on_total (λ (p : Place). p.1) nat_cmp_total)

pub turn_less : (p q : Place) → pair_cmp p q ≡ Less → pair_cmp q p ≡ Greater
turn_less p q less = pairs_total.antisymm q p ∙ ap ordering_reverse less

pub turn_greater : (p q : Place) → pair_cmp p q ≡ Greater → pair_cmp q p ≡ Less
turn_greater p q greater = pairs_total.antisymm q p ∙ ap ordering_reverse greater

pub turn_equal : (p q : Place) → pair_cmp p q ≡ Equal → pair_cmp q p ≡ Equal
turn_equal p q equal = pairs_total.antisymm q p ∙ ap ordering_reverse equal

both_equal : (o u : Ordering) → ordering_then o u ≡ Equal → (o ≡ Equal) × (u ≡ Equal)
both_equal Less u e = cc
both_equal Equal u e = (refl, e)
both_equal Greater u e = cc

-- places that tie are equal
pub tied : (a b c d : ℕ) → pair_cmp (a, b) (c, d) ≡ Equal → (a ≡ c) × (b ≡ d)
tied a b c d e =
    let both = both_equal (nat_cmp a c) (nat_cmp b d) e in
    (nat_cmp-IsAntisymmetric a c both.0, nat_cmp-IsAntisymmetric b d both.1)

pub less_is : (a b c d : ℕ) → pair_cmp (a, b) (c, d) ≡ Less → (a < c) ⊎ ((a ≡ c) × (b < d))
less_is a b c d e = grind (arith, nat_tests)

pub less_is_other : (table chunk : ℕ) (entry : CheckEntry) → place_cmp table chunk entry ≡ Less → is_for table chunk entry ≡ false
less_is_other table chunk entry e = grind (arith, nat_tests)

pub greater_is_other : (table chunk : ℕ) (entry : CheckEntry) → place_cmp table chunk entry ≡ Greater → is_for table chunk entry ≡ false
greater_is_other table chunk entry e = grind (arith, nat_tests)

pub equal_is_for : (table chunk : ℕ) (entry : CheckEntry) → place_cmp table chunk entry ≡ Equal → is_for table chunk entry ≡ true
equal_is_for table chunk entry e = let both = tied table chunk entry.table entry.chunk e in grind (arith, nat_tests, both.0, both.1)

pub each_at : (P : CheckEntry → Type 0) (entries : List CheckEntry) (k : ℕ) (d : CheckEntry) → AllByRecursion P entries → k < length entries → P (get_or entries k d)
each_at P [] k d each within = absurd (omega arith)
each_at P (entry ∷ entries) zero d each within = each.0
each_at P (entry ∷ entries) (suc k) d each within = each_at P entries k d each.1 (omega arith)

-- what is before a place, or at it, is before all that come after the place
pub each_behind : (p q : Place) (entries : List CheckEntry) → pair_cmp p q ≡ Less → IsBelowEach q.0 q.1 entries → IsBelowEach p.0 p.1 entries
each_behind p q [] less each = tt
each_behind p q (entry ∷ entries) less each = (pairs_total.trans p q (place entry) less each.0, each_behind p q entries less each.1)

each_same : (p q : Place) (entries : List CheckEntry) → pair_cmp p q ≡ Equal → IsBelowEach q.0 q.1 entries → IsBelowEach p.0 p.1 entries
each_same p q [] equal each = tt
each_same p q (entry ∷ entries) equal each = (pairs_total.congr p q (place entry) equal ∙ each.0, each_same p q entries equal each.1)

-- with a row
below_put_at : (o : Ordering) (a b : ℕ) (new entry : CheckEntry) (entries rest : List CheckEntry) → place_cmp a b new ≡ Less → IsBelowEach a b (entry ∷ entries)
    → IsBelowEach a b rest → IsBelowEach a b (match_ordering o (new ∷ entry ∷ entries) (new ∷ entries) (entry ∷ rest))
below_put_at Less a b new entry entries rest less each more = (less, each)
below_put_at Equal a b new entry entries rest less each more = (less, each.1)
below_put_at Greater a b new entry entries rest less each more = (each.0, more)

below_put : (a b table chunk : ℕ) (row : CheckRow) (entries : List CheckEntry) → pair_cmp (a, b) (table, chunk) ≡ Less → IsBelowEach a b entries → IsBelowEach a b (with_check table chunk row entries)
below_put a b table chunk row [] less each = (less, tt)
below_put a b table chunk row (entry ∷ entries) less each =
    below_put_at (place_cmp table chunk entry) a b (record { table = table; chunk = chunk; row = row }) entry entries (with_check table chunk row entries) less each
    (below_put a b table chunk row entries less each.1)

put_by_place_at : (o : Ordering) (new entry : CheckEntry) (entries rest : List CheckEntry) → place_cmp new.table new.chunk entry ≡ o → IsByPlace (entry ∷ entries)
    → (pair_cmp (place entry) (place new) ≡ Less → IsBelowEach entry.table entry.chunk rest) → IsByPlace rest
    → IsByPlace (match_ordering o (new ∷ entry ∷ entries) (new ∷ entries) (entry ∷ rest))
put_by_place_at Less new entry entries rest order sorted below more = ((order, each_behind (place new) (place entry) entries order sorted.0), sorted)
put_by_place_at Equal new entry entries rest order sorted below more = (each_same (place new) (place entry) entries order sorted.0, sorted.1)
put_by_place_at Greater new entry entries rest order sorted below more = (below (turn_greater (place new) (place entry) order), more)

pub put_by_place : (table chunk : ℕ) (row : CheckRow) (entries : List CheckEntry) → IsByPlace entries → IsByPlace (with_check table chunk row entries)
put_by_place table chunk row [] sorted = (tt, tt)
put_by_place table chunk row (entry ∷ entries) sorted =
    put_by_place_at (place_cmp table chunk entry) (record { table = table; chunk = chunk; row = row }) entry entries (with_check table chunk row entries) refl sorted
    (λ less. below_put entry.table entry.chunk table chunk row entries less sorted.0)
    (put_by_place table chunk row entries sorted.1)

-- with an entry where its chunk has none
below_absent_at : (o : Ordering) (a b : ℕ) (new entry : CheckEntry) (entries rest : List CheckEntry) → place_cmp a b new ≡ Less → IsBelowEach a b (entry ∷ entries)
    → IsBelowEach a b rest → IsBelowEach a b (match_ordering o (new ∷ entry ∷ entries) (entry ∷ entries) (entry ∷ rest))
below_absent_at Less a b new entry entries rest less each more = (less, each)
below_absent_at Equal a b new entry entries rest less each more = each
below_absent_at Greater a b new entry entries rest less each more = (each.0, more)

below_absent : (a b : ℕ) (new : CheckEntry) (entries : List CheckEntry) → place_cmp a b new ≡ Less → IsBelowEach a b entries → IsBelowEach a b (with_absent new entries)
below_absent a b new [] less each = (less, tt)
below_absent a b new (entry ∷ entries) less each =
    below_absent_at (place_cmp new.table new.chunk entry) a b new entry entries (with_absent new entries) less each (below_absent a b new entries less each.1)

absent_by_place_at : (o : Ordering) (new entry : CheckEntry) (entries rest : List CheckEntry) → place_cmp new.table new.chunk entry ≡ o → IsByPlace (entry ∷ entries)
    → (pair_cmp (place entry) (place new) ≡ Less → IsBelowEach entry.table entry.chunk rest) → IsByPlace rest
    → IsByPlace (match_ordering o (new ∷ entry ∷ entries) (entry ∷ entries) (entry ∷ rest))
absent_by_place_at Less new entry entries rest order sorted below more = ((order, each_behind (place new) (place entry) entries order sorted.0), sorted)
absent_by_place_at Equal new entry entries rest order sorted below more = sorted
absent_by_place_at Greater new entry entries rest order sorted below more = (below (turn_greater (place new) (place entry) order), more)

pub absent_by_place : (new : CheckEntry) (entries : List CheckEntry) → IsByPlace entries → IsByPlace (with_absent new entries)
absent_by_place new [] sorted = (tt, tt)
absent_by_place new (entry ∷ entries) sorted =
    absent_by_place_at (place_cmp new.table new.chunk entry) new entry entries (with_absent new entries) refl sorted
    (λ less. below_absent entry.table entry.chunk new entries less sorted.0)
    (absent_by_place new entries sorted.1)

-- with the source's checksum
below_master_at : (here : Bool) (a b : ℕ) (master : Digest) (entry : CheckEntry) (entries rest : List CheckEntry) → IsBelowEach a b (entry ∷ entries) → IsBelowEach a b rest
    → IsBelowEach a b (cond here (record entry { row = mastered entry.row master } ∷ entries) (entry ∷ rest))
below_master_at true a b master entry entries rest each more = each
below_master_at false a b master entry entries rest each more = (each.0, more)

below_master : (a b table chunk : ℕ) (master : Digest) (entries : List CheckEntry) → IsBelowEach a b entries → IsBelowEach a b (with_master table chunk master entries)
below_master a b table chunk master [] each = tt
below_master a b table chunk master (entry ∷ entries) each =
    below_master_at (is_for table chunk entry) a b master entry entries (with_master table chunk master entries) each (below_master a b table chunk master entries each.1)

master_by_place_at : (here : Bool) (master : Digest) (entry : CheckEntry) (entries rest : List CheckEntry) → IsByPlace (entry ∷ entries) → IsByPlace (entry ∷ rest)
    → IsByPlace (cond here (record entry { row = mastered entry.row master } ∷ entries) (entry ∷ rest))
master_by_place_at true master entry entries rest sorted more = sorted
master_by_place_at false master entry entries rest sorted more = more

pub master_by_place : (table chunk : ℕ) (master : Digest) (entries : List CheckEntry) → IsByPlace entries → IsByPlace (with_master table chunk master entries)
master_by_place table chunk master [] sorted = tt
master_by_place table chunk master (entry ∷ entries) sorted =
    master_by_place_at (is_for table chunk entry) master entry entries (with_master table chunk master entries) sorted
    (below_master entry.table entry.chunk table chunk master entries sorted.0, master_by_place table chunk master entries sorted.1)

-- without some entries
kept_at : (P : CheckEntry → Type 0) (kept : Bool) (entry : CheckEntry) (rest : List CheckEntry) → P entry → AllByRecursion P rest → AllByRecursion P (cond kept (entry ∷ rest) rest)
kept_at P true entry rest here more = (here, more)
kept_at P false entry rest here more = more

kept : (P : CheckEntry → Type 0) (test : CheckEntry → Bool) (entries : List CheckEntry) → AllByRecursion P entries → AllByRecursion P (filter test entries)
kept P test [] each = tt
kept P test (entry ∷ entries) each = kept_at P (test entry) entry (filter test entries) each.0 (kept P test entries each.1)

filter_by_place_at : (kept : Bool) (entry : CheckEntry) (rest : List CheckEntry) → IsByPlace (entry ∷ rest) → IsByPlace (cond kept (entry ∷ rest) rest)
filter_by_place_at true entry rest sorted = sorted
filter_by_place_at false entry rest sorted = sorted.1

filter_by_place : (test : CheckEntry → Bool) (entries : List CheckEntry) → IsByPlace entries → IsByPlace (filter test entries)
filter_by_place test [] sorted = tt
filter_by_place test (entry ∷ entries) sorted =
    filter_by_place_at (test entry) entry (filter test entries)
    (kept (λ (other : CheckEntry). place_cmp entry.table entry.chunk other ≡ Less) test entries sorted.0, filter_by_place test entries sorted.1)

pub forget_by_place : (table : ℕ) (entries : List CheckEntry) → IsByPlace entries → IsByPlace (without_table table entries)
forget_by_place table entries sorted = filter_by_place (λ (entry : CheckEntry). not (entry.table == table)) entries sorted

own_reverse : (o : Ordering) → o ≡ ordering_reverse o → o ≡ Equal
own_reverse Less e = cc
own_reverse Equal e = refl
own_reverse Greater e = cc

-- a place ties with itself
pub own_place : (table chunk : ℕ) → pair_cmp (table, chunk) (table, chunk) ≡ Equal
own_place table chunk = own_reverse (pair_cmp (table, chunk) (table, chunk)) (pairs_total.antisymm (table, chunk) (table, chunk))

pub is_for_place : (table chunk : ℕ) (entry : CheckEntry) → is_for table chunk entry ≡ true → (table ≡ entry.table) × (chunk ≡ entry.chunk)
is_for_place table chunk entry here = grind (arith, nat_tests)
