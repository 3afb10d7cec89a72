-- The check row of a chunk after each change of the check rows.
use Rattle.std.proofs.Common.{◌≡◌, ◌≢◌, ◌⊎◌, ◌↔◌, ℕ, ◌==◌, ◌&&◌, cond, List, [], ◌∷◌, None, Some, option_map, IsTrue, refl, ap, arith, Decides}
use Rattle.std.proofs.lemmas.Bool.Decides.{nat_tests, Decides-and, Decides-eqb}
use Rattle.std.proofs.lemmas.Slice.Eq.{bytes_eq-Decides}
use Rattle.std.specs.Str.{bytes_eq}
use Rattle.row_types.specs.declared.digests.Digest.{Digest}
use Rattle.checksum_table.specs.declared.check_rows.CheckRow.{CheckRow}
use Rattle.checksum_table.specs.declared.check_rows.CheckEntry.{CheckEntry}
use Rattle.checksum_table.specs.Checks.{check_at, with_check, with_master, without_table, mastered, digest_eq}

-- the row that is put in stands at its chunk, and the other chunks keep theirs
check_at-with_check_step : (table chunk t c : ℕ) (row : CheckRow) (entry : CheckEntry) (entries : List CheckEntry)
    → check_at table chunk (with_check t c row entries) ≡ cond ((table == t) && (chunk == c)) (Some row) (check_at table chunk entries)
    → check_at table chunk (with_check t c row (entry ∷ entries)) ≡ cond ((table == t) && (chunk == c)) (Some row) (check_at table chunk (entry ∷ entries))
check_at-with_check_step table chunk t c row entry entries h = grind (arith, nat_tests)

pub check_at-with_check : (table chunk t c : ℕ) (row : CheckRow) (entries : List CheckEntry)
    → check_at table chunk (with_check t c row entries) ≡ cond ((table == t) && (chunk == c)) (Some row) (check_at table chunk entries)
check_at-with_check table chunk t c row [] = refl
check_at-with_check table chunk t c row (entry ∷ entries) = check_at-with_check_step table chunk t c row entry entries (check_at-with_check table chunk t c row entries)

-- the source's checksum is put into the chunk's row where there is one
check_at-with_master_step : (table chunk t c : ℕ) (master : Digest) (entry : CheckEntry) (entries : List CheckEntry)
    → check_at table chunk (with_master t c master entries) ≡ cond ((table == t) && (chunk == c)) (option_map (λ row. mastered row master) (check_at table chunk entries)) (check_at table chunk entries)
    → check_at table chunk (with_master t c master (entry ∷ entries)) ≡ cond ((table == t) && (chunk == c)) (option_map (λ row. mastered row master) (check_at table chunk (entry ∷ entries))) (check_at table chunk (entry ∷ entries))
check_at-with_master_step table chunk t c master entry entries h = grind (arith, nat_tests)

pub check_at-with_master : (table chunk t c : ℕ) (master : Digest) (entries : List CheckEntry)
    → check_at table chunk (with_master t c master entries) ≡ cond ((table == t) && (chunk == c)) (option_map (λ row. mastered row master) (check_at table chunk entries)) (check_at table chunk entries)
check_at-with_master table chunk t c master [] = grind arith
check_at-with_master table chunk t c master (entry ∷ entries) = check_at-with_master_step table chunk t c master entry entries (check_at-with_master table chunk t c master entries)

-- a table whose rows are taken out has none, and the other tables keep theirs
check_at-without_table_step : (table chunk t : ℕ) (entry : CheckEntry) (entries : List CheckEntry)
    → check_at table chunk (without_table t entries) ≡ cond (table == t) None (check_at table chunk entries)
    → check_at table chunk (without_table t (entry ∷ entries)) ≡ cond (table == t) None (check_at table chunk (entry ∷ entries))
check_at-without_table_step table chunk t entry entries h = grind (arith, nat_tests)

pub check_at-without_table : (table chunk t : ℕ) (entries : List CheckEntry)
    → check_at table chunk (without_table t entries) ≡ cond (table == t) None (check_at table chunk entries)
check_at-without_table table chunk t [] = grind arith
check_at-without_table table chunk t (entry ∷ entries) = check_at-without_table_step table chunk t entry entries (check_at-without_table table chunk t entries)

-- digest_eq tests whether two digests are equal
pub digest_eq-Decides : (d e : Digest) → Decides (digest_eq d e) (d ≡ e)
digest_eq-Decides d e =
    let both = Decides-and (d.count == e.count) (bytes_eq d.xor e.xor) (Decides-eqb d.count e.count) (bytes_eq-Decides d.xor e.xor) in
    ((λ t. let q = both.0 t in λ i. record { count = q.0 i; xor = q.1 i }), λ q. both.1 (ap (λ (x : Digest). x.count) q, ap (λ (x : Digest). x.xor) q))

pub digest_eq-IsTrue : (d e : Digest) → IsTrue (digest_eq d e) ↔ (d ≡ e)
digest_eq-IsTrue d e = digest_eq-Decides d e

-- the look-ups at the chunk itself and at another
pub check_at-with_check_same : (table chunk : ℕ) (row : CheckRow) (entries : List CheckEntry) → check_at table chunk (with_check table chunk row entries) ≡ Some row
check_at-with_check_same table chunk row entries =
    let e = check_at-with_check table chunk table chunk row entries in
    grind (arith, nat_tests)

pub check_at-with_check_other : (table chunk t c : ℕ) (row : CheckRow) (entries : List CheckEntry)
    → (table ≢ t) ⊎ (chunk ≢ c)
    → check_at table chunk (with_check t c row entries) ≡ check_at table chunk entries
check_at-with_check_other table chunk t c row entries h =
    let e = check_at-with_check table chunk t c row entries in
    grind (arith, nat_tests)

pub check_at-with_master_same : (table chunk : ℕ) (master : Digest) (entries : List CheckEntry)
    → check_at table chunk (with_master table chunk master entries) ≡ option_map (λ row. mastered row master) (check_at table chunk entries)
check_at-with_master_same table chunk master entries =
    let e = check_at-with_master table chunk table chunk master entries in
    grind (arith, nat_tests)

pub check_at-with_master_other : (table chunk t c : ℕ) (master : Digest) (entries : List CheckEntry)
    → (table ≢ t) ⊎ (chunk ≢ c)
    → check_at table chunk (with_master t c master entries) ≡ check_at table chunk entries
check_at-with_master_other table chunk t c master entries h =
    let e = check_at-with_master table chunk t c master entries in
    grind (arith, nat_tests)

pub check_at-without_table_same : (table chunk : ℕ) (entries : List CheckEntry) → check_at table chunk (without_table table entries) ≡ None
check_at-without_table_same table chunk entries =
    let e = check_at-without_table table chunk table entries in
    grind (arith, nat_tests)

pub check_at-without_table_other : (table chunk t : ℕ) (entries : List CheckEntry)
    → table ≢ t
    → check_at table chunk (without_table t entries) ≡ check_at table chunk entries
check_at-without_table_other table chunk t entries h =
    let e = check_at-without_table table chunk t entries in
    grind (arith, nat_tests)
