-- Check rows by table and chunk, and the verdict on one.
use Rattle.std.specs.Prelude.{ℕ, ◌≡◌, ◌==◌, Bool, cond, not, ◌&&◌, List, [], ◌∷◌, Option, None, Some, filter, max}
use Rattle.std.specs.List.{AllByRecursion}
use Rattle.std.specs.Ordering.{nat_cmp, ordering_then, match_ordering}
use Rattle.std.specs.Str.{bytes_eq}
use Rattle.std.specs.declared.cmp.Ordering.{Ordering}
use Rattle.std.specs.declared.cmp.Ordering.TheVariants.{Less}
use Rattle.row_types.specs.declared.digests.Digest.{Digest}
use Rattle.checksum_table.specs.declared.check_rows.CheckRow.{CheckRow}
use Rattle.checksum_table.specs.declared.check_rows.CheckEntry.{CheckEntry}
use Rattle.checksum_table.specs.declared.check_rows.Verdict.{Verdict}
use Rattle.checksum_table.specs.declared.check_rows.Verdict.TheVariants.{Same, Differ, Pending}

-- a chunk of a table against that of an entry
abbrev pub place_cmp : ℕ → ℕ → CheckEntry → Ordering
place_cmp table chunk entry = ordering_then (nat_cmp table entry.table) (nat_cmp chunk entry.chunk)

-- the chunk's place is before that of each entry
abbrev pub IsBelowEach : ℕ → ℕ → List CheckEntry → Type 0
IsBelowEach table chunk = AllByRecursion (λ (entry : CheckEntry). place_cmp table chunk entry ≡ Less)

-- entries by rising table and chunk, so that each chunk is there once
abbrev pub IsByPlace : List CheckEntry → Type 0
IsByPlace [] = Unit {0}
IsByPlace (entry ∷ entries) = IsBelowEach entry.table entry.chunk entries × IsByPlace entries

abbrev pub is_for : ℕ → ℕ → CheckEntry → Bool
is_for table chunk entry = (table == entry.table) && (chunk == entry.chunk)

-- the check row of the chunk, if there is one
abbrev pub check_at : ℕ → ℕ → List CheckEntry → Option CheckRow
check_at table chunk [] = None
check_at table chunk (entry ∷ entries) = cond (is_for table chunk entry) (Some entry.row) (check_at table chunk entries)

-- with this row as the chunk's, at its place by table and chunk
abbrev pub with_check : ℕ → ℕ → CheckRow → List CheckEntry → List CheckEntry
with_check table chunk row [] = record { table = table; chunk = chunk; row = row } ∷ []
with_check table chunk row (entry ∷ entries) =
    match_ordering (place_cmp table chunk entry)
    (record { table = table; chunk = chunk; row = row } ∷ entry ∷ entries)
    (record { table = table; chunk = chunk; row = row } ∷ entries)
    (entry ∷ with_check table chunk row entries)

-- with this entry where its chunk has none
abbrev pub with_absent : CheckEntry → List CheckEntry → List CheckEntry
with_absent new [] = new ∷ []
with_absent new (entry ∷ entries) =
    match_ordering (place_cmp new.table new.chunk entry)
    (new ∷ entry ∷ entries)
    (entry ∷ entries)
    (entry ∷ with_absent new entries)

abbrev pub mastered : CheckRow → Digest → CheckRow
mastered row master = record row { master = Some master }

-- with the source's checksum in the chunk's row, where that stands
abbrev pub with_master : ℕ → ℕ → Digest → List CheckEntry → List CheckEntry
with_master table chunk master [] = []
with_master table chunk master (entry ∷ entries) =
    cond (is_for table chunk entry)
    (record entry { row = mastered entry.row master } ∷ entries)
    (entry ∷ with_master table chunk master entries)

-- without the table's rows
abbrev pub without_table : ℕ → List CheckEntry → List CheckEntry
without_table table entries = filter (λ (entry : CheckEntry). not (entry.table == table)) entries

-- the greatest chunk of the table, 0 where there is none
abbrev pub last_chunk : ℕ → List CheckEntry → ℕ
last_chunk table [] = 0
last_chunk table (entry ∷ entries) = cond (entry.table == table) (max entry.chunk (last_chunk table entries)) (last_chunk table entries)

abbrev pub digest_eq : Digest → Digest → Bool
digest_eq d e = (d.count == e.count) && bytes_eq d.xor e.xor

abbrev pub verdict_against : Option Digest → Digest → Verdict
verdict_against None own = Pending
verdict_against (Some master) own = cond (digest_eq master own) Same Differ

abbrev pub verdict_of_row : CheckRow → Verdict
verdict_of_row row = verdict_against row.master row.this

-- pending without a row or the source's checksum, differ where that is not the row's own, else same
abbrev pub verdict_of : Option CheckRow → Verdict
verdict_of None = Pending
verdict_of (Some row) = verdict_of_row row
