-- Where a chunk's check row stands among check rows by place, or would stand, and where a table's end.
use Rattle.std.specs.Prelude.{ℕ, ◌≡◌, ◌<◌, ◌≤◌, List, None, Some, length, slice_index_or, slice_set}
use Rattle.std.specs.List.{insert}
use Rattle.row_types.specs.declared.digests.Digest.{Digest}
use Rattle.checksum_table.specs.declared.check_rows.CheckRow.{CheckRow}
use Rattle.checksum_table.specs.declared.check_rows.CheckEntry.{CheckEntry}
use Rattle.checksum_table.specs.Checks.{check_at, with_check, with_absent, with_master, mastered}

-- the entry is where the chunk's row is looked up, and where a new row or the source's checksum goes
pub record IsFoundAt (table chunk : ℕ) (entries : List CheckEntry) (index : ℕ) : Type 0 where
  pub within : index < length entries
  pub row : (default : CheckEntry) → check_at table chunk entries ≡ Some (slice_index_or entries index default).row
  pub check : (row : CheckRow) → with_check table chunk row entries ≡ slice_set entries index (record { table = table; chunk = chunk; row = row })
  pub absent : (row : CheckRow) → with_absent (record { table = table; chunk = chunk; row = row }) entries ≡ entries
  pub mastered_there : (default : CheckEntry) (master : Digest)
      → with_master table chunk master entries
      ≡ slice_set entries index (record (slice_index_or entries index default) { row = mastered (slice_index_or entries index default).row master })

-- the chunk has no row, and a new one goes in before the entry there
pub record IsFreeAt (table chunk : ℕ) (entries : List CheckEntry) (index : ℕ) : Type 0 where
  pub within : index ≤ length entries
  pub row : check_at table chunk entries ≡ None
  pub check : (row : CheckRow) → with_check table chunk row entries ≡ insert entries index (record { table = table; chunk = chunk; row = row })
  pub absent : (row : CheckRow)
      → with_absent (record { table = table; chunk = chunk; row = row }) entries ≡ insert entries index (record { table = table; chunk = chunk; row = row })
  pub mastered_nowhere : (master : Digest) → with_master table chunk master entries ≡ entries

-- the entries up to there are those of the table and of the tables before it
pub record IsEndOf (table : ℕ) (entries : List CheckEntry) (index : ℕ) : Type 0 where
  pub within : index ≤ length entries
  pub before : (k : ℕ) (default : CheckEntry) → k < index → (slice_index_or entries k default).table ≤ table
  pub behind : (k : ℕ) (default : CheckEntry) → index ≤ k → k < length entries → table < (slice_index_or entries k default).table
