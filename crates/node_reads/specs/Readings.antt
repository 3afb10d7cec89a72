-- What open transactions have read, as the node keeps it.
use Rattle.std.specs.Prelude.{ℕ, suc, ◌≡◌, ◌<◌, ◌==◌, ◌++◌, Bool, cond, not, filter, List, [], ◌∷◌, Option, None, Some, vec_len, vec_capacity}
use Rattle.std.specs.Option.{option_to_list}
use Rattle.row_types.specs.declared.values.Value.{Value}
use Rattle.row_types.specs.declared.digests.Digest.{Digest}
use Rattle.row_digest.specs.Digest.{no_rows}
use Rattle.lock_table.specs.declared.wants.Owner.{Owner}
use Rattle.node_reads.specs.declared.gains.Gain.{Gain}
use Rattle.node_reads.specs.declared.gains.Gain.TheVariants.{Nothing, Row, Sum}
use Rattle.node_reads.specs.declared.readings.Reading.{Reading}

-- the reading of an owner
abbrev pub reading_of : ℕ → List Reading → Option Reading
reading_of owner [] = None
reading_of owner (reading ∷ readings) = cond (reading.owner.0 == owner) (Some reading) (reading_of owner readings)

-- its number in the list, or how many there are
abbrev pub place_of : ℕ → List Reading → ℕ
place_of owner [] = 0
place_of owner (reading ∷ readings) = cond (reading.owner.0 == owner) 0 (suc (place_of owner readings))

-- the readings without those of an owner
abbrev pub without_reading : ℕ → List Reading → List Reading
without_reading owner readings = filter (λ (reading : Reading). not (reading.owner.0 == owner)) readings

pub record IsUnread (owner : Owner) (reading : Reading) : Type 0 where
  pub whose : reading.owner ≡ owner
  pub rows : reading.rows.items ≡ []
  pub taken : reading.taken.items ≡ []
  pub sum : reading.sum ≡ no_rows
  pub sums : reading.sums.items ≡ []

-- there is capacity for a row and a checksum more
pub record HasRoom (reading : Reading) : Type 0 where
  pub taken : vec_len reading.taken < vec_capacity reading.taken
  pub sums : vec_len reading.sums < vec_capacity reading.sums

pub record HasRoomOf (owner : ℕ) (readings : List Reading) : Type 0 where
  pub reading : Reading
  pub found : reading_of owner readings ≡ Some reading
  pub room : HasRoom reading

-- the same is read, whatever the capacity
pub record IsSameReading (old new : Reading) : Type 0 where
  pub whose : new.owner ≡ old.owner
  pub rows : new.rows.items ≡ old.rows.items
  pub taken : new.taken.items ≡ old.taken.items
  pub sum : new.sum ≡ old.sum
  pub sums : new.sums.items ≡ old.sums.items

abbrev pub rows_grown : Gain → Bool → List (List Value) → List (List Value) → List (List Value)
rows_grown Nothing ends rows taken = rows
rows_grown (Row row) ends rows taken = cond ends (taken ++ option_to_list row) rows
rows_grown (Sum sum) ends rows taken = rows

abbrev pub taken_grown : Gain → Bool → List (List Value) → List (List Value)
taken_grown Nothing ends taken = taken
taken_grown (Row row) ends taken = cond ends [] (taken ++ option_to_list row)
taken_grown (Sum sum) ends taken = taken

abbrev pub sum_grown : Gain → Bool → Digest → Digest
sum_grown Nothing ends old = old
sum_grown (Row row) ends old = old
sum_grown (Sum sum) ends old = cond ends no_rows sum

abbrev pub sums_grown : Gain → Bool → List Digest → List Digest
sums_grown Nothing ends sums = sums
sums_grown (Row row) ends sums = sums
sums_grown (Sum sum) ends sums = cond ends (sums ++ sum ∷ []) sums

-- a visit adds its gain; where the statement ends the whole is kept
pub record IsGrown (gain : Gain) (ends : Bool) (old new : Reading) : Type 0 where
  pub whose : new.owner ≡ old.owner
  pub rows : new.rows.items ≡ rows_grown gain ends old.rows.items old.taken.items
  pub taken : new.taken.items ≡ taken_grown gain ends old.taken.items
  pub sum : new.sum ≡ sum_grown gain ends old.sum
  pub sums : new.sums.items ≡ sums_grown gain ends old.sums.items

abbrev pub IsSameIn : Option Reading → Option Reading → Type 0
IsSameIn None None = Unit {0}
IsSameIn None (Some new) = ⊥
IsSameIn (Some old) None = ⊥
IsSameIn (Some old) (Some new) = IsSameReading old new

-- each owner has read the same
abbrev pub AreSame : List Reading → List Reading → Type 0
AreSame old new = (owner : ℕ) → IsSameIn (reading_of owner old) (reading_of owner new)

pub record HasGrown (gain : Gain) (ends : Bool) (owner : ℕ) (before after : List Reading) : Type 0 where
  pub old : Reading
  pub new : Reading
  pub was : reading_of owner before ≡ Some old
  pub is : reading_of owner after ≡ Some new
  pub grown : IsGrown gain ends old new
