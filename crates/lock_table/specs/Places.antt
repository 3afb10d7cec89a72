-- Where an owner's holdings stand among holdings by ascending owner.
use Rattle.std.specs.Prelude.{ℕ, ◌≡◌, ◌<◌, ◌≤◌, ◌++◌, List, length, slice_index_or}
use Rattle.std.specs.List.{AllByRecursion}
use Rattle.lock_table.specs.declared.wants.Holding.{Holding}
use Rattle.lock_table.specs.Locks.{IsByOwner}

-- the holdings up to there are those of lesser owners
pub record IsStartOf (owner : ℕ) (held : List Holding) (index : ℕ) : Type 0 where
  pub within : index ≤ length held
  pub before : (k : ℕ) (default : Holding) → k < index → (slice_index_or held k default).owner.0 < owner
  pub behind : (k : ℕ) (default : Holding) → index ≤ k → k < length held → owner ≤ (slice_index_or held k default).owner.0

-- the holdings up to there are those of the owner and of lesser ones
pub record IsEndOf (owner : ℕ) (held : List Holding) (index : ℕ) : Type 0 where
  pub within : index ≤ length held
  pub before : (k : ℕ) (default : Holding) → k < index → (slice_index_or held k default).owner.0 ≤ owner
  pub behind : (k : ℕ) (default : Holding) → index ≤ k → k < length held → owner < (slice_index_or held k default).owner.0

-- the holdings of lesser owners and those of greater ones, with the owner's own between them
pub record AreOthers (owner : ℕ) (held lesser greater : List Holding) : Type 0 where
  pub own : List Holding
  pub whole : held ≡ lesser ++ (own ++ greater)
  pub by_owner : IsByOwner held
  pub lesser_by_owner : IsByOwner lesser
  pub greater_by_owner : IsByOwner greater
  pub owned : AllByRecursion (λ (holding : Holding). holding.owner.0 ≡ owner) own
