-- What contracts see of a source and a sink over memory.
use Rattle.std.specs.Prelude.{◌≡◌, ℕ, List}
use Rattle.ptc_io.specs.Calls.{one_more}

pub record MemoryInput : Type 0 where
  pub bytes : List ℕ
  pub made : ℕ
  pub failing : List ℕ
  pub faults : ℕ

pub record MemoryOutput : Type 0 where
  pub bytes : List ℕ
  pub most : ℕ
  pub made : ℕ
  pub failing : List ℕ
  pub faults : ℕ

-- one call more of the source was counted
pub record CountsRead (old new : MemoryInput) : Type 0 where
  pub counted : new.made ≡ one_more old.made
  pub listed : new.failing ≡ old.failing

-- one call more of the sink was counted
pub record CountsWrite (old new : MemoryOutput) : Type 0 where
  pub counted : new.made ≡ one_more old.made
  pub listed : new.failing ≡ old.failing
  pub kept : new.most ≡ old.most
