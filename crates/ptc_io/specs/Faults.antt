-- What a count of faults does over a call that may fail.
use Rattle.std.specs.Prelude.{◌≡◌, ℕ, ◌+◌, ◌<◌, ◌≤◌, Result, OnErr, MatchResult}

-- a fault more has been counted
abbrev pub HasRisen : ℕ → ℕ → Type 0
HasRisen old new = old < new

-- the count of faults never falls, and a call that fails has raised it
pub record HasCause {T E : Type 0} (old new : ℕ) (r : Result T E) : Type 0 where
  pub never_falls : old ≤ new
  pub failed : OnErr r (HasRisen old new)

-- a call that fails is one fault more, and every other call leaves the count
abbrev pub CountsFaults : {T E : Type 0} → ℕ → ℕ → Result T E → Type 0
CountsFaults old new r = MatchResult r (λ _. new ≡ old) (λ _. new ≡ old + 1)
