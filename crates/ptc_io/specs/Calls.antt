-- Calls that are told to fail, by their numbers from 1.
use Rattle.std.specs.Prelude.{ℕ, ◌+◌, ◌-◌, ◌^◌, Bool, ◌&&◌, ◌==◌, nat_lt, min, List}
use Rattle.std.specs.List.{list_any}

-- whether the call after this many is listed; a call past the greatest `u64` never is
abbrev pub fails_next : ℕ → List ℕ → Bool
fails_next made failing = nat_lt made (2 ^ 64 - 1) && list_any (λ n. n == made + 1) failing

-- the number of calls after one more, which stops at the greatest `u64`
abbrev pub one_more : ℕ → ℕ
one_more made = min (made + 1) (2 ^ 64 - 1)
