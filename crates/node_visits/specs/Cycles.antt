-- Owners on a cycle of waits.
use Rattle.std.specs.Prelude.{ℕ, map, List}
use Rattle.lock_table.specs.declared.wants.Owner.{Owner}

abbrev pub numbers_of : List Owner → List ℕ
numbers_of = map (λ (owner : Owner). owner.0)
