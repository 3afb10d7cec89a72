-- The end of a line.
use Rattle.std.specs.List.{AllByRecursion}
use Rattle.std.specs.Prelude.{◌≢◌, ℕ, ◌==◌, List, [], ◌∷◌, if◌then◌else◌}

-- without a CR at its end
abbrev pub without_return : List ℕ → List ℕ
without_return [] = []
without_return (byte ∷ []) = if byte == 13 then [] else byte ∷ []
without_return (byte ∷ next ∷ bytes) = byte ∷ without_return (next ∷ bytes)

-- this byte stands nowhere in the text
abbrev pub IsFreeOf : ℕ → List ℕ → Type 0
IsFreeOf stop = AllByRecursion (λ byte. byte ≢ stop)
