-- The lines of a text.
use Rattle.std.specs.Prelude.{◌≢◌, ℕ, List, [], ◌∷◌, ◌==◌, if◌then◌else◌}
use Rattle.std.specs.List.{AllByRecursion, onto_first}

-- this byte stands nowhere in the text
abbrev pub IsFreeOf : ℕ → List ℕ → Type 0
IsFreeOf stop = AllByRecursion (λ byte. byte ≢ stop)

-- the lines, each with its line feed; a last piece without one is a line too
unfoldable pub lines_of : List ℕ → List (List ℕ)
lines_of [] = []
lines_of (byte ∷ bytes) = if byte == 10 then (byte ∷ []) ∷ lines_of bytes else onto_first byte (lines_of bytes)
