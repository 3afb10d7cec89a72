-- What a read and a write do to the bytes that a source has left and a sink holds, where those are told.
-- `Loses`, `Appends` and the records over them also say that whether they are told stays as it was.
use Rattle.std.specs.Prelude.{◌≡◌, ℕ, ◌<◌, ◌≤◌, Option, List, [], ◌++◌, length, take, drop, IfSome}
use Rattle.std.specs.Option.{option_map}

-- the bytes left begin with bs, and lose them
abbrev pub Loses : Option (List ℕ) → Option (List ℕ) → List ℕ → Type 0
Loses old new bs = old ≡ option_map (λ rest. bs ++ rest) new

-- the bytes written grow by bs
abbrev pub Appends : Option (List ℕ) → Option (List ℕ) → List ℕ → Type 0
Appends old new bs = new ≡ option_map (λ held. held ++ bs) old

-- no byte is left, where the bytes left are told
abbrev pub IsAtEnd : Option (List ℕ) → Type 0
IsAtEnd known = IfSome known (λ rest. rest ≡ [])

-- the bytes written grow by a prefix of text that is not the whole
pub record AppendsFront (old new : Option (List ℕ)) (text : List ℕ) : Type 0 where
  pub size : ℕ
  pub is_front : size < length text
  pub appended : Appends old new (take size text)

-- bs are the bytes left, or the first n of them where there are more, and what follows them stays
pub record TakesUpTo (n : ℕ) (old new : Option (List ℕ)) (bs : List ℕ) : Type 0 where
  pub taken : IfSome old (λ all. bs ≡ take n all)
  pub rest : new ≡ option_map (λ all. drop n all) old

-- no more than the first n of the bytes left were taken, and what follows them stays
pub record TakesAtMost (n : ℕ) (old new : Option (List ℕ)) : Type 0 where
  pub count : ℕ
  pub within : count ≤ n
  pub rest : new ≡ option_map (λ all. drop count all) old

-- what one read of at most `room` bytes moved from a source to the end of a list
pub record Moves (old new : Option (List ℕ)) (had has : List ℕ) (room count : ℕ) : Type 0 where
  pub piece : List ℕ
  pub size : length piece ≡ count
  pub within : count ≤ room
  pub grown : has ≡ had ++ piece
  pub lost : Loses old new piece
  pub ended : count ≡ 0 → 0 < room → IsAtEnd new
