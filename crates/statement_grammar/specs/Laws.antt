-- What ties the machine to the grammar.
use Rattle.std.specs.Prelude.{◌≡◌, ◌<◌, ℕ, Bool, true, List, [], ◌∷◌, Some, ⊤}
use Rattle.statement_grammar.specs.declared.frames.Frame.{Frame}
use Rattle.statement_tokens.specs.declared.words.Token.{Token}
use Rattle.statement_grammar.specs.Grammar.{Setting, Shape, IsAt, tokens_of}
use Rattle.statement_grammar.specs.Machine.{Maker, made, shapes, strength, Held, State, Due, close, run, held_at}

-- the machine has read these tokens to the end: closed, one operand is left
pub record IsRead {X : Type 0} (g : Setting) (m : Maker X) (ts : List Token) (c : Bool) (x : X) : Type 0 where
  pub state : State X
  pub runs : run g m (Due []) ts ≡ Some state
  pub held : Held X
  pub ends : held_at m state ≡ Some held
  pub closes : close m 1 held.stack held.condition held.x ≡ Some (record { stack = []; condition = c; x = x })

-- what is spelled by the grammar is read
abbrev pub Completes : Type 0 → Type 0
Completes X = (g : Setting) (m : Maker X) (c : Bool) (s : Shape) → (c ≡ true → g.base ≡ true) → IsAt g 1 c s → IsRead g m (tokens_of s) c (made m s)

-- what is read is spelled so by the grammar
abbrev pub Sounds : Type 0
Sounds = (g : Setting) (ts : List Token) (c : Bool) (s : Shape) → IsRead g shapes ts c s → (c ≡ true → g.base ≡ true) × IsAt g 1 c s × (tokens_of s ≡ ts)

-- the frame on top does not bind as tightly as a level
abbrev pub Stops : {X : Type 0} → ℕ → List (Frame X) → Type 0
Stops k [] = ⊤
Stops k (f ∷ fs) = strength f < k
