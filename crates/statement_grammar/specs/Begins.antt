use Rattle.std.specs.Prelude.{◌≡◌, List, [], ◌++◌, Some}
use Rattle.statement_tokens.specs.declared.words.Token.{Token}
use Rattle.statement_grammar.specs.Grammar.{Setting, Shape, IsAt, tokens_of}
use Rattle.statement_grammar.specs.Machine.{State, Due, run, shapes}

-- tokens that begin a condition, or an expression where no condition stands
pub record Begins (g : Setting) (ts : List Token) : Type 0 where
  pub more : List Token
  pub whole : Shape
  pub is : IsAt g 1 g.base whole
  pub spelled : tokens_of whole ≡ ts ++ more

abbrev pub Lives : Type 0
Lives = (g : Setting) (ts : List Token) (s : State Shape) → run g shapes (Due []) ts ≡ Some s → Begins g ts

abbrev pub Begun : Type 0
Begun = (g : Setting) (ts : List Token) → Begins g ts → (s : State Shape) × (run g shapes (Due []) ts ≡ Some s)
