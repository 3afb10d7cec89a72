-- What is read of an expression or a condition, in the words of the grammar.
use Rattle.std.specs.Prelude.{◌≡◌, ◌≤◌, ◌⊎◌, ℕ, suc, nat_lt, Bool, true, false, List, [], ◌∷◌, ◌++◌, length, Option, Some, None, if◌then◌else◌}
use Rattle.std.specs.Option.{option_or}
use Rattle.row_types.specs.declared.table_schema.Schema.{Schema}
use Rattle.statement_tokens.specs.declared.words.Token.{Token}
use Rattle.statement_grammar.specs.Grammar.{Shape, Setting, IsAt, tokens_of}
use Rattle.statement_grammar.specs.Machine as m
use Rattle.statement_grammar.specs.Machine.{made, shapes, run}
use Rattle.statement_grammar.specs.Begins.{Begins}
use Rattle.statement_grammar.specs.Sentence.{setting}
use Rattle.statement_grammar.specs.FirstFault.{keys_of}
use Rattle.statement_grammar.specs.Cut.{cut, height}
use Rattle.statement_grammar.specs.Kinds.{places, when_true}
use Rattle.statement_grammar.specs.Faults.{deep_in}
use Rattle.statement_reader.specs.Facts.{facts_of}
use Rattle.statement_reader.specs.declared.facts.Facts.{Facts}
use Rattle.statement_operands.specs.Operands.{operands}
use Rattle.statement_operands.specs.declared.operands.Operand.{Operand}
use Rattle.statement_states.specs.States.{state_of, facts_so_far, AreAlike}
use Rattle.statement_states.specs.declared.states.Stepped.{Stepped}
use Rattle.statement_states.specs.declared.states.Stepped.TheVariants as s
use Rattle.statement_states.specs.declared.finishes.Finished.{Finished}
use Rattle.statement_states.specs.declared.finishes.Finished.TheVariants as f
use Rattle.statement_machine_laws.specs.Images.{state_image}
use Rattle.statement_trees.specs.declared.trees.OpenTree.{OpenTree}
use Rattle.statement_trees.specs.declared.trees.TreeStep.{TreeStep}
use Rattle.statement_trees.specs.declared.trees.TreeStep.TheVariants as step
use Rattle.statement_trees.specs.declared.trees.TreeEnd.{TreeEnd}
use Rattle.statement_trees.specs.declared.trees.TreeEnd.TheVariants as end

-- where a condition (true) or an expression is read over this table
abbrev pub tree_setting : Schema → Bool → Setting
tree_setting schema base = setting base (keys_of schema)

-- the first of these tokens, which others follow, with which the tree is more than 64 high; n are read before them
abbrev pub deep_front : Shape → ℕ → List Token → List ℕ
deep_front s n [] = []
deep_front s n (t ∷ ts) = if nat_lt 64 (height (cut false (suc n) s)) then t.place ∷ [] else deep_front s (suc n) ts

-- the last token's place is known, and what is too deep before it
pub record KnowsLast (g : Setting) (ts : List Token) (last : ℕ) (deep : Option ℕ) : Type 0 where
  pub front : List Token
  pub token : Token
  pub are : ts ≡ front ++ token ∷ []
  pub place : last ≡ token.place
  pub deep_is : (s : Shape) (more : List Token) → IsAt g 1 g.base s → tokens_of s ≡ ts ++ more → places deep ≡ deep_front s 0 front

abbrev pub KnowsDepth : Setting → List Token → ℕ → Option ℕ → Type 0
KnowsDepth g ts last deep = ((ts ≡ []) × (deep ≡ None)) ⊎ KnowsLast g ts last deep

-- these tokens are read
pub record IsReading (schema : Schema) (base : Bool) (ts : List Token) (tree : OpenTree) : Type 0 where
  pub state : m.State Shape
  pub runs : run (tree_setting schema base) shapes (m.Due []) ts ≡ Some state
  pub is : state_of tree.state ≡ state_image (operands schema) state
  pub depth : KnowsDepth (tree_setting schema base) ts tree.last tree.deep

-- these tokens were read; all that was closed on the way stays closed
pub record IsStopped (schema : Schema) (base : Bool) (ts : List Token) (tree : OpenTree) : Type 0 where
  pub state : m.State Shape
  pub runs : run (tree_setting schema base) shapes (m.Due []) ts ≡ Some state
  pub alike : AreAlike schema (state_image (operands schema) state) (state_of tree.state)
  pub depth : KnowsDepth (tree_setting schema base) ts tree.last tree.deep

-- with the token the tokens begin no tree
pub record IsStuck (schema : Schema) (base : Bool) (ts : List Token) (t : Token) (tree : OpenTree) (given : Token) : Type 0 where
  pub stopped : IsStopped schema base ts tree
  pub token : given ≡ t
  pub none : Begins (tree_setting schema base) (ts ++ t ∷ []) → ⊥

abbrev pub IsStep : Schema → Bool → List Token → Token → TreeStep → Type 0
IsStep schema base ts t (step.Moved tree) = IsReading schema base (ts ++ t ∷ []) tree
IsStep schema base ts t (step.Stuck tree token) = IsStuck schema base ts t tree token

-- the tokens are a tree, and this is kept of it
pub record IsWholeTree (schema : Schema) (base : Bool) (ts : List Token) (x : Operand) (deep : Option ℕ) : Type 0 where
  pub tree : Shape
  pub is : IsAt (tree_setting schema base) 1 base tree
  pub spelled : tokens_of tree ≡ ts
  pub made_so : x ≡ made (operands schema) tree
  pub low : deep ≡ None → x.facts.height ≤ 64
  pub facts : x.facts ≡ facts_of schema (cut true (length ts) tree)
  pub depth : places deep ≡ deep_in tree (length ts)

-- the tokens are no tree; the facts are those of each tree that begins with them
pub record IsOpenTree (schema : Schema) (base : Bool) (ts : List Token) (facts : Facts) (deep : Option ℕ) : Type 0 where
  pub none : (s : Shape) → IsAt (tree_setting schema base) 1 base s → tokens_of s ≡ ts → ⊥
  pub are : (s : Shape) (more : List Token) → IsAt (tree_setting schema base) 1 base s → tokens_of s ≡ ts ++ more → facts ≡ facts_of schema (cut true (length ts) s)
  pub depth : (s : Shape) (more : List Token) → IsAt (tree_setting schema base) 1 base s → tokens_of s ≡ ts ++ more → places deep ≡ deep_in s (length ts)

abbrev pub IsEnd : Schema → Bool → List Token → TreeEnd → Type 0
IsEnd schema base ts (end.Whole x deep) = IsWholeTree schema base ts x deep
IsEnd schema base ts (end.Open facts deep) = IsOpenTree schema base ts facts deep

abbrev pub step_of : Stepped → ℕ → Option ℕ → ℕ → Option ℕ → TreeStep
step_of (s.Moved state) last deep place next = step.Moved (record { state = state; last = place; deep = next })
step_of (s.Stuck state token) last deep place next = step.Stuck (record { state = state; last = last; deep = deep }) token

abbrev pub deep_at_last : Option ℕ → Facts → ℕ → Option ℕ
deep_at_last deep facts last = option_or deep (when_true (nat_lt 64 facts.height) last)

abbrev pub end_of : Schema → Finished → ℕ → Option ℕ → TreeEnd
end_of schema (f.Whole x) last deep = end.Whole x (deep_at_last deep x.facts last)
end_of schema (f.Open state) last deep = end.Open (facts_so_far schema (state_of state)) (deep_at_last deep (facts_so_far schema (state_of state)) last)
