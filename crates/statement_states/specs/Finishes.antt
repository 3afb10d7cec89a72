-- Where a text may end.
use Rattle.std.specs.Prelude.{◌≡◌, Bool, true, false, ◌&&◌, List, [], ◌∷◌, Option, None, Some}
use Rattle.row_types.specs.declared.table_schema.Schema.{Schema}
use Rattle.statement_grammar.specs.declared.frames.Frame.{Frame}
use Rattle.statement_grammar.specs.Machine as m
use Rattle.statement_grammar.specs.Machine.{same_sort}
use Rattle.statement_operands.specs.declared.operands.Operand.{Operand}
use Rattle.statement_stacks.specs.declared.tops.Top.{Top}
use Rattle.statement_stacks.specs.declared.tops.Top.TheVariants as top
use Rattle.statement_states.specs.States.{state_of, closed_state, AreAlike}
use Rattle.statement_states.specs.declared.finishes.Finished.{Finished}
use Rattle.statement_states.specs.declared.finishes.Finished.TheVariants as f

abbrev pub none_open : List (Frame Operand) → Bool
none_open [] = true
none_open (f ∷ fs) = false

-- all is closed, and of the sort that is due
abbrev pub is_bare : Bool → Option (m.Held Operand) → Bool
is_bare base None = false
is_bare base (Some h) = none_open h.stack && same_sort base h.condition

abbrev pub is_all : Top → Bool → Bool → Bool
is_all top.Bare condition base = same_sort base condition
is_all _ condition base = false

pub record IsOpen (schema : Schema) (base : Bool) (before behind : m.State Operand) : Type 0 where
  pub open_still : is_bare base (closed_state schema before) ≡ false
  pub alike : AreAlike schema before behind

abbrev pub IsFinished : Schema → Bool → m.State Operand → Finished → Type 0
IsFinished schema base before (f.Whole x) = closed_state schema before ≡ Some (record { stack = []; condition = base; x = x })
IsFinished schema base before (f.Open state) = IsOpen schema base before (state_of state)
