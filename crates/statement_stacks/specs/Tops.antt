-- What the innermost open frame waits for.
use Rattle.std.specs.Prelude.{◌≡◌, List, [], ◌∷◌, Option, None, Some, false}
use Rattle.statement_grammar.specs.declared.frames.Frame.{Frame}
use Rattle.statement_grammar.specs.declared.frames.Frame.TheVariants.{Before, Behind, Low, High, Opened}
use Rattle.statement_grammar.specs.Grammar.{level, prefix_level, wants}
use Rattle.statement_operands.specs.declared.operands.Operand.{Operand}
use Rattle.statement_stacks.specs.declared.tops.Top.{Top}
use Rattle.statement_stacks.specs.declared.tops.Top.TheVariants as top

abbrev pub top_with : Frame Operand → Top
top_with (Before t) = top.Binds (prefix_level t.word) (wants t.word)
top_with (Behind x t) = top.Binds (level t.word) (wants t.word)
top_with (Low x t) = top.Low
top_with (High x b l a) = top.Binds 4 false
top_with (Opened t b) = top.Opened b

abbrev pub top_of : List (Frame Operand) → Top
top_of [] = top.Bare
top_of (f ∷ fs) = top_with f

-- the innermost frame is taken off, where one is open
abbrev pub IsPopped : List (Frame Operand) → Option (Frame Operand) → List (Frame Operand) → Type 0
IsPopped old None new = (old ≡ []) × (new ≡ [])
IsPopped old (Some f) new = old ≡ f ∷ new
