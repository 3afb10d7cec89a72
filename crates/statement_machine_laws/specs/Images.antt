-- A machine that keeps something made of the trees, beside the one that keeps the trees themselves.
use Rattle.std.specs.Prelude.{◌≡◌, ◌≤◌, min, List, [], ◌∷◌}
use Rattle.std.specs.Option.{option_map}
use Rattle.row_types.specs.declared.table_schema.Schema.{Schema}
use Rattle.statement_tokens.specs.declared.words.Token.{Token}
use Rattle.statement_grammar.specs.declared.frames.Frame.{Frame}
use Rattle.statement_grammar.specs.declared.frames.Frame.TheVariants.{Before, Behind, Low, High, Opened}
use Rattle.statement_grammar.specs.Grammar.{Shape, Setting}
use Rattle.statement_grammar.specs.Machine.{Maker, made, shapes, Held, State, Due, Read, SawIs, SawNot, Lone, InRow, SawMinus, moved}
use Rattle.statement_grammar.specs.Cut.{parts, whole, height}
use Rattle.statement_grammar.specs.SoFar.{so_far, so_far_before}
use Rattle.statement_grammar.specs.Terms.{terms}
use Rattle.statement_reader.specs.Facts.{facts_of}
use Rattle.statement_operands.specs.Trees.{tree_of}
use Rattle.statement_operands.specs.Operands.{operands}
use Rattle.statement_states.specs.States.{facts_so_far, height_before}

abbrev pub frame_image : {X : Type 0} → Maker X → Frame Shape → Frame X
frame_image m (Before t) = Before t
frame_image m (Behind l t) = Behind (made m l) t
frame_image m (Low v b) = Low (made m v) b
frame_image m (High v b l a) = High (made m v) b (made m l) a
frame_image m (Opened o takes) = Opened o takes

abbrev pub stack_image : {X : Type 0} → Maker X → List (Frame Shape) → List (Frame X)
stack_image m [] = []
stack_image m (f ∷ fs) = frame_image m f ∷ stack_image m fs

abbrev pub held_image : {X : Type 0} → Maker X → Held Shape → Held X
held_image m h = record { stack = stack_image m h.stack; condition = h.condition; x = made m h.x }

abbrev pub state_image : {X : Type 0} → Maker X → State Shape → State X
state_image m (Due fs) = Due (stack_image m fs)
state_image m (Read h) = Read (held_image m h)
state_image m (SawIs h i) = SawIs (held_image m h) i
state_image m (SawNot h i n) = SawNot (held_image m h) i n
state_image m (Lone fs o a) = Lone (stack_image m fs) o a
state_image m (InRow fs seen slot slots) = InRow (stack_image m fs) seen slot slots
state_image m (SawMinus fs o) = SawMinus (stack_image m fs) o

abbrev pub Mirrors : Type 0
Mirrors = (g : Setting) (schema : Schema) (s : State Shape) (t : Token) → moved g (operands schema) (state_image (operands schema) s) t ≡ option_map (state_image (operands schema)) (moved g shapes s t)

abbrev pub HasFacts : Type 0
HasFacts = (schema : Schema) (s : State Shape) → facts_so_far schema (state_image (operands schema) s) ≡ facts_of schema (so_far (state_image parts s))

-- 65 stands for more than 64
abbrev pub HasHeight : Type 0
HasHeight = (schema : Schema) (s : State Shape) (t : Token) → height_before (state_image (operands schema) s) t ≡ min 65 (height (so_far_before (state_image parts s) t))

abbrev pub HasTrees : Type 0
HasTrees = (schema : Schema) (s : Shape) → height (whole s) ≤ 64 → (made (operands schema) s).tree ≡ tree_of (made (terms schema) s)
