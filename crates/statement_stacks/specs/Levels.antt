-- How much higher a tree is for what is open round an operand.
use Rattle.std.specs.Prelude.{◌≡◌, ℕ, ◌+◌, min, max, List, [], ◌∷◌, ⊤}
use Rattle.statement_grammar.specs.declared.frames.Frame.{Frame}
use Rattle.statement_grammar.specs.declared.frames.Frame.TheVariants.{Before, Behind, Low, High, Opened}
use Rattle.statement_operands.specs.declared.operands.Operand.{Operand}
use Rattle.statement_stacks.specs.declared.levels.Size.{Size}
use Rattle.statement_stacks.specs.declared.levels.Level.{Level}

abbrev pub weight : Frame Operand → ℕ
weight (Before t) = 1
weight (Behind x t) = 1
weight (Low x t) = 2
weight (High x b l a) = 2
weight (Opened t b) = 0

-- the height of the operands that the frame has
abbrev pub side : Frame Operand → ℕ
side (Before t) = 0
side (Behind x t) = x.facts.height
side (Low x t) = x.facts.height
side (High x b l a) = max x.facts.height l.facts.height
side (Opened t b) = 0

-- the height of the whole tree so far, round an operand of this height; 65 stands for more than 64
abbrev pub around : List (Frame Operand) → ℕ → ℕ
around [] h = min 65 h
around (f ∷ fs) h = around fs (max (side f) h + weight f)

-- the height that the sides alone give, and how much higher an operand is
abbrev pub size_with : Frame Operand → Size → Size
size_with f s = record { floor = min 65 (max s.floor (s.depth + side f + weight f)); depth = min 65 (s.depth + weight f) }

abbrev pub top_size : List Level → Size
top_size [] = record { floor = 0; depth = 0 }
top_size (l ∷ ls) = l.size

abbrev pub AreSized : List Level → Type 0
AreSized [] = ⊤
AreSized (l ∷ ls) = (l.size ≡ size_with l.frame (top_size ls)) × AreSized ls

abbrev pub frames_of : List Level → List (Frame Operand)
frames_of [] = []
frames_of (l ∷ ls) = l.frame ∷ frames_of ls
