-- The tree so far, as the machine's states have it.
use Rattle.std.specs.Prelude.{◌≡◌, ◌≤◌, ℕ, true, false, List, [], ◌∷◌, take, drop, if◌then◌else◌}
use Rattle.statement_tokens.specs.declared.words.Token.{Token}
use Rattle.statement_grammar.specs.declared.frames.Frame.{Frame}
use Rattle.statement_grammar.specs.declared.frames.Frame.TheVariants.{Before, Behind, Low, High, Opened}
use Rattle.statement_grammar.specs.Grammar.{Shape, Setting, IsAt, is_number, tokens_of}
use Rattle.statement_grammar.specs.Machine.{State, Due, Read, SawIs, SawNot, Lone, InRow, SawMinus}
use Rattle.statement_grammar.specs.Cut.{Part, Gap, Leaf, Prefix, Binary, Lower, Range, Nullness, Paren, Signed, RowTest, cut, len}

-- the frames closed as they stand, round an operand
abbrev pub filled_up : List (Frame Part) → Part → Part
filled_up [] x = x
filled_up (Before t ∷ fs) x = filled_up fs (Prefix t x)
filled_up (Behind l t ∷ fs) x = filled_up fs (Binary l t x)
filled_up (Low v b ∷ fs) x = filled_up fs (Lower v b x)
filled_up (High v b l a ∷ fs) x = filled_up fs (Range v b l a x)
filled_up (Opened o takes ∷ fs) x = filled_up fs (Paren o x)

-- what stands where the text ends in this state
abbrev pub so_far : State Part → Part
so_far (Due fs) = filled_up fs Gap
so_far (Read h) = filled_up h.stack h.x
so_far (SawIs h i) = filled_up h.stack (Nullness h.x i)
so_far (SawNot h i n) = filled_up h.stack (Nullness h.x i)
so_far (Lone fs o a) = filled_up fs (Paren o (Leaf a))
so_far (InRow fs seen slot slots) = filled_up fs (RowTest seen)
so_far (SawMinus fs o) = filled_up fs (Prefix o Gap)

-- what stands where this token comes next: a `-` before a number is the number already
abbrev pub so_far_before : State Part → Token → Part
so_far_before (SawMinus fs o) t = if is_number t.word then filled_up fs (Signed o t) else filled_up fs (Prefix o Gap)
so_far_before s t = so_far s

-- The tree so far is in the tokens that are read: whichever whole tree begins with them, what it is cut to
-- is the same; and so it is along the way, where a further token is read.
abbrev pub OneCut : Type 0
OneCut =
    (g : Setting) (s other : Shape) (n : ℕ) → IsAt g 1 g.base s → IsAt g 1 g.base other → n ≤ len s → n ≤ len other
    → take n (tokens_of s) ≡ take n (tokens_of other) → cut true n s ≡ cut true n other

abbrev pub OneCutOnTheWay : Type 0
OneCutOnTheWay =
    (g : Setting) (s other : Shape) (n : ℕ) (t : Token) (ts us : List Token) → IsAt g 1 g.base s → IsAt g 1 g.base other
    → take n (tokens_of s) ≡ take n (tokens_of other) → drop n (tokens_of s) ≡ t ∷ ts → drop n (tokens_of other) ≡ t ∷ us
    → cut false n s ≡ cut false n other
