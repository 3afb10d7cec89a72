-- The size of what is open gives the height of the whole tree so far.
use Rattle.std.proofs.Common.{◌≡◌, ℕ, ◌+◌, ◌<◌, min, max, Bool, List, [], ◌∷◌, sym, ap, ◌∙◌, arith}
use Rattle.std.specs.Prelude.{◌↔◌, IsTrue, reverse}
use Rattle.statement_grammar.specs.declared.frames.Frame.{Frame}
use Rattle.statement_operands.specs.declared.operands.Operand.{Operand}
use Rattle.statement_stacks.specs.Levels.{weight, side, around, top_size, AreSized, frames_of}
use Rattle.statement_stacks.specs.declared.levels.Size.{Size}
use Rattle.statement_stacks.specs.declared.levels.Level.{Level}

round_one : (floor depth side weight h : ℕ) → min 65 (max floor (depth + (max side h + weight))) ≡ min 65 (max (min 65 (max floor (depth + side + weight))) (min 65 (depth + weight) + h))
round_one floor depth side weight h = omega arith

abbrev reached : Size → ℕ → ℕ
reached s h = min 65 (max s.floor (s.depth + h))

pub around_is : (ls : List Level) (h : ℕ) → AreSized ls → around (frames_of ls) h ≡ reached (top_size ls) h
around_is [] h a = omega arith
around_is (l ∷ ls) h a =
    around_is ls (max (side l.frame) h + weight l.frame) a.1
    ∙ round_one (top_size ls).floor (top_size ls).depth (side l.frame) (weight l.frame) h
    ∙ ap (λ (s : Size). reached s h) (sym a.0)

-- more than 64 high
pub deep_iff : (items seen : List Level) (fs : List (Frame Operand)) (h : ℕ) (s : Size) (b : Bool) → frames_of (reverse items) ≡ fs → AreSized (reverse items) → seen ≡ items → s ≡ top_size (reverse seen)
    → (IsTrue b ↔ (64 < max s.floor (s.depth + h))) → (IsTrue b ↔ (64 < around fs h))
deep_iff items seen fs h s b view sized same size i =
    let e : around fs h ≡ reached s h =
    ap (λ (gs : List (Frame Operand)). around gs h) (sym view) ∙ around_is (reverse items) h sized
    ∙ ap (λ (ls : List Level). reached (top_size (reverse ls)) h) (sym same) ∙ ap (λ (z : Size). reached z h) (sym size) in
    (λ t. let d : 64 < max s.floor (s.depth + h) = i.0 t in omega arith, λ d. i.1 (omega arith))
