-- The moves that a journal tells of.
use Rattle.std.proofs.Common.{◌≡◌, ◌∙◌, ◌+◌, ◌≤◌, Bool, true, false, cond, List, [], ◌∷◌, ◌++◌, length, ap, arith}
use Rattle.trace_text.specs.declared.lines.JournalLine.{JournalLine}
use Rattle.turn_notes.specs.Notes.{has_moved}
use Rattle.world_model.specs.Rounds.{moves_in}

pub moves_more : (lines : List JournalLine) (line : JournalLine) → moves_in (lines ++ line ∷ []) ≡ moves_in lines + cond (has_moved line.note) 1 0
moves_more [] line = omega arith
moves_more (first ∷ lines) line =
    let more : moves_in (lines ++ line ∷ []) ≡ moves_in lines + cond (has_moved line.note) 1 0 = moves_more lines line in
    omega (arith, more)

one_at_most : (b : Bool) → cond b 1 0 ≤ 1
one_at_most true = omega arith
one_at_most false = omega arith

pub moves_few : (lines : List JournalLine) → moves_in lines ≤ length lines
moves_few [] = omega arith
moves_few (line ∷ lines) =
    let one : cond (has_moved line.note) 1 0 ≤ 1 = one_at_most (has_moved line.note) in
    omega (arith, one, moves_few lines)

pub counted_move : (lines : List JournalLine) (line : JournalLine) → has_moved line.note ≡ true → moves_in (lines ++ line ∷ []) ≡ moves_in lines + 1
counted_move lines line moved = moves_more lines line ∙ ap (λ (b : Bool). moves_in lines + cond b 1 0) moved

pub counted_still : (lines : List JournalLine) (line : JournalLine) → has_moved line.note ≡ false → moves_in (lines ++ line ∷ []) ≡ moves_in lines
counted_still lines line still = moves_more lines line ∙ ap (λ (b : Bool). moves_in lines + cond b 1 0) still ∙ (omega arith)
